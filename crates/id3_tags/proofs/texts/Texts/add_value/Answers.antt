use Rattle.std.proofs.Common.{◌≡◌, vec_len, length, sym, ap, arith}
use Rattle.id3_tags.proofs.Labels.{one_value, no_value, no_room}
use Rattle.id3_tags.proofs.texts.Texts.add_value.Goals as goal
use Rattle.id3_tags.proofs.texts.Texts.add_value.Goals.{else-len-lt-MAX_TEXTS-via-then-len-lt-MAX_TEXTS+else-not-is_empty}
use Rattle.id3_tags.proofs.texts.Texts.add_value.Goals.{else-len-lt-MAX_TEXTS-via-else-len-lt-MAX_TEXTS}

pub returns-in_ok-push-clause-added : goal.returns-in_ok-push-clause-added
returns-in_ok-push-clause-added c =
    let count : vec_len c.self.inside.texts ≡ length c.self.inside.texts.items = omega arith in
    let same : length c.self.inside.texts.items ≡ length c.args.self.now = ap length c.self.view_is in
    one_value c.args.self.now c.push.new.self.items _ _ _ _ (omega arith) (sym c.if-not-is_empty.ensures)
    (rw (c.self.view_is, c.in_ok-text.ensures) at c.in_ok-push.ensures.items)

pub returns-else-len-lt-MAX_TEXTS-clause-added : goal.returns-else-len-lt-MAX_TEXTS-clause-added
returns-else-len-lt-MAX_TEXTS-clause-added c =
    let count : vec_len c.self.inside.texts ≡ length c.self.inside.texts.items = omega arith in
    let same : length c.self.inside.texts.items ≡ length c.args.self.now = ap length c.self.view_is in
    elim c.else-len-lt-MAX_TEXTS.branch [
      | else-len-lt-MAX_TEXTS-via-then-len-lt-MAX_TEXTS+else-not-is_empty w ↦
          no_value c.args.self.now _ _ _ _ (omega arith) (sym w.if-not-is_empty.ensures)
      | else-len-lt-MAX_TEXTS-via-else-len-lt-MAX_TEXTS w ↦ no_room c.args.self.now _ (omega arith)
    ]
