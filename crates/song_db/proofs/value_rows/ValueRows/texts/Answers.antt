use Rattle.std.proofs.Common.{◌≡◌, ◌∷◌, map, string_bytes, append-nil, ap, sym, ◌∙◌}
use Rattle.std.specs.Map.{keys_of}
use Rattle.song_db.proofs.GroupMaps.{keys_seen, text_pushed}
use Rattle.song_db.proofs.Ordered.{shown}
use Rattle.song_db.proofs.value_rows.ValueRows.texts.Goals as goal

pub loop-value-init : goal.loop-value-init
loop-value-init c =
    rw (c.in_ok-texts.ensures.items, c.into_iter-value-iterator.ensures.into_iter_gives, c.keys-value-items.ensures.rest)
    (keys_seen c.self.inside.values.entries ∙ ap keys_of c.self.view_is)

pub loop-value-preserved : goal.loop-value-preserved
loop-value-preserved c =
    let steps : c.loop-value.value-iterator ≡ c.in-Some.value.now ∷ c.next.new.self = c.in-Some.ensures.steps in
    rw c.in_ok-push.ensures.items (text_pushed c.loop-value.texts.items c.as_str.result (string_bytes c.in-Some.value.now)
    (map string_bytes c.next.new.self) (keys_of c.args.self.now) c.as_str.ensures.value (rw steps at c.loop-value.invariant))

pub returns-clause-texts : goal.returns-clause-texts
returns-clause-texts c =
    let all : shown c.loop-value.texts.items ≡ keys_of c.args.self.now = sym (append-nil (shown c.loop-value.texts.items))
    ∙ rw c.in-None.ensures.steps.0 at c.loop-value.invariant in
    rw all at c.of.ensures
