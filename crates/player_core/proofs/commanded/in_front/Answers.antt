use Rattle.std.proofs.Common.{◌≡◌, ◌-◌, [], get_or, sym, ap, ◌∙◌, arith}
use Rattle.play_queue.specs.declared.entry.Entry.{Entry}
use Rattle.player_core.proofs.LastIds.{last_or-front, last_or-entries}
use Rattle.player_core.proofs.commanded.in_front.Goals as goal

pub returns-then-at-gt0 : goal.returns-then-at-gt0
returns-then-at-gt0 c =
    let d : Entry = record { id = 0; uri = []; priority = 0; stamp = 0 } in
    sym (last_or-front c.args.entries.now c.args.at _ d (omega arith) (omega arith) ∙ ap (λ (e : Entry). e.id) (c.at.ensures d))

pub returns-then-repeat : goal.returns-then-repeat
returns-then-repeat c =
    let d : Entry = record { id = 0; uri = []; priority = 0; stamp = 0 } in
    let first : c.args.at ≡ 0 = omega arith in
    rw (first, c.if-repeat.true)
    (sym (last_or-entries c.args.entries.now c.args.current d (omega arith)
    ∙ ap (λ n. (get_or c.args.entries.now (n - 1) d).id) (sym c.len.ensures.len)
    ∙ ap (λ (e : Entry). e.id) (c.at-then-repeat.ensures d)))
