use Rattle.std.proofs.Common.{◌+◌, drop, sym, ap, ◌∙◌, ℕ, List, true, false, arith}
use Rattle.play_queue.specs.declared.entry.Entry.{Entry}
use Rattle.play_queue.specs.Shown.{shown}
use Rattle.player_core.specs.Player.{left_by}
use Rattle.player_core.proofs.Others.{left_by-one}
use Rattle.player_core.proofs.removal.leave_each.Goals as goal
use Rattle.player_core.proofs.removal.leave_each.Goals.{then-takes, else-takes}

pub loop-at-preserved : goal.loop-at-preserved
loop-at-preserved c =
    let entry : Entry = shown c.at-entry.result in
    let played = c.loop-at.played.keys in
    let next : List ℕ → List ℕ = λ ids. left_by c.args.block c.args.dropped.now (c.loop-at.at + 1)
    (drop (c.loop-at.at + 1) c.args.entries.now) ids in
    elim c.if-takes.branch [
      | then-takes w ↦ record {
        ids = ap (λ s. next s.keys) w.played-is ∙ ap next w.remove.ensures.ids
            ∙ sym (left_by-one c.args.block c.args.dropped.now c.loop-at.at entry c.args.entries.now played true
            (omega (arith, c.requires.stands)) (sym (c.at-entry.ensures entry)) (sym c.takes.ensures ∙ w.if-takes.true))
            ∙ c.loop-at.invariant.ids;
        room = rw w.played-is (omega (arith, c.loop-at.invariant.room, w.remove.ensures.room));
      }
      | else-takes w ↦ record {
        ids = ap (λ s. next s.keys) w.played-is
            ∙ sym (left_by-one c.args.block c.args.dropped.now c.loop-at.at entry c.args.entries.now played false
            (omega (arith, c.requires.stands)) (sym (c.at-entry.ensures entry)) (sym c.takes.ensures ∙ w.if-takes.false))
            ∙ c.loop-at.invariant.ids;
        room = rw w.played-is c.loop-at.invariant.room;
      }
    ]
