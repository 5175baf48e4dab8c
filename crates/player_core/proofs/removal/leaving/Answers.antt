use Rattle.std.proofs.Common.{◌+◌, drop, sym, ap, ◌∙◌, ℕ, List, arith}
use Rattle.play_queue.specs.declared.entry.Entry.{Entry}
use Rattle.play_queue.specs.Shown.{shown}
use Rattle.player_core.specs.Player.{left_by}
use Rattle.player_core.specs.Removal.{others}
use Rattle.player_core.proofs.Others.{others_none, left_by-gathered, left_by-kept, left_by-absent}
use Rattle.player_core.proofs.removal.leaving.Goals as goal
use Rattle.player_core.proofs.removal.leaving.Goals.{then-contains+then-takes+in_ok-insert, else-contains}
use Rattle.player_core.proofs.removal.leaving.Goals.{else-contains-via-then-contains+else-takes, else-contains-via-else-contains}

pub loop-at-init : goal.loop-at-init
loop-at-init c =
    let within = c.args.within in
    let from : List ℕ → List ℕ = λ l. left_by c.args.block c.args.dropped.now within.start (drop within.start c.args.entries.now) l in
    ap (λ ids. from (others ids c.args.played.now.keys)) c.new-ids.ensures.empty
    ∙ ap from (others_none c.args.played.now.keys)
    ∙ c.requires.reach.front c.args.played.now.keys

pub loop-at-preserved : goal.loop-at-preserved
loop-at-preserved c =
    let entry : Entry = shown c.at-entry.result in
    let played = c.args.played.now.keys in
    let next : List ℕ → List ℕ = λ ids. left_by c.args.block c.args.dropped.now (c.loop-at.at + 1)
    (drop (c.loop-at.at + 1) c.args.entries.now) (others ids played) in
    elim c.if-contains.branch [
      | then-contains+then-takes+in_ok-insert w ↦
          ap (λ s. next s.keys) w.ids-is
          ∙ left_by-gathered c.args.block c.args.dropped.now c.loop-at.at entry c.args.entries.now c.loop-at.ids.keys w.insert.new.self.keys
          played (omega (arith, c.requires.reach.stands)) (sym (c.at-entry.ensures (shown c.at-entry.result))) (sym w.takes.ensures ∙ w.if-takes.true) c.requires.unique
          w.in_ok-insert.ensures.updates.0
          ∙ c.loop-at.invariant
      | else-contains w ↦
          ap (λ s. next s.keys) w.ids-is ∙ elim w.else-contains.branch [
            | else-contains-via-then-contains+else-takes v ↦
                left_by-kept c.args.block c.args.dropped.now c.loop-at.at entry c.args.entries.now (others c.loop-at.ids.keys played)
                (omega (arith, c.requires.reach.stands)) (sym (c.at-entry.ensures (shown c.at-entry.result))) (sym v.takes.ensures ∙ v.if-takes.false)
            | else-contains-via-else-contains v ↦
                left_by-absent c.args.block c.args.dropped.now c.loop-at.at entry c.args.entries.now c.loop-at.ids.keys played
                (omega (arith, c.requires.reach.stands)) (sym (c.at-entry.ensures (shown c.at-entry.result))) (sym c.contains.ensures ∙ v.if-contains.false)
          ] ∙ c.loop-at.invariant
    ]
