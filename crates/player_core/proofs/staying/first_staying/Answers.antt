use Rattle.std.proofs.Common.{◌≡◌, ◌<◌, ◌∙◌, length, sym, true, false, arith}
use Rattle.play_queue.specs.Shown.{shown}
use Rattle.player_core.specs.Staying.{takes}
use Rattle.player_core.proofs.Leaving.{staying-stays, staying-leaves}
use Rattle.player_core.proofs.staying.first_staying.Goals as goal

pub loop-at-preserved : goal.loop-at-preserved
loop-at-preserved c =
    let leaves : takes c.args.block c.args.dropped.now c.loop-at.at (shown c.at-entry.result) ≡ true = sym c.takes.ensures
    ∙ c.if-not-takes.false in
    let within : c.loop-at.at < length c.args.entries.now = omega (arith, c.len-at-end.ensures.len) in
    staying-leaves c.args.block c.args.dropped.now c.loop-at.at (shown c.at-entry.result) c.args.entries.now within
    (sym (c.at-entry.ensures (shown c.at-entry.result))) leaves ∙ c.loop-at.invariant

pub returns-then-not-takes : goal.returns-then-not-takes
returns-then-not-takes c =
    let stays : takes c.args.block c.args.dropped.now c.loop-at.at (shown c.at-entry.result) ≡ false = sym c.takes.ensures
    ∙ c.if-not-takes.true in
    let within : c.loop-at.at < length c.args.entries.now = omega (arith, c.len-at-end.ensures.len) in
    staying-stays c.args.block c.args.dropped.now c.loop-at.at (shown c.at-entry.result) c.args.entries.now within
    (sym (c.at-entry.ensures (shown c.at-entry.result))) stays ∙ c.loop-at.invariant
