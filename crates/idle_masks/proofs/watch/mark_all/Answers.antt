use Rattle.std.proofs.Common.{◌≡◌, ◌<◌, length, arith}
use Rattle.idle_masks.specs.Watched.{newcomer, grown, marked}
use Rattle.std.proofs.lemmas.Grind.{common_steps}
use Rattle.idle_masks.proofs.Rising.{rising_marked}
use Rattle.idle_masks.proofs.Steps.{get_or-map_so_far, set-map_so_far}
use Rattle.idle_masks.proofs.watch.mark_all.Goals as goal

pub loop-watched-preserved : goal.loop-watched-preserved
loop-watched-preserved c =
    let in_range : c.loop-watched.watched-index < length c.args.clients.now = omega arith in
    rw (c.grow.ensures, c.loop-watched.invariant, get_or-map_so_far (grown c.args.changed) c.args.clients.now _ (newcomer 0) in_range)
    (set-map_so_far (grown c.args.changed) c.args.clients.now _ (newcomer 0) in_range)

pub returns-clause-rising : goal.returns-clause-rising
returns-clause-rising c rising =
    let whole : c.loop-watched.clients ≡ marked c.args.clients.now c.args.changed = grind (arith, common_steps) in
    rw whole (rising_marked _ _ rising)
