use Rattle.std.proofs.Common.{◌≡◌, ◌<◌, length, arith}
use Rattle.idle_masks.specs.Watched.{newcomer, grown_among, marked_some}
use Rattle.std.proofs.lemmas.Grind.{common_steps}
use Rattle.idle_masks.proofs.Rising.{rising_marked_some}
use Rattle.idle_masks.proofs.Steps.{get_or-map_so_far, set-map_so_far}
use Rattle.idle_masks.proofs.watch.mark_each.Goals as goal

pub loop-one-preserved : goal.loop-one-preserved
loop-one-preserved c =
    let in_range : c.loop-one.one-index < length c.args.watched.now = omega arith in
    let each = grown_among c.args.clients.now c.args.changed in
    rw (c.grow_among.ensures, c.loop-one.invariant, get_or-map_so_far each c.args.watched.now _ (newcomer 0) in_range)
    (set-map_so_far each c.args.watched.now _ (newcomer 0) in_range)

pub returns-clause-rising : goal.returns-clause-rising
returns-clause-rising c rising =
    let whole : c.loop-one.watched ≡ marked_some c.args.watched.now c.args.clients.now c.args.changed = grind (arith, common_steps) in
    rw whole (rising_marked_some _ _ _ rising)
