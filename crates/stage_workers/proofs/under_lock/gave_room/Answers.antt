use Rattle.stage_workers.specs.LockState.{FindsItsState}
use Rattle.stage_workers.proofs.RoomLaws.{none_looked}
use Rattle.stage_workers.proofs.under_lock.gave_room.Goals as goal

pub returns-in-Named-clause-any_moment : goal.returns-in-Named-clause-any_moment
returns-in-Named-clause-any_moment g c =
    let kept : FindsItsState g.D.Disk.honest g.D.Disk.history c.args.locked.now.live = rw (← c.locked.view_is) c.locked.invariant.1 in
    none_looked g.D.Disk.honest g.D.Disk.history c.args.locked.now.live kept
