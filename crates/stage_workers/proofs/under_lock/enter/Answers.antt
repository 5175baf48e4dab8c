use Rattle.std.proofs.Common.{ap}
use Rattle.stage_workers.specs.LockState.{LockState, FindsItsState}
use Rattle.stage_workers.proofs.EntryLaws.{still, still_as}
use Rattle.stage_workers.proofs.under_lock.enter.Goals as goal

pub returns-in_err-rewound-clause-any_moment : goal.returns-in_err-rewound-clause-any_moment
returns-in_err-rewound-clause-any_moment g c =
    let kept : FindsItsState g.D.Disk.honest g.D.Disk.history c.args.locked.now.live = rw (← c.locked.view_is) c.locked.invariant.1 in
    still g.D.Disk.honest g.D.Disk.history c.args.locked.now.live c.args.event kept

pub returns-then-are_numbers_spent-clause-any_moment : goal.returns-then-are_numbers_spent-clause-any_moment
returns-then-are_numbers_spent-clause-any_moment g c =
    let kept : FindsItsState g.D.Disk.honest g.D.Disk.history c.args.locked.now.live = rw (← c.locked.view_is) c.locked.invariant.1 in
    still g.D.Disk.honest g.D.Disk.history c.args.locked.now.live c.args.event kept

pub returns-then-is_err-clause-any_moment : goal.returns-then-is_err-clause-any_moment
returns-then-is_err-clause-any_moment g c =
    let kept : FindsItsState g.D.Disk.honest g.D.Disk.history c.args.locked.now.live = rw (← c.locked.view_is) c.locked.invariant.1 in
    still_as g.D.Disk.honest g.D.Disk.history c.args.locked.now.live c.locked.inside.live c.args.event
    (ap (λ (l : LockState _). l.live) c.locked.view_is) kept
