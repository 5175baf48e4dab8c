use Rattle.std.proofs.Common.{rules, ap, arith, ◌∙◌}
use Rattle.stage_workers.specs.LockState.{LockState, FindsItsState}
use Rattle.stage_workers.specs.declared.refusal.StageError.TheVariants.{Broken, NumbersSpent}
use Rattle.stage_workers.specs.PassState.{PassState}
use Rattle.stage_workers.proofs.GroupLaws.{counted_later, first_refused_as, nothing_done}
use Rattle.stage_workers.proofs.under_lock.enter_group.Goals as goal

pub returns-then-is_broken-clause-events : goal.returns-then-is_broken-clause-events
returns-then-is_broken-clause-events g c =
    first_refused_as c.args.locked.now.live c.args.events.items c.behind_first.result.items Broken c.behind_first.ensures

pub returns-in-Err-clause-events : goal.returns-in-Err-clause-events
returns-in-Err-clause-events g c =
    first_refused_as c.args.locked.now.live c.args.events.items c.behind_first-in-Err.result.items c.in-Err.error c.behind_first-in-Err.ensures

pub returns-in-Err-clause-any_moment : goal.returns-in-Err-clause-any_moment
returns-in-Err-clause-any_moment g c =
    let kept : FindsItsState g.D.Disk.honest g.D.Disk.history c.args.locked.now.live = rw (← c.locked.view_is) c.locked.invariant.1 in
    nothing_done g.D.Disk.honest g.D.Disk.history c.args.locked.now.live c.args.events.items c.behind_first-in-Err.result.items
    c.behind_first-in-Err.ensures kept

pub returns-then-are_numbers_spent-clause-events : goal.returns-then-are_numbers_spent-clause-events
returns-then-are_numbers_spent-clause-events g c =
    first_refused_as c.args.locked.now.live c.args.events.items c.behind_first-then-are_numbers_spent.result.items NumbersSpent
    c.behind_first-then-are_numbers_spent.ensures

pub returns-then-are_numbers_spent-clause-any_moment : goal.returns-then-are_numbers_spent-clause-any_moment
returns-then-are_numbers_spent-clause-any_moment g c =
    let kept : FindsItsState g.D.Disk.honest g.D.Disk.history c.args.locked.now.live = rw (← c.locked.view_is) c.locked.invariant.1 in
    nothing_done g.D.Disk.honest g.D.Disk.history c.args.locked.now.live c.args.events.items c.behind_first-then-are_numbers_spent.result.items
    c.behind_first-then-are_numbers_spent.ensures kept

pub returns-clause-counted : goal.returns-clause-counted
returns-clause-counted g c = record {
  book = search rules;
  made = c.in-Ok.ensures.passed.made;
  later = counted_later g.D.Disk.honest g.D.Disk.history c.locked.inside.live c.counted_group.new.live c.in-Ok.group.turns.items c.args.pass.now
      c.counted_group.new.pass c.in-Ok.ensures.group c.in-Ok.ensures.passed.made
      (let seen = ap (λ (p : PassState). p.seen) c.pass.view_is in omega (arith, seen, c.in_default.ensures, c.last_event.ensures));
}
