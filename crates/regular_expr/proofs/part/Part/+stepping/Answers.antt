use Rattle.std.proofs.Common.{◌≡◌, ◌||◌, length, arith, rules}
use Rattle.regular_expr.specs.Marks.{ends, moved}
use Rattle.regular_expr.specs.Shape.{Shape, shape_of, leaves}
use Rattle.regular_expr.specs.Shape.Shape.{Times}
use Rattle.regular_expr.proofs.Chains.{through_goes_on, some_goes_on, drop_goes_on, moved_goes_on, room_goes_on, length_goes_on, or_then, or_else, times_moved}
use Rattle.regular_expr.proofs.part.Part.+stepping.Goals as goal
use Rattle.regular_expr.proofs.part.Part.+stepping.Goals.{step_some-then-found, step_some-else-found}

pub step-returns-in-Times-clause-moved : goal.step-returns-in-Times-clause-moved
step-returns-in-Times-clause-moved t c =
    let p : Shape = shape_of c.deref-in-Times.result.now in
    let again : shape_of c.deref-in-Times-2.result.now ≡ shape_of c.deref-in-Times.result.now = search rules in
    let same : shape_of c.args.self.now ≡ Times c.in-Times.least c.in-Times.more (shape_of c.deref-in-Times.result.now) = search rules in
    times_moved c.args.here c.in-Times.least c.in-Times.more (shape_of c.args.self.now) p (shape_of c.deref-in-Times-2.result.now)
    c.args.reached c.step_all-middle.result.0 c.args.marks.now c.step_all-middle.result.1.now c.args.next.now.items
    c.step_all-middle.new.next.items c.step_some.new.next.items same again c.step_all-middle.ensures.moved c.step_all-middle.ensures.ends
    c.step_all-middle.ensures.behind c.step_some.ensures.moved

pub step_all-loop-at-preserved : goal.step_all-loop-at-preserved
step_all-loop-at-preserved t c =
    let e = ends c.args.here (shape_of c.args.self.now) in let each = leaves (shape_of c.args.self.now) in (
      through_goes_on e each c.args.count c.loop-at.at c.loop-at.reached c.step-end.result.0 c.loop-at.rest.now c.step-end.result.1.now _
          (omega arith) c.step-end.ensures.ends c.step-end.ensures.behind c.loop-at.invariant.0,
      drop_goes_on c.args.count c.loop-at.at each c.loop-at.rest.now c.step-end.result.1.now _ (omega arith) c.step-end.ensures.behind
          c.loop-at.invariant.1,
      room_goes_on c.args.count c.loop-at.at each (length c.loop-at.next.items) (length c.step-end.new.next.items) (omega arith)
          c.step-end.ensures.length c.loop-at.invariant.2,
      length_goes_on c.args.count c.loop-at.at each (length c.loop-at.next.items) (length c.step-end.new.next.items) _ (omega arith)
          c.step-end.ensures.length c.loop-at.invariant.3,
      moved_goes_on e (moved c.args.here (shape_of c.args.self.now)) each c.args.count c.loop-at.at c.loop-at.reached c.step-end.result.0
          c.loop-at.rest.now c.step-end.result.1.now c.loop-at.next.items c.step-end.new.next.items _ (omega arith) c.step-end.ensures.ends
          c.step-end.ensures.behind c.step-end.ensures.moved c.loop-at.invariant.4,
    )

pub step_some-loop-at-preserved : goal.step_some-loop-at-preserved
step_some-loop-at-preserved t c =
    let e = ends c.args.here (shape_of c.args.self.now) in let each = leaves (shape_of c.args.self.now) in
    let found : c.if-found.found ≡ (c.loop-at.found || c.loop-at.reached) =
    elim c.if-found.branch [
      | step_some-then-found w ↦ or_then c.loop-at.found c.loop-at.reached c.if-found.found (cc) (cc)
      | step_some-else-found w ↦ or_else c.loop-at.found c.loop-at.reached c.if-found.found (cc) (cc)
    ] in (
      some_goes_on e each c.args.count c.loop-at.at c.loop-at.found c.if-found.found c.loop-at.reached c.step-end.result.0
          c.loop-at.rest.now c.step-end.result.1.now _ (omega arith) found c.step-end.ensures.ends c.step-end.ensures.behind
          c.loop-at.invariant.0,
      drop_goes_on c.args.count c.loop-at.at each c.loop-at.rest.now c.step-end.result.1.now _ (omega arith) c.step-end.ensures.behind
          c.loop-at.invariant.1,
      room_goes_on c.args.count c.loop-at.at each (length c.loop-at.next.items) (length c.step-end.new.next.items) (omega arith)
          c.step-end.ensures.length c.loop-at.invariant.2,
      length_goes_on c.args.count c.loop-at.at each (length c.loop-at.next.items) (length c.step-end.new.next.items) _ (omega arith)
          c.step-end.ensures.length c.loop-at.invariant.3,
      moved_goes_on e (moved c.args.here (shape_of c.args.self.now)) each c.args.count c.loop-at.at c.loop-at.reached c.step-end.result.0
          c.loop-at.rest.now c.step-end.result.1.now c.loop-at.next.items c.step-end.new.next.items _ (omega arith) c.step-end.ensures.ends
          c.step-end.ensures.behind c.step-end.ensures.moved c.loop-at.invariant.4,
    )
