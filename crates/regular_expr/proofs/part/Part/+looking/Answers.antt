use Rattle.std.proofs.Common.{◌≡◌, ◌||◌, arith}
use Rattle.regular_expr.specs.Marks.{ends}
use Rattle.regular_expr.specs.Shape.{shape_of, leaves}
use Rattle.regular_expr.proofs.Chains.{through_goes_on, some_goes_on, drop_goes_on, or_then, or_else}
use Rattle.regular_expr.proofs.part.Part.+looking.Goals as goal
use Rattle.regular_expr.proofs.part.Part.+looking.Goals.{ends_some-then-found, ends_some-else-found}

pub ends_all-loop-at-preserved : goal.ends_all-loop-at-preserved
ends_all-loop-at-preserved t c =
    let each = leaves (shape_of c.args.self.now) in (
      through_goes_on (ends c.args.here (shape_of c.args.self.now)) each c.args.count c.loop-at.at c.loop-at.reached c.ends-end.result.0
          c.loop-at.rest.now c.ends-end.result.1.now _ (omega arith) c.ends-end.ensures.ends c.ends-end.ensures.behind c.loop-at.invariant.0,
      drop_goes_on c.args.count c.loop-at.at each c.loop-at.rest.now c.ends-end.result.1.now _ (omega arith) c.ends-end.ensures.behind
          c.loop-at.invariant.1,
    )

pub ends_some-loop-at-preserved : goal.ends_some-loop-at-preserved
ends_some-loop-at-preserved t c =
    let each = leaves (shape_of c.args.self.now) in
    let found : c.if-found.found ≡ (c.loop-at.found || c.loop-at.reached) =
    elim c.if-found.branch [
      | ends_some-then-found w ↦ or_then c.loop-at.found c.loop-at.reached c.if-found.found (cc) (cc)
      | ends_some-else-found w ↦ or_else c.loop-at.found c.loop-at.reached c.if-found.found (cc) (cc)
    ] in (
      some_goes_on (ends c.args.here (shape_of c.args.self.now)) each c.args.count c.loop-at.at c.loop-at.found c.if-found.found
          c.loop-at.reached c.ends-end.result.0 c.loop-at.rest.now c.ends-end.result.1.now _ (omega arith) found c.ends-end.ensures.ends
          c.ends-end.ensures.behind c.loop-at.invariant.0,
      drop_goes_on c.args.count c.loop-at.at each c.loop-at.rest.now c.ends-end.result.1.now _ (omega arith) c.ends-end.ensures.behind
          c.loop-at.invariant.1,
    )
