use Rattle.std.proofs.Common.{◌∙◌, sym, ap, List, ◌++◌, length, arith}
use Rattle.regular_expr.specs.declared.byte_set.ByteRange.{ByteRange}
use Rattle.regular_expr.specs.Classes.{all_ranges}
use Rattle.regular_expr.specs.Gives.{ranges_in}
use Rattle.regular_expr.proofs.SetSteps.{ranges_begin, ranges_end, ranges_stop, ranges_go_on}
use Rattle.regular_expr.proofs.classes.all_ranges.Goals as goal

pub more-init : goal.more-init
more-init c =
    let first = ranges_in c.in-Some.first in (
      c.in-Some.ensures.shorter,
      (
        length c.args.text.now,
        omega (arith, c.in-Some.ensures.shorter),
        ranges_begin c.args.text.now c.in-Some.rest.now first c.add.new.ranges.items c.in-Some.ensures.value
            (c.in_ok-add.ensures ∙ ap (λ (l : List ByteRange). l ++ first) c.new-ranges.ensures.items),
      ),
    )

pub returns-in-Some-byte_at-clause-exact : goal.returns-in-Some-byte_at-clause-exact
returns-in-Some-byte_at-clause-exact c =
    let more = c.more.invariant.1 in
    sym more.2 ∙ ranges_end more.0 c.more.ranges.items c.more.rest.now c.in-Some-byte_at.behind.now more.1 c.in-Some-byte_at.ensures.rest

pub returns-in_default-ranges_at-clause-exact : goal.returns-in_default-ranges_at-clause-exact
returns-in_default-ranges_at-clause-exact c =
    let more = c.more.invariant.1 in
    sym more.2
    ∙ ranges_stop more.0 c.more.ranges.items c.more.rest.now c.in_default-byte_at.ensures.rest c.in_default-ranges_at.ensures.value

pub more-preserved : goal.more-preserved
more-preserved c =
    let more = c.more.invariant.1 in (
      omega (arith, c.in-Some-ranges_at.ensures.shorter, c.more.invariant.0),
      ranges_go_on more.0 c.more.ranges.items c.add-in-more.new.ranges.items (ranges_in c.in-Some-ranges_at.next) c.more.rest.now
          c.in-Some-ranges_at.behind.now (all_ranges c.args.text.now) more.1 c.in_default-byte_at.ensures.rest c.in-Some-ranges_at.ensures.value
          c.in-Some-ranges_at.ensures.shorter c.in_ok-add-2.ensures more.2,
    )
