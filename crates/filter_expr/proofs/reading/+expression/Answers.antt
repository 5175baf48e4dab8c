use Rattle.std.proofs.Common.{◌-◌, ◌<◌, length, sym, ap, ◌∙◌, subst, arith}
use Rattle.std.proofs.lemmas.Result.{err_from_is_err_and}
use Rattle.filter_expr.specs.Gives.{Gives, Stops}
use Rattle.filter_expr.specs.Parts.{◌>>=◌, opening, closing, begins_so, byte_at}
use Rattle.filter_expr.specs.Reading.{others_at, group_at, expression_at}
use Rattle.filter_expr.specs.Tree.{tree_of}
use Rattle.filter_expr.specs.Tree.Tree.{And}
use Rattle.filter_expr.proofs.Texts.{stops_then, gives_stop}
use Rattle.filter_expr.proofs.Expressions.{expression_form, expression_deep, expression_inside, inside_group, inside_negation, inside_test}
use Rattle.filter_expr.proofs.Expressions.{group_form, others_end, others_step, others_gap}
use Rattle.filter_expr.proofs.reading.+expression.Goals as goal

pub expression_at-returns-in_err-rest-clause-exact : goal.expression_at-returns-in_err-rest-clause-exact
expression_at-returns-in_err-rest-clause-exact t c =
    let stop = c.in_err-rest.field-0.0 in
    let form = expression_form c.args.profile c.args.room c.args.text.now in
    gives_stop (λ x. (tree_of x.0, x.1.now)) stop c.from_residual.result (expression_at c.args.profile c.args.room c.args.text.now)
    (err_from_is_err_and c.from_residual.result c.from_residual.ensures.1)
    (subst (Stops stop) (sym form.1) (stops_then stop (byte_at opening c.args.text.now) form.0 c.in_err-rest.ensures.exact))

pub expression_at-returns-then-room-eq0-clause-exact : goal.expression_at-returns-then-room-eq0-clause-exact
expression_at-returns-then-room-eq0-clause-exact t c =
    expression_deep c.args.profile c.args.room c.args.text.now c.in_ok-rest.rest.now c.if-room-eq0.true c.in_ok-rest.ensures.exact

pub expression_at-returns-then-begins_so-clause-exact : goal.expression_at-returns-then-begins_so-clause-exact
expression_at-returns-then-begins_so-clause-exact t c =
    let inner = c.without_blanks-inner.result.now in
    let read = expression_at c.args.profile (c.args.room - 1) in
    let inside = expression_inside c.args.profile c.args.room c.args.text.now c.in_ok-rest.rest.now inner c.if-room-eq0.false c.in_ok-rest.ensures.exact
    c.without_blanks-inner.ensures.value in
    let group = inside_group c.args.profile read inner (sym c.begins_so.ensures ∙ c.if-begins_so.true) in
    subst (Gives (λ x. (tree_of x.0, x.1.now)) c.group_at.result) (sym (inside ∙ group)) c.group_at.ensures.exact

pub expression_at-returns-then-begins_so-2-clause-exact : goal.expression_at-returns-then-begins_so-2-clause-exact
expression_at-returns-then-begins_so-2-clause-exact t c =
    let inner = c.without_blanks-inner.result.now in
    let read = expression_at c.args.profile (c.args.room - 1) in
    let inside = expression_inside c.args.profile c.args.room c.args.text.now c.in_ok-rest.rest.now inner c.if-room-eq0.false c.in_ok-rest.ensures.exact
    c.without_blanks-inner.ensures.value in
    let negation = inside_negation c.args.profile read inner (sym c.begins_so.ensures ∙ c.if-begins_so.false)
    (sym c.begins_so-else-begins_so.ensures ∙ c.if-begins_so-2.true) in
    subst (Gives (λ x. (tree_of x.0, x.1.now)) c.negation_at.result) (sym (inside ∙ negation)) c.negation_at.ensures.exact

pub expression_at-returns-else-begins_so-2-clause-exact : goal.expression_at-returns-else-begins_so-2-clause-exact
expression_at-returns-else-begins_so-2-clause-exact t c =
    let inner = c.without_blanks-inner.result.now in
    let read = expression_at c.args.profile (c.args.room - 1) in
    let inside = expression_inside c.args.profile c.args.room c.args.text.now c.in_ok-rest.rest.now inner c.if-room-eq0.false c.in_ok-rest.ensures.exact
    c.without_blanks-inner.ensures.value in
    let test = inside_test c.args.profile read inner (sym c.begins_so.ensures ∙ c.if-begins_so.false)
    (sym c.begins_so-else-begins_so.ensures ∙ c.if-begins_so-2.false) in
    subst (Gives (λ x. (tree_of x.0, x.1.now)) c.test_at.result) (sym (inside ∙ test)) c.test_at.ensures.exact

pub group_at-returns-in_err-tree-clause-exact : goal.group_at-returns-in_err-tree-clause-exact
group_at-returns-in_err-tree-clause-exact t c =
    let stop = c.in_err-tree.field-0.0 in
    let read = expression_at c.args.profile c.args.room in
    gives_stop (λ x. (tree_of x.0, x.1.now)) stop c.from_residual.result (group_at read c.args.text.now)
    (err_from_is_err_and c.from_residual.result c.from_residual.ensures.1)
    (subst (Stops stop) (sym (group_form read c.args.text.now))
    (stops_then stop (read c.args.text.now) (λ x. others_at read (length x.1) x) c.in_err-tree.ensures.exact))

pub group_at-others-init : goal.group_at-others-init
group_at-others-init t c =
    let read = expression_at c.args.profile c.args.room in
    let first = c.in_ok-tree.ensures.exact in (
      c.in_ok-tree.ensures.shorter,
      (
        length c.in_ok-tree.rest.now,
        omega arith,
        sym (group_form read c.args.text.now ∙ ap (λ r. r >>= λ x. others_at read (length x.1) x) first),
      ),
    )

pub group_at-returns-in_err-between_gaps-clause-exact : goal.group_at-returns-in_err-between_gaps-clause-exact
group_at-returns-in_err-between_gaps-clause-exact t c =
    let stop = c.in_err-between_gaps.field-0.0 in
    let read = expression_at c.args.profile c.args.room in
    let kept = c.others.invariant.1 in
    let goes_on = ap (begins_so closing) (sym c.without_blanks.ensures.value) ∙ sym c.begins_so.ensures ∙ c.others-test.true in
    gives_stop (λ x. (tree_of x.0, x.1.now)) stop c.from_residual-in_err-between_gaps.result (group_at read c.args.text.now)
    (err_from_is_err_and c.from_residual-in_err-between_gaps.result c.from_residual-in_err-between_gaps.ensures.1)
    (subst (Stops stop) kept.2 (others_gap stop read kept.0 (tree_of c.others.tree) c.others.rest.now kept.1 goes_on
    c.in_err-between_gaps.ensures.exact))

pub group_at-returns-in_err-right-clause-exact : goal.group_at-returns-in_err-right-clause-exact
group_at-returns-in_err-right-clause-exact t c =
    let stop = c.in_err-right.field-0.0 in
    let read = expression_at c.args.profile c.args.room in
    let kept = c.others.invariant.1 in
    let next = c.in_ok-between_gaps.field-0.now in
    let goes_on = ap (begins_so closing) (sym c.without_blanks.ensures.value) ∙ sym c.begins_so.ensures ∙ c.others-test.true in
    let some : 0 < kept.0 = omega (arith, c.in_ok-between_gaps.ensures.shorter, kept.1) in
    let step = others_step read kept.0 (tree_of c.others.tree) c.others.rest.now next goes_on c.in_ok-between_gaps.ensures.exact some in
    gives_stop (λ x. (tree_of x.0, x.1.now)) stop c.from_residual-in_err-right.result (group_at read c.args.text.now)
    (err_from_is_err_and c.from_residual-in_err-right.result c.from_residual-in_err-right.ensures.1)
    (subst (Stops stop) (sym step ∙ kept.2)
    (stops_then stop (read next) (λ y. others_at read (kept.0 - 1) (And (tree_of c.others.tree) y.0, y.1))
    c.in_err-right.ensures.exact))

pub group_at-others-preserved : goal.group_at-others-preserved
group_at-others-preserved t c =
    let read = expression_at c.args.profile c.args.room in
    let kept = c.others.invariant.1 in
    let next = c.in_ok-between_gaps.field-0.now in
    let goes_on = ap (begins_so closing) (sym c.without_blanks.ensures.value) ∙ sym c.begins_so.ensures ∙ c.others-test.true in
    let some : 0 < kept.0 = omega (arith, c.in_ok-between_gaps.ensures.shorter, kept.1) in
    let step = others_step read kept.0 (tree_of c.others.tree) c.others.rest.now next goes_on c.in_ok-between_gaps.ensures.exact some in
    let right = ap (λ r. r >>= λ y. others_at read (kept.0 - 1) (And (tree_of c.others.tree) y.0, y.1)) c.in_ok-right.ensures.exact in
    let both = ap (λ tree. others_at read (kept.0 - 1) (tree, c.in_ok-right.behind.now)) c.in_ok-tree-2.ensures in (
      omega (arith, c.in_ok-right.ensures.shorter, c.in_ok-between_gaps.ensures.shorter, c.others.invariant.0),
      (
        kept.0 - 1,
        omega (arith, c.in_ok-right.ensures.shorter, c.in_ok-between_gaps.ensures.shorter, kept.1),
        both ∙ sym right ∙ sym step ∙ kept.2,
      ),
    )

pub group_at-returns-clause-exact : goal.group_at-returns-clause-exact
group_at-returns-clause-exact t c =
    let read = expression_at c.args.profile c.args.room in
    let kept = c.others.invariant.1 in
    let end = ap (begins_so closing) (sym c.without_blanks.ensures.value) ∙ sym c.begins_so.ensures ∙ c.others-test.false in
    subst (Gives (λ x. (tree_of x.0, x.1.now)) c.closed.result) (sym (others_end read kept.0 (tree_of c.others.tree, c.others.rest.now) end)
    ∙ kept.2) c.closed.ensures.exact
