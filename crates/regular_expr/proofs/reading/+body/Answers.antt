use Rattle.std.proofs.Common.{◌≡◌, ◌-◌, ◌∙◌, refl, sym, ap, true, false, length, option_map, Some, arith, rules}
use Rattle.regular_expr.specs.Gives.{Stops}
use Rattle.regular_expr.specs.Reading.{is_body_end, part_behind, alternative, body_at}
use Rattle.regular_expr.specs.Shape.{Shape, shape_of}
use Rattle.regular_expr.proofs.Bodies.{body_closed, body_begins, body_ends, no_alternative, next_alternative, no_part, next_part, stops_too}
use Rattle.regular_expr.proofs.reading.+body.Goals as goal

pub body_at-returns-then-room-eq0-clause-exact : goal.body_at-returns-then-room-eq0-clause-exact
body_at-returns-then-room-eq0-clause-exact t c = body_closed c.args.room c.args.text.now c.if-room-eq0.true

pub body_at-parts-init : goal.body_at-parts-init
body_at-parts-init t c = (
  omega arith,
  (length c.args.text.now, omega arith, body_begins c.args.room c.args.text.now c.if-room-eq0.false),
  ((refl, omega arith), (refl, omega arith)),
)

pub body_at-returns-then-is_body_end-clause-exact : goal.body_at-returns-then-is_body_end-clause-exact
body_at-returns-then-is_body_end-clause-exact t c =
    let more = c.parts.invariant.1 in
    let end : is_body_end c.parts.rest.now ≡ true = cc in
    body_ends (body_at (c.args.room - 1)) more.0 (option_map shape_of c.parts.others) (shape_of c.parts.now) c.parts.rest.now
    (body_at c.args.room c.args.text.now) more.1 end more.2
    ∙ ap (λ (s : Shape). Some (s, c.parts.rest.now)) (sym c.in_ok-joined.ensures)

pub body_at-returns-in_err-all-clause-exact : goal.body_at-returns-in_err-all-clause-exact
body_at-returns-in_err-all-clause-exact t c =
    let more = c.parts.invariant.1 in
    let going : is_body_end c.parts.rest.now ≡ false = cc in
    let stops : Stops c.in_err-all.field-0.0 (body_at c.args.room c.args.text.now) =
    stops_too c.in_err-all.field-0.0 (alternative (option_map shape_of c.parts.others) (shape_of c.parts.now))
    (body_at c.args.room c.args.text.now) c.in_err-all.ensures.exact
    (no_alternative (body_at (c.args.room - 1)) more.0 (option_map shape_of c.parts.others) (shape_of c.parts.now) c.parts.rest.now
    c.in-Some.behind.now (body_at c.args.room c.args.text.now) more.1 going c.in-Some.ensures.rest more.2) in
    search rules

pub body_at-parts-preserved-in-Some : goal.body_at-parts-preserved-in-Some
body_at-parts-preserved-in-Some t c =
    let more = c.parts.invariant.1 in
    let going : is_body_end c.parts.rest.now ≡ false = cc in (
      omega (arith, c.in-Some.ensures.shorter, c.parts.invariant.0),
      next_alternative (body_at (c.args.room - 1)) more.0 (option_map shape_of c.parts.others) (shape_of c.parts.now)
          (shape_of c.in_ok-all.all) c.parts.rest.now c.in-Some.behind.now (body_at c.args.room c.args.text.now) more.1 going
          c.in-Some.ensures.rest c.in-Some.ensures.shorter more.2 c.in_ok-all.ensures.exact,
      ((c.in_ok-all.ensures.counted, c.in_ok-all.ensures.few), (refl, omega arith)),
    )

pub body_at-returns-in_err-parts-clause-exact : goal.body_at-returns-in_err-parts-clause-exact
body_at-returns-in_err-parts-clause-exact t c =
    let more = c.parts.invariant.1 in
    let going : is_body_end c.parts.rest.now ≡ false = cc in
    let stops : Stops c.in_err-parts.field-0.0 (body_at c.args.room c.args.text.now) =
    stops_too c.in_err-parts.field-0.0 (part_behind (body_at (c.args.room - 1)) (shape_of c.parts.now) c.parts.rest.now)
    (body_at c.args.room c.args.text.now) c.in_err-parts.ensures.exact
    (no_part (body_at (c.args.room - 1)) more.0 (option_map shape_of c.parts.others) (shape_of c.parts.now) c.parts.rest.now
    (body_at c.args.room c.args.text.now) more.1 going c.in_default.ensures.rest more.2) in
    search rules

pub body_at-parts-preserved : goal.body_at-parts-preserved
body_at-parts-preserved t c =
    let more = c.parts.invariant.1 in
    let going : is_body_end c.parts.rest.now ≡ false = cc in
    let read = c.in_ok-parts.ensures in (
      omega (arith, read.shorter, c.parts.invariant.0),
      next_part (body_at (c.args.room - 1)) more.0 (option_map shape_of c.parts.others) (shape_of c.parts.now)
          (shape_of c.in_ok-parts.parts) c.parts.rest.now c.in_ok-parts.left.now (body_at c.args.room c.args.text.now) more.1 going
          c.in_default.ensures.rest read.shorter more.2 read.exact,
      (c.parts.invariant.2.0, (read.counted, read.few)),
    )
