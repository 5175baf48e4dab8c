use Rattle.std.proofs.Common.{◌<◌, ◌≤◌, ◌+◌, List, ℕ, length, Ok, sym, ap, ◌∙◌, arith}
use Rattle.filter_expr.specs.Parts.{quoted}
use Rattle.filter_expr.proofs.Texts.{after_front, quoted_plain, quoted_end, quoted_escape, quoted_open, take_rest, drop_all}
use Rattle.filter_expr.proofs.parts.quoted.Goals as goal
use Rattle.filter_expr.proofs.parts.quoted.Goals.{then-is_plain+in_ok-push, else-is_plain+else-byte-quote}

pub returns-then-byte-quote-clause-exact : goal.returns-then-byte-quote-clause-exact
returns-then-byte-quote-clause-exact c =
    let i = c.loop-place.place in
    let text = c.args.text.now in
    let lt : i < length text = omega arith in
    sym c.loop-place.invariant ∙ quoted_end c.args.quote c.loop-place.escaped c.loop-place.value.items text i lt
    (sym c.is_plain.ensures ∙ c.if-is_plain.false) c.if-byte-quote.true
    ∙ ap (λ (t : List ℕ). Ok (c.loop-place.value.items, t)) (sym (take_rest text (i + 1)))

pub loop-place-preserved : goal.loop-place-preserved
loop-place-preserved c =
    let i = c.loop-place.place in
    let text = c.args.text.now in
    let lt : i < length text = omega arith in
    elim c.if-is_plain.branch [
      | then-is_plain+in_ok-push w ↦
          rw (w.value-is, w.escaped-is, w.in_ok-push.ensures.items)
          (quoted_plain c.args.quote c.loop-place.escaped c.loop-place.value.items text i lt
          (sym c.is_plain.ensures ∙ w.if-is_plain.true) ∙ c.loop-place.invariant)
      | else-is_plain+else-byte-quote w ↦
          rw (w.value-is, w.escaped-is) (ap (after_front c.loop-place.value.items)
          (quoted_escape c.args.quote c.loop-place.escaped text i lt (sym c.is_plain.ensures ∙ w.if-is_plain.false)
          w.if-byte-quote.false) ∙ c.loop-place.invariant)
    ]

pub returns-clause-exact : goal.returns-clause-exact
returns-clause-exact c =
    let end : length c.args.text.now ≤ c.loop-place.place = omega arith in
    sym c.loop-place.invariant ∙ ap (λ (t : List ℕ). after_front c.loop-place.value.items (quoted c.args.quote c.loop-place.escaped t))
    (drop_all c.args.text.now c.loop-place.place end) ∙ quoted_open c.args.quote c.loop-place.escaped c.loop-place.value.items
