use Rattle.std.proofs.Common.{◌<◌, List, ℕ, length, map, sym, ap, ◌∙◌, arith}
use Rattle.std.proofs.lemmas.List.{length-map, nil_from_length}
use Rattle.std.specs.Char.{to_ascii_lowercase}
use Rattle.filter_expr.specs.Meaning.{occurs_in}
use Rattle.filter_expr.proofs.Ascii.{occurs_nothing, occurs_short}
use Rattle.filter_expr.proofs.lowered.occurs_lowered.Goals as goal

pub returns-in_default : goal.returns-in_default
returns-in_default c =
    let text = map to_ascii_lowercase c.args.text.now in
    let none = nil_from_length c.args.part.now (omega (arith, c.in_default.len_below)) in
    occurs_nothing text ∙ ap (λ (p : List ℕ). occurs_in p text) (sym none)

pub returns-then-behind-others : goal.returns-then-behind-others
returns-then-behind-others c =
    let rest = map to_ascii_lowercase c.loop-rest.rest.now in
    let short : length rest < length c.args.part.now = omega (arith, length-map c.loop-rest.rest.now to_ascii_lowercase) in
    sym (occurs_short c.args.part.now rest short) ∙ c.loop-rest.invariant
