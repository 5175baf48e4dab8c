use Rattle.std.proofs.Common.{◌<◌, ℕ, List, length, drop, map, sym, ap, ◌∙◌, arith}
use Rattle.std.proofs.lemmas.List.{nil_from_length}
use Rattle.std.specs.Char.{to_ascii_lowercase}
use Rattle.filter_expr.specs.Meaning.{begins_with}
use Rattle.filter_expr.proofs.Ascii.{begins_past}
use Rattle.filter_expr.proofs.lowered.begins_lowered.Goals as goal

pub returns-in_default : goal.returns-in_default
returns-in_default c =
    let i = c.loop-wanted.wanted-index in
    let part = c.args.part.now in
    let lt : i < length part = omega arith in
    let end = nil_from_length c.loop-wanted.rest.now (omega (arith, c.in_default.len_below)) in
    begins_past part i lt ∙ ap (λ (s : List ℕ). begins_with (drop i part) (map to_ascii_lowercase s)) (sym end) ∙ c.loop-wanted.invariant
