use Rattle.std.proofs.Common.{map, ◌∙◌}
use Rattle.std.proofs.lemmas.List.{length-map}
use Rattle.std.specs.Char.{to_ascii_lowercase}
use Rattle.filter_expr.proofs.Ascii.{whole_begins}
use Rattle.filter_expr.proofs.lowered.is_lowered.Goals as goal

pub returns-then-text-value : goal.returns-then-text-value
returns-then-text-value c =
    let text = c.args.text.now in
    let same = length-map text to_ascii_lowercase ∙ c.if-text-value.true in
    c.begins_lowered.ensures ∙ whole_begins c.args.value.now (map to_ascii_lowercase text) same
