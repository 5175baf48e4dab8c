use Rattle.std.specs.Prelude.{◌==◌}
use Rattle.std.proofs.lemmas.List.{take_rest}
use Rattle.id3_tags.proofs.Splits.{split_none, split_found}
use Rattle.id3_tags.proofs.strings.split_units.Goals as goal

pub returns-in_err-end-clause-parts : goal.returns-in_err-end-clause-parts
returns-in_err-end-clause-parts c = rw c.from_residual.ensures (split_none (λ u. u == 0) c.args.units.now c.in_err-end.ensures.place)

pub returns-clause-parts : goal.returns-clause-parts
returns-clause-parts c = rw take_rest (split_found (λ u. u == 0) c.args.units.now c.in_ok-end.end c.in_ok-end.ensures.place)
