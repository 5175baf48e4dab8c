use Rattle.std.proofs.Common.{◌∙◌}
use Rattle.filter_expr.proofs.Occurrence.{starts_begins}
use Rattle.filter_expr.proofs.row_text.begins_with.Goals as goal

pub returns : goal.returns
returns c = let same = starts_begins c.args.part.now c.args.text.now in cc
