use Rattle.std.proofs.Common.{length, ap, arith}
use Rattle.std.proofs.lemmas.List.{length-map}
use Rattle.command_text.proofs.table.count.Goals as goal

pub returns : goal.returns
returns c = omega (arith, length-map c.rows.result.now (λ row. row.0), ap length c.rows.ensures.names)
