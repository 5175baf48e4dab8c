use Rattle.filter_expr.proofs.Occurrence.{found_occurs}
use Rattle.filter_expr.proofs.row_text.occurs_in.Goals as goal

pub returns : goal.returns
returns c =
    let found = found_occurs c.as_bytes-2.result.now c.as_bytes.result.now c.find.result c.find.ensures in
    cc (found, c.as_bytes.ensures.value, c.as_bytes-2.ensures.value)
