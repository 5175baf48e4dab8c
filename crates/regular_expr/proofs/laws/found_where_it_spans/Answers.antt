use Rattle.regular_expr.proofs.Searching.{search_spans}
use Rattle.regular_expr.proofs.laws.found_where_it_spans.Goals as goal

pub returns : goal.returns
returns c = search_spans
