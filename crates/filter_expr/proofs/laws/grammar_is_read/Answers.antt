use Rattle.filter_expr.proofs.Groups.{read_as_spelled, spells_once}
use Rattle.filter_expr.proofs.laws.grammar_is_read.Goals as goal

pub returns-clause-read : goal.returns-clause-read
returns-clause-read c = read_as_spelled

pub returns-clause-once : goal.returns-clause-once
returns-clause-once c = spells_once
