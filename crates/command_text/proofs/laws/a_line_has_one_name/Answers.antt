use Rattle.command_text.proofs.LineNames.{read_name, refusal_name}
use Rattle.command_text.proofs.laws.a_line_has_one_name.Goals as goal

pub returns-clause-read : goal.returns-clause-read
returns-clause-read c = read_name

pub returns-clause-refused : goal.returns-clause-refused
returns-clause-refused c = refusal_name
