use Rattle.command_text.proofs.Grammar.{one_reading}
use Rattle.command_text.proofs.laws.words_are_the_grammar.Goals as goal

pub returns : goal.returns
returns c = one_reading
