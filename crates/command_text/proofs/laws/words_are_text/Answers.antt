use Rattle.command_text.proofs.WordsText.{words_of_text}
use Rattle.command_text.proofs.laws.words_are_text.Goals as goal

pub returns : goal.returns
returns c = words_of_text
