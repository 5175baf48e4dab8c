use Rattle.std.proofs.Common.{[], refl, sym}
use Rattle.command_text.specs.NextWord.{unescaped}
use Rattle.command_text.proofs.Spelling.{all_literal}
use Rattle.command_text.proofs.words.has_backslash.Goals as goal

pub returns-in-None : goal.returns-in-None
returns-in-None c = λ e. sym (all_literal [] c.args.inside.now (unescaped c.args.inside.now) c.in-None.ensures refl)
