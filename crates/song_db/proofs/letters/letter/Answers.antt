use Rattle.std.proofs.Common.{ap, ◌∙◌, List, ℕ, get_or}
use Rattle.song_db.proofs.LetterKeys.{at_letter}
use Rattle.song_db.proofs.letters.letter.Goals as goal

pub returns-then-code-lt128 : goal.returns-then-code-lt128
returns-then-code-lt128 c =
    c.from.ensures ∙ ap (λ (l : List ℕ). get_or l c.args.c 0) c.ascii.ensures.letters ∙ at_letter c.args.c c.if-code-lt128.true
