use Rattle.std.proofs.Common.{◌≡◌, ℕ, List, [], ◌∷◌, ◌++◌, Some, ◌∙◌, ap, sym, append_assoc, codes}
use Rattle.std.specs.Fmt.{decimal}
use Rattle.player_core.specs.declared.failure.PlayFailure.TheVariants.{Withheld}
use Rattle.command_text.specs.AnswerStatus.{error_lines}
use Rattle.command_text.proofs.Adding.{adds_same}
use Rattle.command_text.proofs.answer.status.write_withheld.Goals as goal

-- the five parts of the line
in_parts : (a b : List ℕ) (missing songs : ℕ) → a ≡ decimal missing → b ≡ decimal songs
    → codes "error: update would drop " ++ (a ++ (codes " of " ++ (b ++ codes " songs: is the music there?\n")))
    ≡ error_lines (Some (Withheld missing songs))
in_parts a b missing songs first second =
    (λ i. codes "error: update would drop " ++ (first i ++ (codes " of " ++ (second i ++ codes " songs: is the music there?\n"))))
    ∙ sym (ap (λ (l : List ℕ). codes "error: update would drop " ++ l)
    (append_assoc (decimal missing) (codes " of " ++ (decimal songs ++ codes " songs: is the music there?")) (10 ∷ [])
    ∙ ap (λ (l : List ℕ). decimal missing ++ (codes " of " ++ l))
    (append_assoc (decimal songs) (codes " songs: is the music there?") (10 ∷ []))))

pub returns : goal.returns
returns c =
    adds_same _ _ _ _ _ c.append.ensures
    (in_parts c.as_bytes.result.now c.as_bytes-2.result.now c.args.missing c.args.songs (c.as_bytes.ensures.value ∙ c.format.ensures.text)
    (c.as_bytes-2.ensures.value ∙ c.format-2.ensures.text))
