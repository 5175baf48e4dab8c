use Rattle.std.proofs.Common.{◌≡◌, ◌+◌, ◌<◌, ◌∷◌, List, ℕ, [], None, ap, sym, ◌∙◌, arith, length, drop}
use Rattle.std.proofs.lemmas.List.{take_rest}
use Rattle.song_head.specs.Genres.{before_bracket, genres_from}
use Rattle.song_head.proofs.Bracketed.{closed, not_closed}
use Rattle.song_head.proofs.frame_values.bracketed.Goals as goal

pub returns-then-inner-text-clause-genres : goal.returns-then-inner-text-clause-genres
returns-then-inner-text-clause-genres c =
    let front = c.before_bracket-inner.ensures.front in
    not_closed [] c.args.text.now (sym (ap length front) ∙ c.if-inner-text.true) ∙ ap (λ (l : List ℕ). l ∷ []) (sym front)

pub returns-clause-genres : goal.returns-clause-genres
returns-clause-genres c =
    let front = c.before_bracket-inner.ensures.front in
    let text = c.args.text.now in
    let inner = c.before_bracket-inner.result.now in
    let less : length (before_bracket text) < length text =
    omega (arith, ap length front, c.before_bracket-inner.ensures.bound, c.if-inner-text.false) in
    closed [] text less ∙ ap (λ (l : List ℕ). l ∷ genres_from None (drop (length l + 1) text)) (sym front)
    ∙ ap (λ (l : List ℕ). inner ∷ genres_from None l) (sym (take_rest text (length inner + 1)))
