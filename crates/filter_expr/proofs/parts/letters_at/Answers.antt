use Rattle.std.proofs.Common.{◌<◌, ◌≤◌, ◌+◌, List, ℕ, length, get_or, drop, sym, ap, ◌∙◌, subst, arith}
use Rattle.std.proofs.lemmas.Result.{err_from_is_err_and}
use Rattle.filter_expr.specs.Gives.{Stops}
use Rattle.filter_expr.specs.Parts.{◌>>=◌, letters_at, letter_at}
use Rattle.filter_expr.proofs.Texts.{letters_more, letters_end, stops_then, drop_all}
use Rattle.filter_expr.proofs.parts.letters_at.Goals as goal

pub returns-in_err-rest-clause-exact : goal.returns-in_err-rest-clause-exact
returns-in_err-rest-clause-exact c =
    let i = c.loop-letter.letter-index in
    let word = c.args.word.now in
    let lt : i < length word = omega arith in
    let stop = c.in_err-rest.field-0.0 in
    let read = letter_at (get_or word i 0) c.loop-letter.rest.now in
    let here = stops_then stop read (λ behind. letters_at (drop (i + 1) word) behind) c.in_err-rest.ensures.exact in
    let err = err_from_is_err_and c.from_residual.result c.from_residual.ensures.1 in
    rw (err.1, err.2) (subst (Stops stop) (sym (letters_more word c.loop-letter.rest.now i lt) ∙ c.loop-letter.invariant.0) here)

pub loop-letter-preserved : goal.loop-letter-preserved
loop-letter-preserved c =
    let i = c.loop-letter.letter-index in
    let lt : i < length c.args.word.now = omega arith in
    let read = c.in_ok-rest.ensures.exact in (
      sym (letters_more c.args.word.now c.loop-letter.rest.now i lt
          ∙ ap (λ r. r >>= λ behind. letters_at (drop (i + 1) c.args.word.now) behind) read) ∙ c.loop-letter.invariant.0,
      omega (arith, c.in_ok-rest.ensures.shorter),
    )

pub returns-clause-exact : goal.returns-clause-exact
returns-clause-exact c =
    let end : length c.args.word.now ≤ c.loop-letter.letter-index = omega arith in
    sym c.loop-letter.invariant.0 ∙ ap (λ (w : List ℕ). letters_at w c.loop-letter.rest.now) (drop_all c.args.word.now c.loop-letter.letter-index end)
    ∙ letters_end c.loop-letter.rest.now
