use Rattle.std.proofs.Common.{◌<◌, ◌≤◌, ◌+◌, List, ℕ, length, get_or, drop, sym, ap, ◌∙◌, subst, arith}
use Rattle.std.proofs.lemmas.Result.{err_from_is_err_and}
use Rattle.filter_expr.specs.Gives.{Stops}
use Rattle.filter_expr.specs.Parts.{◌>>=◌, word_at, byte_at}
use Rattle.filter_expr.proofs.Texts.{word_more, word_end, stops_then, drop_all}
use Rattle.filter_expr.proofs.parts.word_at.Goals as goal

pub returns-in_err-rest-clause-exact : goal.returns-in_err-rest-clause-exact
returns-in_err-rest-clause-exact c =
    let i = c.loop-byte.byte-index in
    let word = c.args.word.now in
    let lt : i < length word = omega arith in
    let stop = c.in_err-rest.field-0.0 in
    let read = byte_at (get_or word i 0) c.loop-byte.rest.now in
    let here = stops_then stop read (λ behind. word_at (drop (i + 1) word) behind) c.in_err-rest.ensures.exact in
    let err = err_from_is_err_and c.from_residual.result c.from_residual.ensures.1 in
    rw (err.1, err.2) (subst (Stops stop) (sym (word_more word c.loop-byte.rest.now i lt) ∙ c.loop-byte.invariant.0) here)

pub loop-byte-preserved : goal.loop-byte-preserved
loop-byte-preserved c =
    let i = c.loop-byte.byte-index in
    let lt : i < length c.args.word.now = omega arith in
    let read = c.in_ok-rest.ensures.exact in (
      sym (word_more c.args.word.now c.loop-byte.rest.now i lt
          ∙ ap (λ r. r >>= λ behind. word_at (drop (i + 1) c.args.word.now) behind) read) ∙ c.loop-byte.invariant.0,
      omega (arith, c.in_ok-rest.ensures.shorter),
    )

pub returns-clause-exact : goal.returns-clause-exact
returns-clause-exact c =
    let end : length c.args.word.now ≤ c.loop-byte.byte-index = omega arith in
    sym c.loop-byte.invariant.0 ∙ ap (λ (w : List ℕ). word_at w c.loop-byte.rest.now) (drop_all c.args.word.now c.loop-byte.byte-index end)
    ∙ word_end c.loop-byte.rest.now
