use Rattle.std.proofs.Common.{◌+◌, take, sym, ap, ◌∙◌, arith, Some, List, ℕ}
use Rattle.command_text.proofs.Around.{around_at, around_none}
use Rattle.command_text.proofs.Searches.{behind_is}
use Rattle.command_text.proofs.argument.around.Goals as goal

pub returns-in_err-place : goal.returns-in_err-place
returns-in_err-place c =
    rw c.from_residual.ensures (sym (around_none c.args.byte c.args.word.now (λ k h. c.in_err-place.ensures k (omega arith) h)))

pub returns : goal.returns
returns c =
    let word = c.args.word.now in
    let n = c.in_ok-place.place in
    let found = c.in_ok-place.ensures in
    ap (λ (rest : List ℕ). Some (take n word, rest)) (behind_is word (n + 1))
    ∙ sym (around_at c.args.byte word n found.0.high found.1 (λ k h. found.0.before k (omega arith) h))
