use Rattle.std.proofs.Common.{arith}
use Rattle.std.proofs.lemmas.Result.{IfOk-weaker}
use Rattle.flac.proofs.reader.FlacReader.count.Goals as goal

pub returns-clause-count : goal.returns-clause-count
returns-clause-count g c = λ told known.
    let same = c.walk.ensures.same in
    IfOk-weaker c.walk.result _ _ (λ n walked. record { told = λ some. absurd (omega arith); found = λ none. rw (same.0, same.1) at walked })
    (c.walk.ensures.walked told (c.len-end.ensures told) known)
