use Rattle.std.proofs.Common.{ℕ, List, ◌++◌, drop, ap, ◌∙◌}
use Rattle.state_codec.specs.Checksum.{checksum_of}
use Rattle.state_codec.specs.SpellingFields.{u32_bytes}
use Rattle.state_codec.proofs.SealedLaws.{sealed_behind}
use Rattle.state_codec.proofs.writing.sums.put_sum.Goals as goal

pub returns-in-Wide-clause-items : goal.returns-in-Wide-clause-items
returns-in-Wide-clause-items c =
    let old = c.args.out.now.items in
    let start = c.args.start in
    rw c.in-Wide.is (c.put_u32.ensures.items ∙ ap (λ (n : ℕ). old ++ u32_bytes n) c.sum_from-sum.ensures
    ∙ ap (λ (bytes : List ℕ). old ++ u32_bytes (checksum_of (drop start bytes))) c.as_slice.ensures.value ∙ sealed_behind old start)
