use Rattle.std.proofs.Common.{◌≡◌, ℕ, suc, ◌+◌, ◌-◌, sym, ap, ◌∙◌, arith}
use Rattle.state_codec.specs.Checksum.{with_bits}
use Rattle.state_codec.proofs.ChecksumLaws.{one_bit, no_bit}
use Rattle.state_codec.proofs.checksum.with_eight.Goals as goal

pub loop-bit-preserved : goal.loop-bit-preserved
loop-bit-preserved c =
    let left : 8 - c.loop-bit._bit ≡ suc (8 - (c.loop-bit._bit + 1)) = omega arith in
    ap (with_bits (8 - (c.loop-bit._bit + 1))) c.with_bit-sum.ensures ∙ sym (one_bit (8 - (c.loop-bit._bit + 1)) c.loop-bit.sum)
    ∙ ap (λ (n : ℕ). with_bits n c.loop-bit.sum) (sym left) ∙ c.loop-bit.invariant

pub returns : goal.returns
returns c =
    let none : 8 - c.loop-bit._bit ≡ 0 = omega arith in
    sym (no_bit c.loop-bit.sum) ∙ ap (λ (n : ℕ). with_bits n c.loop-bit.sum) (sym none) ∙ c.loop-bit.invariant
