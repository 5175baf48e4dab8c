-- The sign bit, and the bits behind it.
use Rattle.std.proofs.Common.{◌≡◌, ◌-◌, suc, arith, rules}
use Rattle.std.proofs.lemmas.Result.{err_from_is_err_and}
use Rattle.std.proofs.lemmas.Int.{to_z-of_z}
use Rattle.std.specs.Int.{w64}
use mir.Val.{SFits}
use Rattle.flac_frames.proofs.SignedReads.{no_bits, signed_two, signed_first_ended, signed_second_ended}
use Rattle.flac_frames.proofs.bits.BitReader.signed.Goals as goal

pub returns-then-n-eq0-clause-reads : goal.returns-then-n-eq0-clause-reads
returns-then-n-eq0-clause-reads c = rw c.if-n-eq0.true (no_bits _)

pub returns-in_err-sign-clause-reads : goal.returns-in_err-sign-clause-reads
returns-in_err-sign-clause-reads c =
    let p = err_from_is_err_and c.from_residual.result c.from_residual.ensures.1 in
    rw (p.1, p.2) (signed_first_ended c.args.n _ _ (omega arith) c.in_err-sign.ensures.reads)

pub returns-in_err-low-clause-reads : goal.returns-in_err-low-clause-reads
returns-in_err-low-clause-reads c =
    let p = err_from_is_err_and c.from_residual-in_err-low.result c.from_residual-in_err-low.ensures.1 in
    let e : suc (c.args.n - 1) ≡ c.args.n = omega arith in
    rw (p.1, p.2) (rw e at (signed_second_ended (c.args.n - 1) _ _ _ _ c.in_ok-sign.ensures.reads c.in_err-low.ensures.reads))

pub returns-clause-reads : goal.returns-clause-reads
returns-clause-reads c =
    let e : suc (c.args.n - 1) ≡ c.args.n = omega arith in
    let f : SFits w64 c.signed_number.result = search rules in
    let z = to_z-of_z w64 c.signed_number.result f in
    rw (z, c.signed_number.ensures) (rw e at (signed_two (c.args.n - 1) _ _ _ _ _ c.in_ok-sign.ensures.reads c.in_ok-low.ensures.reads))
