use Rattle.std.proofs.Common.{length, ap, arith}
use Rattle.std.proofs.lemmas.Bool.{false≢true}
use Rattle.std.proofs.lemmas.List.Folds.{length-flat_map-take}
use Rattle.state_codec.specs.declared.op.Op.{Op}
use Rattle.state_codec.specs.SpellingOps.{op_bytes}
use Rattle.state_codec.proofs.writing.fits.Goals as goal

pub returns-then-left-len : goal.returns-then-left-len
returns-then-left-len c =
    let p = c.args.profile in
    let i = c.loop-op.op-index in
    let item = c.op-item.result in (
      λ e. absurd (false≢true e),
      λ h. absurd (omega (
        arith,
        h,
        c.loop-op.invariant,
        length-flat_map-take (op_bytes p) c.args.ops.now i item (omega arith),
        ap (λ (x : Op). length (op_bytes p x)) c.op-item.is,
        c.spelled_len-len.ensures,
      )),
    )
