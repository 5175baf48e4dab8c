use Rattle.std.proofs.Common.{◌≡◌, ◌<◌, length, eqb, true, false, arith}
use Rattle.std.proofs.lemmas.Bool.{eqb-true, eqb-false}
use Rattle.state_codec.proofs.ApplyLaws.{begins, falls, goes_on, bad, refused, is_done}
use Rattle.state_codec.proofs.saved.Saved.apply_front.Goals as goal

pub loop-reader-init : goal.loop-reader-init
loop-reader-init c =
    let some : eqb (length c.args.body.now) 0 ≡ false = cc in
    begins c.args.layout c.args.body.now c.args.self.now (λ i. omega (arith, c.type_inv.body i)) some

pub loop-reader-smaller : goal.loop-reader-smaller
loop-reader-smaller c = falls c.args.layout _ _ _ _ c.in-Ok.op _ _ c.in-Ok.ensures c.loop-reader.invariant

pub loop-reader-preserved : goal.loop-reader-preserved
loop-reader-preserved c = goes_on c.args.layout _ _ _ _ _ c.in-Ok.op _ _ c.in-Ok.ensures c.in-Ok-apply_read.ensures.ok c.loop-reader.invariant

pub returns-in-Err : goal.returns-in-Err
returns-in-Err c =
    let more : eqb (length c.loop-reader.reader.rest.now) 0 ≡ false = cc in
    let some_left : 0 < length c.loop-reader.reader.rest.now = omega (arith, eqb-false _ _ more) in
    rw c.bad_op.ensures (bad c.args.layout _ _ _ _ _ c.in-Err.error _ some_left c.in-Err.ensures c.loop-reader.invariant)

pub returns-in-Err-apply_read : goal.returns-in-Err-apply_read
returns-in-Err-apply_read c =
    let more : eqb (length c.loop-reader.reader.rest.now) 0 ≡ false = cc in
    let some_left : 0 < length c.loop-reader.reader.rest.now = omega (arith, eqb-false _ _ more) in
    rw c.not_applied.ensures (refused c.args.layout _ _ _ _ _ c.in-Ok.op _ c.in-Err-apply_read.error _ some_left c.in-Ok.ensures
    c.in-Err-apply_read.ensures.answer
    c.loop-reader.invariant)

pub returns : goal.returns
returns c =
    let ended : eqb (length c.loop-reader.reader.rest.now) 0 ≡ true = cc in
    is_done c.args.layout _ _ _ _ _ (eqb-true _ _ ended) c.loop-reader.invariant
