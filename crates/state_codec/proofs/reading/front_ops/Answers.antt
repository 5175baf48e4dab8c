use Rattle.std.proofs.Common.{◌≡◌, ◌<◌, length, eqb, true, false, arith}
use Rattle.std.proofs.lemmas.Bool.{eqb-true, eqb-false}
use Rattle.state_codec.proofs.BodyLaws.{so_far_begins, falls, goes_on, stops, is_done, body_is}
use Rattle.state_codec.proofs.reading.front_ops.Goals as goal

pub loop-reader-init : goal.loop-reader-init
loop-reader-init c = rw c.new-ops.ensures.items (so_far_begins c.args.layout c.args.bytes.now (λ i. omega (arith, c.type_inv.bytes i)))

pub loop-reader-smaller : goal.loop-reader-smaller
loop-reader-smaller c = falls c.args.layout _ _ _ c.in-Ok.op _ _ c.in-Ok.ensures c.loop-reader.invariant

pub loop-reader-preserved : goal.loop-reader-preserved
loop-reader-preserved c = rw c.in_ok-push-in-Ok.ensures.items (goes_on c.args.layout _ _ _ c.in-Ok.op _ _ c.in-Ok.ensures
    c.loop-reader.invariant)

pub returns-in-Err : goal.returns-in-Err
returns-in-Err c =
    let some : eqb (length c.args.bytes.now) 0 ≡ false = cc in
    let more : eqb (length c.loop-reader.reader.rest.now) 0 ≡ false = cc in
    let some_left : 0 < length c.loop-reader.reader.rest.now = omega (arith, eqb-false _ _ more) in
    rw c.op_error.ensures (stops c.args.layout c.args.bytes.now _ _ c.in-Err.error some some_left c.in-Err.ensures c.loop-reader.invariant)

pub returns : goal.returns
returns c =
    let some : eqb (length c.args.bytes.now) 0 ≡ false = cc in
    let ended : eqb (length c.loop-reader.reader.rest.now) 0 ≡ true = cc in
    body_is c.args.layout c.args.bytes.now _ some (is_done c.args.layout _ _ _ _ (eqb-true _ _ ended) c.loop-reader.invariant)
