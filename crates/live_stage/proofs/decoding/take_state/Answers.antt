use Rattle.std.proofs.Common.{arith}
use Rattle.std.proofs.lemmas.Result.{err_from_is_err_and}
use Rattle.live_stage.proofs.DecodingLaws.{begins, read_on, refused_record, refused_snapshot}
use Rattle.live_stage.proofs.decoding.take_state.Goals as goal

pub returns-in-Err : goal.returns-in-Err
returns-in-Err c = rw c.bad_snapshot.ensures
    (refused_snapshot _ _ _ c.in-Err.error (rw c.snapshot-snapshot.ensures at c.in-Err.ensures.exact))

pub loop-place-init : goal.loop-place-init
loop-place-init c = begins c.args.layout c.args.stored.now.snapshot c.args.stored.now.records c.in-Ok.saved c.saturating_add-gate.result
    (rw c.snapshot-snapshot.ensures at c.in-Ok.ensures.exact)
    (rw c.snapshot-snapshot.ensures at c.saturating_add-gate.ensures)

pub loop-place-preserved : goal.loop-place-preserved
loop-place-preserved c = read_on _ _ c.loop-place.place _ _ c.args.stored.now.records _ _ _ _
    (omega (arith, c.loop-place-test.true, c.record_count-place-end.ensures))
    c.record-body.ensures c.in_ok-apply_record.ensures c.saturating_add.ensures c.saturating_add-gate-in-loop-place.ensures
    c.loop-place.invariant

pub returns-in_err-apply_record : goal.returns-in_err-apply_record
returns-in_err-apply_record c =
    let p = err_from_is_err_and c.from_residual.result c.from_residual.ensures.1 in
    rw (p.1, p.2) (refused_record _ _ _ c.args.stored.now.records _ _ _ _ _
    (omega (arith, c.loop-place-test.true, c.record_count-place-end.ensures))
    c.record-body.ensures c.in_err-apply_record.ensures c.loop-place.invariant)
