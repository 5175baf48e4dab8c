use Rattle.std.proofs.Common.{refl, length, ap, arith, ◌∙◌}
use Rattle.disk_model.proofs.LengthLaws.{counted_on, in_range_on, piece_long, piece_within, put_begin, put_failed, put_more, put_synced, put_unsynced, still_err}
use Rattle.disk_model.proofs.disk.Disk.lengthen.Goals as goal

pub loop-at-init : goal.loop-at-init
loop-at-init g c = record {
  honesty = (λ h. h, λ h. h);
  faults = refl;
  put = λ honest. put_begin _ _ _ _ (c.len-at.ensures honest);
}

pub loop-at-preserved : goal.loop-at-preserved
loop-at-preserved g c =
    let inv = c.loop-at.invariant in
    record {
      honesty = (
        λ h. c.write_at.ensures.honest.0 (inv.honesty.0 h),
        λ h. inv.honesty.1 (c.write_at.ensures.honest.1 h),
      );
      faults = c.in_ok-write_at.ensures.counted.ok ∙ inv.faults;
      put = λ honest. let here = inv.honesty.0 honest in
          put_more _ _ _ _ _ _ _ _ c.loop-at.at _ (inv.put honest) (c.in_ok-write_at.ensures.written here)
          (c.in_ok-write_at.ensures.made here) (piece_long _ _ _ (omega arith)) (omega arith);
    }

pub returns-in_err-write_at-clause-in_part : goal.returns-in_err-write_at-clause-in_part
returns-in_err-write_at-clause-in_part g c = rw (still_err c.from_residual.result c.in_err-write_at.field-0.0 c.from_residual.ensures) (λ honest.
    let inv = c.loop-at.invariant in
    put_failed _ _ _ _ _ _ _ _ _ (inv.put honest) (c.in_err-write_at.ensures.in_part (inv.honesty.0 honest))
    (piece_within _ _ _ _ (omega arith)))

pub returns-in_err-write_at-clause-in_range : goal.returns-in_err-write_at-clause-in_range
returns-in_err-write_at-clause-in_range g c = rw (still_err c.from_residual.result c.in_err-write_at.field-0.0 c.from_residual.ensures) (λ honest.
    let inv = c.loop-at.invariant in
    in_range_on _ (λ is. let over = (c.in_err-write_at.ensures.out_of_range (inv.honesty.0 honest)).0 is in
    omega (arith, over, (inv.put honest).long)))

pub returns-in_err-write_at-clause-counted : goal.returns-in_err-write_at-clause-counted
returns-in_err-write_at-clause-counted g c =
    rw (still_err c.from_residual.result c.in_err-write_at.field-0.0 c.from_residual.ensures)
    (counted_on _ _ _ _ c.loop-at.invariant.faults c.in_err-write_at.ensures.counted)

pub returns-in_err-sync-clause-in_part : goal.returns-in_err-sync-clause-in_part
returns-in_err-sync-clause-in_part g c = rw (still_err c.from_residual-in_err-sync.result c.in_err-sync.field-0.0 c.from_residual-in_err-sync.ensures) (λ honest.
    let inv = c.loop-at.invariant in
    put_unsynced _ _ _ _ _ _ _ (inv.put honest) (c.in_err-sync.ensures.not_made (inv.honesty.0 honest)))

pub returns-in_err-sync-clause-in_range : goal.returns-in_err-sync-clause-in_range
returns-in_err-sync-clause-in_range g c = rw (still_err c.from_residual-in_err-sync.result c.in_err-sync.field-0.0 c.from_residual-in_err-sync.ensures) (λ honest.
    in_range_on _ (c.in_err-sync.ensures.in_range (c.loop-at.invariant.honesty.0 honest)))

pub returns-in_err-sync-clause-counted : goal.returns-in_err-sync-clause-counted
returns-in_err-sync-clause-counted g c =
    rw (still_err c.from_residual-in_err-sync.result c.in_err-sync.field-0.0 c.from_residual-in_err-sync.ensures)
    (counted_on _ _ _ _ c.loop-at.invariant.faults c.in_err-sync.ensures.counted)

pub returns-clause-lengthened : goal.returns-clause-lengthened
returns-clause-lengthened g c = λ honest.
    let inv = c.loop-at.invariant in
    let here = inv.honesty.0 honest in
    put_synced _ _ _ _ _ _ _ _ (inv.put honest) (c.in_ok-sync.ensures.made here) (c.in_ok-sync.ensures.content_stays here)

pub returns-clause-long : goal.returns-clause-long
returns-clause-long g c = λ honest _.
    let inv = c.loop-at.invariant in
    let same = ap length (c.in_ok-sync.ensures.content_stays (inv.honesty.0 honest)) in
    omega (arith, same, (inv.put honest).long, c.loop-at-test.false)

pub returns-clause-counted : goal.returns-clause-counted
returns-clause-counted g c =
    let same = c.in_ok-sync.ensures.counted.ok ∙ c.loop-at.invariant.faults in
    record {
      later = omega (arith, same);
      fault = λ is. (cc);
      ok = same;
      out_of_range = λ is. (cc);
    }
