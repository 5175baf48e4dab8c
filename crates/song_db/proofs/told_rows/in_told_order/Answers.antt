use Rattle.std.proofs.Common.{[], refl, arith}
use Rattle.song_db.proofs.LentOrder.{none_lent, rows_of, told_next}
use Rattle.song_db.specs.Lent.{told_from}
use Rattle.song_db.proofs.told_rows.in_told_order.Goals as goal

pub loop-row-preserved : goal.loop-row-preserved
loop-row-preserved c = record {
  rising = c.in_ok-near.ensures.rising;
  few = omega (arith, c.in_ok-near.ensures.few);
  told = told_next c.args.rows.now c.loop-row.row-index c.row-item.result (rows_of c.loop-row.told.items) (rows_of
      c.put_lent.new.told.items) (told_from [] (rows_of c.args.rows.now)) (omega arith) c.row-item.is c.in_ok-near.ensures.rows
      c.loop-row.invariant.told;
}

pub loop-row-init : goal.loop-row-init
loop-row-init c = rw c.in_ok-told.ensures.items record { rising = none_lent; few = omega arith; told = refl }
