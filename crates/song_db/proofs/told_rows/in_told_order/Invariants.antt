use Rattle.std.proofs.Common.{◌≡◌, ◌≤◌, [], length, map, drop}
use Rattle.song_db.specs.Lent.{lent_key, told_from}
use Rattle.song_db.specs.Replaced.{IsRising}
use Rattle.song_db.proofs.told_rows.in_told_order.Given as goal

-- the rows that are left take their places among those so far
abbrev pub invariant-loop-row : goal.invariant-loop-row
invariant-loop-row l = record {
  rising : IsRising lent_key l.told.items;
  few : length l.told.items ≤ l.row-index;
  told : told_from (map (λ row. row.now) l.told.items) (map (λ row. row.now) (drop l.row-index l.rows)) ≡ told_from [] (map (λ row. row.now) l.rows);
}
