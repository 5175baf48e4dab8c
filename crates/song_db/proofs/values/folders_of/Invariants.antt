use Rattle.std.proofs.Common.{◌≡◌, ◌-◌, ◌≤◌, length, drop}
use Rattle.std.specs.List.{filter_map}
use Rattle.song_db.specs.Query.{with_texts, folder_of, distinct_of}
use Rattle.song_db.proofs.values.folders_of.Given as goal

-- the folders so far, with those of the rows that are left
abbrev pub invariant-rows : goal.invariant-rows
invariant-rows l = record {
  within : l.at ≤ length l.rows;
  told : with_texts l.folders (filter_map (λ row. folder_of l.place row.uri) (drop l.at l.rows)) ≡ distinct_of (filter_map (λ row.
      folder_of l.place row.uri) l.rows);
}

abbrev pub decreases-rows : goal.decreases-rows
decreases-rows l = length l.rows - l.at
