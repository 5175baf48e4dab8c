use Rattle.std.proofs.Common.{◌≡◌, ◌-◌, ◌≤◌, ◌++◌, length, drop, map, filter}
use Rattle.song_db.specs.Query.{is_right_in}
use Rattle.song_db.proofs.values.songs_of.Given as goal

-- the songs so far, with those of the rows that are left
abbrev pub invariant-rows : goal.invariant-rows
invariant-rows l = record {
  within : l.at ≤ length l.rows;
  told : map (λ song. song.now) l.songs.items ++ filter (λ row. is_right_in l.place row.uri) (drop l.at l.rows) ≡ filter (λ row.
      is_right_in l.place row.uri) l.rows;
}

abbrev pub decreases-rows : goal.decreases-rows
decreases-rows l = length l.rows - l.at
