use Rattle.std.proofs.Common.{◌≡◌, take}
use Rattle.std.specs.List.{filter_map}
use Rattle.song_db.specs.Query.{number_at}
use Rattle.song_db.proofs.valued.numbers_of.Given as goal

-- the numbers of the first ones
abbrev pub invariant-loop-row : goal.invariant-loop-row
invariant-loop-row l = l.numbers.items ≡ filter_map (λ row. number_at l.rows row.uri) (take l.row-index l.some)
