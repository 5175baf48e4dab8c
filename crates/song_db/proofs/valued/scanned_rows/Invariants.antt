use Rattle.std.proofs.Common.{◌≡◌, ◌++◌, drop}
use Rattle.song_db.specs.Valued.{has_value, numbers_from}
use Rattle.song_db.proofs.valued.scanned_rows.Given as goal

-- the numbers so far, with those of the rows that are left
abbrev pub invariant-loop-number : goal.invariant-loop-number
invariant-loop-number l =
    l.numbers.items ++ numbers_from l.number (has_value l.tag l.value) (drop l.number l.rows) ≡ numbers_from 0 (has_value l.tag
    l.value) l.rows
