use Rattle.std.proofs.Common.{◌≡◌, ◌++◌, drop}
use Rattle.song_db.specs.Valued.{numbers_from}
use Rattle.filter_expr.specs.Meaning.{is_match}
use Rattle.filter_expr.proofs.select.select_of_all.Given as goal

-- the numbers so far, with those of the rows that are left
abbrev pub invariant-loop-number : goal.invariant-loop-number
invariant-loop-number l =
    l.numbers.items ++ numbers_from l.number (is_match l.case l.filter) (drop l.number l.rows) ≡ numbers_from 0 (is_match l.case
    l.filter) l.rows
