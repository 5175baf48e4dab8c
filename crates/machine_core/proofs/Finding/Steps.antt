-- One row after the other.
use Rattle.std.proofs.Common.{◌≡◌, ℕ, zero, suc, ◌+◌, ◌<◌, ◌≤◌, true, false, List, [], ◌∷◌, length, take, drop, get_or}
use Rattle.std.proofs.Common.{◌++◌, ◌∙◌, add-one, refl, ap, sym, arith}
use Rattle.std.proofs.Math.ListN.{drop_of_length-le}
use Rattle.std.proofs.Math.Seq.{drop-cons}
use Rattle.play_queue.specs.declared.entry.Entry.{Entry}
use Rattle.filter_expr.specs.Tree.{Tree}
use Rattle.filter_expr.specs.Meaning.{is_match}
use Rattle.filter_expr.specs.declared.case.Case.{Case}
use Rattle.song_db.specs.Row.{Row, row_at}
use Rattle.machine_core.specs.Finding.{matching, entry_row, entry_rows, part_of}
use Rattle.machine_core.specs.declared.commands.finding.part.Part.{Part}

-- the item at an index, and those behind it
pub rest_is : {X : Type 0} (xs : List X) (i : ℕ) (x : X) → i < length xs → x ≡ get_or xs i x → drop i xs ≡ x ∷ drop (i + 1) xs
rest_is xs i x h is = rw (add-one, drop-cons xs i x) (ap (λ y. y ∷ drop (suc i) xs) (sym is))

pub passed_over : (case : Case) (tree : Tree) (rows : List Row) (i : ℕ) (row : Row) → i < length rows → row ≡ get_or rows i row
    → is_match case tree row ≡ false → matching case tree (drop i rows) ≡ matching case tree (drop (i + 1) rows)
passed_over case tree rows i row h is other = rw (rest_is rows i row h is, other) refl

pub met : (case : Case) (tree : Tree) (rows : List Row) (i : ℕ) (row : Row) → i < length rows → row ≡ get_or rows i row
    → is_match case tree row ≡ true → matching case tree (drop i rows) ≡ row ∷ matching case tree (drop (i + 1) rows)
met case tree rows i row h is same = rw (rest_is rows i row h is, same) refl

pub none_left : (case : Case) (tree : Tree) (rows : List Row) (i : ℕ) → length rows ≤ i → matching case tree (drop i rows) ≡ []
none_left case tree rows i h = ap (matching case tree) (drop_of_length-le rows h)

pub no_entries : (case : Case) (tree : Tree) (songs : List Row) (i : ℕ) (entries : List Entry) → length entries ≤ i
    → entry_rows case tree songs i (drop i entries) ≡ []
no_entries case tree songs i entries h = ap (entry_rows case tree songs i) (drop_of_length-le entries h)

-- the entry at an index, and those behind it
pub next_entry : (case : Case) (tree : Tree) (songs : List Row) (i : ℕ) (entries : List Entry) (entry : Entry) → i < length entries
    → get_or entries i entry ≡ entry → entry_rows case tree songs i (drop i entries)
    ≡ entry_row case tree i entry (row_at songs entry.uri) ++ entry_rows case tree songs (i + 1) (drop (i + 1) entries)
next_entry case tree songs i entries entry h is =
    let next : suc i ≡ i + 1 = omega arith in
    ap (entry_rows case tree songs i) (rest_is entries i entry h (sym is))
    ∙ ap (λ n. entry_row case tree i entry (row_at songs entry.uri) ++ entry_rows case tree songs n (drop (i + 1) entries)) next

-- no part of nothing
pub part_of_none : {X : Type 0} (part : Part) → part_of {X = X} part [] ≡ []
part_of_none {X} part = by_cases part.skip part.end
  where
    by_cases : (skip end : ℕ) → drop {A = X} skip (take end []) ≡ []
    by_cases zero zero = refl
    by_cases zero (suc end) = refl
    by_cases (suc skip) zero = refl
    by_cases (suc skip) (suc end) = refl
