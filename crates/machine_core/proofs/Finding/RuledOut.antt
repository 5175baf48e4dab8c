-- Entries that are ruled out before the others are looked at.
use Rattle.std.proofs.Common.{◌≡◌, ◌≢◌, ℕ, zero, suc, ◌+◌, ◌-◌, ◌<◌, ◌++◌, ◌∙◌, Bool, true, false, List, [], ◌∷◌, length, take, drop, get_or}
use Rattle.std.proofs.Common.{Option, Some, None, Result, Err, refl, sym, ap, arith}
use Rattle.std.specs.Prelude.{◌==◌, is_some, replicate, slice_set}
use Rattle.std.proofs.lemmas.Bool.{eqb-false, eqb-true, false≢true}
use Rattle.std.proofs.lemmas.List.{get_or-replicate, get_or-set_other, get_or_default, length-replicate, length-set}
use Rattle.filter_expr.specs.Meaning.{is_match}
use Rattle.filter_expr.specs.Tree.{Tree}
use Rattle.filter_expr.specs.declared.case.Case.{Case}
use Rattle.play_queue.specs.declared.entry.Entry.{Entry}
use Rattle.song_db.specs.Refusal.{AnswersExactlyIfThere}
use Rattle.song_db.specs.Row.{Row, row_at}
use Rattle.song_db.specs.declared.refusal.SongDbError.{SongDbError}
use Rattle.machine_core.specs.EntryRows.{AreRuledOut}
use Rattle.machine_core.specs.Finding.{entry_row, entry_rows}
use Rattle.machine_core.proofs.Finding.Steps.{next_entry}

take_nil : (n : ℕ) → take {A = Bool} n [] ≡ []
take_nil zero = refl
take_nil (suc n) = refl

-- no entry is marked yet
pub unmarked : (case : Case) (tree : Tree) (songs : List Row) (entries : List Entry) (marks : List Bool) → marks ≡ []
    → AreRuledOut case tree songs entries marks
unmarked case tree songs entries marks none at entry fits set within is = absurd (omega (arith, fits, ap length none))

pub none_marked : (case : Case) (tree : Tree) (songs : List Row) (entries : List Entry) (old new : List Bool) (n m : ℕ) → old ≡ [] → m ≡ 0
    → new ≡ take n old ++ replicate (n - m) false → AreRuledOut case tree songs entries new
none_marked case tree songs entries old new n m none zero_is is at entry fits set within at_is =
    let all : new ≡ replicate n false = is ∙ ap (λ l. take n l ++ replicate (n - m) false) none
    ∙ ap (λ l. l ++ replicate (n - m) false) (take_nil n)
    ∙ ap (λ k. replicate k false) (let h : n - m ≡ n = omega arith in h) in
    let short : at < n = omega (arith, fits, ap length all, length-replicate n false) in
    let clear : get_or new at false ≡ false = ap (λ l. get_or l at false) all ∙ get_or-replicate n at false false short in
    absurd cc

-- one more is
pub marked_on : (case : Case) (tree : Tree) (songs : List Row) (entries : List Entry) (old new : List Bool) (at : ℕ) (entry : Entry)
    → AreRuledOut case tree songs entries old → at < length old → new ≡ slice_set old at true → ((d : Entry) → get_or entries at d ≡ entry)
    → entry_row case tree at entry (row_at songs entry.uri) ≡ [] → AreRuledOut case tree songs entries new
marked_on case tree songs entries old new at entry before fits is at_is none k other k_fits k_set k_within other_is = by_place (k == at) refl
  where
    by_place : (same : Bool) → (k == at) ≡ same → entry_row case tree k other (row_at songs other.uri) ≡ []
    by_place true same =
        let place : k ≡ at = eqb-true k at same in
        let is_entry : other ≡ entry = sym other_is ∙ ap (λ n. get_or entries n other) place ∙ at_is other in
        ap (λ (e : Entry). entry_row case tree k e (row_at songs e.uri)) is_entry
        ∙ ap (λ n. entry_row case tree n entry (row_at songs entry.uri)) place ∙ none
    by_place false elsewhere =
        let apart : k ≢ at = eqb-false k at elsewhere in
        let was : get_or old k false ≡ true =
        sym (get_or-set_other old at k true false apart) ∙ sym (ap (λ l. get_or l k false) is) ∙ k_set in
        before k other (omega (arith, k_fits, ap length is, length-set old at true)) was k_within other_is

-- what is marked is passed over
pub passed : (case : Case) (tree : Tree) (songs : List Row) (marks : List Bool) (entries : List Entry) (at : ℕ)
    → AreRuledOut case tree songs entries marks → at < length marks → get_or marks at false ≡ true → at < length entries
    → entry_rows case tree songs at (drop at entries) ≡ entry_rows case tree songs (at + 1) (drop (at + 1) entries)
passed case tree songs marks [] at ruled fits set within = absurd (omega (arith, within))
passed case tree songs marks (x ∷ xs) at ruled fits set within =
    let entries : List Entry = x ∷ xs in
    let e : Entry = get_or entries at x in
    let is : get_or entries at e ≡ e = get_or_default entries at e x within in
    next_entry case tree songs at entries e within is
    ∙ ap (λ l. l ++ entry_rows case tree songs (at + 1) (drop (at + 1) entries)) (ruled at e fits set within is)

-- ---- one entry

pub without_row : (T : Type 0) (case : Case) (tree : Tree) (at : ℕ) (entry : Entry) (found : Option Row) (e : SongDbError)
    → (let r : Result T SongDbError = Err e in AnswersExactlyIfThere (is_some found) r) → entry_row case tree at entry found ≡ []
without_row T case tree at entry None e answer = refl
without_row T case tree at entry (Some row) e answer = absurd (false≢true answer)

pub unmatched : (case : Case) (tree : Tree) (at : ℕ) (entry : Entry) (found : Option Row) (row : Row) → found ≡ Some row
    → is_match case tree row ≡ false → entry_row case tree at entry found ≡ []
unmatched case tree at entry found row is other = ap (entry_row case tree at entry) is ∙ (rw other refl)
