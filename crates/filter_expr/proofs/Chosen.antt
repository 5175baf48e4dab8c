-- The rows with what each of those that pass has, and those that pass among them.
use Rattle.std.proofs.Common.{◌≡◌, ℕ, zero, suc, ◌+◌, ◌<◌, ◌≤◌, Bool, true, false, List, [], ◌∷◌, length, Some, slice_get, refl, sym, ap, ◌∙◌}
use Rattle.std.proofs.Common.{◌++◌, drop, filter, get_or, append_assoc, arith}
use Rattle.std.proofs.lemmas.Option.{slice_get-get_or}
use Rattle.std.proofs.lemmas.Bool.{false≢true}
use Rattle.std.specs.List.{All, AllByRecursion}
use Rattle.song_db.specs.Row.{Row}
use Rattle.song_db.specs.Valued.{numbers_from}
use Rattle.filter_expr.specs.Numbered.{passes_at, is_there_and}
use Rattle.filter_expr.proofs.Texts.{drop_at}

-- a test of numbers that is the test of the rows, which have the numbers from one on
abbrev Tells : (ℕ → Bool) → (Row → Bool) → ℕ → List Row → Type 0
Tells at passes number [] = Unit {0}
Tells at passes number (row ∷ rows) = (at number ≡ passes row) × Tells at passes (suc number) rows

tells_number : (at : ℕ → Bool) (passes : Row → Bool) (rows : List Row) (number : ℕ)
    → ((k : ℕ) → at (k + number) ≡ is_there_and passes (slice_get rows k)) → Tells at passes number rows
tells_number at passes [] number h = tt
tells_number at passes (row ∷ rows) number h =
    (ap at none_before ∙ h 0, tells_number at passes rows (suc number) (λ k. ap at (moved k) ∙ h (suc k)))
  where
    none_before : number ≡ 0 + number
    none_before = omega arith

    moved : (k : ℕ) → k + suc number ≡ suc k + number
    moved k = omega arith

chosen : (at : ℕ → Bool) (passes has : Row → Bool) → ((row : Row) → passes row ≡ true → has row ≡ true) → (rows : List Row) (number : ℕ)
    → Tells at passes number rows → filter at (numbers_from number has rows) ≡ numbers_from number passes rows
chosen at passes has implied [] number tells = refl
chosen at passes has implied (row ∷ rows) number tells =
    by_cases (has row) refl (passes row) refl (chosen at passes has implied rows (suc number) tells.1)
  where
    by_cases : (h : Bool) → has row ≡ h → (p : Bool) → passes row ≡ p
        → filter at (numbers_from (suc number) has rows) ≡ numbers_from (suc number) passes rows
        → filter at (numbers_from number has (row ∷ rows)) ≡ numbers_from number passes (row ∷ rows)
    by_cases true h true p later = rw (h, p, tells.0) (rw p (ap (λ (ns : List ℕ). number ∷ ns) later))
    by_cases true h false p later = rw (h, p, tells.0) (rw p later)
    by_cases false h true p later = absurd (false≢true (sym h ∙ implied row p))
    by_cases false h false p later = rw (h, p) later

pub chosen_of : (passes has : Row → Bool) (rows : List Row) → ((row : Row) → passes row ≡ true → has row ≡ true)
    → filter (passes_at passes rows) (numbers_from 0 has rows) ≡ numbers_from 0 passes rows
chosen_of passes has rows implied =
    chosen (passes_at passes rows) passes has implied rows 0 (tells_number (passes_at passes rows) passes rows 0 (λ k.
    ap (λ n. is_there_and passes (slice_get rows n)) (none_more k)))
  where
    none_more : (k : ℕ) → k + 0 ≡ k
    none_more k = omega arith

within_from : (has : Row → Bool) (rows : List Row) (number most : ℕ) → number + length rows ≤ most
    → AllByRecursion (λ n. n < most) (numbers_from number has rows)
within_from has [] number most few = tt
within_from has (row ∷ rows) number most few = by_cases (has row) refl (within_from has rows (suc number) most (omega arith))
  where
    by_cases : (h : Bool) → has row ≡ h → AllByRecursion (λ n. n < most) (numbers_from (suc number) has rows)
        → AllByRecursion (λ n. n < most) (numbers_from number has (row ∷ rows))
    by_cases true h later = rw h (omega arith, later)
    by_cases false h later = rw h later

by_all : {A : Type 0} (P : A → Type 0) (xs : List A) → AllByRecursion P xs → All P xs
by_all P [] all k d lt = absurd (omega arith)
by_all P (x ∷ xs) all zero d lt = all.0
by_all P (x ∷ xs) all (suc k) d lt = by_all P xs all.1 k d (omega arith)

pub all_within : (has : Row → Bool) (rows : List Row) → All (λ n. n < length rows) (numbers_from 0 has rows)
all_within has rows = by_all (λ n. n < length rows) (numbers_from 0 has rows) (within_from has rows 0 (length rows) (omega arith))

-- the row of a number passes, or doesn't
pub at_row : (passes : Row → Bool) (rows : List Row) (number : ℕ) (row : Row) → number < length rows → row ≡ get_or rows number row
    → passes_at passes rows number ≡ passes row
at_row passes rows number row within is =
    ap (is_there_and passes) (slice_get-get_or rows number row within ∙ ap (λ (r : Row). Some r) (sym is))

pub next_kept : (test : ℕ → Bool) (all numbers whole : List ℕ) (i : ℕ) → i < length all → test (get_or all i 0) ≡ true
    → numbers ++ filter test (drop i all) ≡ whole → (numbers ++ get_or all i 0 ∷ []) ++ filter test (drop (i + 1) all) ≡ whole
next_kept test all numbers whole i within kept so_far =
    append_assoc numbers (get_or all i 0 ∷ []) (filter test (drop (i + 1) all))
    ∙ ap (λ (ns : List ℕ). numbers ++ ns) (sym (rw (drop_at all i within, kept) refl)) ∙ so_far

pub next_left : (test : ℕ → Bool) (all numbers whole : List ℕ) (i : ℕ) → i < length all → test (get_or all i 0) ≡ false
    → numbers ++ filter test (drop i all) ≡ whole → numbers ++ filter test (drop (i + 1) all) ≡ whole
next_left test all numbers whole i within left so_far =
    ap (λ (ns : List ℕ). numbers ++ ns) (sym (rw (drop_at all i within, left) refl)) ∙ so_far
