-- Positions of many ids, found in one pass.
use Rattle.std.proofs.Common.{◌≡◌, ℕ, ◌+◌, ◌<◌, ◌≤◌, Bool, true, false, cond, ◌==◌, ◌⊎◌, inl, inr, List, [], ◌∷◌, ◌++◌, length, get_or}
use Rattle.std.proofs.Common.{drop, Option, Some, None}
use Rattle.std.proofs.Common.{Result, Ok, Err, is_ok, suc, nat_eq, nat_lt, refl, sym, ap, ◌∙◌, arith, add-one, append_assoc, drop-cons}
use Rattle.std.specs.List.{list_any, position_from}
use Rattle.std.specs.List.Sorted.{IsSorted, IsBinarySearchResult, IsSearchInRange}
use Rattle.std.specs.Option.{option_or}
use Rattle.std.specs.declared.cmp.Ordering.TheVariants.{Less, Equal, Greater}
use Rattle.std.specs.Ordering.{nat_cmp, is_eq}
use Rattle.std.proofs.lemmas.Bool.{cases_lt, eq-eqb}
use Rattle.std.proofs.lemmas.Bool.Decides.{nat_tests}
use Rattle.std.proofs.lemmas.Cmp.{nat_cmp_total}
use Rattle.std.proofs.lemmas.Iterator.Adapters.{position_from-zero}
use Rattle.std.proofs.lemmas.List.Folds.{list_any_at, list_any_none}
use Rattle.std.proofs.lemmas.List.Sorted.{searchable_from_sorted}
use Rattle.play_queue.specs.declared.entry.Entry.{Entry}
use Rattle.play_queue.specs.Positions.{position_of, positions_of, in_front}

-- one of these ids
abbrev pub is_one_of : List ℕ → ℕ → Bool
is_one_of ids id = list_any (λ other. other == id) ids

abbrev pub has_id : ℕ → Entry → Bool
has_id id entry = entry.id == id

-- what is noted of an id, or else where it stands from a position on
abbrev pub noted_or_ahead : Option ℕ → ℕ → List Entry → ℕ → Option ℕ
noted_or_ahead noted at entries id = option_or noted (position_from (has_id id) at entries)

or_assoc : (one other third : Option ℕ) → option_or (option_or one other) third ≡ option_or one (option_or other third)
or_assoc None other third = refl
or_assoc (Some at) other third = refl

or_cond : (b : Bool) (at : ℕ) (ahead : Option ℕ) → option_or (cond b (Some at) None) ahead ≡ cond b (Some at) ahead
or_cond true at ahead = refl
or_cond false at ahead = refl

-- an entry whose position is noted
pub step_noted : (noted later : Option ℕ) (at id : ℕ) (entry : Entry) (entries : List Entry)
    → later ≡ option_or noted (cond (entry.id == id) (Some at) None)
    → noted_or_ahead later (at + 1) entries id ≡ noted_or_ahead noted at (entry ∷ entries) id
step_noted noted later at id entry entries is =
    rw is (or_assoc noted (cond (entry.id == id) (Some at) None) (position_from (has_id id) (at + 1) entries)
    ∙ ap (option_or noted) (or_cond (entry.id == id) at (position_from (has_id id) (at + 1) entries)))

-- an entry with none of the ids
pub step_other : (ids : List ℕ) (noted : Option ℕ) (at id : ℕ) (entry : Entry) (entries : List Entry) → is_one_of ids id ≡ true
    → is_one_of ids entry.id ≡ false
    → noted_or_ahead noted (at + 1) entries id ≡ noted_or_ahead noted at (entry ∷ entries) id
step_other ids noted at id entry entries one none = of (entry.id == id) refl
  where
    of : (b : Bool) → (entry.id == id) ≡ b
        → option_or noted (position_from (has_id id) (at + 1) entries) ≡ option_or noted
        (cond b (Some at) (position_from (has_id id) (at + 1) entries))
    of true same = absurd
        (let equal : entry.id ≡ id = grind (arith, nat_tests) in
        let same_test : is_one_of ids entry.id ≡ is_one_of ids id = ap (is_one_of ids) equal in cc)
    of false other = refl

-- at the end nothing is ahead
pub all_noted : (noted : Option ℕ) (at id : ℕ) (entries : List Entry) → noted_or_ahead noted at [] id ≡ position_from (has_id id) 0 entries
    → noted ≡ position_of entries id
all_noted None at id entries is = is ∙ sym (position_from-zero (has_id id) entries)
all_noted (Some place) at id entries is = is ∙ sym (position_from-zero (has_id id) entries)

is_eq-nat_cmp : (x y : ℕ) → is_eq (nat_cmp x y) ≡ (x == y)
is_eq-nat_cmp x y = by_cases (nat_lt x y) refl (nat_eq x y) refl
  where
    by_cases : (a : Bool) → nat_lt x y ≡ a → (b : Bool) → nat_eq x y ≡ b → is_eq (cond a Less (cond b Equal Greater)) ≡ b
    by_cases true below true same = absurd (grind (arith, nat_tests))
    by_cases true below false other = refl
    by_cases false above true same = refl
    by_cases false above false other = refl

-- a binary search among sorted ids
pub found_is : (ids : List ℕ) (id : ℕ) (r : Result ℕ ℕ) → IsSorted nat_cmp ids → IsSearchInRange r (length ids)
    → IsBinarySearchResult (λ other. nat_cmp other id) ids r → is_ok r ≡ is_one_of ids id
found_is ids id (Ok i) sorted within found =
    sym (list_any_at (λ other. other == id) ids i 0 within (sym (is_eq-nat_cmp (get_or ids i 0) id) ∙ ap is_eq (found 0)))
found_is ids id (Err i) sorted within split =
    let parts = split (searchable_from_sorted nat_cmp_total (λ (x : ℕ). x) ids id sorted) in
    sym (list_any_none (λ other. other == id) ids (λ k d below. of k d (cases_lt k i) (parts.0) (parts.1) below))
  where
    of : (k : ℕ) (d : ℕ) → (k < i) ⊎ (i ≤ k) → ((k : ℕ) (d : ℕ) → 0 ≤ k → k < i → nat_cmp (get_or ids k d) id ≡ Less)
        → ((k : ℕ) (d : ℕ) → i ≤ k → k < length ids → nat_cmp (get_or ids k d) id ≡ Greater) → k < length ids
        → (get_or ids k d == id) ≡ false
    of k d (inl front) less greater below = sym (is_eq-nat_cmp (get_or ids k d) id) ∙ ap is_eq (less k d (omega arith) front)
    of k d (inr back) less greater below = sym (is_eq-nat_cmp (get_or ids k d) id) ∙ ap is_eq (greater k d back below)

-- the positions that were found, in front of those of the ids that are left
abbrev pub found_then : List ℕ → Result (List ℕ) ℕ → Result (List ℕ) ℕ
found_then positions (Ok others) = Ok (positions ++ others)
found_then positions (Err id) = Err id

found_then-in_front : (positions : List ℕ) (at : ℕ) (others : Result (List ℕ) ℕ)
    → found_then (positions ++ at ∷ []) others ≡ found_then positions (in_front at others)
found_then-in_front positions at (Ok others) = ap (λ l. Ok l) (append_assoc positions (at ∷ []) others)
found_then-in_front positions at (Err id) = refl

-- one more id that has a position
pub found_more : (entries : List Entry) (ids positions : List ℕ) (k at : ℕ) → k < length ids
    → position_of entries (get_or ids k 0) ≡ Some at
    → found_then (positions ++ at ∷ []) (positions_of entries (drop (k + 1) ids)) ≡ found_then positions (positions_of entries (drop k ids))
found_more entries ids positions k at within found =
    rw (drop-cons ids k 0 within, found, add-one k) (found_then-in_front positions at (positions_of entries (drop (suc k) ids)))

-- one that has none
pub found_none : (entries : List Entry) (ids positions : List ℕ) (k : ℕ) → k < length ids → position_of entries (get_or ids k 0) ≡ None
    → Err (get_or ids k 0) ≡ found_then positions (positions_of entries (drop k ids))
found_none entries ids positions k within none = rw (drop-cons ids k 0 within, none) refl

-- an id of a list is one of them
pub is_there : (ids : List ℕ) (k : ℕ) → k < length ids → is_one_of ids (get_or ids k 0) ≡ true
is_there ids k within = list_any_at (λ other. other == get_or ids k 0) ids k 0 within (eq-eqb (get_or ids k 0) (get_or ids k 0) refl)
