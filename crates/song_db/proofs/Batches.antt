-- Changes of rows that rise by URI leave them rising; changes of different rows can be exchanged.
use Rattle.std.proofs.Common.{◌≡◌, ℕ, ◌+◌, ◌≤◌, List, [], ◌∷◌, ◌++◌, length, refl, sym, ap, ◌∙◌, arith, append-nil, length-append, subst}
use Rattle.std.specs.declared.cmp.Ordering.{Ordering}
use Rattle.std.specs.declared.cmp.Ordering.TheVariants.{Less, Equal, Greater}
use Rattle.std.specs.Cmp.Lexicographic.{nat_list_cmp_total}
use Rattle.std.specs.Ordering.{match_ordering, ordering_reverse}
use Rattle.std.specs.List.{AllByRecursion}
use Rattle.std.specs.List.Sorted.{IsStrictlySortedBy}
use Rattle.std.proofs.lemmas.Map.Keys.{sorted_head, sorted_tail}
use Rattle.song_db.specs.declared.change.RowChange.{RowChange}
use Rattle.song_db.specs.declared.change.RowChange.TheVariants.{Put, Drop}
use Rattle.song_db.specs.Change.{IsDatabase, uri_of, rows_of, changed}
use Rattle.song_db.specs.Replaced.{by_text, IsRising, replaced}
use Rattle.song_db.specs.Row.{Row, row_uri}
use Rattle.song_db.proofs.Rising.{texts}

pub empty_database : IsDatabase []
unfolding IsStrictlySortedBy
empty_database = record { few = omega arith; rising = tt }

pub rising_cons : {X : Type 0} (text : X → List ℕ) (x : X) (xs : List X)
    → AllByRecursion (λ y. texts (text x) (text y) ≡ Less) xs → IsRising text xs → IsRising text (x ∷ xs)
unfolding IsStrictlySortedBy
rising_cons text x xs first rest = (first, rest)

-- at most one thing, which stands under the key
pub record IsNew {X : Type 0} (text : X → List ℕ) (key : List ℕ) (new : List X) : Type 0 where
  pub keyed : AllByRecursion (λ x. text x ≡ key) new
  pub few : length new ≤ 1

pub new-rows_of : (change : RowChange) → IsNew row_uri (uri_of change) (rows_of change)
new-rows_of (Put row) = record { keyed = (refl, tt); few = omega arith }
new-rows_of (Drop uri) = record { keyed = tt; few = omega arith }

-- behind a text
abbrev pub AreBehind : {X : Type 0} → (X → List ℕ) → List ℕ → List X → Type 0
AreBehind text key xs = AllByRecursion (λ x. texts key (text x) ≡ Less) xs

pub flip : (a b : List ℕ) → texts a b ≡ Greater → texts b a ≡ Less
flip a b greater = nat_list_cmp_total.antisymm b a ∙ ap ordering_reverse greater

pub behind_trans : {X : Type 0} (text : X → List ℕ) (key other : List ℕ) (xs : List X) → texts key other ≡ Less
    → AreBehind text other xs → AreBehind text key xs
behind_trans text key other [] less behind = tt
behind_trans text key other (x ∷ xs) less behind = (
  nat_list_cmp_total.trans key other (text x) less behind.0,
  behind_trans text
      key other xs less behind.1,
)

pub behind_equal : {X : Type 0} (text : X → List ℕ) (key other : List ℕ) (xs : List X) → texts key other ≡ Equal
    → AreBehind text other xs → AreBehind text key xs
behind_equal text key other [] same behind = tt
behind_equal text key other (x ∷ xs) same behind = (
  nat_list_cmp_total.congr key other (text x) same
      ∙ behind.0,
  behind_equal text key other xs same behind.1,
)

pub behind_keyed : {X : Type 0} (text : X → List ℕ) (key other : List ℕ) (new : List X) → texts other key ≡ Less
    → AllByRecursion (λ x. text x ≡ key) new → AreBehind text other new
behind_keyed text key other [] less keyed = tt
behind_keyed text key other (x ∷ xs) less keyed = (ap (texts other) keyed.0 ∙ less, behind_keyed text key other xs less keyed.1)

pub behind_append : {X : Type 0} (text : X → List ℕ) (key : List ℕ) (xs ys : List X) → AreBehind text key xs
    → AreBehind text key ys → AreBehind text key (xs ++ ys)
behind_append text key [] ys front back = back
behind_append text key (x ∷ xs) ys front back = (front.0, behind_append text key xs ys front.1 back)

pub behind_replaced : {X : Type 0} (text : X → List ℕ) (low key : List ℕ) (new xs : List X) → AreBehind text low new
    → AreBehind text low xs → AreBehind text low (replaced text key new xs)
behind_replaced text low key new [] front back = front
behind_replaced {X} text low key new (x ∷ xs) front back = by_cases (texts key (text x)) (behind_replaced text low key new xs front back.1)
  where
    by_cases : (o : Ordering) → AreBehind text low (replaced text key new xs)
        → AreBehind text low (match_ordering o (new ++ x ∷ xs) (new ++ xs) (x ∷ replaced text key new xs))
    by_cases Less rest = behind_append text low new (x ∷ xs) front back
    by_cases Equal rest = behind_append text low new xs front back.1
    by_cases Greater rest = (back.0, rest)

attach : {X : Type 0} (text : X → List ℕ) (key : List ℕ) (new xs : List X) → IsNew text key new → AreBehind text key xs
    → IsRising text xs → IsRising text (new ++ xs)
attach text key [] xs is_new behind rising = rising
attach text key (x ∷ []) xs is_new behind rising = let P : List ℕ
    → Type 0 = λ k. AreBehind text k xs in rising_cons text x xs (subst P (sym is_new.keyed.0) behind) rising
attach text key (x ∷ y ∷ more) xs is_new behind rising = absurd (let few : length (x ∷ y ∷ more) ≤ 1 = is_new.few in omega arith)

pub rising_replaced : {X : Type 0} (text : X → List ℕ) (key : List ℕ) (new xs : List X) → IsNew text key new → IsRising text xs
    → IsRising text (replaced text key new xs)
rising_replaced text key new [] is_new rising = subst (IsRising text) (append-nil new) (attach text key new [] is_new tt rising)
rising_replaced {X} text key new (x ∷ xs) is_new rising = by_cases (texts key (text x)) refl (rising_replaced text key new xs is_new rest)
  where
    rest : IsRising text xs
    rest = sorted_tail (by_text text) x xs rising

    behind : AreBehind text (text x) xs
    behind = sorted_head (by_text text) x xs rising

    by_cases : (o : Ordering) → texts key (text x) ≡ o → IsRising text (replaced text key new xs)
        → IsRising text (match_ordering o (new ++ x ∷ xs) (new ++ xs) (x ∷ replaced text key new xs))
    by_cases Less h r = attach text key new (x ∷ xs) is_new (h, behind_trans text key (text x) xs h behind) rising
    by_cases Equal h r = attach text key new xs is_new (behind_equal text key (text x) xs h behind) rest
    by_cases Greater h r = rising_cons text x (replaced text key new xs) (behind_replaced text (text x) key new xs (behind_keyed
        text key (text x) new (flip key (text x) h) is_new.keyed) behind) r

pub rising_changed : (change : RowChange) (rows : List Row) → IsRising row_uri rows → IsRising row_uri (changed change rows)
rising_changed change rows rising = rising_replaced row_uri (uri_of change) (rows_of change) rows (new-rows_of change) rising

pub length_replaced : {X : Type 0} (text : X → List ℕ) (key : List ℕ) (new xs : List X)
    → length (replaced text key new xs) ≤ length new + length xs
length_replaced text key new [] = omega arith
length_replaced {X} text key new (x ∷ xs) = by_cases (texts key (text x)) (length_replaced text key new xs)
  where
    by_cases : (o : Ordering) → length (replaced text key new xs) ≤ length new + length xs
        → length (match_ordering o (new ++ x ∷ xs) (new ++ xs) (x ∷ replaced text key new xs)) ≤ length new + length (x ∷ xs)
    by_cases Less rest = omega (arith, length-append new (x ∷ xs))
    by_cases Equal rest = omega (arith, length-append new xs)
    by_cases Greater rest = omega arith
