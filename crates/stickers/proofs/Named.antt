-- Lists under names, rising by the names' bytes.
use Rattle.std.proofs.Common.{◌≡◌, ℕ, Bool, true, false, not, cond, List, [], ◌∷◌, Some, None, refl, sym, ap, ◌∙◌}
use Rattle.std.specs.declared.cmp.Ordering.{Ordering}
use Rattle.std.specs.declared.cmp.Ordering.TheVariants.{Less, Equal, Greater}
use Rattle.std.specs.Ordering.{nat_cmp, match_ordering, is_eq}
use Rattle.std.specs.Cmp.Lexicographic.{slice_cmp, nat_list_cmp_total}
use Rattle.std.specs.List.{AllByRecursion}
use Rattle.std.specs.Str.{bytes_eq}
use Rattle.std.specs.Map.{keys_of, remove_entry, set_value}
use Rattle.std.proofs.lemmas.Map.Text.{is_eq-slice_cmp}
use Rattle.std.proofs.lemmas.Map.Keys.{sorted_head, sorted_tail}
use Rattle.std.proofs.lemmas.Slice.Eq.{bytes_eq-Decides}
use Rattle.stickers.specs.Named.{IsRising, under, with_name, without_name}

-- with something else under a name that is there
abbrev pub with_other : {X : Type 0} → List (List ℕ × X) → List ℕ → X → List (List ℕ × X)
with_other named name x = set_value (bytes_eq name) named x

-- the name is below all of them
abbrev pub IsBefore : {X : Type 0} → List ℕ → List (List ℕ × X) → Type 0
IsBefore name named = AllByRecursion (λ other. slice_cmp nat_cmp name other ≡ Less) (keys_of named)

pub before_tail : {X : Type 0} (e : List ℕ × X) (named : List (List ℕ × X)) → IsRising (e ∷ named) → IsBefore e.0 named
before_tail e named rising = sorted_head (slice_cmp nat_cmp) e.0 (keys_of named) rising

pub rising_tail : {X : Type 0} (e : List ℕ × X) (named : List (List ℕ × X)) → IsRising (e ∷ named) → IsRising named
rising_tail e named rising = sorted_tail (slice_cmp nat_cmp) e.0 (keys_of named) rising

-- a name that is below another is below all that this is below
pub before_trans : {X : Type 0} (named : List (List ℕ × X)) (name other : List ℕ) → slice_cmp nat_cmp name other ≡ Less
    → IsBefore other named → IsBefore name named
before_trans [] name other less before = tt
before_trans (e ∷ named) name other less before =
    (nat_list_cmp_total.trans name other e.0 less before.0, before_trans named name other less before.1)

-- and none of them is it
pub apart_before : (name other : List ℕ) → slice_cmp nat_cmp name other ≡ Less → bytes_eq name other ≡ false
apart_before name other less = sym (is_eq-slice_cmp name other) ∙ ap is_eq less

pub without_before : {X : Type 0} (named : List (List ℕ × X)) (name : List ℕ) → IsBefore name named → without_name named name ≡ named
without_before [] name before = refl
without_before (e ∷ named) name before = rw (apart_before name e.0 before.0) (ap (λ l. e ∷ l) (without_before named name before.1))

pub under_before : {X : Type 0} (named : List (List ℕ × X)) (name : List ℕ) → IsBefore name named → under named name ≡ None
under_before [] name before = refl
under_before (e ∷ named) name before = rw (apart_before name e.0 before.0) (under_before named name before.1)

-- what is put under a name that is there takes the old one's place
pub with_name_there : {X : Type 0} (named : List (List ℕ × X)) (name : List ℕ) (x old : X) → IsRising named → under named name ≡ Some old
    → with_name named name x ≡ with_other named name x
with_name_there [] name x old rising found = absurd (cc)
with_name_there (e ∷ named) name x old rising found =
    rw (← is_eq-slice_cmp name e.0) (by_cases (slice_cmp nat_cmp name e.0) refl (rw (← is_eq-slice_cmp name e.0) at found)
    (with_name_there named name x old (rising_tail e named rising)))
  where
    by_cases : (o : Ordering) → slice_cmp nat_cmp name e.0 ≡ o → cond (is_eq o) (Some e.1) (under named name) ≡ Some old
        → (under named name ≡ Some old → with_name named name x ≡ with_other named name x)
        → match_ordering o ((name, x) ∷ e ∷ named) ((e.0, x) ∷ named) (e ∷ with_name named name x)
        ≡ cond (is_eq o) ((e.0, x) ∷ named) (e ∷ with_other named name x)
    by_cases Less is found rest =
        let none : under named name ≡ None = under_before named name (before_trans named name e.0 is (before_tail e named rising)) in
        absurd (cc)
    by_cases Equal is found rest = refl
    by_cases Greater is found rest = ap (λ l. e ∷ l) (rest found)

pub same_name : (name other : List ℕ) → bytes_eq name other ≡ true → name ≡ other
same_name name other same = (bytes_eq-Decides name other).0 same

-- each name comes once, so the first is all of them
pub remove_entry-without : {X : Type 0} (named : List (List ℕ × X)) (name : List ℕ) → IsRising named
    → remove_entry (bytes_eq name) named ≡ without_name named name
remove_entry-without [] name rising = refl
remove_entry-without (e ∷ named) name rising =
    by_cases (bytes_eq name e.0) refl (remove_entry-without named name (rising_tail e named rising))
  where
    by_cases : (b : Bool) → bytes_eq name e.0 ≡ b → remove_entry (bytes_eq name) named ≡ without_name named name
        → cond b named (e ∷ remove_entry (bytes_eq name) named) ≡ cond (not b) (e ∷ without_name named name) (without_name named name)
    by_cases true same rest = sym (rw (same_name name e.0 same) (without_before named e.0 (before_tail e named rising)))
    by_cases false same rest = ap (λ l. e ∷ l) rest
