-- Lists of what stays open: what is taken out, and what holds of all that are left.
use Rattle.std.proofs.Common.{◌≡◌, ℕ, suc, ◌+◌, ◌-◌, ◌<◌, ◌≤◌, Bool, ltb, cond, List, [], ◌∷◌, length, get_or, take, drop, Some, None}
use Rattle.std.proofs.Common.{IfSome, refl, sym, ap, ◌∙◌, subst, arith, append-nil, inl, inr}
use Rattle.std.specs.List.{All, find, position, position_or_len, remove}
use Rattle.std.proofs.lemmas.Bool.{cases_lt, cond_above, cond_below, cond_both}
use Rattle.std.proofs.lemmas.List.{drop_all, take_all}
use Rattle.std.proofs.lemmas.List.Elements.{All-head, All-tail, All-append, All-take, All-drop, All-push}
use Rattle.std.proofs.lemmas.List.Folds.{find_at}
use Rattle.std.proofs.lemmas.Option.{slice_get_past, slice_get_read}
use Rattle.picture_reader.specs.Kept.{with_last}
use Rattle.picture_reader.specs.Limits.{MAX_OPEN}
use Rattle.picture_reader.specs.declared.kept.KeptPicture.{KeptPicture}

-- ---- what is taken out

place_is : (a b at : ℕ) → Some at ≡ cond (ltb a b) (Some a) None → (at ≡ a) × (a < b)
place_is a b at is = elim (cases_lt a b) as (λ _. (at ≡ a) × (a < b)) [
  | inl below ↦ (let same : Some at ≡ Some a = is ∙ sym (cond_below a b (Some a) None below) in (cc, below))
  | inr past ↦ (let none : Some at ≡ None = is ∙ sym (cond_above a b (Some a) None None past refl) in cc)
]

past_end : (a b : ℕ) → None ≡ cond (ltb a b) (Some a) None → b ≤ a
past_end a b is = elim (cases_lt a b) as (λ _. b ≤ a) [
  | inl below ↦ (let none : None ≡ Some a = is ∙ sym (cond_below a b (Some a) None below) in cc)
  | inr past ↦ past
]

-- what stood at the place is the first that passes the test
pub taken_is : {X : Type 0} (test : X → Bool) (xs : List X) (at : ℕ) (x : X) → Some at ≡ position test xs → x ≡ get_or xs at x
    → Some x ≡ find test xs
taken_is test xs at x is item =
    let parts = place_is (position_or_len test xs) (length xs) at is in
    sym (find_at test xs ∙ slice_get_read xs (length xs) (position_or_len test xs) x refl parts.1
    (item ∙ ap (λ n. get_or xs n x) parts.0))

pub left_is : {X : Type 0} (test : X → Bool) (xs ys : List X) (at : ℕ) → Some at ≡ position test xs → ys ≡ remove xs at
    → ys ≡ remove xs (position_or_len test xs)
left_is test xs ys at is left = left ∙ ap (remove xs) (place_is (position_or_len test xs) (length xs) at is).0

pub within_is : {X : Type 0} (test : X → Bool) (xs : List X) (at : ℕ) → Some at ≡ position test xs → at < length xs
within_is test xs at is =
    let parts = place_is (position_or_len test xs) (length xs) at is in
    omega (arith, parts.0, parts.1)

-- none passes it
pub none_is : {X : Type 0} (test : X → Bool) (xs : List X) → None ≡ position test xs → None ≡ find test xs
none_is test xs is = sym (find_at test xs ∙ slice_get_past xs (position_or_len test xs) (past_end (position_or_len test xs) (length xs) is))

pub all_left : {X : Type 0} (test : X → Bool) (xs : List X) → None ≡ position test xs → xs ≡ remove xs (position_or_len test xs)
all_left test xs is =
    let past = past_end (position_or_len test xs) (length xs) is in
    rw (take_all (position_or_len test xs) xs past, drop_all (suc (position_or_len test xs)) xs (omega (arith, past)), append-nil xs) refl

-- ---- what holds of all

pub found_of_all : {X : Type 0} (P : X → Type 0) (test : X → Bool) (xs : List X) → All P xs → IfSome (find test xs) P
found_of_all P test [] all = tt
found_of_all P test (x ∷ xs) all =
    cond_both (test x) (Some x) (find test xs) (λ found. IfSome found P) (λ _. All-head P x xs all)
    (λ _. found_of_all P test xs (All-tail P x xs all))

pub one_of_all : {X : Type 0} (P : X → Type 0) (test : X → Bool) (xs : List X) (x : X) → find test xs ≡ Some x → All P xs → P x
one_of_all P test xs x is all = subst (λ found. IfSome found P) is (found_of_all P test xs all)

pub all_removed : {X : Type 0} (P : X → Type 0) (xs : List X) (i : ℕ) → All P xs → All P (remove xs i)
all_removed P xs i all = All-append P (take i xs) (drop (suc i) xs) (All-take P i xs all) (All-drop P (suc i) xs all)

pub all_with_last : {S : Type 0} (P : KeptPicture S → Type 0) (kept : KeptPicture S) (pictures : List (KeptPicture S)) → All P pictures
    → P kept → All P (with_last kept pictures)
all_with_last P kept pictures all one =
    All-push P (drop (length pictures + 1 - MAX_OPEN) pictures) kept (All-drop P (length pictures + 1 - MAX_OPEN) pictures all) one
