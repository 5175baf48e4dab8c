-- The strings that zeros part, one at a time.
use Rattle.std.proofs.Common.{◌≡◌, ℕ, suc, ◌+◌, ◌<◌, ◌≤◌, List, [], ◌∷◌, length, take, drop, Bool, true, false, cond, Some, None, nat_lt}
use Rattle.std.proofs.Common.{ap, ◌∙◌, sym, refl, arith}
use Rattle.std.specs.Prelude.{position}
use Rattle.std.specs.List.{position_or_len, slice_split}
use Rattle.std.proofs.lemmas.Bool.Decides.{nat_tests}
use Rattle.std.proofs.lemmas.List.Splits.{slice_split_first}
use Rattle.std.specs.List.{onto_first}
use Rattle.std.specs.Prelude.{not}
use Rattle.song_files.specs.Text.{is_tag_text}
use Rattle.id3_tags.specs.Strings.{kept}

some_at : (b : Bool) (n end : ℕ) → cond b (Some n) None ≡ Some end → (b ≡ true) × (n ≡ end)
some_at true n end same = (refl, cc)
some_at false n end same = absurd (cc)

none_at : (b : Bool) (n : ℕ) → cond b (Some n) None ≡ None → b ≡ false
none_at true n same = absurd (cc)
none_at false n same = refl

pub found_within : (p : ℕ → Bool) (xs : List ℕ) (end : ℕ) → Some end ≡ position p xs → end < length xs
found_within p xs end same =
    let h = some_at (nat_lt (position_or_len p xs) (length xs)) (position_or_len p xs) end (sym same) in
    let test : nat_lt (position_or_len p xs) (length xs) ≡ true = h.0 in
    let within : position_or_len p xs < length xs = grind (arith, nat_tests) in
    let e : position_or_len p xs ≡ end = h.1 in omega arith

-- the first string ends at the first zero
pub split_found : (p : ℕ → Bool) (xs : List ℕ) (end : ℕ) → Some end ≡ position p xs
    → slice_split p xs ≡ take end xs ∷ slice_split p (drop (end + 1) xs)
split_found p xs end same =
    let h = some_at (nat_lt (position_or_len p xs) (length xs)) (position_or_len p xs) end (sym same) in
    let test : nat_lt (position_or_len p xs) (length xs) ≡ true = h.0 in
    let within : position_or_len p xs < length xs = grind (arith, nat_tests) in
    slice_split_first p xs 0 within ∙ ap (λ n. take n xs ∷ slice_split p (drop (n + 1) xs)) h.1

split_whole : (p : ℕ → Bool) (xs : List ℕ) → length xs ≤ position_or_len p xs → slice_split p xs ≡ xs ∷ []
split_whole p [] end = refl
split_whole p (x ∷ xs) end =
    (elim (p x) as (λ b. suc (length xs) ≤ cond (not b) (1 + position_or_len p xs) 0
    → cond b ([] ∷ slice_split p xs) (onto_first x (slice_split p xs)) ≡ (x ∷ xs) ∷ []) [
      | true ↦ λ h. absurd (omega arith)
      | false ↦ λ h. (let e : slice_split p xs ≡ xs ∷ [] = split_whole p xs (omega arith) in rw e refl)
    ]) end

pub split_none : (p : ℕ → Bool) (xs : List ℕ) → None ≡ position p xs → slice_split p xs ≡ xs ∷ []
split_none p xs same =
    let test : nat_lt (position_or_len p xs) (length xs) ≡ false = none_at _ (position_or_len p xs) (sym same) in
    split_whole p xs (grind (arith, nat_tests))

pub kept_none : (text : List ℕ) → is_tag_text text ≡ false → [] ≡ kept text
kept_none text fails = rw fails refl
