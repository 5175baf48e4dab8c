-- Whether the tags of a row are plain, one after the other.
use Rattle.std.proofs.Common.{◌≡◌, ℕ, ◌+◌, ◌<◌, ◌≤◌, ◌&&◌, nat_lt, nat_le, Bool, true, false, List, ◌∷◌, drop, Some, refl, sym, ap, ◌∙◌}
use Rattle.std.proofs.Common.{arith}
use Rattle.std.specs.Prelude.{slice_get}
use Rattle.std.proofs.lemmas.Bool.Decides.{nat_tests}
use Rattle.std.proofs.lemmas.List.{at_drop_more}
use Rattle.std.proofs.lemmas.Option.{get_or_from_slice_get, slice_get_within}
use Rattle.song_files.specs.Tag.{number_of}
use Rattle.song_files.specs.Tags.{TagText}
use Rattle.song_db.specs.Row.{is_plain_from}

plain_here : (tags : List TagText) (at n : ℕ) (t : TagText) → slice_get tags at ≡ Some t
    → is_plain_from n (drop at tags)
    ≡ (nat_le n (number_of t.tag) && (nat_lt (number_of t.tag) 6 && is_plain_from (number_of t.tag + 1) (drop (at + 1) tags)))
plain_here tags at n t here =
    at_drop_more (is_plain_from n) tags at t (slice_get_within tags at t here)
    ∙ ap (λ (x : TagText). is_plain_from n (x ∷ drop (at + 1) tags)) (get_or_from_slice_get tags at t t here)

-- a number that is too low
pub too_low : (tags : List TagText) (at n m : ℕ) (t : TagText) (all : Bool) → slice_get tags at ≡ Some t
    → m ≡ number_of t.tag → m < n → is_plain_from n (drop at tags) ≡ all → false ≡ all
too_low tags at n m t all here number low so_far =
    let under : nat_le n (number_of t.tag) ≡ false = grind (arith, nat_tests) in
    let none : is_plain_from n (drop at tags) ≡ false = plain_here tags at n t here ∙ rw under refl in
    sym none ∙ so_far

-- or too high
pub too_high : (tags : List TagText) (at n m : ℕ) (t : TagText) (all : Bool) → slice_get tags at ≡ Some t
    → m ≡ number_of t.tag → n ≤ m → 6 ≤ m → is_plain_from n (drop at tags) ≡ all → false ≡ all
too_high tags at n m t all here number rises high so_far =
    let over : nat_le n (number_of t.tag) ≡ true = grind (arith, nat_tests) in
    let past : nat_lt (number_of t.tag) 6 ≡ false = grind (arith, nat_tests) in
    let none : is_plain_from n (drop at tags) ≡ false = plain_here tags at n t here ∙ rw (over, past) refl in
    sym none ∙ so_far

-- one more that is neither
pub plain_more : (tags : List TagText) (at n m : ℕ) (t : TagText) (all : Bool) → slice_get tags at ≡ Some t
    → m ≡ number_of t.tag → n ≤ m → m < 6 → is_plain_from n (drop at tags) ≡ all → is_plain_from (m + 1) (drop (at + 1) tags) ≡ all
plain_more tags at n m t all here number rises low so_far =
    let over : nat_le n (number_of t.tag) ≡ true = grind (arith, nat_tests) in
    let under : nat_lt (number_of t.tag) 6 ≡ true = grind (arith, nat_tests) in
    let rest : is_plain_from n (drop at tags) ≡ is_plain_from (number_of t.tag + 1) (drop (at + 1) tags) =
    plain_here tags at n t here ∙ rw (over, under) refl in
    ap (λ k. is_plain_from (k + 1) (drop (at + 1) tags)) number ∙ sym rest ∙ so_far
