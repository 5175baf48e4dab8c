-- A word of decimal digits is text, and parses to its number.
use Rattle.std.proofs.Common.{◌≡◌, ℕ, ◌<◌, ◌^◌, List, [], ◌∷◌, length, Bool, true, false, ◌&&◌, Some, None, Result, Ok, Err, if◌then◌else◌}
use Rattle.std.proofs.Common.{nat_lt, refl, sym, subst, ◌∙◌, ap, arith, rules}
use Rattle.std.proofs.lemmas.Option.{same_Some}
use Rattle.std.proofs.lemmas.Str.{IsUtf8-from_ascii}
use Rattle.std.proofs.lemmas.Fmt.{IsAscii-from_digits}
use Rattle.std.proofs.lemmas.Str.Parse.{IsNumeralModel, IsDigitsTest, numerals_by_value, parse_digits}
use Rattle.std.proofs.lemmas.Bool.Decides.{Decides-ltb}
use Rattle.std.specs.Char.{is_ascii_digit}
use Rattle.std.specs.List.{list_all}
use Rattle.std.specs.Result.{MatchResult, result_ok}
use Rattle.std.specs.Str.{IsUtf8}
use Rattle.std.specs.Str.Parse.{ParsesUnsigned, digits_value}
use Rattle.song_head.specs.Numbers.{are_digits, digits_of}

is_not : (b : Bool) → (b ≡ true → ⊥) → b ≡ false
is_not true h = absurd (h refl)
is_not false h = refl

both : (a b : Bool) → (a && b) ≡ true → (a ≡ true) × (b ≡ true)
both true true e = (refl, refl)
both true false e = cc
both false b e = cc

digits_test : IsDigitsTest (λ ds. list_all is_ascii_digit ds ≡ true)
digits_test = search rules

own : IsNumeralModel (λ ds. list_all is_ascii_digit ds ≡ true) (digits_value 10)
own = numerals_by_value (λ ds. list_all is_ascii_digit ds ≡ true) digits_test

all_digits : (word : List ℕ) → are_digits word ≡ true → list_all is_ascii_digit word ≡ true
all_digits word h = (both _ _ h).1

filled : (word : List ℕ) → are_digits word ≡ true → 0 < length word
filled [] h = cc
filled (c ∷ word) h = omega arith

pub is_text : (word : List ℕ) → are_digits word ≡ true → IsUtf8 word
is_text word h = IsUtf8-from_ascii word (IsAscii-from_digits word (own.to word (all_digits word h)))

digits_at : (word : List ℕ) (fits : Bool) → are_digits word ≡ true → nat_lt (digits_value 10 word) (2 ^ 64) ≡ fits
    → digits_of word ≡ (if fits then Some (digits_value 10 word) else None)
unfolding digits_of
digits_at word fits h f = rw (h, f) refl

pub is_parsed : {E : Type 0} (word : List ℕ) (r : Result ℕ E) → are_digits word ≡ true → ParsesUnsigned 64 10 word r
    → result_ok r ≡ digits_of word
is_parsed {E} word (Ok x) h p =
    let q = parse_digits own {E = E} 64 word (Ok x) p (all_digits word h) in
    let fits : nat_lt (digits_value 10 word) (2 ^ 64) ≡ true = (Decides-ltb (digits_value 10 word) (2 ^ 64)).1 q.0.1 in
    ap (λ (n : ℕ). Some n) q.1 ∙ sym (digits_at word true h fits)
is_parsed {E} word (Err e) h p =
    let q = parse_digits own {E = E} 64 word (Err e) p (all_digits word h) in
    let fits : nat_lt (digits_value 10 word) (2 ^ 64) ≡ false =
    is_not (nat_lt (digits_value 10 word) (2 ^ 64)) (λ t. q (filled word h, (Decides-ltb (digits_value 10 word) (2 ^ 64)).0 t)) in
    sym (digits_at word false h fits)

pub at_ok : {A E : Type 0} (r : Result A E) (P : A → Type 0) (Q : E → Type 0) (x : A) → MatchResult r P Q → Some x ≡ result_ok r → P x
at_ok (Ok y) P Q x h e = subst P (sym (same_Some x y e)) h
at_ok (Err d) P Q x h e = cc

pub never_err : {A E : Type 0} (r : Result A E) (P : A → Type 0) (Q : E → Type 0) → MatchResult r P Q → ((d : E) → Q d → ⊥)
    → None ≡ result_ok r → ⊥
never_err (Ok y) P Q h n e = cc
never_err (Err d) P Q h n e = n d h
