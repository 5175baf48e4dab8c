-- The digits that a text begins with, and their number.
use Rattle.std.proofs.Common.{◌≡◌, ℕ, zero, suc, ◌+◌, ◌<◌, ◌≤◌, ◌^◌, Bool, true, false, ◌&&◌, not, nat_eq, nat_lt, min, List, [], ◌∷◌, ◌++◌}
use Rattle.std.proofs.Common.{length, take, drop, get_or, Option, Some, None, cond, refl, sym, ap, ◌∙◌, arith, add-one, drop-cons, take-suc, append_assoc}
use Rattle.std.proofs.lemmas.List.{append-nil, drop_all, take_all}
use Rattle.std.proofs.lemmas.Bool.{and_from, ltb-true, ltb-false, ne_eqb}
use Rattle.std.specs.Char.{is_ascii_digit}
use Rattle.std.specs.List.{list_all}
use Rattle.std.specs.Option.{unwrap_or}
use Rattle.std.specs.Str.Parse.{digits_value}
use Rattle.song_head.specs.Numbers.{are_digits, digits_in_front, digits_of}

drop_at : (s : List ℕ) (q : ℕ) → q < length s → drop q s ≡ get_or s q 0 ∷ drop (q + 1) s
drop_at s q h = rw (add-one, drop-cons s q 0) refl

take_more : (s : List ℕ) (i : ℕ) → i < length s → take (i + 1) s ≡ take i s ++ get_or s i 0 ∷ []
take_more s i h = rw (add-one, take-suc s i 0) refl

pub front_more : (text : List ℕ) (i : ℕ) → i < length text → is_ascii_digit (get_or text i 0) ≡ true
    → take (i + 1) text ++ digits_in_front (drop (i + 1) text) ≡ take i text ++ digits_in_front (drop i text)
front_more text i lt h =
    let here : digits_in_front (drop i text) ≡ get_or text i 0 ∷ digits_in_front (drop (i + 1) text) =
    ap digits_in_front (drop_at text i lt) ∙ rw h refl in
    ap (λ (s : List ℕ). s ++ digits_in_front (drop (i + 1) text)) (take_more text i lt)
    ∙ append_assoc (take i text) (get_or text i 0 ∷ []) (digits_in_front (drop (i + 1) text))
    ∙ ap (λ (s : List ℕ). take i text ++ s) (sym here)

pub front_stop : (text : List ℕ) (i : ℕ) → i < length text → is_ascii_digit (get_or text i 0) ≡ false
    → take i text ≡ take i text ++ digits_in_front (drop i text)
front_stop text i lt h =
    let here : digits_in_front (drop i text) ≡ [] = ap digits_in_front (drop_at text i lt) ∙ rw h refl in
    sym (append-nil (take i text)) ∙ ap (λ (s : List ℕ). take i text ++ s) (sym here)

pub front_end : (text : List ℕ) (i : ℕ) → length text ≤ i → text ≡ take i text ++ digits_in_front (drop i text)
front_end text i end =
    let here : digits_in_front (drop i text) ≡ [] = ap digits_in_front (drop_all i text end) in
    sym (append-nil text) ∙ ap (λ (s : List ℕ). s ++ []) (sym (take_all i text end)) ∙ ap (λ (s : List ℕ). take i text ++ s) (sym here)

all_front : (text : List ℕ) → list_all is_ascii_digit (digits_in_front text) ≡ true
all_front [] = refl
all_front (b ∷ text) = by_cases (is_ascii_digit b) refl (all_front text)
  where
    by_cases : (d : Bool) → is_ascii_digit b ≡ d → list_all is_ascii_digit (digits_in_front text) ≡ true
        → list_all is_ascii_digit (cond d (b ∷ digits_in_front text) []) ≡ true
    by_cases true e more = and_from (is_ascii_digit b) (list_all is_ascii_digit (digits_in_front text)) e more
    by_cases false e more = refl

some_digits : (word : List ℕ) → 0 < length word → list_all is_ascii_digit word ≡ true → are_digits word ≡ true
some_digits [] lt all = absurd (omega arith)
some_digits (b ∷ word) lt all =
    let some : nat_eq (length (b ∷ word)) 0 ≡ false = ne_eqb (length (b ∷ word)) 0 (λ e. omega (arith, e)) in
    rw some all

value_or : (word : List ℕ) (fits : Bool) → are_digits word ≡ true → nat_lt (digits_value 10 word) (2 ^ 64) ≡ fits
    → unwrap_or (digits_of word) 18446744073709551615 ≡ min (digits_value 10 word) 18446744073709551615
unfolding digits_of
value_or word true are e =
    let low : digits_value 10 word < 2 ^ 64 = ltb-true (digits_value 10 word) (2 ^ 64) e in
    rw (are, e) (omega (arith, low))
value_or word false are e =
    let high : 2 ^ 64 ≤ digits_value 10 word = ltb-false (digits_value 10 word) (2 ^ 64) e in
    rw (are, e) (omega (arith, high))

pub front_value : (text : List ℕ) → 0 < length (digits_in_front text)
    → unwrap_or (digits_of (digits_in_front text)) 18446744073709551615 ≡ min (digits_value 10 (digits_in_front text)) 18446744073709551615
front_value text lt =
    let front = digits_in_front text in
    value_or front (nat_lt (digits_value 10 front) (2 ^ 64)) (some_digits front lt (all_front text)) refl

pub no_front : (text : List ℕ) → length (digits_in_front text) ≡ 0 → 0 ≡ min (digits_value 10 (digits_in_front text)) 18446744073709551615
no_front text e = by_cases (digits_in_front text) e
  where
    by_cases : (front : List ℕ) → length front ≡ 0 → 0 ≡ min (digits_value 10 front) 18446744073709551615
    by_cases [] e = refl
    by_cases (b ∷ front) e = absurd (omega (arith, e))
