-- Which bytes are the text of a tag.
use Rattle.std.proofs.Common.{◌≡◌, ◌<◌, ◌≤◌, ℕ, List, length, Bool, true, false, Some, None, refl, arith, nat_lt}
use Rattle.std.specs.Prelude.{nat_le, ◌&&◌, not}
use Rattle.std.specs.Str.{is_utf8, IsUtf8}
use Rattle.std.proofs.lemmas.Str.{IsUtf8-from_is_utf8}
use Rattle.std.proofs.lemmas.Bool.Decides.{nat_tests}
use Rattle.song_files.specs.Text.{has_control, is_tag_text, text_or_none}

pub text_passes : (text : List ℕ) → 0 < length text → length text ≤ 512 → is_utf8 text ≡ true → has_control text ≡ false
    → is_tag_text text ≡ true
text_passes text some few utf8 plain =
    let a : nat_lt 0 (length text) ≡ true = grind (arith, nat_tests) in
    let b : nat_le (length text) 512 ≡ true = grind (arith, nat_tests) in
    rw (a, b, utf8, plain) refl

third : (a b n : Bool) → (a && b && false && n) ≡ false
third true true n = refl
third true false n = refl
third false b n = refl

pub bad_utf8 : (text : List ℕ) → is_utf8 text ≡ false → is_tag_text text ≡ false
bad_utf8 text bad = rw bad (third (nat_lt 0 (length text)) (nat_le (length text) 512) (not (has_control text)))

false_by : (b : Bool) → (b ≡ true → ⊥) → b ≡ false
false_by true never = absurd (never refl)
false_by false never = refl

pub no_utf8 : (text : List ℕ) → ¬ IsUtf8 text → is_tag_text text ≡ false
no_utf8 text never = bad_utf8 text (false_by (is_utf8 text) (λ h. never (IsUtf8-from_is_utf8 text h)))

second : (a u n : Bool) → (a && false && u && n) ≡ false
second true u n = refl
second false u n = refl

pub too_long : (text : List ℕ) → 512 < length text → is_tag_text text ≡ false
too_long text long = let b : nat_le (length text) 512 ≡ false = grind (arith, nat_tests) in rw b (second (nat_lt 0 (length text))
    (is_utf8 text) (not (has_control text)))

-- each text of a tag is UTF-8 and has a byte
third_true : (a b u n : Bool) → (a && b && u && n) ≡ true → u ≡ true
third_true true true true n yes' = refl
third_true true true false n yes' = yes'
third_true true false u n yes' = cc
third_true false b u n yes' = cc

pub text_utf8 : (text : List ℕ) → is_tag_text text ≡ true → IsUtf8 text
text_utf8 text good = IsUtf8-from_is_utf8 text (third_true (nat_lt 0 (length text)) (nat_le (length text) 512) (is_utf8 text)
    (not (has_control text)) good)

parts_of : (a b u n : Bool) → (a && b && u && n) ≡ true → (a ≡ true) × (b ≡ true)
parts_of true true u n good = (refl, refl)
parts_of true false u n good = cc
parts_of false b u n good = cc

pub text_short : (text : List ℕ) → is_tag_text text ≡ true → (0 < length text) × (length text ≤ 512)
text_short text good =
    let parts : (nat_lt 0 (length text) ≡ true) × (nat_le (length text) 512 ≡ true) = parts_of (nat_lt 0 (length text))
    (nat_le (length text) 512) (is_utf8 text) (not (has_control text)) good in
    (grind (arith, nat_tests, parts), grind (arith, nat_tests, parts))

pub text_kept : (bytes text : List ℕ) → text ≡ bytes → is_tag_text text ≡ true → Some text ≡ text_or_none bytes
text_kept bytes text same passes = let yes' : is_tag_text bytes ≡ true = rw same at passes in rw (same, yes') refl

pub text_dropped : (bytes : List ℕ) → is_tag_text bytes ≡ false → None ≡ text_or_none bytes
text_dropped bytes fails = rw fails refl
