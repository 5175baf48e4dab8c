-- Two texts are compared a letter at a time.
use Rattle.std.proofs.Common.{◌≡◌, ℕ, Bool, true, false, cond, nat_eq, nat_lt, List, [], ◌∷◌, ◌++◌, length, map, chars, refl, sym, ap, ◌∙◌}
use Rattle.std.proofs.Common.{IsUtf8, arith}
use Rattle.std.specs.Prelude.{encode_utf8}
use Rattle.std.specs.Ordering.{is_eq, nat_cmp, ordering_then}
use Rattle.std.specs.declared.cmp.Ordering.{Ordering}
use Rattle.std.specs.declared.cmp.Ordering.TheVariants.{Less, Equal, Greater}
use Rattle.std.proofs.lemmas.Bool.Decides.{nat_tests}
use Rattle.std.proofs.lemmas.List.{nil_from_length}
use Rattle.std.proofs.lemmas.Str.{chars_past_char, chars-nil}
use Rattle.song_db.specs.Letters.{letter}
use Rattle.song_db.proofs.Rising.{texts}

pub decided : (o p : Ordering) → is_eq o ≡ false → ordering_then o p ≡ o
decided Less p differ = refl
decided Equal p differ = absurd (cc)
decided Greater p differ = refl

pub tied : (o p : Ordering) → is_eq o ≡ true → ordering_then o p ≡ p
tied Less p same = absurd (cc)
tied Equal p same = refl
tied Greater p same = absurd (cc)

itself : (x : ℕ) → Equal ≡ nat_cmp x x
itself x = by_cases (nat_lt x x) refl (nat_eq x x) refl
  where
    by_cases : (b : Bool) → nat_lt x x ≡ b → (c : Bool) → nat_eq x x ≡ c → Equal ≡ cond b Less (cond c Equal Greater)
    by_cases true h c i = absurd (grind (arith, nat_tests))
    by_cases false h true i = refl
    by_cases false h false i = absurd (grind (arith, nat_tests))

-- the same character is the same letter
pub same_letters : (c d : ℕ) → c ≡ d → Equal ≡ nat_cmp (letter c) (letter d)
same_letters c d is = itself (letter c) ∙ ap (λ x. nat_cmp (letter c) (letter x)) is

abbrev pub letters : List ℕ → List ℕ
letters text = map letter (chars text)

pub past : (text rest : List ℕ) (c : ℕ) → IsUtf8 text → text ≡ encode_utf8 c ++ rest → letters text ≡ letter c ∷ letters rest
past text rest c utf8 is = ap (map letter) (chars_past_char text rest c utf8 is)

pub none : (text : List ℕ) → length text ≡ 0 → letters text ≡ []
none text is = ap (map letter) (ap chars (nil_from_length text is) ∙ chars-nil)

-- what is compared can be written otherwise
pub otherwise : (a b x y : List ℕ) (o : Ordering) → texts a b ≡ o → a ≡ x → b ≡ y → texts x y ≡ o
otherwise a b x y o is left right = ap (λ (l : List ℕ). texts l y) (sym left) ∙ ap (texts a) (sym right) ∙ is

-- what the first comparison decides, and what it leaves to the next
pub not_tied : (o p r w : Ordering) → o ≡ p → is_eq o ≡ false → ordering_then p r ≡ w → o ≡ w
not_tied o p r w same differ is = same ∙ sym (decided p r (ap is_eq (sym same) ∙ differ)) ∙ is

pub are_tied : (o p r w : Ordering) → o ≡ p → is_eq o ≡ true → ordering_then p r ≡ w → r ≡ w
are_tied o p r w same equal is = sym (tied p r (ap is_eq (sym same) ∙ equal)) ∙ is

-- the letters in front decide
pub letters_decide : (left right left_rest right_rest : List ℕ) (c d : ℕ) (o w : Ordering) → IsUtf8 left → IsUtf8 right
    → left ≡ encode_utf8 c ++ left_rest → right ≡ encode_utf8 d ++ right_rest → o ≡ nat_cmp (letter c) (letter d) → is_eq o ≡ false
    → texts (letters left) (letters right) ≡ w → o ≡ w
letters_decide left right left_rest right_rest c d o w one two front back same differ is =
    not_tied o (nat_cmp (letter c) (letter d)) (texts (letters left_rest) (letters right_rest)) w same differ
    (otherwise (letters left) (letters right) (letter c ∷ letters left_rest) (letter d ∷ letters right_rest) w is
    (past left left_rest c one front) (past right right_rest d two back))

-- those behind them decide
pub letters_tied : (left right left_rest right_rest : List ℕ) (c d : ℕ) (o w : Ordering) → IsUtf8 left → IsUtf8 right
    → left ≡ encode_utf8 c ++ left_rest → right ≡ encode_utf8 d ++ right_rest → o ≡ nat_cmp (letter c) (letter d) → is_eq o ≡ true
    → texts (letters left) (letters right) ≡ w → texts (letters left_rest) (letters right_rest) ≡ w
letters_tied left right left_rest right_rest c d o w one two front back same equal is =
    are_tied o (nat_cmp (letter c) (letter d)) (texts (letters left_rest) (letters right_rest)) w same equal
    (otherwise (letters left) (letters right) (letter c ∷ letters left_rest) (letter d ∷ letters right_rest) w is
    (past left left_rest c one front) (past right right_rest d two back))

-- one of two texts ends
pub right_ends : (left right left_rest : List ℕ) (c : ℕ) (w : Ordering) → IsUtf8 left → left ≡ encode_utf8 c ++ left_rest → length right ≡ 0
    → texts (letters left) (letters right) ≡ w → Greater ≡ w
right_ends left right left_rest c w one front ends is =
    otherwise (letters left) (letters right) (letter c ∷ letters left_rest) [] w is (past left left_rest c one front) (none right ends)

pub left_ends : (left right right_rest : List ℕ) (d : ℕ) (w : Ordering) → length left ≡ 0 → IsUtf8 right → right ≡ encode_utf8 d ++ right_rest
    → texts (letters left) (letters right) ≡ w → Less ≡ w
left_ends left right right_rest d w ends two back is =
    otherwise (letters left) (letters right) [] (letter d ∷ letters right_rest) w is (none left ends) (past right right_rest d two back)

pub both_end : (left right : List ℕ) (w : Ordering) → length left ≡ 0 → length right ≡ 0 → texts (letters left) (letters right) ≡ w → Equal ≡ w
both_end left right w ends end is = otherwise (letters left) (letters right) [] [] w is (none left ends) (none right end)
