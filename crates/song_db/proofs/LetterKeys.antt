-- Texts as numbers, which are compared in two steps.
use Rattle.std.proofs.Common.{◌≡◌, ℕ, zero, suc, ◌+◌, ◌<◌, Bool, true, false, List, [], ◌∷◌, ◌++◌, map, get_or, chars}
use Rattle.std.proofs.Common.{nat_lt, nat_eq, Some, None, cond, refl, sym, ap, ◌∙◌, arith, append_assoc}
use Rattle.std.specs.Prelude.{Option}
use Rattle.std.specs.List.{position}
use Rattle.std.specs.Ordering.{nat_cmp, ordering_then}
use Rattle.std.specs.declared.cmp.Ordering.{Ordering}
use Rattle.std.specs.declared.cmp.Ordering.TheVariants.{Less, Equal, Greater}
use Rattle.std.proofs.lemmas.Bool.{lt-ltb}
use Rattle.std.proofs.lemmas.Bool.Decides.{nat_tests}
use Rattle.std.proofs.lemmas.List.{append-nil}
use Rattle.std.proofs.lemmas.List.FromFn.{get_or-map-range_with_len}
use Rattle.song_db.specs.Letters.{ascii_letter, ascii_letters, base_of, letter, sign_or_letter, signs, text_cmp, text_key}
use Rattle.song_db.proofs.Rising.{texts}

-- no number is 0
abbrev pub Positive : List ℕ → Type 0
Positive [] = Unit {0}
Positive (x ∷ xs) = (0 < x) × Positive xs

then_equal : (o : Ordering) → ordering_then o Equal ≡ o
then_equal Less = refl
then_equal Equal = refl
then_equal Greater = refl

then_again : (o p q : Ordering) → ordering_then (ordering_then o p) q ≡ ordering_then o (ordering_then p q)
then_again Less p q = refl
then_again Equal p q = refl
then_again Greater p q = refl

zero_less : (y : ℕ) → nat_cmp 0 (suc y) ≡ Less
zero_less y = by_cases (nat_lt 0 (suc y)) refl
  where
    by_cases : (b : Bool) → nat_lt 0 (suc y) ≡ b → cond b Less (cond (nat_eq 0 (suc y)) Equal Greater) ≡ Less
    by_cases true h = refl
    by_cases false h = absurd (grind (arith, nat_tests))

greater_zero : (x : ℕ) → nat_cmp (suc x) 0 ≡ Greater
greater_zero x = by_cases (nat_lt (suc x) 0) refl (nat_eq (suc x) 0) refl
  where
    by_cases : (b : Bool) → nat_lt (suc x) 0 ≡ b → (c : Bool) → nat_eq (suc x) 0 ≡ c → cond b Less (cond c Equal Greater) ≡ Greater
    by_cases true h c i = absurd (grind (arith, nat_tests))
    by_cases false h true i = absurd (grind (arith, nat_tests))
    by_cases false h false i = refl

-- what a 0 ends is compared before what follows
pub ended : (xs ys r s : List ℕ) → Positive xs → Positive ys
    → texts (xs ++ 0 ∷ r) (ys ++ 0 ∷ s) ≡ ordering_then (texts xs ys) (texts r s)
ended [] [] r s a b = refl
ended [] (zero ∷ ys) r s a b = absurd (let no : 0 < 0 = b.0 in omega (arith, no))
ended [] (suc y ∷ ys) r s a b = ap (λ o. ordering_then o (texts r (ys ++ 0 ∷ s))) (zero_less y)
ended (zero ∷ xs) [] r s a b = absurd (let no : 0 < 0 = a.0 in omega (arith, no))
ended (suc x ∷ xs) [] r s a b = ap (λ o. ordering_then o (texts (xs ++ 0 ∷ r) s)) (greater_zero x)
ended (x ∷ xs) (y ∷ ys) r s a b =
    ap (ordering_then (nat_cmp x y)) (ended xs ys r s a.1 b.1) ∙ sym (then_again (nat_cmp x y) (texts xs ys) (texts r s))

-- ---- letters

pub at_letter : (c : ℕ) → c < 128 → get_or ascii_letters c 0 ≡ letter c
unfolding ascii_letters letter
at_letter c low =
    let is : nat_lt c 128 ≡ true = lt-ltb c 128 low in
    get_or-map-range_with_len ascii_letter 0 128 c c 0 low (omega arith) ∙ sym (rw is refl)

above_zero : (place : Option ℕ) (c : ℕ) → 0 < sign_or_letter place c
above_zero (Some place) c = omega arith
above_zero None c = omega arith

letter_positive : (c : ℕ) → 0 < letter c
unfolding letter
letter_positive c = by_cases (nat_lt c 128)
  where
    by_cases : (b : Bool) → 0 < cond b (ascii_letter c) (base_of c + 64)
    by_cases true = above_zero (position (λ s. nat_eq s c) signs) c
    by_cases false = omega arith

letters_positive : (cs : List ℕ) → Positive (map letter cs)
letters_positive [] = tt
letters_positive (c ∷ cs) = (letter_positive c, letters_positive cs)

-- ---- bytes

bytes_positive : (text : List ℕ) → Positive (map suc text)
bytes_positive [] = tt
bytes_positive (b ∷ text) = (omega arith, bytes_positive text)

suc_cmp : (x y : ℕ) → nat_cmp (suc x) (suc y) ≡ nat_cmp x y
suc_cmp x y = by_cases (nat_lt x y) refl (nat_eq x y) refl (nat_lt (suc x) (suc y)) refl (nat_eq (suc x) (suc y)) refl
  where
    by_cases : (a : Bool) → nat_lt x y ≡ a → (b : Bool) → nat_eq x y ≡ b → (c : Bool) → nat_lt (suc x) (suc y) ≡ c
        → (d : Bool) → nat_eq (suc x) (suc y) ≡ d → cond c Less (cond d Equal Greater) ≡ cond a Less (cond b Equal Greater)
    by_cases true h b i true j d k = refl
    by_cases true h b i false j d k = absurd (grind (arith, nat_tests))
    by_cases false h b i true j d k = absurd (grind (arith, nat_tests))
    by_cases false h true i false j true k = refl
    by_cases false h true i false j false k = absurd (grind (arith, nat_tests))
    by_cases false h false i false j true k = absurd (grind (arith, nat_tests))
    by_cases false h false i false j false k = refl

bytes_cmp : (a b : List ℕ) → texts (map suc a) (map suc b) ≡ texts a b
bytes_cmp [] [] = refl
bytes_cmp [] (y ∷ ys) = refl
bytes_cmp (x ∷ xs) [] = refl
bytes_cmp (x ∷ xs) (y ∷ ys) = ap (λ o. ordering_then o (texts (map suc xs) (map suc ys))) (suc_cmp x y)
    ∙ ap (ordering_then (nat_cmp x y)) (bytes_cmp xs ys)

-- ---- texts with what follows

pub keys_cmp : (a b r s : List ℕ) → texts (text_key a ++ r) (text_key b ++ s) ≡ ordering_then (text_cmp a b) (texts r s)
unfolding text_key
keys_cmp a b r s =
    ap (λ (l : List ℕ). texts l (text_key_of b s)) (parted a r) ∙ ap (texts (letters a ++ 0 ∷ (map suc a ++ 0 ∷ r))) (parted b s)
    ∙ ended (letters a) (letters b) (map suc a ++ 0 ∷ r) (map suc b ++ 0 ∷ s) (letters_positive (chars a)) (letters_positive (chars b))
    ∙ ap (ordering_then (texts (letters a) (letters b))) (ended (map suc a) (map suc b) r s (bytes_positive a) (bytes_positive b)
    ∙ ap (λ o. ordering_then o (texts r s)) (bytes_cmp a b))
    ∙ sym (then_again (texts (letters a) (letters b)) (texts a b) (texts r s))
  where
    letters : List ℕ → List ℕ
    letters text = map letter (chars text)

    text_key_of : List ℕ → List ℕ → List ℕ
    text_key_of text more = (letters text ++ 0 ∷ (map suc text ++ 0 ∷ [])) ++ more

    parted : (text more : List ℕ) → text_key_of text more ≡ letters text ++ 0 ∷ (map suc text ++ 0 ∷ more)
    parted text more = append_assoc (letters text) (0 ∷ (map suc text ++ 0 ∷ [])) more
        ∙ ap (λ (l : List ℕ). letters text ++ 0 ∷ l) (append_assoc (map suc text) (0 ∷ []) more)

pub key_cmp : (a b : List ℕ) → texts (text_key a) (text_key b) ≡ text_cmp a b
key_cmp a b = ap (λ (l : List ℕ). texts l (text_key b)) (sym (append-nil (text_key a)))
    ∙ ap (texts (text_key a ++ [])) (sym (append-nil (text_key b))) ∙ keys_cmp a b [] [] ∙ then_equal (text_cmp a b)
