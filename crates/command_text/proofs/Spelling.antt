-- How the inside of quotes stands for its bytes.
use Rattle.std.proofs.Common.{◌≡◌, ◌≢◌, ◌⊎◌, inl, inr, ℕ, ◌+◌, ◌<◌, ◌≤◌, List, [], ◌∷◌, ◌++◌, length, take, drop, get_or, Bool, true, false}
use Rattle.std.proofs.Common.{◌&&◌, not, ◌==◌, refl, sym, ◌∙◌, ap, None, append_assoc, arith}
use Rattle.std.proofs.lemmas.List.{append-nil, take-append-drop}
use Rattle.std.proofs.lemmas.Bool.Decides.{Decides-eqb}
use Rattle.std.proofs.Math.ListN.{drop_of_length-le}
use Rattle.std.specs.List.{list_all}
use Rattle.std.specs.Str.{bytes_eq}
use Rattle.memchr.specs.Find.{IsFirstByte, NoneBefore, Passes, is_byte}
use Rattle.command_text.specs.Words.{backslash}
use Rattle.command_text.specs.NextWord.{unescaped, unescaped_from}
use Rattle.command_text.proofs.Lists.{drop_at, take_whole, all_before}
use Rattle.command_text.proofs.Searches.{behind, behind_is, not_true}

both : (a b : Bool) → (a && b) ≡ true → (a ≡ true) × (b ≡ true)
both true true e = (refl, refl)
both true false e = cc
both false b e = cc

not_false : (b : Bool) → not b ≡ true → b ≡ false
not_false true e = cc
not_false false e = refl

abbrev pub is_literal : ℕ → Bool
is_literal c = not (c == backslash)

pub literal_step : (c : ℕ) (rest : List ℕ) → (c == backslash) ≡ false → unescaped (c ∷ rest) ≡ c ∷ unescaped rest
unfolding unescaped_from
literal_step c rest h = rw h refl

literal_run : (run rest : List ℕ) → list_all is_literal run ≡ true → unescaped (run ++ rest) ≡ run ++ unescaped rest
literal_run [] rest h = refl
literal_run (c ∷ run) rest h =
    let p = both (is_literal c) (list_all is_literal run) h in
    literal_step c (run ++ rest) (not_false (c == backslash) p.0) ∙ ap (λ (l : List ℕ). c ∷ l) (literal_run run rest p.1)

pub escape_step : (c : ℕ) (rest : List ℕ) → unescaped (backslash ∷ c ∷ rest) ≡ c ∷ unescaped rest
unfolding unescaped_from
escape_step c rest = refl

escape_last : unescaped (backslash ∷ []) ≡ []
unfolding unescaped_from
escape_last = refl

pub unescaped_nil : unescaped [] ≡ []
unfolding unescaped_from
unescaped_nil = refl

-- the bytes up to a backslash
up_to : (rest : List ℕ) (run : ℕ) → NoneBefore (Passes (is_byte 92) rest) 0 (length rest) run × Passes (is_byte 92) rest run
    → unescaped rest ≡ take run rest ++ unescaped (drop run rest)
up_to rest run found =
    let clean : list_all is_literal (take run rest) ≡ true =
    all_before is_literal rest run (omega (arith, found.0.high))
    (λ k h. not_true (get_or rest k 0 == 92) (found.0.before k (omega arith) h)) in
    ap unescaped (sym (take-append-drop run rest)) ∙ literal_run (take run rest) (drop run rest) clean

at_backslash : (rest : List ℕ) (run : ℕ) → NoneBefore (Passes (is_byte 92) rest) 0 (length rest) run × Passes (is_byte 92) rest run
    → drop run rest ≡ backslash ∷ drop (run + 1) rest
at_backslash rest run found = drop_at rest run found.0.high
    ∙ ap (λ (c : ℕ). c ∷ drop (run + 1) rest) ((Decides-eqb (get_or rest run 0) 92).0 found.1)

pub escape_ends : (word rest all : List ℕ) (run : ℕ) → NoneBefore (Passes (is_byte 92) rest) 0 (length rest) run
    × Passes (is_byte 92) rest run → run + 1 ≡ length rest
    → word ++ unescaped rest ≡ all → word ++ take run rest ≡ all
escape_ends word rest all run found last h =
    let nothing : drop (run + 1) rest ≡ [] = drop_of_length-le rest (omega arith) in
    let e : unescaped rest ≡ take run rest =
    up_to rest run found ∙ ap (λ (l : List ℕ). take run rest ++ unescaped l)
    (at_backslash rest run found ∙ ap (λ (l : List ℕ). backslash ∷ l) nothing)
    ∙ ap (λ (l : List ℕ). take run rest ++ l) escape_last ∙ append-nil (take run rest) in
    ap (λ (l : List ℕ). word ++ l) (sym e) ∙ h

pub escape_goes_on : (word rest all : List ℕ) (run : ℕ) → NoneBefore (Passes (is_byte 92) rest) 0 (length rest) run
    × Passes (is_byte 92) rest run → run + 1 ≢ length rest
    → word ++ unescaped rest ≡ all → ((word ++ take run rest) ++ get_or rest (run + 1) 0 ∷ []) ++ unescaped (behind rest (run + 2)) ≡ all
escape_goes_on word rest all run found last h =
    let within : run < length rest = found.0.high in
    let lt : run + 1 < length rest = omega arith in
    let two : drop run rest ≡ backslash ∷ (get_or rest (run + 1) 0 ∷ drop (run + 1 + 1) rest) =
    at_backslash rest run found ∙ ap (λ (l : List ℕ). backslash ∷ l) (drop_at rest (run + 1) lt) in
    let place : run + 1 + 1 ≡ run + 2 = omega arith in
    let tail : drop (run + 1 + 1) rest ≡ behind rest (run + 2) = ap (λ (n : ℕ). drop n rest) place ∙ sym (behind_is rest (run + 2)) in
    let e : unescaped rest ≡ take run rest ++ (get_or rest (run + 1) 0 ∷ unescaped (behind rest (run + 2))) =
    up_to rest run found ∙ ap (λ (l : List ℕ). take run rest ++ unescaped l) two
    ∙ ap (λ (l : List ℕ). take run rest ++ l) (escape_step (get_or rest (run + 1) 0) (drop (run + 1 + 1) rest))
    ∙ ap (λ (l : List ℕ). take run rest ++ (get_or rest (run + 1) 0 ∷ unescaped l)) tail in
    append_assoc (word ++ take run rest) (get_or rest (run + 1) 0 ∷ []) (unescaped (behind rest (run + 2)))
    ∙ append_assoc word (take run rest) (get_or rest (run + 1) 0 ∷ unescaped (behind rest (run + 2)))
    ∙ ap (λ (l : List ℕ). word ++ l) (sym e) ∙ h

pub all_literal : (word rest all : List ℕ) → IsFirstByte (is_byte 92) rest None → word ++ unescaped rest ≡ all → word ++ rest ≡ all
all_literal word rest all none h =
    let clean : list_all is_literal (take (length rest) rest) ≡ true =
    all_before is_literal rest (length rest) (omega arith) (λ k lt. not_true (get_or rest k 0 == 92) (none k (omega arith) lt)) in
    let whole : list_all is_literal rest ≡ true = sym (ap (list_all is_literal) (take_whole rest (length rest) (omega arith))) ∙ clean in
    let e : unescaped rest ≡ rest = ap unescaped (sym (append-nil rest)) ∙ literal_run rest [] whole
    ∙ ap (λ (l : List ℕ). rest ++ l) unescaped_nil ∙ append-nil rest in
    ap (λ (l : List ℕ). word ++ l) (sym e) ∙ h

pub is_not : (b : Bool) → (b ≡ true → ⊥) → b ≡ false
is_not true n = absurd (n refl)
is_not false n = refl

pub eqb_not : (a b : ℕ) → (a ≡ b → ⊥) → (a == b) ≡ false
eqb_not a b ne = is_not (a == b) (λ e. ne ((Decides-eqb a b).0 e))

-- a byte that stands for itself between quotes, or stands behind a backslash
emits : (escaped : Bool) (c : ℕ) (rest : List ℕ) → (escaped ≡ true) ⊎ (c ≡ backslash → ⊥)
    → unescaped_from escaped (c ∷ rest) ≡ c ∷ unescaped rest
unfolding unescaped_from
emits true c rest h = refl
emits false c rest (inl e) = cc
emits false c rest (inr ne) = rw (eqb_not c backslash ne) refl

-- whether the rest of the inside of quotes stands for what is left of a word
abbrev pub stands : Bool → List ℕ → ℕ → List ℕ → Bool
stands escaped inside i left = bytes_eq (unescaped_from escaped (drop i inside)) left

pub escape_begins : (inside left : List ℕ) (i : ℕ) → i < length inside → get_or inside i 0 ≡ backslash
    → stands true inside (i + 1) left ≡ stands false inside i left
unfolding unescaped_from
escape_begins inside left i lt e =
    sym (ap (λ (l : List ℕ). bytes_eq (unescaped_from false l) left) (drop_at inside i lt ∙ ap (λ (c : ℕ). c ∷ drop (i + 1) inside) e))

at_byte : (escaped : Bool) (inside left : List ℕ) (i : ℕ) → i < length inside → (escaped ≡ true) ⊎ (get_or inside i 0 ≡ backslash → ⊥)
    → stands escaped inside i left ≡ bytes_eq (get_or inside i 0 ∷ unescaped (drop (i + 1) inside)) left
at_byte escaped inside left i lt h =
    ap (λ (l : List ℕ). bytes_eq (unescaped_from escaped l) left) (drop_at inside i lt)
    ∙ ap (λ (l : List ℕ). bytes_eq l left) (emits escaped (get_or inside i 0) (drop (i + 1) inside) h)

pub word_is_over : (escaped : Bool) (inside left : List ℕ) (i : ℕ) → i < length inside
    → (escaped ≡ true) ⊎ (get_or inside i 0 ≡ backslash → ⊥)
    → left ≡ [] → stands escaped inside i left ≡ false
word_is_over escaped inside left i lt h e = at_byte escaped inside left i lt h
    ∙ ap (bytes_eq (get_or inside i 0 ∷ unescaped (drop (i + 1) inside))) e

pub other_byte : (escaped : Bool) (inside left : List ℕ) (i : ℕ) → i < length inside
    → (escaped ≡ true) ⊎ (get_or inside i 0 ≡ backslash → ⊥)
    → (get_or left 0 0 ≡ get_or inside i 0 → ⊥) → stands escaped inside i left ≡ false
other_byte escaped inside [] i lt h ne = at_byte escaped inside [] i lt h
other_byte escaped inside (d ∷ left) i lt h ne =
    at_byte escaped inside (d ∷ left) i lt h ∙ rw (eqb_not (get_or inside i 0) d (λ e. ne (sym e))) refl

pub same_byte : (escaped : Bool) (inside left : List ℕ) (i : ℕ) → i < length inside → (escaped ≡ true) ⊎ (get_or inside i 0 ≡ backslash → ⊥)
    → 0 < length left → get_or left 0 0 ≡ get_or inside i 0 → stands false inside (i + 1) (behind left 1) ≡ stands escaped inside i left
same_byte escaped inside [] i lt h more e = absurd (omega arith)
same_byte escaped inside (d ∷ left) i lt h more e =
    let same : (get_or inside i 0 == d) ≡ true = (Decides-eqb (get_or inside i 0) d).1 (sym e) in
    ap (bytes_eq (unescaped (drop (i + 1) inside))) (behind_is (d ∷ left) 1) ∙ sym (at_byte escaped inside (d ∷ left) i lt h ∙ rw same refl)

pub inside_is_over : (escaped : Bool) (inside left : List ℕ) (i : ℕ) (r : Bool) → length inside ≤ i → r ≡ (length left == 0)
    → r ≡ stands escaped inside i left
unfolding unescaped_from
inside_is_over escaped inside left i r le e =
    e ∙ sym (ap (λ (l : List ℕ). bytes_eq (unescaped_from escaped l) left) (drop_of_length-le inside le) ∙ is_empty left)
  where
    is_empty : (left : List ℕ) → bytes_eq [] left ≡ (length left == 0)
    is_empty [] = refl
    is_empty (d ∷ left) = sym (eqb_not (length (d ∷ left)) 0 (λ e. absurd (omega arith)))
