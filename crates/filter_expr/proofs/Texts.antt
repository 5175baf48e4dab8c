-- How the parts of a text are read a byte at a time.
use Rattle.std.proofs.Common.{◌≡◌, ℕ, zero, suc, ◌+◌, ◌-◌, ◌<◌, ◌≤◌, Bool, true, false, not, ◌||◌, nat_eq, List, [], ◌∷◌, ◌++◌, length}
use Rattle.std.proofs.Common.{get_or, take, drop, Result, Ok, Err, refl, sym, ap, ◌∙◌, arith, add-one, drop-cons, take-suc, append_assoc}
use Rattle.std.proofs.Common.{length-drop}
use Rattle.std.proofs.Common.{cond, Some, None, subst}
use Rattle.std.proofs.lemmas.List.{append-nil}
use Rattle.std.proofs.lemmas.Bool.{false_from_ne_true}
use Rattle.std.proofs.lemmas.Str.{IsUtf8-from_is_utf8, is_utf8-from_IsUtf8, IsUtf8-string_bytes}
use Rattle.std.specs.Str.{IsUtf8, is_utf8}
use Rattle.std.specs.String.{string_bytes}
use Rattle.std.specs.declared.string.String.{String}
use Rattle.std.proofs.lemmas.Bool.{eq-eqb, ne_eqb, not-false}
use Rattle.filter_expr.specs.declared.parts.Stop.{Stop}
use Rattle.filter_expr.specs.declared.parts.Stop.TheVariants as stops
use Rattle.filter_expr.specs.Gives.{Gives, Stops}
use Rattle.filter_expr.specs.Parts.{Fault, ◌>>=◌, is_blank, ends_name, backslash, without_blanks, byte_at, word_at, letter_at, letters_at, name_in, behind_name}
use Rattle.filter_expr.specs.Parts.{with_front, quoted}
use Rattle.filter_expr.specs.Parts.Fault.{Bad}

pub drop_at : (s : List ℕ) (q : ℕ) → q < length s → drop q s ≡ get_or s q 0 ∷ drop (q + 1) s
drop_at s q h = rw (add-one, drop-cons s q 0) refl

take_whole : (n : ℕ) (s : List ℕ) → length s ≤ n → take n s ≡ s
take_whole zero [] h = refl
take_whole zero (c ∷ s) h = absurd (omega arith)
take_whole (suc n) [] h = refl
take_whole (suc n) (c ∷ s) h = ap (λ (r : List ℕ). c ∷ r) (take_whole n s (omega arith))

-- what stands from a place on, as a slice gives it
pub take_rest : (s : List ℕ) (q : ℕ) → take (length s - q) (drop q s) ≡ drop q s
take_rest s q = take_whole (length s - q) (drop q s) (omega (arith, length-drop q s))

pub drop_all : (s : List ℕ) (q : ℕ) → length s ≤ q → drop q s ≡ []
drop_all [] zero h = refl
drop_all [] (suc q) h = refl
drop_all (c ∷ s) zero h = absurd (omega arith)
drop_all (c ∷ s) (suc q) h = drop_all s q (omega arith)

pub take_all : (s : List ℕ) (q : ℕ) → length s ≤ q → take q s ≡ s
take_all s q h = take_whole q s h

-- what stops a part stops what goes on with it
pub stops_then : {A B : Type 0} (stop : Stop) (read : Result A Fault) (f : A → Result B Fault) → Stops stop read → Stops stop (read >>= f)
stops_then (stops.Bad left) read f h = ap (λ r. r >>= f) h
stops_then (stops.Unknown name) read f h = ap (λ r. r >>= f) h
stops_then (stops.Deep left) read f h = ap (λ r. r >>= f) h
stops_then stops.NoMemory read f h = tt

pub blank_more : (text : List ℕ) (i : ℕ) → i < length text → is_blank (get_or text i 0) ≡ true
    → without_blanks (drop (i + 1) text) ≡ without_blanks (drop i text)
unfolding without_blanks
blank_more text i lt h = sym (ap without_blanks (drop_at text i lt) ∙ rw h refl)

pub blank_none : (text : List ℕ) (i : ℕ) → i < length text → is_blank (get_or text i 0) ≡ false → without_blanks (drop i text) ≡ drop i text
unfolding without_blanks
blank_none text i lt h = ap without_blanks (drop_at text i lt) ∙ rw h (sym (drop_at text i lt))

pub blank_end : without_blanks [] ≡ []
unfolding without_blanks
blank_end = refl

pub word_more : (word rest : List ℕ) (i : ℕ) → i < length word
    → word_at (drop i word) rest ≡ byte_at (get_or word i 0) rest >>= λ behind. word_at (drop (i + 1) word) behind
unfolding word_at
word_more word rest i lt = ap (λ (w : List ℕ). word_at w rest) (drop_at word i lt)

pub word_end : (rest : List ℕ) → word_at [] rest ≡ Ok rest
unfolding word_at
word_end rest = refl

pub letters_more : (word rest : List ℕ) (i : ℕ) → i < length word
    → letters_at (drop i word) rest ≡ letter_at (get_or word i 0) rest >>= λ behind. letters_at (drop (i + 1) word) behind
unfolding letters_at
letters_more word rest i lt = ap (λ (w : List ℕ). letters_at w rest) (drop_at word i lt)

pub letters_end : (rest : List ℕ) → letters_at [] rest ≡ Ok rest
unfolding letters_at
letters_end rest = refl

take_more : (s : List ℕ) (i : ℕ) → i < length s → take (i + 1) s ≡ take i s ++ get_or s i 0 ∷ []
take_more s i h = rw (add-one, take-suc s i 0) refl

pub name_more : (text : List ℕ) (i : ℕ) → i < length text → ends_name (get_or text i 0) ≡ false
    → take (i + 1) text ++ name_in (drop (i + 1) text) ≡ take i text ++ name_in (drop i text)
unfolding name_in
name_more text i lt h =
    let here : name_in (drop i text) ≡ get_or text i 0 ∷ name_in (drop (i + 1) text) = ap name_in (drop_at text i lt) ∙ rw h refl in
    ap (λ (s : List ℕ). s ++ name_in (drop (i + 1) text)) (take_more text i lt)
    ∙ append_assoc (take i text) (get_or text i 0 ∷ []) (name_in (drop (i + 1) text)) ∙ ap (λ (s : List ℕ). take i text ++ s) (sym here)

pub name_none : (text : List ℕ) (i : ℕ) → i < length text → ends_name (get_or text i 0) ≡ true
    → take i text ≡ take i text ++ name_in (drop i text)
unfolding name_in
name_none text i lt h =
    let here : name_in (drop i text) ≡ [] = ap name_in (drop_at text i lt) ∙ rw h refl in
    rw here (sym (append-nil (take i text)))

pub name_end : (text : List ℕ) → text ≡ text ++ name_in []
unfolding name_in
name_end text = sym (append-nil text)

pub behind_more : (text : List ℕ) (i : ℕ) → i < length text → ends_name (get_or text i 0) ≡ false
    → behind_name (drop (i + 1) text) ≡ behind_name (drop i text)
unfolding behind_name
behind_more text i lt h = sym (ap behind_name (drop_at text i lt) ∙ rw h refl)

pub behind_none : (text : List ℕ) (i : ℕ) → i < length text → ends_name (get_or text i 0) ≡ true → drop i text ≡ behind_name (drop i text)
unfolding behind_name
behind_none text i lt h = sym (ap behind_name (drop_at text i lt) ∙ rw h (sym (drop_at text i lt)))

pub behind_end : [] ≡ behind_name []
unfolding behind_name
behind_end = refl

-- bytes in front of what is read behind them
abbrev pub after_front : List ℕ → Result (List ℕ × List ℕ) Fault → Result (List ℕ × List ℕ) Fault
after_front front read = read >>= λ x. Ok (front ++ x.0, x.1)

front_longer : (front : List ℕ) (b : ℕ) (read : Result (List ℕ × List ℕ) Fault)
    → after_front (front ++ b ∷ []) read ≡ after_front front (with_front b read)
front_longer front b (Ok x) = ap (λ (v : List ℕ). Ok (v, x.1)) (append_assoc front (b ∷ []) x.0)
front_longer front b (Err fault) = refl

pub no_front : (read : Result (List ℕ × List ℕ) Fault) → after_front [] read ≡ read
no_front (Ok x) = refl
no_front (Err fault) = refl

-- a byte that stands for itself
pub quoted_plain : (quote : ℕ) (escaped : Bool) (front text : List ℕ) (i : ℕ) → i < length text
    → (escaped || not (nat_eq (get_or text i 0) quote || nat_eq (get_or text i 0) backslash)) ≡ true
    → after_front (front ++ get_or text i 0 ∷ []) (quoted quote false (drop (i + 1) text))
    ≡ after_front front (quoted quote escaped (drop i text))
unfolding quoted
quoted_plain quote true front text i lt h =
    front_longer front (get_or text i 0) (quoted quote false (drop (i + 1) text))
    ∙ ap (λ (t : List ℕ). after_front front (quoted quote true t)) (sym (drop_at text i lt))
quoted_plain quote false front text i lt h =
    front_longer front (get_or text i 0) (quoted quote false (drop (i + 1) text))
    ∙ ap (after_front front) (by_cases (nat_eq (get_or text i 0) quote) refl (nat_eq (get_or text i 0) backslash) refl h)
    ∙ ap (λ (t : List ℕ). after_front front (quoted quote false t)) (sym (drop_at text i lt))
  where
    by_cases : (q : Bool) → nat_eq (get_or text i 0) quote ≡ q → (b : Bool) → nat_eq (get_or text i 0) backslash ≡ b → not (q || b) ≡ true
        → with_front (get_or text i 0) (quoted quote false (drop (i + 1) text)) ≡ quoted quote false (get_or text i 0 ∷ drop (i + 1) text)
    by_cases true e b f g = absurd (cc)
    by_cases false e true f g = absurd (cc)
    by_cases false e false f g = rw (e, f) refl

pub quoted_end : (quote : ℕ) (escaped : Bool) (front text : List ℕ) (i : ℕ) → i < length text
    → (escaped || not (nat_eq (get_or text i 0) quote || nat_eq (get_or text i 0) backslash)) ≡ false → get_or text i 0 ≡ quote
    → after_front front (quoted quote escaped (drop i text)) ≡ Ok (front, drop (i + 1) text)
unfolding quoted
quoted_end quote true front text i lt h e = absurd (cc)
quoted_end quote false front text i lt h e =
    let same : nat_eq (get_or text i 0) quote ≡ true = eq-eqb _ _ e in
    ap (λ (t : List ℕ). after_front front (quoted quote false t)) (drop_at text i lt)
    ∙ rw same (ap (λ (v : List ℕ). Ok (v, drop (i + 1) text)) (append-nil front))

pub quoted_escape : (quote : ℕ) (escaped : Bool) (text : List ℕ) (i : ℕ) → i < length text
    → (escaped || not (nat_eq (get_or text i 0) quote || nat_eq (get_or text i 0) backslash)) ≡ false → (get_or text i 0 ≡ quote → ⊥)
    → quoted quote true (drop (i + 1) text) ≡ quoted quote escaped (drop i text)
unfolding quoted
quoted_escape quote true text i lt h e = absurd (cc)
quoted_escape quote false text i lt h e =
    let other : nat_eq (get_or text i 0) quote ≡ false = ne_eqb _ _ e in
    let slash : nat_eq (get_or text i 0) backslash ≡ true = not-false _ (rw other at h) in
    sym (ap (quoted quote false) (drop_at text i lt) ∙ rw (other, slash) refl)

pub quoted_open : (quote : ℕ) (escaped : Bool) (front : List ℕ) → after_front front (quoted quote escaped []) ≡ Err (Bad 0)
unfolding quoted
quoted_open quote escaped front = refl

utf8_text : (bytes : List ℕ) → IsUtf8 bytes → cond (is_utf8 bytes) (Some bytes) None ≡ Some bytes
utf8_text bytes h = rw (is_utf8-from_IsUtf8 bytes h) refl

pub read_utf8 : {Z : Type 0} (text : String Z) (bytes : List ℕ) → string_bytes text ≡ bytes
    → Some (string_bytes text) ≡ cond (is_utf8 bytes) (Some bytes) None
read_utf8 text bytes e = ap Some e ∙ sym (utf8_text bytes (subst IsUtf8 e (IsUtf8-string_bytes text)))

pub not_utf8 : (bytes : List ℕ) → (IsUtf8 bytes → ⊥) → None ≡ cond (is_utf8 bytes) (Some bytes) None
not_utf8 bytes h = rw (false_from_ne_true (is_utf8 bytes) (λ t. h (IsUtf8-from_is_utf8 bytes t))) refl

-- the exit of a `?` gives what the call gave that stopped
pub gives_stop : {X Y : Type 0} (view : X → Y) (stop : Stop) (r : Result X Stop) (read : Result Y Fault)
    → (y : Stop) × (r ≡ Err y) × (y ≡ stop) → Stops stop read → Gives view r read
gives_stop view stop r read err h = rw (err.1, err.2) h
