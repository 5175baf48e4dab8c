-- How arguments are read one after the other.
use Rattle.std.proofs.Common.{◌≡◌, ℕ, ◌+◌, ◌<◌, ◌≤◌, List, [], ◌∷◌, ◌++◌, length, drop, get_or, Bool, true, false, ◌-◌}
use Rattle.std.proofs.Common.{if◌then◌else◌, length-drop, Option, Result, Ok, Err, refl, sym, ◌∙◌, ap, append_assoc, arith, add-one}
use Rattle.std.proofs.Common.{drop-cons}
use Rattle.std.proofs.lemmas.List.{append-nil}
use Rattle.std.proofs.Math.ListN.{drop_of_length-le}
use Rattle.command_text.specs.declared.refusal.CommandRefusal.{CommandRefusal}
use Rattle.idle_masks.specs.declared.subsystem.Subsystems.{Subsystems}
use Rattle.idle_masks.specs.Subsystems.{union, mask_named}
use Rattle.command_text.specs.declared.stop.Stop.{Stop}
use Rattle.command_text.specs.declared.stop.Stop.TheVariants.{Refused}
use Rattle.command_text.specs.Finding.{begins_part, pairs_length}
use Rattle.command_text.specs.Session.{mask_with}
use Rattle.command_text.specs.Stops.{Reads}
use Rattle.command_text.specs.Counts.{◌>>=◌, Word, argument, each}

-- what was read, and what the others give behind it
abbrev pub behind : {A : Type 0} → List A → Result (List A) CommandRefusal → Result (List A) CommandRefusal
behind xs read = read >>= λ ys. Ok (xs ++ ys)

word_at : (words : List Word) (i : ℕ) (d : Word) → i < length words → drop i words ≡ get_or words i d ∷ drop (i + 1) words
word_at words i d h = rw (add-one, drop-cons words i d) refl

each_from : {A : Type 0} (read : Word → Option A) (place : ℕ) (words : List Word) (word : Word) (others : List Word) → words ≡ word ∷ others
    → each read place words ≡ (argument place (read word) >>= λ x. each read (place + 1) others >>= λ xs. Ok (x ∷ xs))
unfolding each
each_from read place words word others e = rw e refl

behind_more : {A : Type 0} (xs : List A) (x : A) (r : Result (List A) CommandRefusal)
    → behind xs (r >>= λ ys. Ok (x ∷ ys)) ≡ behind (xs ++ x ∷ []) r
behind_more {A = A} xs x (Ok ys) = ap (λ (l : List A). Ok l) (sym (append_assoc xs (x ∷ []) ys))
behind_more xs x (Err e) = refl

-- a word of a slice, and what was read of it
word_read : {A : Type 0} (read : Word → Option A) (words : List Word) (i place : ℕ) (word bytes : Word) (reading : Option A)
    (r : Result A CommandRefusal)
    → word ≡ get_or words i word → bytes ≡ word → reading ≡ read bytes → r ≡ argument place reading
    → argument place (read (get_or words i word)) ≡ r
word_read read words i place word bytes reading r p q e s =
    ap (λ (w : Word). argument place (read w)) (sym (q ∙ p)) ∙ ap (argument place) (sym e) ∙ sym s

pub each_step : {A : Type 0} (read : Word → Option A) (words : List Word) (i : ℕ) (word bytes : Word) (reading : Option A) (x : A)
    (xs : List A) → i < length words
    → word ≡ get_or words i word → bytes ≡ word → reading ≡ read bytes → Ok x ≡ argument (i + 2) reading
    → behind xs (each read (i + 2) (drop i words)) ≡ behind (xs ++ x ∷ []) (each read (i + 1 + 2) (drop (i + 1) words))
each_step read words i word bytes reading x xs lt p q r s =
    let e = word_read read words i (i + 2) word bytes reading (Ok x) p q r s in
    let at = each_from read (i + 2) (drop i words) (get_or words i word) (drop (i + 1) words) (word_at words i word lt) in
    let place : i + 2 + 1 ≡ i + 1 + 2 = omega arith in
    ap (behind xs) (at ∙ ap (λ r. r >>= λ x. each read (i + 2 + 1) (drop (i + 1) words) >>= λ ys. Ok (x ∷ ys)) e)
    ∙ behind_more xs x (each read (i + 2 + 1) (drop (i + 1) words))
    ∙ ap (λ (n : ℕ). behind (xs ++ x ∷ []) (each read n (drop (i + 1) words))) place

pub each_stop : {A : Type 0} (read : Word → Option A) (words : List Word) (i : ℕ) (word bytes : Word) (reading : Option A)
    (refusal : CommandRefusal) (xs : List A) → i < length words
    → word ≡ get_or words i word → bytes ≡ word → reading ≡ read bytes → Err refusal ≡ argument (i + 2) reading
    → behind xs (each read (i + 2) (drop i words)) ≡ Err refusal
each_stop read words i word bytes reading refusal xs lt p q r s =
    let e = word_read read words i (i + 2) word bytes reading (Err refusal) p q r s in
    let at = each_from read (i + 2) (drop i words) (get_or words i word) (drop (i + 1) words) (word_at words i word lt) in
    ap (behind xs) (at ∙ ap (λ r. r >>= λ x. each read (i + 2 + 1) (drop (i + 1) words) >>= λ ys. Ok (x ∷ ys)) e)

pub each_end : {A : Type 0} (read : Word → Option A) (words : List Word) (i : ℕ) (xs : List A) → length words ≤ i
    → behind xs (each read (i + 2) (drop i words)) ≡ Ok xs
unfolding each
each_end {A = A} read words i xs le = rw (drop_of_length-le words le) (ap (λ (l : List A). Ok l) (append-nil xs))

pub each_begins : {A : Type 0} (read : Word → Option A) (words : List Word) → behind [] (each read 2 words) ≡ each read 2 words
each_begins {A = A} read words = same (each read 2 words)
  where
    same : (r : Result (List A) CommandRefusal) → behind [] r ≡ r
    same (Ok ys) = refl
    same (Err e) = refl

-- the exit of a `?` of a refusal
pub reads_refused : {A : Type 0} (r : Result A Stop) (read : Result A CommandRefusal) (refusal : CommandRefusal)
    → (e : Stop) × (r ≡ Err e) × (e ≡ Refused refusal) → read ≡ Err refusal → Reads r read
reads_refused r read refusal err h = rw (err.1, err.2) h

-- the same where nothing is wanted of memory
pub refused_again : {A : Type 0} (r read : Result A CommandRefusal) (refusal : CommandRefusal)
    → (e : CommandRefusal) × (r ≡ Err e) × (e ≡ refusal) → read ≡ Err refusal → r ≡ read
refused_again r read refusal err h = rw (err.1, err.2) (sym h)

-- the names of `idle`
mask_from : (set : Subsystems) (place : ℕ) (words : List Word) (word : Word) (others : List Word) → words ≡ word ∷ others
    → mask_with set place words ≡ (argument place (mask_named word) >>= λ named. mask_with (union set named) (place + 1) others)
unfolding mask_with
mask_from set place words word others e = rw e refl

pub mask_step : (words : List Word) (i : ℕ) (word bytes : Word) (reading : Option Subsystems) (named set : Subsystems) → i < length words
    → word ≡ get_or words i word → bytes ≡ word → reading ≡ mask_named bytes → Ok named ≡ argument (i + 1) reading
    → mask_with set (i + 1) (drop i words) ≡ mask_with (union set named) (i + 1 + 1) (drop (i + 1) words)
mask_step words i word bytes reading named set lt p q r s =
    let e = word_read mask_named words i (i + 1) word bytes reading (Ok named) p q r s in
    mask_from set (i + 1) (drop i words) (get_or words i word) (drop (i + 1) words) (word_at words i word lt)
    ∙ ap (λ r. r >>= λ named. mask_with (union set named) (i + 1 + 1) (drop (i + 1) words)) e

pub mask_stop : (words : List Word) (i : ℕ) (word bytes : Word) (reading : Option Subsystems) (refusal : CommandRefusal) (set : Subsystems)
    → i < length words
    → word ≡ get_or words i word → bytes ≡ word → reading ≡ mask_named bytes → Err refusal ≡ argument (i + 1) reading
    → mask_with set (i + 1) (drop i words) ≡ Err refusal
mask_stop words i word bytes reading refusal set lt p q r s =
    let e = word_read mask_named words i (i + 1) word bytes reading (Err refusal) p q r s in
    mask_from set (i + 1) (drop i words) (get_or words i word) (drop (i + 1) words) (word_at words i word lt)
    ∙ ap (λ r. r >>= λ named. mask_with (union set named) (i + 1 + 1) (drop (i + 1) words)) e

pub mask_end : (words : List Word) (i : ℕ) (set : Subsystems) → length words ≤ i → mask_with set (i + 1) (drop i words) ≡ Ok set
unfolding mask_with
mask_end words i set le = rw (drop_of_length-le words le) refl

-- pairs up to the first part behind them
two_at : (words : List Word) (p : ℕ) (d : Word) → p + 2 ≤ length words
    → drop p words ≡ get_or words p d ∷ (get_or words (p + 1) d ∷ drop (p + 2) words)
two_at words p d le =
    let next : p + 1 + 1 ≡ p + 2 = omega arith in
    word_at words p d (omega arith) ∙ ap (λ (ws : List Word). get_or words p d ∷ ws)
    (word_at words (p + 1) d (omega arith) ∙ ap (λ (n : ℕ). get_or words (p + 1) d ∷ drop n words) next)

pairs_from : (adds : Bool) (words : List Word) (tag value : Word) (others : List Word) → words ≡ tag ∷ (value ∷ others)
    → pairs_length adds words ≡ (if begins_part adds tag then 0 else 2 + pairs_length adds others)
unfolding pairs_length
pairs_from adds words tag value others e = rw e refl

pub pairs_stop : (adds : Bool) (words : List Word) (p : ℕ) (word bytes : Word) → p + 2 ≤ length words → word ≡ get_or words p word
    → bytes ≡ word → begins_part adds bytes ≡ true
    → p + pairs_length adds (drop p words) ≡ p
pairs_stop adds words p word bytes le at same t =
    let e : begins_part adds (get_or words p word) ≡ true = ap (begins_part adds) (sym (same ∙ at)) ∙ t in
    let l : pairs_length adds (drop p words) ≡ 0 =
    pairs_from adds (drop p words) (get_or words p word) (get_or words (p + 1) word) (drop (p + 2) words) (two_at words p word le)
    ∙ rw e refl in
    omega arith

pub pairs_go : (adds : Bool) (words : List Word) (p : ℕ) (word bytes : Word) → p + 2 ≤ length words → word ≡ get_or words p word
    → bytes ≡ word → begins_part adds bytes ≡ false
    → p + pairs_length adds (drop p words) ≡ p + 2 + pairs_length adds (drop (p + 2) words)
pairs_go adds words p word bytes le at same t =
    let e : begins_part adds (get_or words p word) ≡ false = ap (begins_part adds) (sym (same ∙ at)) ∙ t in
    let l : pairs_length adds (drop p words) ≡ 2 + pairs_length adds (drop (p + 2) words) =
    pairs_from adds (drop p words) (get_or words p word) (get_or words (p + 1) word) (drop (p + 2) words) (two_at words p word le)
    ∙ rw e refl in
    omega arith

few : (adds : Bool) (words : List Word) → length words < 2 → pairs_length adds words ≡ 0
unfolding pairs_length
few adds [] h = refl
few adds (a ∷ []) h = refl
few adds (a ∷ b ∷ words) h = absurd (omega arith)

pub pairs_end : (adds : Bool) (words : List Word) (p : ℕ) → length words - p < 2 → p + pairs_length adds (drop p words) ≡ p
pairs_end adds words p h =
    let l : pairs_length adds (drop p words) ≡ 0 = few adds (drop p words) (omega (arith, length-drop p words)) in
    omega arith
