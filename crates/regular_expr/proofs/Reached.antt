-- Places of a text that are reached from others, by parts of it one behind the other.
use Rattle.std.proofs.Common.{◌≡◌, ◌≢◌, ◌⊎◌, eqb, ℕ, zero, suc, ◌+◌, Bool, true, false, ◌&&◌, ◌||◌, refl, subst, inl, inr, ⊎_elim, arith}
use Rattle.std.proofs.lemmas.Bool.{false≢true}
use Rattle.std.proofs.lemmas.Bool.Decides.{eqb_tells}
use Rattle.regular_expr.specs.Spans.{SpansAll}

-- a place that is reached from one of these
abbrev pub Through : (ℕ → Type 0) → (ℕ → ℕ → Type 0) → ℕ → Type 0
Through starts spans end = (start : ℕ) × starts start × spans start end

-- the same by so many parts
abbrev pub After : (ℕ → ℕ → Type 0) → ℕ → (ℕ → Type 0) → ℕ → Type 0
After spans zero starts = starts
After spans (suc count) starts = After spans count (Through starts spans)

-- the same by any number of parts
abbrev pub Loop : (ℕ → ℕ → Type 0) → (ℕ → Type 0) → ℕ → Type 0
Loop spans starts end = (count : ℕ) × After spans count starts end

pub Through-mono : (S T : ℕ → Type 0) (R : ℕ → ℕ → Type 0) → ((j : ℕ) → S j → T j) → (j : ℕ) → Through S R j → Through T R j
Through-mono S T R f j h = (h.0, f h.0 h.1, h.2)

pub After-mono : (R : ℕ → ℕ → Type 0) (n : ℕ) (S T : ℕ → Type 0) → ((j : ℕ) → S j → T j) → (j : ℕ) → After R n S j → After R n T j
After-mono R zero S T f j h = f j h
After-mono R (suc n) S T f j h = After-mono R n (Through S R) (Through T R) (Through-mono S T R f) j h

-- the last of them apart
pub After-last : (R : ℕ → ℕ → Type 0) (n : ℕ) (S : ℕ → Type 0) (j : ℕ) → After R (suc n) S j → Through (After R n S) R j
After-last R zero S j h = h
After-last R (suc n) S j h = After-last R n (Through S R) j h

pub After-more : (R : ℕ → ℕ → Type 0) (n : ℕ) (S : ℕ → Type 0) (j : ℕ) → Through (After R n S) R j → After R (suc n) S j
After-more R zero S j h = h
After-more R (suc n) S j h = After-more R n (Through S R) j h

-- some of them, and the others behind them
pub After-add : (R : ℕ → ℕ → Type 0) (c a : ℕ) (S : ℕ → Type 0) (j n : ℕ) → n ≡ a + c → After R c (After R a S) j → After R n S j
After-add R c zero S j n e h =
    let same : c ≡ n = omega arith in
    subst (λ (k : ℕ). After R k S j) same h
After-add R c (suc a) S j zero e h = absurd (omega arith)
After-add R c (suc a) S j (suc n) e h = After-add R c a (Through S R) j n (omega arith) h

pub After-split : (R : ℕ → ℕ → Type 0) (c a : ℕ) (S : ℕ → Type 0) (j n : ℕ) → n ≡ a + c → After R n S j → After R c (After R a S) j
After-split R c zero S j n e h =
    let same : n ≡ c = omega arith in
    subst (λ (k : ℕ). After R k S j) same h
After-split R c (suc a) S j zero e h = absurd (omega arith)
After-split R c (suc a) S j (suc n) e h = After-split R c a (Through S R) j n (omega arith) h

-- as parts that span the text from one place to another
pub SpansAll-from_after : (R : ℕ → ℕ → Type 0) (n : ℕ) (S : ℕ → Type 0) (j : ℕ) → After R n S j → Through S (SpansAll R n) j
SpansAll-from_after R zero S j h = (j, h, refl)
SpansAll-from_after R (suc n) S j h =
    let w = SpansAll-from_after R n (Through S R) j h in
    (w.1.0, w.1.1, (w.0, w.1.2, w.2))

pub After-from_all : (R : ℕ → ℕ → Type 0) (n : ℕ) (S : ℕ → Type 0) (j : ℕ) → Through S (SpansAll R n) j → After R n S j
After-from_all R zero S j h = subst S h.2 h.1
After-from_all R (suc n) S j h = After-from_all R n (Through S R) j (h.2.0, (h.0, h.1, h.2.1), h.2.2)

-- Of parts that are repeated the last may begin where all of them end. Then it is left out, until one is found that begins before, or
-- until there is but one.
pub looped : (R : ℕ → ℕ → Type 0) (S : ℕ → Type 0) (i : ℕ) (r e : Bool) → (S i → r ≡ true)
    → ((n middle : ℕ) → After R n S middle → (middle ≡ i → r ≡ true) → R middle i → e ≡ true)
    → (n : ℕ) → After R (suc n) S i → e ≡ true
looped R S i r e start last zero h =
    let w = After-last R zero S i h in
    last zero w.0 w.1 (λ (same : w.0 ≡ i). start (subst S same w.1)) w.2
looped R S i r e start last (suc n) h =
    let w = After-last R (suc n) S i h in
    ⊎_elim
    (λ (same : (eqb w.0 i ≡ true) × (w.0 ≡ i)). looped R S i r e start last n (subst (After R (suc n) S) same.1 w.1))
    (λ (other : (eqb w.0 i ≡ false) × (w.0 ≢ i)). last (suc n) w.0 w.1 (λ (same : w.0 ≡ i). absurd (other.1 same)) w.2)
    (eqb_tells w.0 i)

-- tests
pub or_cases : (a b : Bool) → (a || b) ≡ true → (a ≡ true) ⊎ (b ≡ true)
or_cases true b h = inl refl
or_cases false b h = inr h

pub or_left : (a b : Bool) → a ≡ true → (a || b) ≡ true
or_left true b h = refl
or_left false b h = absurd (false≢true h)

pub or_right : (a b : Bool) → b ≡ true → (a || b) ≡ true
or_right true b h = refl
or_right false b h = h

pub and_left : (a b : Bool) → (a && b) ≡ true → a ≡ true
and_left true b h = refl
and_left false b h = absurd (false≢true h)

pub and_right : (a b : Bool) → (a && b) ≡ true → b ≡ true
and_right true b h = h
and_right false b h = absurd (false≢true h)

pub and_both : (a b : Bool) → a ≡ true → b ≡ true → (a && b) ≡ true
and_both true b p q = q
and_both false b p q = absurd (false≢true p)
