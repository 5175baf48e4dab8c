-- What stands in front of the first byte of a kind, and behind it.
use Rattle.std.proofs.Common.{◌≡◌, ℕ, zero, suc, ◌+◌, ◌<◌, List, [], ◌∷◌, length, take, drop, get_or, true, false, ◌==◌, Some, None, refl}
use Rattle.std.proofs.Common.{ap, arith}
use Rattle.command_text.specs.Arguments.{around}
use Rattle.command_text.proofs.Spelling.{is_not}

pub around_at : (byte : ℕ) (s : List ℕ) (n : ℕ) → n < length s → (get_or s n 0 == byte) ≡ true
    → ((k : ℕ) → k < n → (get_or s k 0 == byte) ≡ true → ⊥) → around byte s ≡ Some (take n s, drop (n + 1) s)
unfolding around
around_at byte [] n lt e before = absurd (omega arith)
around_at byte (c ∷ s) zero lt e before = rw e refl
around_at byte (c ∷ s) (suc n) lt e before =
    let here : (c == byte) ≡ false = is_not (c == byte) (before 0 (omega arith)) in
    let later : around byte s ≡ Some (take n s, drop (n + 1) s) =
    around_at byte s n (omega arith) e (λ k h. before (suc k) (omega arith)) in
    let next : suc (n + 1) ≡ suc n + 1 = omega arith in
    rw (here, later) (ap (λ (k : ℕ). Some (c ∷ take n s, drop k (c ∷ s))) next)

pub around_none : (byte : ℕ) (s : List ℕ) → ((k : ℕ) → k < length s → (get_or s k 0 == byte) ≡ true → ⊥) → around byte s ≡ None
unfolding around
around_none byte [] before = refl
around_none byte (c ∷ s) before =
    let here : (c == byte) ≡ false = is_not (c == byte) (before 0 (omega arith)) in
    let later : around byte s ≡ None = around_none byte s (λ k h. before (suc k) (omega arith)) in
    rw (here, later) refl
