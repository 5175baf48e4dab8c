-- Where newlines stand, and what a search for one says.
use Rattle.std.proofs.Common.{◌≡◌, ◌≢◌, ℕ, zero, suc, ◌+◌, ◌-◌, ◌<◌, ◌≤◌, min, List, [], ◌∷◌, ◌++◌, length, take, get_or, Option, Some, None}
use Rattle.std.proofs.Common.{MatchOption, sym, ◌∙◌, ap, subst, arith, ⊎_elim}
use Rattle.std.proofs.lemmas.Bool.{eq-eqb, eqb-true, cases_lt}
use Rattle.std.proofs.lemmas.List.{get_or-take, take_all, take-take, length-take, take_min, take-append-le}
use Rattle.std.proofs.Math.Seq.{take-append-add}
use Rattle.memchr.specs.Find.{IsFirstByte, is_byte}
use Rattle.client_session.specs.Lines.{newline, line_limit, HasNoNewline, IsUnended, IsLineEnd}

pub HasNoNewline-from_places : (xs : List ℕ) → ((k : ℕ) → k < length xs → get_or xs k 0 ≢ newline) → HasNoNewline xs
HasNoNewline-from_places [] h = tt
HasNoNewline-from_places (x ∷ xs) h = (h 0 (omega arith), HasNoNewline-from_places xs (λ k lt. h (suc k) (omega arith)))

pub HasNoNewline-append : (xs ys : List ℕ) → HasNoNewline xs → HasNoNewline ys → HasNoNewline (xs ++ ys)
HasNoNewline-append [] ys p q = q
HasNoNewline-append (x ∷ xs) ys p q = (p.0, HasNoNewline-append xs ys p.1 q)

-- a search that found none
pub searched_none : (xs : List ℕ) → IsFirstByte (is_byte newline) xs None → HasNoNewline xs
searched_none xs h = HasNoNewline-from_places xs (λ k lt e. h k (omega arith) lt (eq-eqb (get_or xs k 0) newline e))

-- a search that found the first
pub searched_at : (xs : List ℕ) (k : ℕ) → IsFirstByte (is_byte newline) xs (Some k)
    → (k < length xs) × HasNoNewline (take k xs) × (get_or xs k 0 ≡ newline)
searched_at xs k h = (
  h.0.high,
  HasNoNewline-from_places (take k xs) (λ j lt e.
      let l : j < k = omega (arith, length-take k xs) in
      h.0.before j (omega arith) l (eq-eqb (get_or xs j 0) newline (sym (get_or-take k xs j 0 l) ∙ e))),
  eqb-true (get_or xs k 0) newline h.1,
)

-- bytes that follow unended ones
pub IsUnended-append : (xs ys : List ℕ) → IsUnended xs → HasNoNewline (take (line_limit + 1 - length xs) ys) → IsUnended (xs ++ ys)
IsUnended-append xs ys p q =
    ⊎_elim
    (λ (long : line_limit + 1 < length xs).
    let le : line_limit + 1 ≤ length xs = omega arith in
    subst HasNoNewline (sym (take-append-le (line_limit + 1) xs ys le)) p)
    (λ (short : length xs ≤ line_limit + 1).
    let n = line_limit + 1 - length xs in
    let e : length xs + n ≡ line_limit + 1 = omega arith in
    let whole : take (line_limit + 1) xs ≡ xs = take_all (line_limit + 1) xs short in
    let joined : take (line_limit + 1) (xs ++ ys) ≡ xs ++ take n ys = ap (λ (m : ℕ). take m (xs ++ ys)) (sym e) ∙ take-append-add xs ys n in
    subst HasNoNewline (sym joined) (HasNoNewline-append xs (take n ys) (subst HasNoNewline whole p) q))
    (cases_lt (line_limit + 1) (length xs))

-- what the search up to the limit says of the bytes that follow n others
pub line_end_of : (n room : ℕ) (rest : List ℕ) (r : Option ℕ) → room ≡ min (line_limit + 1 - n) (length rest)
    → IsFirstByte (is_byte newline) (take room rest) r
    → MatchOption r (HasNoNewline (take (line_limit + 1 - n) rest)) (IsLineEnd n rest)
line_end_of n room rest None e h =
    subst HasNoNewline (ap (λ (m : ℕ). take m rest) e ∙ take_min (line_limit + 1 - n) rest) (searched_none (take room rest) h)
line_end_of n room rest (Some k) e h =
    let found = searched_at (take room rest) k h in
    let lt : k < room = omega (arith, found.0, length-take room rest) in
    let le : k ≤ room = omega arith in
    record {
      within = omega (arith, found.0, length-take room rest);
      short = omega arith;
      one = subst HasNoNewline (take-take k room rest le) found.1;
      ends = sym (get_or-take room rest k 0 lt) ∙ found.2;
    }

-- where no byte is a newline, no line ends
pub no_newline_at : (xs : List ℕ) (k : ℕ) → HasNoNewline xs → k < length xs → get_or xs k 0 ≢ newline
no_newline_at [] k none lt = absurd (omega arith)
no_newline_at (x ∷ xs) zero none lt = none.0
no_newline_at (x ∷ xs) (suc k) none lt = no_newline_at xs k none.1 (omega arith)

pub no_line_ends : (n : ℕ) (rest : List ℕ) (k : ℕ) → HasNoNewline rest → IsLineEnd n rest k → ⊥
no_line_ends n rest k none at = no_newline_at rest k none at.within at.ends
