-- The ranges within brackets, one behind the other.
use Rattle.std.proofs.Common.{◌≡◌, ℕ, zero, suc, ◌<◌, ◌≤◌, Bool, true, false, List, [], ◌∷◌, ◌++◌, length, Option, Some, None, refl, ap, sym, ◌∙◌, arith}
use Rattle.std.specs.Prelude.{◌==◌, if◌then◌else◌}
use Rattle.regular_expr.specs.declared.byte_set.ByteRange.{ByteRange}
use Rattle.regular_expr.specs.Classes.{ranges_at, more_ranges, all_ranges}
use Rattle.regular_expr.specs.Counts.{◌>>=◌, byte_at}

-- behind the first
pub ranges_begin : (text rest : List ℕ) (first made : List ByteRange) → Some (first, rest) ≡ ranges_at text → made ≡ first
    → more_ranges (length text) made rest ≡ all_ranges text
unfolding all_ranges
ranges_begin text rest first made e same =
    ap (λ (r : List ByteRange). more_ranges (length text) r rest) same
    ∙ ap (λ (o : Option (List ByteRange × List ℕ)). o >>= λ x. more_ranges (length text) x.0 x.1) e

closed : (x : Bool) (ranges : List ByteRange) (text behind : List ℕ) (other : Option (List ByteRange × List ℕ))
    → Some behind ≡ (if x then Some text else None) → (if x then Some (ranges, text) else other) ≡ Some (ranges, behind)
closed true ranges text behind other e =
    let same : text ≡ behind = cc in
    ap (λ (t : List ℕ). Some (ranges, t)) same
closed false ranges text behind other e = absurd (cc)

-- up to the closing bracket
pub ranges_end : (most : ℕ) (ranges : List ByteRange) (rest behind : List ℕ) → length rest ≤ most → Some behind ≡ byte_at 93 rest
    → more_ranges most ranges rest ≡ Some (ranges, behind)
unfolding more_ranges
ranges_end most ranges [] behind le e = absurd (cc)
ranges_end zero ranges (b ∷ text) behind le e = absurd (omega arith)
ranges_end (suc most) ranges (b ∷ text) behind le e =
    closed (b == 93) ranges text behind (ranges_at (b ∷ text) >>= λ x. more_ranges most (ranges ++ x.0) x.1) e

open_still : (x : Bool) (ranges : List ByteRange) (text : List ℕ) (other : Option (List ByteRange × List ℕ))
    → None ≡ (if x then Some text else None) → (if x then Some (ranges, text) else other) ≡ other
open_still true ranges text other e = absurd (cc)
open_still false ranges text other e = refl

-- where none stands in front of it
pub ranges_stop : (most : ℕ) (ranges : List ByteRange) (rest : List ℕ) → None ≡ byte_at 93 rest → None ≡ ranges_at rest
    → more_ranges most ranges rest ≡ None
unfolding more_ranges
ranges_stop zero ranges rest e none = refl
ranges_stop (suc most) ranges [] e none = refl
ranges_stop (suc most) ranges (b ∷ text) e none =
    open_still (b == 93) ranges text (ranges_at (b ∷ text) >>= λ x. more_ranges most (ranges ++ x.0) x.1) e
    ∙ sym (ap (λ (o : Option (List ByteRange × List ℕ)). o >>= λ x. more_ranges most (ranges ++ x.0) x.1) none)

-- behind the next
pub ranges_go_on : (most : ℕ) (ranges made next : List ByteRange) (rest behind : List ℕ) (all : Option (List ByteRange × List ℕ))
    → length rest ≤ most → None ≡ byte_at 93 rest → Some (next, behind) ≡ ranges_at rest → length behind < length rest
    → made ≡ ranges ++ next → more_ranges most ranges rest ≡ all
    → (left : ℕ) × (length behind ≤ left) × (more_ranges left made behind ≡ all)
unfolding more_ranges
ranges_go_on most ranges made next [] behind all le e some lt same h = absurd (omega arith)
ranges_go_on zero ranges made next (b ∷ text) behind all le e some lt same h = absurd (omega arith)
ranges_go_on (suc most) ranges made next (b ∷ text) behind all le e some lt same h = (
  most,
  omega arith,
  ap (λ (r : List ByteRange). more_ranges most r behind) same
      ∙ ap (λ (o : Option (List ByteRange × List ℕ)). o >>= λ x. more_ranges most (ranges ++ x.0) x.1) some
      ∙ sym (open_still (b == 93) ranges text (ranges_at (b ∷ text) >>= λ x. more_ranges most (ranges ++ x.0) x.1) e) ∙ h,
)
