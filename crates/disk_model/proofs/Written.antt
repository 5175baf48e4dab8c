-- The written ranges of a window that is kept oldest first.
use Rattle.std.proofs.Common.{◌≡◌, ℕ, ◌-◌, ◌<◌, zero, suc, List, [], ◌∷◌, length, reverse, get_or, arith, sym, subst}
use Rattle.std.proofs.lemmas.List.{get_or-reverse, length-reverse}
use Rattle.disk_model.specs.Images.{Extent, IsOutside, IsUnwritten}

each_outside : (ranges : List Extent) (i : ℕ) → IsUnwritten ranges i → (k : ℕ) (d : Extent) → k < length ranges
    → IsOutside (get_or ranges k d) i
each_outside [] i free k d below = absurd (omega (arith, below))
each_outside (extent ∷ ranges) i free zero d below = free.0
each_outside (extent ∷ ranges) i free (suc k) d below = each_outside ranges i free.1 k d (omega (arith, below))

all_outside : (ranges : List Extent) (i : ℕ) → ((k : ℕ) → k < length ranges → (d : Extent) → IsOutside (get_or ranges k d) i)
    → IsUnwritten ranges i
all_outside [] i each = tt
all_outside (extent ∷ ranges) i each = (each 0 (omega arith) extent, all_outside ranges i (λ k below d. each (suc k) (omega arith) d))

-- the offset is in none
pub unwritten-reverse : (ranges : List Extent) (i : ℕ) → ((k : ℕ) → k < length ranges → (d : Extent) → IsOutside (get_or ranges k d) i)
    → IsUnwritten (reverse ranges) i
unwritten-reverse ranges i each =
    all_outside (reverse ranges) i (λ k below d.
    let inside : k < length ranges = omega (arith, below, length-reverse ranges) in
    subst (λ extent. IsOutside extent i) (sym (get_or-reverse ranges k d inside)) (each (length ranges - 1 - k) (omega arith) d))

-- the offset is in one
pub written-reverse : (ranges : List Extent) (i k : ℕ) (d : Extent) → k < length ranges → IsUnwritten (reverse ranges) i
    → IsOutside (get_or ranges k d) i
written-reverse ranges i k d below free =
    let j : ℕ = length ranges - 1 - k in
    let inside : j < length ranges = omega arith in
    let back : length ranges - 1 - j ≡ k = omega arith in
    let there : IsOutside (get_or (reverse ranges) j d) i = each_outside (reverse ranges) i free j d (omega
    (arith, length-reverse ranges)) in
    subst (λ m. IsOutside (get_or ranges m d) i) back (subst (λ extent. IsOutside extent i) (get_or-reverse ranges j d inside) there)
