-- Where clients stand.
use Rattle.std.proofs.Common.{◌≡◌, ℕ, [], Option, None, Some, refl, arith, is_some, cond}
use Rattle.std.proofs.lemmas.List.Sums.{sum_by-set}
use Rattle.slab.specs.Slab.{Slab, get, slab_len, ContainsKey, with_value}
use Rattle.slab.proofs.SlabLemmas.{ContainsKey-within}

module _ {T : Type 0} where
  pub none_there : (slab : Slab T) (key : ℕ) → slab.slots ≡ [] → get slab key ≡ None
  none_there slab key none = rw none refl

  -- another value at a key that has one
  pub len_with_value : (s : Slab T) (key : ℕ) (value : T) → ContainsKey s key → slab_len (with_value s key value) ≡ slab_len s
  len_with_value s key value there =
      let e = sum_by-set (λ (o : Option T). cond (is_some o) 1 0) s.slots key (Some value) None (ContainsKey-within s key there) in
      grind (arith, e, there)
