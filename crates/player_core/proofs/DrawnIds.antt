-- In random order the ids stay the same ones, and differ as before.
use Rattle.std.proofs.Common.{◌≡◌, ℕ, Bool, true, false, cond, eqb, ◌||◌, List, [], ◌∷◌, map, refl, sym, ap, ◌∙◌}
use Rattle.std.specs.Prelude.{nat_eq}
use Rattle.std.specs.List.{list_any, IsDistinct, AllByRecursion}
use Rattle.std.proofs.lemmas.Bool.{eqb-false, ne_eqb}
use Rattle.std.proofs.lemmas.Map.Keys.{IsDistinct-cons, IsDistinct-head, IsDistinct-tail}
use Rattle.player_core.specs.RandomOrder.{Drawn, goes_before, put_in, in_order}

abbrev ids : List Drawn → List ℕ
ids drawn = map (λ (one : Drawn). one.0) drawn

put_in-any : (test : ℕ → Bool) (drawn : Drawn) (others : List Drawn)
    → list_any test (ids (put_in drawn others)) ≡ (test drawn.0 || list_any test (ids others))
put_in-any test drawn [] = refl
put_in-any test drawn (other ∷ others) = of (put_in-any test drawn others) (goes_before drawn other)
  where
    turned : (a b c : Bool) → (a || (b || c)) ≡ (b || (a || c))
    turned true true c = refl
    turned true false c = refl
    turned false true c = refl
    turned false false c = refl

    of : list_any test (ids (put_in drawn others)) ≡ (test drawn.0 || list_any test (ids others)) → (b : Bool)
        → list_any test (ids (cond b (drawn ∷ (other ∷ others)) (other ∷ put_in drawn others)))
        ≡ (test drawn.0 || (test other.0 || list_any test (ids others)))
    of rest true = refl
    of rest false = ap (λ b. test other.0 || b) rest ∙ turned (test other.0) (test drawn.0) (list_any test (ids others))

pub in_order-any : (test : ℕ → Bool) (drawn : List Drawn) → list_any test (ids (in_order drawn)) ≡ list_any test (ids drawn)
in_order-any test [] = refl
in_order-any test (one ∷ others) = put_in-any test one (in_order others) ∙ ap (λ b. test one.0 || b) (in_order-any test others)

put_in-others : (id : ℕ) (drawn : Drawn) (others : List Drawn) → eqb id drawn.0 ≡ false → AllByRecursion (λ one. eqb id one ≡ false)
    (ids others) → AllByRecursion (λ one. eqb id one ≡ false) (ids (put_in drawn others))
put_in-others id drawn [] apart all = (apart, tt)
put_in-others id drawn (other ∷ others) apart all = of (put_in-others id drawn others apart all.1) (goes_before drawn other)
  where
    of : AllByRecursion (λ one. eqb id one ≡ false) (ids (put_in drawn others)) → (b : Bool)
        → AllByRecursion (λ one. eqb id one ≡ false) (ids (cond b (drawn ∷ (other ∷ others)) (other ∷ put_in drawn others)))
    of rest true = (apart, all)
    of rest false = (all.0, rest)

in_order-others : (id : ℕ) (drawn : List Drawn) → AllByRecursion (λ one. eqb id one ≡ false) (ids drawn)
    → AllByRecursion (λ one. eqb id one ≡ false) (ids (in_order drawn))
in_order-others id [] all = tt
in_order-others id (one ∷ others) all = put_in-others id one (in_order others) all.0 (in_order-others id others all.1)

put_in-distinct : (drawn : Drawn) (others : List Drawn) → AllByRecursion (λ one. eqb drawn.0 one ≡ false) (ids others)
    → IsDistinct nat_eq (ids others) → IsDistinct nat_eq (ids (put_in drawn others))
put_in-distinct drawn [] apart own = IsDistinct-cons nat_eq drawn.0 [] apart own
put_in-distinct drawn (other ∷ others) apart own =
    of (put_in-distinct drawn others apart.1 (IsDistinct-tail nat_eq other.0 (ids others) own)) (goes_before drawn other)
  where
    turned : eqb other.0 drawn.0 ≡ false
    turned = ne_eqb other.0 drawn.0 (λ same. eqb-false drawn.0 other.0 apart.0 (sym same))

    of : IsDistinct nat_eq (ids (put_in drawn others)) → (b : Bool)
        → IsDistinct nat_eq (ids (cond b (drawn ∷ (other ∷ others)) (other ∷ put_in drawn others)))
    of rest true = IsDistinct-cons nat_eq drawn.0 (ids (other ∷ others)) apart own
    of rest false = IsDistinct-cons nat_eq other.0 (ids (put_in drawn others))
        (put_in-others other.0 drawn others turned (IsDistinct-head nat_eq other.0 (ids others) own)) rest

pub in_order-distinct : (drawn : List Drawn) → IsDistinct nat_eq (ids drawn) → IsDistinct nat_eq (ids (in_order drawn))
in_order-distinct [] own = own
in_order-distinct (one ∷ others) own = put_in-distinct one (in_order others)
    (in_order-others one.0 others (IsDistinct-head nat_eq one.0 (ids others) own))
    (in_order-distinct others (IsDistinct-tail nat_eq one.0 (ids others) own))
