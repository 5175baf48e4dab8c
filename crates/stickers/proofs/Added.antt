-- What is put under a text behind all others.
use Rattle.std.proofs.Common.{◌≡◌, ℕ, List, [], ◌∷◌, ◌++◌, refl, ap, ◌∙◌}
use Rattle.std.specs.declared.cmp.Ordering.TheVariants.{Less, Greater}
use Rattle.std.specs.Cmp.Lexicographic.{slice_cmp, nat_list_cmp_total}
use Rattle.std.specs.List.{AllByRecursion}
use Rattle.std.specs.List.Sorted.{IsStrictlySortedBy}
use Rattle.std.specs.Map.{keys_of}
use Rattle.std.specs.Ordering.{nat_cmp, ordering_reverse}
use Rattle.stickers.specs.Named.{IsRising, with_name}

first_below : {X : Type 0} (q name : List ℕ) (x : X) (front back : List (List ℕ × X))
    → AllByRecursion (λ k. slice_cmp nat_cmp q k ≡ Less) (keys_of (front ++ (name, x) ∷ back)) → slice_cmp nat_cmp q name ≡ Less
first_below q name x [] back all = all.0
first_below q name x (e ∷ front) back all = first_below q name x front back all.1

-- where names rise, each is put behind those in front of it
pub added_last : {X : Type 0} (front back : List (List ℕ × X)) (name : List ℕ) (x : X) → IsRising (front ++ (name, x) ∷ back)
    → with_name front name x ≡ front ++ (name, x) ∷ []
unfolding IsStrictlySortedBy
added_last [] back name x rising = refl
added_last (e ∷ front) back name x rising =
    let behind : slice_cmp nat_cmp name e.0 ≡ Greater = nat_list_cmp_total.antisymm name e.0
    ∙ ap ordering_reverse (first_below e.0 name x front back rising.0) in
    rw behind (ap (λ l. e ∷ l) (added_last front back name x rising.1))
