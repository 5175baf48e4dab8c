-- Lists that rise, with one more behind.
use Rattle.std.proofs.Common.{◌≡◌, true, List, [], ◌∷◌, ◌++◌, refl}
use Rattle.std.specs.declared.cmp.Ordering.{Ordering}
use Rattle.std.specs.declared.cmp.Ordering.TheVariants.{Less, Equal, Greater}
use Rattle.std.specs.Ordering.{is_lt}
use Rattle.std.specs.List.{All, AllByRecursion}
use Rattle.std.specs.List.Sorted.{IsStrictlySortedBy}
use Rattle.std.proofs.lemmas.List.Elements.{All-nil, All-cons, All-head, All-tail}
use Rattle.state_codec.proofs.ItemLaws.{all_push, all_middle}

pub less_is : (o : Ordering) → is_lt o ≡ true → o ≡ Less
less_is Less h = refl
less_is Equal h = absurd (cc)
less_is Greater h = absurd (cc)

-- a fact of each element, by place and in turn
pub all_places : {X : Type 0} (P : X → Type 0) (xs : List X) → AllByRecursion P xs → All P xs
all_places P [] all = All-nil P
all_places P (x ∷ xs) all = All-cons P x xs all.0 (all_places P xs all.1)

pub all_in_turn : {X : Type 0} (P : X → Type 0) (xs : List X) → All P xs → AllByRecursion P xs
all_in_turn P [] all = tt
all_in_turn P (x ∷ xs) all = (All-head P x xs all, all_in_turn P xs (All-tail P x xs all))

pub all_weaker : {X : Type 0} (P Q : X → Type 0) → ((x : X) → P x → Q x) → (xs : List X) → AllByRecursion P xs → AllByRecursion Q xs
all_weaker P Q f [] all = tt
all_weaker P Q f (x ∷ xs) all = (f x all.0, all_weaker P Q f xs all.1)

-- one above all others goes behind them
pub rises_push : {K : Type 0} (c : K → K → Ordering) (xs : List K) (y : K) → IsStrictlySortedBy c xs → AllByRecursion (λ x. c x y ≡ Less) xs
    → IsStrictlySortedBy c (xs ++ y ∷ [])
unfolding IsStrictlySortedBy
rises_push c [] y rising below = (tt, tt)
rises_push c (x ∷ xs) y rising below = (all_push (λ z. c x z ≡ Less) xs y rising.0 below.0, rises_push c xs y rising.1 below.1)

-- where a list rises, each one is above those in front of it
pub rises_above : {K : Type 0} (c : K → K → Ordering) (xs : List K) (y : K) (more : List K) → IsStrictlySortedBy c (xs ++ y ∷ more)
    → AllByRecursion (λ x. c x y ≡ Less) xs
unfolding IsStrictlySortedBy
rises_above c [] y more rising = tt
rises_above c (x ∷ xs) y more rising = (all_middle (λ z. c x z ≡ Less) xs y more rising.0, rises_above c xs y more rising.1)
