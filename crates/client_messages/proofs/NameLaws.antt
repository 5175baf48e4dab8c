-- The names in their order are those that clients have.
use Rattle.std.proofs.Common.{◌≡◌, ℕ, Bool, true, false, ◌||◌, List, [], ◌∷◌, ◌++◌, refl, sym, ap, ◌∙◌}
use Rattle.std.specs.declared.cmp.Ordering.{Ordering}
use Rattle.std.specs.declared.cmp.Ordering.TheVariants.{Less, Equal, Greater}
use Rattle.std.specs.Cmp.Lexicographic.{slice_cmp, nat_list_cmp_total}
use Rattle.std.specs.List.{flat_map, AllByRecursion}
use Rattle.std.specs.List.Sorted.{IsStrictlySortedBy}
use Rattle.std.specs.Ordering.{nat_cmp, is_eq, match_ordering, ordering_reverse}
use Rattle.std.specs.Str.{bytes_eq}
use Rattle.std.proofs.lemmas.Map.Text.{is_eq-slice_cmp}
use Rattle.std.proofs.lemmas.Slice.Eq.{bytes_eq-Decides}
use Rattle.client_messages.specs.Channel.{is_among}
use Rattle.client_messages.specs.Listeners.{is_heard}
use Rattle.client_messages.specs.Names.{with_name, with_names, channels_in}
use Rattle.client_messages.specs.declared.listener.Listener.{Listener}

abbrev by_bytes : List ℕ → List ℕ → Ordering
by_bytes = slice_cmp nat_cmp

equal_names : (a b : List ℕ) → by_bytes a b ≡ Equal → a ≡ b
equal_names a b tied = (bytes_eq-Decides a b).0 (sym (is_eq-slice_cmp a b) ∙ ap is_eq tied)

or_twice : (a b : Bool) → (a || (a || b)) ≡ (a || b)
or_twice true b = refl
or_twice false b = refl

or_exchange : (a b c : Bool) → (a || (b || c)) ≡ (b || (a || c))
or_exchange true true c = refl
or_exchange true false c = refl
or_exchange false b c = refl

or_group : (a b c : Bool) → (a || (b || c)) ≡ ((a || b) || c)
or_group true b c = refl
or_group false b c = refl

or_none : (a : Bool) → (a || false) ≡ a
or_none true = refl
or_none false = refl

among-with_name : (names : List (List ℕ)) (name q : List ℕ) → is_among q (with_name names name) ≡ (bytes_eq name q || is_among q names)
among-with_name [] name q = refl
among-with_name (x ∷ xs) name q = by_cases (by_bytes name x) refl (among-with_name xs name q)
  where
    by_cases : (o : Ordering) → by_bytes name x ≡ o → is_among q (with_name xs name) ≡ (bytes_eq name q || is_among q xs)
        → is_among q (match_ordering o (name ∷ x ∷ xs) (x ∷ xs) (x ∷ with_name xs name))
        ≡ (bytes_eq name q || (bytes_eq x q || is_among q xs))
    by_cases Less h rest = refl
    by_cases Equal h rest =
        let same : x ≡ name = sym (equal_names name x h) in
        rw same (sym (or_twice (bytes_eq name q) (is_among q xs)))
    by_cases Greater h rest = ap (λ b. bytes_eq x q || b) rest ∙ or_exchange (bytes_eq x q) (bytes_eq name q) (is_among q xs)

among-with_names : (names more : List (List ℕ)) (q : List ℕ) → is_among q (with_names names more) ≡ (is_among q more || is_among q names)
among-with_names names [] q = refl
among-with_names names (x ∷ xs) q =
    among-with_names (with_name names x) xs q
    ∙ ap (λ b. is_among q xs || b) (among-with_name names x q)
    ∙ or_exchange (is_among q xs) (bytes_eq x q) (is_among q names)
    ∙ or_group (bytes_eq x q) (is_among q xs) (is_among q names)

among-append : (xs ys : List (List ℕ)) (q : List ℕ) → is_among q (xs ++ ys) ≡ (is_among q xs || is_among q ys)
among-append [] ys q = refl
among-append (x ∷ xs) ys q = ap (λ b. bytes_eq x q || b) (among-append xs ys q) ∙ or_group (bytes_eq x q) (is_among q xs) (is_among q ys)

among-channels : (ls : List Listener) (q : List ℕ) → is_among q (flat_map (λ (l : Listener). l.channels) ls) ≡ is_heard q ls
among-channels [] q = refl
among-channels (l ∷ ls) q =
    among-append l.channels (flat_map (λ (k : Listener). k.channels) ls) q ∙ ap (λ b. is_among q l.channels || b) (among-channels ls q)

-- a channel is named exactly where a client has it
pub named_if_heard : (ls : List Listener) (q : List ℕ) → is_among q (channels_in ls) ≡ is_heard q ls
named_if_heard ls q =
    among-with_names [] (flat_map (λ (l : Listener). l.channels) ls) q
    ∙ or_none (is_among q (flat_map (λ (l : Listener). l.channels) ls))
    ∙ among-channels ls q

above_all : (k x : List ℕ) (xs : List (List ℕ)) → by_bytes k x ≡ Less → AllByRecursion (λ y. by_bytes x y ≡ Less) xs
    → AllByRecursion (λ y. by_bytes k y ≡ Less) xs
above_all k x [] below all = tt
above_all k x (y ∷ ys) below all = (nat_list_cmp_total.trans k x y below all.0, above_all k x ys below all.1)

above_with_name : (x k : List ℕ) (xs : List (List ℕ)) → by_bytes x k ≡ Less → AllByRecursion (λ y. by_bytes x y ≡ Less) xs
    → AllByRecursion (λ y. by_bytes x y ≡ Less) (with_name xs k)
above_with_name x k [] below all = (below, tt)
above_with_name x k (y ∷ ys) below all = by_cases (by_bytes k y) (above_with_name x k ys below all.1)
  where
    by_cases : (o : Ordering) → AllByRecursion (λ z. by_bytes x z ≡ Less) (with_name ys k)
        → AllByRecursion (λ z. by_bytes x z ≡ Less) (match_ordering o (k ∷ y ∷ ys) (y ∷ ys) (y ∷ with_name ys k))
    by_cases Less rest = (below, all)
    by_cases Equal rest = all
    by_cases Greater rest = (all.0, rest)

rising-with_name : (names : List (List ℕ)) (k : List ℕ) → IsStrictlySortedBy by_bytes names → IsStrictlySortedBy by_bytes (with_name names k)
unfolding IsStrictlySortedBy
rising-with_name [] k rising = (tt, tt)
rising-with_name (x ∷ xs) k rising = by_cases (by_bytes k x) refl (rising-with_name xs k rising.1)
  where
    by_cases : (o : Ordering) → by_bytes k x ≡ o → IsStrictlySortedBy by_bytes (with_name xs k)
        → IsStrictlySortedBy by_bytes (match_ordering o (k ∷ x ∷ xs) (x ∷ xs) (x ∷ with_name xs k))
    by_cases Less h rest = ((h, above_all k x xs h rising.0), rising)
    by_cases Equal h rest = rising
    by_cases Greater h rest =
        (above_with_name x k xs (nat_list_cmp_total.antisymm x k ∙ ap ordering_reverse h) rising.0, rest)

rising-with_names : (names more : List (List ℕ)) → IsStrictlySortedBy by_bytes names → IsStrictlySortedBy by_bytes (with_names names more)
rising-with_names names [] rising = rising
rising-with_names names (x ∷ xs) rising = rising-with_names (with_name names x) xs (rising-with_name names x rising)

-- the names rise by their bytes
pub names_rise : (ls : List Listener) → IsStrictlySortedBy by_bytes (channels_in ls)
unfolding IsStrictlySortedBy
names_rise ls = rising-with_names [] (flat_map (λ (l : Listener). l.channels) ls) tt
