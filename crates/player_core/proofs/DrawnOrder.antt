-- There is one list of drawn entries that is in random order.
use Rattle.std.proofs.Common.{◌≡◌, ℕ, suc, ◌+◌, ◌<◌, ◌≤◌, Bool, true, false, cond, eqb, ltb, ◌==◌, ◌||◌, ◌&&◌, ◌⊎◌, inl, inr}
use Rattle.std.proofs.Common.{List, [], ◌∷◌, length, get_or, filter, refl, sym, ap, ◌∙◌, subst, arith, true≢false}
use Rattle.std.specs.List.{sum_by}
use Rattle.std.specs.List.Sorted.{IsPermutation}
use Rattle.std.specs.declared.cmp.Ordering.TheVariants.{Less, Equal, Greater}
use Rattle.std.specs.Ordering.{nat_cmp, is_lt, ordering_then}
use Rattle.std.proofs.lemmas.Bool.{cases_eq, ltb-true, ltb-false, eqb-true, eqb-false, eq-eqb, ne_eqb}
use Rattle.std.proofs.lemmas.List.Sums.{sum_by-cons}
use Rattle.std.proofs.lemmas.List.Sorted.{sum_by-IsPermutation}
use Rattle.player_core.specs.RandomOrder.{Drawn, goes_before, put_in, in_order}

-- one may stand in front of another: by priority, then by word, then by id
abbrev MayStand : Drawn → Drawn → Type 0
MayStand one other = (other.1 < one.1) ⊎ ((one.1 ≡ other.1) × ((one.2 < other.2) ⊎ ((one.2 ≡ other.2) × (one.0 ≤ other.0))))

abbrev test_of : Bool → Bool → Bool → Bool → Bool → Bool
test_of p e q f r = p || (e && (q || (f && r)))

may_stand : (one other : Drawn) → goes_before other one ≡ false → MayStand one other
may_stand one other is = of (ltb one.1 other.1) (eqb other.1 one.1) (ltb other.2 one.2) (eqb other.2 one.2)
    (ltb other.0 one.0) refl refl refl refl refl is
  where
    of : (p e q f r : Bool) → ltb one.1 other.1 ≡ p → eqb other.1 one.1 ≡ e → ltb other.2 one.2 ≡ q → eqb other.2 one.2 ≡ f
        → ltb other.0 one.0 ≡ r → test_of p e q f r ≡ false → MayStand one other
    of true e q f r is_p is_e is_q is_f is_r is = absurd (cc)
    of false false q f r is_p is_e is_q is_f is_r is =
        let apart : (other.1 ≡ one.1) → ⊥ = eqb-false other.1 one.1 is_e in
        let low : other.1 ≤ one.1 = ltb-false one.1 other.1 is_p in
        inl (omega arith)
    of false true true f r is_p is_e is_q is_f is_r is = absurd (cc)
    of false true false false r is_p is_e is_q is_f is_r is =
        let same : other.1 ≡ one.1 = eqb-true other.1 one.1 is_e in
        let apart : (other.2 ≡ one.2) → ⊥ = eqb-false other.2 one.2 is_f in
        let low : one.2 ≤ other.2 = ltb-false other.2 one.2 is_q in
        inr (sym same, inl (omega arith))
    of false true false true true is_p is_e is_q is_f is_r is = absurd (cc)
    of false true false true false is_p is_e is_q is_f is_r is =
        let same : other.1 ≡ one.1 = eqb-true other.1 one.1 is_e in
        let tie : other.2 ≡ one.2 = eqb-true other.2 one.2 is_f in
        inr (sym same, inr (sym tie, ltb-false other.0 one.0 is_r))

goes_first : (one other : Drawn) → goes_before one other ≡ true → MayStand one other
goes_first one other is = of (ltb other.1 one.1) (eqb one.1 other.1) (ltb one.2 other.2) (eqb one.2 other.2)
    (ltb one.0 other.0) refl refl refl refl refl is
  where
    of : (p e q f r : Bool) → ltb other.1 one.1 ≡ p → eqb one.1 other.1 ≡ e → ltb one.2 other.2 ≡ q → eqb one.2 other.2 ≡ f
        → ltb one.0 other.0 ≡ r → test_of p e q f r ≡ true → MayStand one other
    of true e q f r is_p is_e is_q is_f is_r is = inl (ltb-true other.1 one.1 is_p)
    of false false q f r is_p is_e is_q is_f is_r is = absurd (cc)
    of false true true f r is_p is_e is_q is_f is_r is = inr (eqb-true one.1 other.1 is_e, inl (ltb-true one.2 other.2 is_q))
    of false true false false r is_p is_e is_q is_f is_r is = absurd (cc)
    of false true false true false is_p is_e is_q is_f is_r is = absurd (cc)
    of false true false true true is_p is_e is_q is_f is_r is =
        let low : one.0 < other.0 = ltb-true one.0 other.0 is_r in
        inr (eqb-true one.1 other.1 is_e, inr (eqb-true one.2 other.2 is_f, omega arith))

stands_trans : (one two three : Drawn) → MayStand one two → MayStand two three → MayStand one three
stands_trans one two three (inl p) (inl q) = inl (omega arith)
stands_trans one two three (inl p) (inr q) = inl (omega (arith, q.0))
stands_trans one two three (inr p) (inl q) = inl (omega (arith, p.0))
stands_trans one two three (inr p) (inr q) = inr (p.0 ∙ q.0, of p.1 q.1)
  where
    of : (one.2 < two.2) ⊎ ((one.2 ≡ two.2) × (one.0 ≤ two.0)) → (two.2 < three.2) ⊎ ((two.2 ≡ three.2) × (two.0 ≤ three.0))
        → (one.2 < three.2) ⊎ ((one.2 ≡ three.2) × (one.0 ≤ three.0))
    of (inl a) (inl b) = inl (omega arith)
    of (inl a) (inr b) = inl (omega (arith, b.0))
    of (inr a) (inl b) = inl (omega (arith, a.0))
    of (inr a) (inr b) = inr (a.0 ∙ b.0, omega (arith, a.1, b.1))

same_drawn : (one other : Drawn) → one.0 ≡ other.0 → one.1 ≡ other.1 → one.2 ≡ other.2 → one ≡ other
same_drawn one other a b c = λ i. (a i, b i, c i)

stands_both : (one other : Drawn) → MayStand one other → MayStand other one → one ≡ other
stands_both one other (inl p) (inl q) = absurd (omega arith)
stands_both one other (inl p) (inr q) = absurd (omega (arith, q.0))
stands_both one other (inr p) (inl q) = absurd (omega (arith, p.0))
stands_both one other (inr p) (inr q) = of p.1 q.1
  where
    of : (one.2 < other.2) ⊎ ((one.2 ≡ other.2) × (one.0 ≤ other.0)) → (other.2 < one.2) ⊎ ((other.2 ≡ one.2) × (other.0 ≤ one.0))
        → one ≡ other
    of (inl a) (inl b) = absurd (omega arith)
    of (inl a) (inr b) = absurd (omega (arith, b.0))
    of (inr a) (inl b) = absurd (omega (arith, a.0))
    of (inr a) (inr b) = same_drawn one other (omega (arith, a.1, b.1)) p.0 a.0

-- each may stand in front of all behind it
abbrev InFront : Drawn → List Drawn → Type 0
InFront one [] = Unit {0}
InFront one (other ∷ others) = MayStand one other × InFront one others

abbrev Rises : List Drawn → Type 0
Rises [] = Unit {0}
Rises (one ∷ others) = InFront one others × Rises others

in_front-weaker : (one two : Drawn) (others : List Drawn) → MayStand one two → InFront two others → InFront one others
in_front-weaker one two [] first all = tt
in_front-weaker one two (other ∷ others) first all = (stands_trans one two other first all.0, in_front-weaker one two others first all.1)

pub rises_from_neighbours : (drawn : List Drawn) → ((k : ℕ) (d : Drawn) → k + 1 < length drawn
    → goes_before (get_or drawn (k + 1) d) (get_or drawn k d) ≡ false) → Rises drawn
rises_from_neighbours [] up = tt
rises_from_neighbours (one ∷ []) up = (tt, tt)
rises_from_neighbours (one ∷ (two ∷ others)) up =
    let rest : Rises (two ∷ others) = rises_from_neighbours (two ∷ others) (λ k d within. subst (λ m. goes_before (get_or (one ∷
    (two ∷ others)) m d) (get_or (two ∷ others) k d) ≡ false) (one_more k) (up (suc k) d (omega arith))) in
    let first : MayStand one two = may_stand one two (up 0 one (omega arith)) in
    ((first, in_front-weaker one two others first rest.0), rest)
  where
    one_more : (k : ℕ) → suc k + 1 ≡ suc (k + 1)
    one_more k = omega arith

put_in-in_front : (one drawn : Drawn) (others : List Drawn) → MayStand one drawn → InFront one others → InFront one (put_in drawn others)
put_in-in_front one drawn [] first all = (first, tt)
put_in-in_front one drawn (other ∷ others) first all = of (put_in-in_front one drawn others first all.1) (goes_before drawn other)
  where
    of : InFront one (put_in drawn others) → (b : Bool) → InFront one (cond b (drawn ∷ (other ∷ others)) (other ∷ put_in drawn others))
    of rest true = (first, all)
    of rest false = (all.0, rest)

put_in-rises : (drawn : Drawn) (others : List Drawn) → Rises others → Rises (put_in drawn others)
put_in-rises drawn [] up = (tt, tt)
put_in-rises drawn (other ∷ others) up = of (put_in-rises drawn others up.1) (goes_before drawn other) refl
  where
    of : Rises (put_in drawn others) → (b : Bool) → goes_before drawn other ≡ b
        → Rises (cond b (drawn ∷ (other ∷ others)) (other ∷ put_in drawn others))
    of rest true first =
        let stands : MayStand drawn other = goes_first drawn other first in
        ((stands, in_front-weaker drawn other others stands up.0), up)
    of rest false last = (put_in-in_front other drawn others (may_stand other drawn last) up.0, rest)

in_order-rises : (drawn : List Drawn) → Rises (in_order drawn)
in_order-rises [] = tt
in_order-rises (one ∷ others) = put_in-rises one (in_order others) (in_order-rises others)

-- how often each stands in a list
abbrev is_it : Drawn → Drawn → Bool
is_it one other = (one.0 == other.0) && ((one.1 == other.1) && (one.2 == other.2))

is_it-same : (one other : Drawn) → is_it one other ≡ true → one ≡ other
is_it-same one other is = of (eqb one.0 other.0) (eqb one.1 other.1) (eqb one.2 other.2) refl refl refl is
  where
    of : (a b c : Bool) → eqb one.0 other.0 ≡ a → eqb one.1 other.1 ≡ b → eqb one.2 other.2 ≡ c → (a && (b && c)) ≡ true → one ≡ other
    of false b c is_a is_b is_c is = absurd (cc)
    of true false c is_a is_b is_c is = absurd (cc)
    of true true false is_a is_b is_c is = absurd (cc)
    of true true true is_a is_b is_c is = same_drawn one other (eqb-true one.0 other.0 is_a) (eqb-true one.1 other.1 is_b)
        (eqb-true one.2 other.2 is_c)

is_it-itself : (one : Drawn) → is_it one one ≡ true
is_it-itself one = rw (eq-eqb one.0 one.0 refl, eq-eqb one.1 one.1 refl, eq-eqb one.2 one.2 refl) refl

abbrev counts_of : Drawn → List Drawn → ℕ
counts_of one [] = 0
counts_of one (other ∷ others) = cond (is_it one other) 1 0 + counts_of one others

counts-sum : (one : Drawn) (drawn : List Drawn) → counts_of one drawn ≡ sum_by (λ other. cond (is_it one other) 1 0) drawn
counts-sum one [] = refl
counts-sum one (other ∷ others) = ap (λ n. cond (is_it one other) 1 0 + n) (counts-sum one others)
    ∙ sym (sum_by-cons (λ other. cond (is_it one other) 1 0) other others)

put_in-counts : (one drawn : Drawn) (others : List Drawn) → counts_of one (put_in drawn others) ≡ counts_of one (drawn ∷ others)
put_in-counts one drawn [] = refl
put_in-counts one drawn (other ∷ others) = of (put_in-counts one drawn others) (goes_before drawn other)
  where
    of : counts_of one (put_in drawn others) ≡ counts_of one (drawn ∷ others) → (b : Bool)
        → counts_of one (cond b (drawn ∷ (other ∷ others)) (other ∷ put_in drawn others)) ≡ counts_of one (drawn ∷ (other ∷ others))
    of rest true = refl
    of rest false = omega (arith, rest)

in_order-counts : (one : Drawn) (drawn : List Drawn) → counts_of one (in_order drawn) ≡ counts_of one drawn
in_order-counts one [] = refl
in_order-counts one (other ∷ others) = put_in-counts one other (in_order others)
    ∙ ap (λ n. cond (is_it one other) 1 0 + n) (in_order-counts one others)

-- one that counts in a list has the first one in front of it
found_behind : (first one : Drawn) (others : List Drawn) → InFront first others → 0 < counts_of one others → MayStand first one
found_behind first one [] all some = absurd (omega arith)
found_behind first one (other ∷ others) all some = of (λ more. found_behind first one others all.1 more) (is_it one other) refl
  where
    less : (b : Bool) → is_it one other ≡ b → 0 < cond b 1 0 + counts_of one others
    less b is = subst (λ t. 0 < cond t 1 0 + counts_of one others) is some

    of : (0 < counts_of one others → MayStand first one) → (b : Bool) → is_it one other ≡ b → MayStand first one
    of rest true is = subst (λ d. MayStand first d) (sym (is_it-same one other is)) all.0
    of rest false is = rest (let more : 0 < 0 + counts_of one others = less false is in omega arith)

first_or_behind : (first one : Drawn) (others : List Drawn) → InFront first others → 0 < counts_of one (first ∷ others)
    → (one ≡ first) ⊎ MayStand first one
first_or_behind first one others all some = of (is_it one first) refl
  where
    of : (b : Bool) → is_it one first ≡ b → (one ≡ first) ⊎ MayStand first one
    of true is = inl (is_it-same one first is)
    of false is = inr (found_behind first one others all (let more : 0 < 0 + counts_of one others =
        subst (λ t. 0 < cond t 1 0 + counts_of one others) is some in omega arith))

counts_itself : (one : Drawn) (others : List Drawn) → 0 < counts_of one (one ∷ others)
counts_itself one others = subst (λ t. 0 < cond t 1 0 + counts_of one others) (sym (is_it-itself one))
    (let more : 0 < 1 + counts_of one others = omega arith in more)

one_order : (xs ys : List Drawn) → Rises xs → Rises ys → ((one : Drawn) → counts_of one xs ≡ counts_of one ys) → xs ≡ ys
one_order [] [] up_x up_y same = refl
one_order [] (y ∷ ys) up_x up_y same = absurd (omega (arith, counts_itself y ys, same y))
one_order (x ∷ xs) [] up_x up_y same = absurd (omega (arith, counts_itself x xs, same x))
one_order (x ∷ xs) (y ∷ ys) up_x up_y same =
    let head : x ≡ y = of (first_or_behind y x ys up_y.0 (omega (arith, counts_itself x xs, same x))) (first_or_behind x y xs up_x.0
    (omega (arith, counts_itself y ys, same y))) in
    let rest : xs ≡ ys = one_order xs ys up_x.1 up_y.1 (λ one. tail one (subst (λ d. counts_of one (d ∷ xs)
    ≡ counts_of one (y ∷ ys)) head (same one))) in
    λ i. head i ∷ rest i
  where
    of : (x ≡ y) ⊎ MayStand y x → (y ≡ x) ⊎ MayStand x y → x ≡ y
    of (inl here) other = here
    of (inr behind) (inl here) = sym here
    of (inr behind) (inr also) = stands_both x y also behind

    tail : (one : Drawn) → counts_of one (y ∷ xs) ≡ counts_of one (y ∷ ys) → counts_of one xs ≡ counts_of one ys
    tail one same = omega (arith, same)

-- a list that is sorted by the order is the one in random order
pub in_order_is : (drawn sorted : List Drawn) → IsPermutation drawn sorted → ((k : ℕ) (d : Drawn) → k + 1 < length sorted
    → goes_before (get_or sorted (k + 1) d) (get_or sorted k d) ≡ false) → sorted ≡ in_order drawn
in_order_is drawn sorted moved up =
    one_order sorted (in_order drawn) (rises_from_neighbours sorted up) (in_order-rises drawn) (λ one. counts-sum one sorted
    ∙ sum_by-IsPermutation (λ other. cond (is_it one other) 1 0) drawn sorted moved ∙ sym (counts-sum one drawn)
    ∙ sym (in_order-counts one drawn))

-- what the sort compares
pub goes_before-cmp : (one other : Drawn) → is_lt (ordering_then (ordering_then (nat_cmp other.1 one.1) (nat_cmp one.2 other.2))
    (nat_cmp one.0 other.0)) ≡ goes_before one other
goes_before-cmp one other = rw (eqb_sym one.1 other.1) (of (ltb other.1 one.1) (eqb other.1 one.1) (ltb one.2 other.2)
    (eqb one.2 other.2) (ltb one.0 other.0) (eqb one.0 other.0))
  where
    eqb_sym : (a b : ℕ) → eqb a b ≡ eqb b a
    eqb_sym a b = by (cases_eq a b)
      where
        by : (a ≡ b) ⊎ (a ≡ b → ⊥) → eqb a b ≡ eqb b a
        by (inl same) = eq-eqb a b same ∙ sym (eq-eqb b a (sym same))
        by (inr apart) = ne_eqb a b apart ∙ sym (ne_eqb b a (λ same. apart (sym same)))

    of : (p e q f r g : Bool) → is_lt (ordering_then (ordering_then (cond p Less (cond e Equal Greater)) (cond q Less
        (cond f Equal Greater))) (cond r Less (cond g Equal Greater))) ≡ test_of p e q f r
    of true e q f r g = refl
    of false false q f r g = refl
    of false true true f r g = refl
    of false true false false r g = refl
    of false true false true true g = refl
    of false true false true false true = refl
    of false true false true false false = refl

-- some of the entries keep their random order
in_front-filter : (test : Drawn → Bool) (one : Drawn) (others : List Drawn) → InFront one others → InFront one (filter test others)
in_front-filter test one [] all = tt
in_front-filter test one (other ∷ others) all = of (in_front-filter test one others all.1) (test other)
  where
    of : InFront one (filter test others) → (b : Bool) → InFront one (cond b (other ∷ filter test others) (filter test others))
    of rest true = (all.0, rest)
    of rest false = rest

rises-filter : (test : Drawn → Bool) (drawn : List Drawn) → Rises drawn → Rises (filter test drawn)
rises-filter test [] up = tt
rises-filter test (one ∷ others) up = of (rises-filter test others up.1) (test one)
  where
    of : Rises (filter test others) → (b : Bool) → Rises (cond b (one ∷ filter test others) (filter test others))
    of rest true = (in_front-filter test one others up.0, rest)
    of rest false = rest

filter-counts : (test : Drawn → Bool) (one : Drawn) (drawn : List Drawn)
    → counts_of one (filter test drawn) ≡ cond (test one) (counts_of one drawn) 0
filter-counts test one [] = of (test one)
  where
    of : (b : Bool) → counts_of one [] ≡ cond b (counts_of one []) 0
    of true = refl
    of false = refl
filter-counts test one (other ∷ others) =
    first (test other) ∙ of (test other) (test one) (is_it one other) (λ is. ap test (sym (is_it-same one other is)))
    (counts_of one (filter test others)) (counts_of one others) (filter-counts test one others)
  where
    first : (b : Bool) → counts_of one (cond b (other ∷ filter test others) (filter test others))
        ≡ cond b (cond (is_it one other) 1 0 + counts_of one (filter test others)) (counts_of one (filter test others))
    first true = refl
    first false = refl

    of : (a b e : Bool) → (e ≡ true → a ≡ b) → (n m : ℕ) → n ≡ cond b m 0
        → cond a (cond e 1 0 + n) n ≡ cond b (cond e 1 0 + m) 0
    of true true e same n m is = ap (λ k. cond e 1 0 + k) is
    of true false true same n m is = absurd (true≢false (same refl))
    of true false false same n m is = omega (arith, is)
    of false true true same n m is = absurd (true≢false (sym (same refl)))
    of false true false same n m is = omega (arith, is)
    of false false e same n m is = is

pub in_order-filter : (test : Drawn → Bool) (drawn : List Drawn) → in_order (filter test drawn) ≡ filter test (in_order drawn)
in_order-filter test drawn =
    one_order (in_order (filter test drawn)) (filter test (in_order drawn)) (in_order-rises (filter test drawn))
    (rises-filter test (in_order drawn) (in_order-rises drawn)) (λ one. in_order-counts one (filter test drawn)
    ∙ filter-counts test one drawn ∙ ap (λ n. cond (test one) n 0) (sym (in_order-counts one drawn))
    ∙ sym (filter-counts test one (in_order drawn)))
