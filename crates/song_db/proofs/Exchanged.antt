-- Things under two keys take their places one after the other, in either order.
use Rattle.std.proofs.Common.{◌≡◌, ℕ, Bool, true, false, cond, List, [], ◌∷◌, ◌++◌, filter, refl, sym, ap, ◌∙◌}
use Rattle.std.specs.declared.cmp.Ordering.{Ordering}
use Rattle.std.specs.declared.cmp.Ordering.TheVariants.{Less, Equal, Greater}
use Rattle.std.specs.Cmp.Lexicographic.{nat_list_cmp_total}
use Rattle.std.specs.List.{AllByRecursion}
use Rattle.std.specs.Ordering.{match_ordering, ordering_reverse}
use Rattle.std.proofs.lemmas.Cmp.{tied_itself}
use Rattle.std.proofs.lemmas.List.Elements.{filter-append}
use Rattle.std.proofs.lemmas.Map.Keys.{sorted_head, sorted_tail}
use Rattle.song_db.specs.Replaced.{by_text, IsRising, replaced}
use Rattle.song_db.proofs.Batches.{AreBehind, IsNew, behind_equal, behind_keyed, behind_replaced, behind_trans, flip}
use Rattle.song_db.proofs.Rising.{texts}

pub flip_less : (a b : List ℕ) → texts a b ≡ Less → texts b a ≡ Greater
flip_less a b less = nat_list_cmp_total.antisymm b a ∙ ap ordering_reverse less

-- what is behind a key stays behind what comes under it
pub in_front : {X : Type 0} (text : X → List ℕ) (key : List ℕ) (new xs : List X) → AreBehind text key xs → replaced text key new xs ≡ new ++ xs
in_front text key [] [] behind = refl
in_front text key (n ∷ new) [] behind = ap (λ l. n ∷ l) (in_front text key new [] behind)
in_front text key new (x ∷ xs) behind = rw behind.0 refl

-- and what is before it is passed by
pub passed_over : {X : Type 0} (text : X → List ℕ) (key : List ℕ) (new front xs : List X)
    → AllByRecursion (λ x. texts key (text x) ≡ Greater) front → replaced text key new (front ++ xs) ≡ front ++ replaced text key new xs
passed_over text key new [] xs before = refl
passed_over text key new (x ∷ front) xs before = rw before.0 (ap (λ l. x ∷ l) (passed_over text key new front xs before.1))

before_keyed : {X : Type 0} (text : X → List ℕ) (key other : List ℕ) (new : List X) → texts other key ≡ Greater
    → AllByRecursion (λ x. text x ≡ key) new → AllByRecursion (λ x. texts other (text x) ≡ Greater) new
before_keyed text key other [] greater keyed = tt
before_keyed text key other (x ∷ xs) greater keyed = (ap (texts other) keyed.0 ∙ greater, before_keyed text key other xs greater keyed.1)

less_then_exchanged : {X : Type 0} (text : X → List ℕ) (a b : List ℕ) (one two xs : List X) → texts a b ≡ Less → IsNew text a one
    → IsNew text b two → IsRising text xs → replaced text a one (replaced text b two xs) ≡ replaced text b two (replaced text a one xs)
less_then_exchanged {X} text a b one two [] less is_one is_two rising =
    in_front text a one two (behind_keyed text b a two less is_two.keyed)
    ∙ sym (ap (replaced text b two) (sym (nothing_behind one)) ∙ passed_over text b two one [] (before_keyed text a b one (flip_less a b
    less) is_one.keyed))
  where
    nothing_behind : (xs : List X) → xs ++ [] ≡ xs
    nothing_behind [] = refl
    nothing_behind (x ∷ xs) = ap (λ l. x ∷ l) (nothing_behind xs)
less_then_exchanged {X} text a b one two (x ∷ xs) less is_one is_two rising =
    by_cases (texts a (text x)) refl (less_then_exchanged text a b one two xs less is_one is_two (sorted_tail (by_text text) x xs rising))
  where
    behind : AreBehind text (text x) xs
    behind = sorted_head (by_text text) x xs rising

    before : AllByRecursion (λ y. texts b (text y) ≡ Greater) one
    before = before_keyed text a b one (flip_less a b less) is_one.keyed

    later : texts (text x) b ≡ Less → replaced text b two (x ∷ xs) ≡ x ∷ replaced text b two xs
    later low = rw (flip_less (text x) b low) refl

    by_cases : (o : Ordering) → texts a (text x) ≡ o
        → replaced text a one (replaced text b two xs) ≡ replaced text b two (replaced text a one xs)
        → replaced text a one (replaced text b two (x ∷ xs)) ≡ replaced text b two (match_ordering o (one ++ x ∷ xs) (one ++ xs) (x
        ∷ replaced text a one xs))
    by_cases Less is rest =
        let all : AreBehind text a (x ∷ xs) = (is, behind_trans text a (text x) xs is behind) in
        in_front text a one (replaced text b two (x ∷ xs)) (behind_replaced text a b two (x ∷ xs) (behind_keyed text b a two less
        is_two.keyed) all) ∙ sym (passed_over text b two one (x ∷ xs) before)
    by_cases Equal is rest =
        let low : texts (text x) b ≡ Less = sym (nat_list_cmp_total.congr a (text x) b is) ∙ less in
        let all : AreBehind text a xs = behind_equal text a (text x) xs is behind in
        let step : replaced text a one (x ∷ replaced text b two xs) ≡ one ++ replaced text b two xs = rw is refl in
        ap (replaced text a one) (later low) ∙ step ∙ sym (passed_over text b two one xs before)
    by_cases Greater is rest =
        let low : texts (text x) b ≡ Less = nat_list_cmp_total.trans (text x) a b (flip a (text x) is) less in
        let step : replaced text a one (x ∷ replaced text b two xs) ≡ x ∷ replaced text a one (replaced text b two xs) = rw is refl in
        let other : replaced text b two (x ∷ replaced text a one xs) ≡ x ∷ replaced text b two (replaced text a one xs) =
        rw (flip_less (text x) b low) refl in
        ap (replaced text a one) (later low) ∙ step ∙ ap (λ l. x ∷ l) rest ∙ sym other

pub exchanged : {X : Type 0} (text : X → List ℕ) (a b : List ℕ) (one two xs : List X) → (texts a b ≡ Equal → ⊥) → IsNew text a one
    → IsNew text b two → IsRising text xs → replaced text a one (replaced text b two xs) ≡ replaced text b two (replaced text a one xs)
exchanged text a b one two xs apart is_one is_two rising = by_cases (texts a b) refl
  where
    by_cases : (o : Ordering) → texts a b ≡ o → replaced text a one (replaced text b two xs) ≡ replaced text b two (replaced text a one xs)
    by_cases Less is = less_then_exchanged text a b one two xs is is_one is_two rising
    by_cases Equal is = absurd (apart is)
    by_cases Greater is = sym (less_then_exchanged text b a two one xs (flip a b is) is_two is_one rising)

-- what came goes again
pub came_and_went : {X : Type 0} (text : X → List ℕ) (x : X) (xs : List X)
    → replaced text (text x) [] (replaced text (text x) (x ∷ []) xs) ≡ replaced text (text x) [] xs
came_and_went text x [] = rw (tied_itself nat_list_cmp_total (text x)) refl
came_and_went {X} text x (y ∷ ys) = by_cases (texts (text x) (text y)) refl (came_and_went text x ys)
  where
    by_cases : (o : Ordering) → texts (text x) (text y) ≡ o
        → replaced text (text x) [] (replaced text (text x) (x ∷ []) ys) ≡ replaced text (text x) [] ys
        → replaced text (text x) [] (match_ordering o (x ∷ y ∷ ys) (x ∷ ys) (y ∷ replaced text (text x) (x ∷ []) ys))
        ≡ match_ordering o (y ∷ ys) ys (y ∷ replaced text (text x) [] ys)
    by_cases Less is rest = rw (tied_itself nat_list_cmp_total (text x)) refl
    by_cases Equal is rest = rw (tied_itself nat_list_cmp_total (text x)) refl
    by_cases Greater is rest = rw is (ap (λ l. y ∷ l) rest)

filter_behind : {X : Type 0} (text : X → List ℕ) (p : X → Bool) (key : List ℕ) (xs : List X) → AreBehind text key xs
    → AreBehind text key (filter p xs)
filter_behind text p key [] behind = tt
filter_behind {X} text p key (x ∷ xs) behind = by_cases (p x) (filter_behind text p key xs behind.1)
  where
    by_cases : (b : Bool) → AreBehind text key (filter p xs) → AreBehind text key (cond b (x ∷ filter p xs) (filter p xs))
    by_cases true rest = (behind.0, rest)
    by_cases false rest = rest

-- of things that pass a test one comes or goes
pub passing_replaced : {X : Type 0} (text : X → List ℕ) (p : X → Bool) (key : List ℕ) (new xs : List X) → IsRising text xs
    → filter p (replaced text key new xs) ≡ replaced text key (filter p new) (filter p xs)
passing_replaced text p key new [] rising = refl
passing_replaced {X} text p key new (x ∷ xs) rising =
    by_cases (texts key (text x)) refl (p x) refl (passing_replaced text p key new xs (sorted_tail (by_text text) x xs rising))
  where
    behind : AreBehind text (text x) xs
    behind = sorted_head (by_text text) x xs rising

    by_cases : (o : Ordering) → texts key (text x) ≡ o → (b : Bool) → p x ≡ b
        → filter p (replaced text key new xs) ≡ replaced text key (filter p new) (filter p xs)
        → filter p (match_ordering o (new ++ x ∷ xs) (new ++ xs) (x ∷ replaced text key new xs))
        ≡ replaced text key (filter p new) (cond b (x ∷ filter p xs) (filter p xs))
    by_cases Less is true passes rest =
        let whole : filter p (x ∷ xs) ≡ x ∷ filter p xs = rw passes refl in
        filter-append p new (x ∷ xs) ∙ rw (whole, is) refl
    by_cases Less is false fails rest =
        let whole : filter p (x ∷ xs) ≡ filter p xs = rw fails refl in
        filter-append p new (x ∷ xs) ∙ rw whole (sym (in_front text key (filter p new) (filter p xs)
        (filter_behind text p key xs (behind_trans text key (text x) xs is behind))))
    by_cases Equal is true passes rest = filter-append p new xs ∙ rw is refl
    by_cases Equal is false fails rest = filter-append p new xs ∙ sym (in_front text key (filter p new) (filter p xs)
        (filter_behind text p key xs (behind_equal text key (text x) xs is behind)))
    by_cases Greater is true passes rest =
        let whole : filter p (x ∷ replaced text key new xs) ≡ x ∷ filter p (replaced text key new xs) = rw passes refl in
        whole ∙ rw is (ap (λ l. x ∷ l) rest)
    by_cases Greater is false fails rest =
        let whole : filter p (x ∷ replaced text key new xs) ≡ filter p (replaced text key new xs) = rw fails refl in
        whole ∙ rest
