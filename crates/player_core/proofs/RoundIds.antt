-- Ids of which some have been played, and the rest is left.
use Rattle.std.proofs.Common.{◌≡◌, ℕ, suc, ◌+◌, ◌<◌, Bool, true, false, true≢false, cond, not, ◌||◌, eqb, arith}
use Rattle.std.proofs.Common.{List, [], ◌∷◌, ◌++◌, length, filter, Some, None, refl, sym, ap, subst, ◌∙◌}
use Rattle.std.specs.Prelude.{nat_eq}
use Rattle.std.specs.List.{list_any, position, position_or_len, IsDistinct, AllByRecursion}
use Rattle.std.proofs.lemmas.Bool.{eq-eqb, eqb-true, eqb-false, ne_eqb, lt-ltb}
use Rattle.std.proofs.lemmas.Map.Keys.{IsDistinct-head, IsDistinct-tail}
use Rattle.player_core.specs.Player.{without}

-- the place of one that passes
passes-within : {X : Type 0} (test : X → Bool) (all : List X) → list_any test all ≡ true → position_or_len test all < length all
passes-within test [] some = absurd (true≢false (sym some))
passes-within test (one ∷ others) some = of (λ more. passes-within test others more) (test one) some
  where
    of : (list_any test others ≡ true → position_or_len test others < length others) → (b : Bool) → (b || list_any test others) ≡ true
        → cond (not b) (1 + position_or_len test others) 0 < suc (length others)
    of rest true is = omega arith
    of rest false is = let within : position_or_len test others < length others = rest is in omega arith

pub position-is : {X : Type 0} (test : X → Bool) (all : List X) → list_any test all ≡ true
    → position test all ≡ Some (position_or_len test all)
position-is test all some = ap (λ b. cond b (Some (position_or_len test all)) None)
    (lt-ltb (position_or_len test all) (length all) (passes-within test all some))

-- an id is neither the current one nor played
abbrev pub is_left_id : ℕ → List ℕ → ℕ → Bool
is_left_id current played id = not (eqb id current || list_any (eqb id) played)

-- of what was played nothing is left
none_left : (current : ℕ) (played ids rest : List ℕ) → ((id : ℕ) → list_any (eqb id) ids ≡ true → list_any (eqb id) played ≡ true)
    → filter (is_left_id current played) (ids ++ rest) ≡ filter (is_left_id current played) rest
none_left current played [] rest in_played = refl
none_left current played (id ∷ ids) rest in_played =
    ap (λ b. cond (not (eqb id current || b)) (id ∷ more) more) here ∙ of (eqb id current)
    ∙ none_left current played ids rest (λ other is. in_played other (behind (eqb other id) is))
  where
    more : List ℕ
    more = filter (is_left_id current played) (ids ++ rest)

    here : list_any (eqb id) played ≡ true
    here = in_played id (ap (λ b. b || list_any (eqb id) ids) (eq-eqb id id refl))

    of : (b : Bool) → cond (not (b || true)) (id ∷ more) more ≡ more
    of true = refl
    of false = refl

    behind : {c : Bool} (b : Bool) → c ≡ true → (b || c) ≡ true
    behind true is = refl
    behind false is = is

-- what is left was not played
all_true : (P : ℕ → Type 0) (ids : List ℕ) → ((id : ℕ) → P id) → AllByRecursion P ids
all_true P [] each = tt
all_true P (id ∷ ids) each = (each id, all_true P ids each)

all_both : (P Q R : ℕ → Type 0) (ids : List ℕ) → ((id : ℕ) → P id → Q id → R id) → AllByRecursion P ids → AllByRecursion Q ids
    → AllByRecursion R ids
all_both P Q R [] both p q = tt
all_both P Q R (id ∷ ids) both p q = (both id p.0 q.0, all_both P Q R ids both p.1 q.1)

all_weaker : (P Q : ℕ → Type 0) (ids : List ℕ) → ((id : ℕ) → P id → Q id) → AllByRecursion P ids → AllByRecursion Q ids
all_weaker P Q [] weaker p = tt
all_weaker P Q (id ∷ ids) weaker p = (weaker id p.0, all_weaker P Q ids weaker p.1)

all_behind : (P : ℕ → Type 0) (front ids : List ℕ) → AllByRecursion P (front ++ ids) → AllByRecursion P ids
all_behind P [] ids all = all
all_behind P (id ∷ front) ids all = all_behind P front ids all.1

pub apart : (played rest : List ℕ) → IsDistinct nat_eq (played ++ rest) → AllByRecursion (λ id. list_any (eqb id) played ≡ false) rest
apart [] rest own = all_true (λ id. list_any (eqb id) [] ≡ false) rest (λ id. refl)
apart (one ∷ played) rest own = all_both (λ id. eqb one id ≡ false) (λ id. list_any (eqb id) played ≡ false)
    (λ id. list_any (eqb id) (one ∷ played) ≡ false) rest of
    (all_behind (λ id. eqb one id ≡ false) played rest (IsDistinct-head nat_eq one (played ++ rest) own))
    (apart played rest (IsDistinct-tail nat_eq one (played ++ rest) own))
  where
    of : (id : ℕ) → eqb one id ≡ false → list_any (eqb id) played ≡ false → (eqb id one || list_any (eqb id) played) ≡ false
    of id other none = ap (λ b. b || list_any (eqb id) played) (ne_eqb id one (λ same. eqb-false one id other (sym same))) ∙ none

all_kept : (test : ℕ → Bool) (ids : List ℕ) → AllByRecursion (λ id. test id ≡ true) ids → filter test ids ≡ ids
all_kept test [] all = refl
all_kept test (id ∷ ids) all = ap (λ b. cond b (id ∷ filter test ids) (filter test ids)) all.0 ∙ ap (λ l. id ∷ l) (all_kept test ids all.1)

-- where the current one was played too, the rest is left
pub left-is : (current : ℕ) (played rest : List ℕ) → IsDistinct nat_eq (played ++ rest) → list_any (eqb current) played ≡ true
    → filter (is_left_id current played) (played ++ rest) ≡ rest
left-is current played rest own here =
    none_left current played played rest (λ id is. is)
    ∙ all_kept (is_left_id current played) rest (all_weaker (λ id. list_any (eqb id) played ≡ false)
    (λ id. is_left_id current played id ≡ true) rest of (apart played rest own))
  where
    of : (id : ℕ) → list_any (eqb id) played ≡ false → is_left_id current played id ≡ true
    of id none = ap (λ b. not (b || list_any (eqb id) played)) (ne_eqb id current (λ same. true≢false (sym here
        ∙ subst (λ n. list_any (eqb n) played ≡ false) same none))) ∙ ap not none

-- what is not in the list does not leave it
pub without-none : (id : ℕ) (ids : List ℕ) → list_any (eqb id) ids ≡ false → without id ids ≡ ids
without-none id [] none = refl
without-none id (other ∷ ids) none = of (λ n. without-none id ids n) (eqb id other) none
  where
    of : (list_any (eqb id) ids ≡ false → without id ids ≡ ids) → (b : Bool) → (b || list_any (eqb id) ids) ≡ false
        → cond b ids (other ∷ without id ids) ≡ other ∷ ids
    of rest true is = absurd (true≢false is)
    of rest false is = ap (λ l. other ∷ l) (rest is)

pub any-last : (id : ℕ) (ids : List ℕ) → list_any (eqb id) (ids ++ id ∷ []) ≡ true
any-last id [] = ap (λ b. b || false) (eq-eqb id id refl)
any-last id (other ∷ ids) = ap (λ b. eqb id other || b) (any-last id ids) ∙ of (eqb id other)
  where
    of : (b : Bool) → (b || true) ≡ true
    of true = refl
    of false = refl

pub any-front : (test : ℕ → Bool) (front ids : List ℕ) → list_any test front ≡ true → list_any test (front ++ ids) ≡ true
any-front test [] ids is = absurd (true≢false (sym is))
any-front test (id ∷ front) ids is = of (λ more. any-front test front ids more) (test id) is
  where
    of : (list_any test front ≡ true → list_any test (front ++ ids) ≡ true) → (b : Bool) → (b || list_any test front) ≡ true
        → (b || list_any test (front ++ ids)) ≡ true
    of rest true is = refl
    of rest false is = rest is

pub any-turned : (id : ℕ) (ids : List ℕ) → list_any (λ other. eqb other id) ids ≡ list_any (eqb id) ids
any-turned id [] = refl
any-turned id (other ∷ ids) = λ i. turned other i || any-turned id ids i
  where
    turned : (other : ℕ) → eqb other id ≡ eqb id other
    turned other = of (eqb id other) refl
      where
        of : (b : Bool) → eqb id other ≡ b → eqb other id ≡ b
        of true is = eq-eqb other id (sym (eqb-true id other is))
        of false is = ne_eqb other id (λ same. eqb-false id other is (sym same))
