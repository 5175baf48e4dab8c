-- Ids in the queue, and lists of ids that stand once.
use Rattle.std.proofs.Common.{◌≡◌, ℕ, Bool, true, false, cond, ◌==◌, ◌||◌, List, [], ◌∷◌, ◌++◌, filter, refl, sym, ap, ◌∙◌, ◌⊎◌, inl, inr}
use Rattle.std.specs.List.{list_any, AllByRecursion}
use Rattle.std.proofs.lemmas.Bool.{or_right, eq-eqb, eqb-true}
use Rattle.std.proofs.lemmas.List.Folds.{list_any-append}
use Rattle.play_queue.specs.declared.entry.Entry.{Entry}
use Rattle.player_core.specs.Player.{without}
use Rattle.machine_core.specs.Sound.{is_in_queue, IsIn, AreOwn}

pub all_weaker : {X : Type 0} (P Q : X → Type 0) → ((x : X) → P x → Q x) → (xs : List X) → AllByRecursion P xs → AllByRecursion Q xs
all_weaker P Q f [] all = tt
all_weaker P Q f (x ∷ xs) all = (f x all.0, all_weaker P Q f xs all.1)

pub all_both : {X : Type 0} (P Q R : X → Type 0) → ((x : X) → P x → Q x → R x) → (xs : List X) → AllByRecursion P xs
    → AllByRecursion Q xs → AllByRecursion R xs
all_both P Q R f [] one other = tt
all_both P Q R f (x ∷ xs) one other = (f x one.0 other.0, all_both P Q R f xs one.1 other.1)

pub all_behind : {X : Type 0} (P : X → Type 0) (xs : List X) (x : X) → AllByRecursion P xs → P x → AllByRecursion P (xs ++ x ∷ [])
all_behind P [] x all here = (here, tt)
all_behind P (y ∷ ys) x all here = (all.0, all_behind P ys x all.1 here)

-- one id goes
pub all_without : (P : ℕ → Type 0) (id : ℕ) (ids : List ℕ) → AllByRecursion P ids → AllByRecursion P (without id ids)
all_without P id [] all = tt
all_without P id (other ∷ ids) all = of (id == other) (all_without P id ids all.1)
  where
    of : (b : Bool) → AllByRecursion P (without id ids) → AllByRecursion P (cond b ids (other ∷ without id ids))
    of true rest = all.1
    of false rest = (all.0, rest)

pub own_without : (id : ℕ) (ids : List ℕ) → AreOwn ids → AreOwn (without id ids)
own_without id [] own = tt
own_without id (other ∷ ids) own = of (id == other) (own_without id ids own.1)
  where
    of : (b : Bool) → AreOwn (without id ids) → AreOwn (cond b ids (other ∷ without id ids))
    of true rest = own.1
    of false rest = (all_without (λ x. (other == x) ≡ false) id ids own.0, rest)

same_id : (id other : ℕ) → (id == other) ≡ true → id ≡ other
same_id id other same = eqb-true id other same

pub apart_without : (id : ℕ) (ids : List ℕ) → AreOwn ids → AllByRecursion (λ other. (id == other) ≡ false) (without id ids)
apart_without id [] own = tt
apart_without id (other ∷ ids) own = of (id == other) refl (apart_without id ids own.1)
  where
    of : (b : Bool) → (id == other) ≡ b → AllByRecursion (λ x. (id == x) ≡ false) (without id ids)
        → AllByRecursion (λ x. (id == x) ≡ false) (cond b ids (other ∷ without id ids))
    of true same rest =
        all_weaker (λ x. (other == x) ≡ false) (λ x. (id == x) ≡ false) (λ x h. ap (λ y. y == x) (same_id id other same) ∙ h) ids own.0
    of false apart rest = (apart, rest)

turned_round : (id other : ℕ) → (id == other) ≡ false → (other == id) ≡ false
turned_round id other apart = of (other == id) refl
  where
    of : (b : Bool) → (other == id) ≡ b → b ≡ false
    of true same = absurd (cc (apart, eq-eqb id other (sym (same_id other id same))))
    of false h = refl

pub own_behind : (ids : List ℕ) (id : ℕ) → AreOwn ids → AllByRecursion (λ other. (id == other) ≡ false) ids → AreOwn (ids ++ id ∷ [])
own_behind [] id own apart = (tt, tt)
own_behind (x ∷ xs) id own apart =
    (all_behind (λ other. (x == other) ≡ false) xs id own.0 (turned_round id x apart.0), own_behind xs id own.1 apart.1)

-- ---- entries that pass a test

-- one of them passes
abbrev pub Has : (Entry → Bool) → List Entry → Type 0
Has test entries = list_any test entries ≡ true

-- what passes in one list does in another
abbrev pub Carries : (Entry → Bool) → List Entry → List Entry → Type 0
Carries test entries after = Has test entries → Has test after

pub has_here : (test : Entry → Bool) (entry : Entry) (entries : List Entry) → test entry ≡ true → Has test (entry ∷ entries)
has_here test entry entries passes = ap (λ b. b || list_any test entries) passes

pub has_later : (test : Entry → Bool) (entry : Entry) (entries : List Entry) → Has test entries → Has test (entry ∷ entries)
has_later test entry entries h = or_right (test entry) (list_any test entries) h

-- the first of both is the same
pub has_more : (here a b : Bool) → (a ≡ true → b ≡ true) → (here || a) ≡ true → (here || b) ≡ true
has_more true a b rest h = refl
has_more false a b rest h = rest h

pub has_front : (test : Entry → Bool) (one other : List Entry) → Has test one → Has test (one ++ other)
has_front test one other h = list_any-append test one other ∙ ap (λ b. b || list_any test other) h

pub has_back : (test : Entry → Bool) (one other : List Entry) → Has test other → Has test (one ++ other)
has_back test one other h = list_any-append test one other ∙ or_right (list_any test one) (list_any test other) h

pub has_either : (test : Entry → Bool) (one other : List Entry) → Has test (one ++ other) → (Has test one) ⊎ (Has test other)
has_either test one other h = of (list_any test one) refl (sym (list_any-append test one other) ∙ h)
  where
    of : (b : Bool) → list_any test one ≡ b → (b || list_any test other) ≡ true → (Has test one) ⊎ (Has test other)
    of true is h = inl is
    of false is h = inr h

-- by their ids
pub here_in : (entry : Entry) (entries : List Entry) (id : ℕ) → entry.id ≡ id → IsIn (entry ∷ entries) id
here_in entry entries id same = has_here (λ e. e.id == id) entry entries (eq-eqb entry.id id same)

pub later_in : (entry : Entry) (entries : List Entry) (id : ℕ) → IsIn entries id → IsIn (entry ∷ entries) id
later_in entry entries id h = has_later (λ e. e.id == id) entry entries h

pub kept_in : (test : Entry → Bool) (entries : List Entry) (id : ℕ) → IsIn (filter test entries) id → IsIn entries id
kept_in test [] id h = h
kept_in test (entry ∷ entries) id h = of (test entry) (kept_in test entries id) h
  where
    of : (b : Bool) → (IsIn (filter test entries) id → IsIn entries id)
        → list_any (λ entry. entry.id == id) (cond b (entry ∷ filter test entries) (filter test entries)) ≡ true
        → IsIn (entry ∷ entries) id
    of true rest h = has_more (entry.id == id) (is_in_queue (filter test entries) id) (is_in_queue entries id) rest h
    of false rest h = later_in entry entries id (rest h)
