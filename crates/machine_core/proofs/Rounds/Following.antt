-- The ops of a step of the random round bring the kept one to the player's.
use Rattle.std.proofs.Common.{◌≡◌, ℕ, ◌+◌, ◌<◌, ◌≤◌, Bool, true, false, cond, not, ◌==◌, ◌||◌, List, [], ◌∷◌, ◌++◌, length, filter}
use Rattle.std.proofs.Common.{Option, Some, None, refl, sym, ap, ◌∙◌, subst, arith}
use Rattle.std.specs.Prelude.{nat_lt}
use Rattle.std.specs.List.{list_any, AllByRecursion}
use Rattle.std.proofs.lemmas.Bool.{eq-eqb, eqb-true, false≢true, lt-ltb}
use Rattle.std.proofs.lemmas.Bool.Decides.{nat_tests}
use Rattle.std.proofs.lemmas.List.{length-append}
use Rattle.player_core.specs.Commands.{last_or}
use Rattle.player_core.specs.Place.{PlaceState, longest_round, with_id, with_last, without_id}
use Rattle.player_core.specs.Player.{without}
use Rattle.state_codec.specs.OpsPlace.{place_after, stands_in}
use Rattle.state_codec.specs.declared.op.place_op.PlaceOp.{PlaceOp}
use Rattle.state_codec.specs.declared.op.place_op.PlaceOp.TheVariants.{Played, Begins, Leaves}
use Rattle.machine_core.specs.Keeping.{begin_ops, leave_ops, round_ops}
use Rattle.machine_core.specs.Sound.{AreOwn}
use Rattle.machine_core.proofs.Sound.Ids.{apart_without}

-- how the player's round comes from the one before, from which the ids have gone that left the queue: it stays, a song is started, a round
-- begins, with a song or none, or the song that was current leaves it
pub data RoundStep (before : Option ℕ) (kept now : List ℕ) : Type 0 where
  Stays : now ≡ kept → RoundStep before kept now
  Notes : (id : ℕ) → now ≡ without id kept ++ id ∷ [] → RoundStep before kept now
  Empties : now ≡ [] → RoundStep before kept now
  Opens : (id : ℕ) → now ≡ id ∷ [] → RoundStep before kept now
  Goes : (id : ℕ) → before ≡ Some id → now ≡ without id kept → RoundStep before kept now

-- ops of the place one after the other
abbrev pub gone_by : List PlaceOp → PlaceState → PlaceState
gone_by [] place = place
gone_by (op ∷ ops) place = gone_by ops (place_after op place)

pub gone_by-append : (one other : List PlaceOp) (place : PlaceState) → gone_by (one ++ other) place ≡ gone_by other (gone_by one place)
gone_by-append [] other place = refl
gone_by-append (op ∷ one) other place = gone_by-append one other (place_after op place)

or_false : (a b : Bool) → (a || b) ≡ false → (a ≡ false) × (b ≡ false)
or_false true b none = absurd (cc)
or_false false b none = (refl, none)

-- ---- ids of a list

absent : (id : ℕ) (xs : List ℕ) → stands_in id xs ≡ false → without_id id xs ≡ xs
absent id [] none = refl
absent id (x ∷ xs) none =
    let parts = or_false (id == x) (stands_in id xs) none in
    ap (λ b. cond (not b) (x ∷ without_id id xs) (without_id id xs)) parts.0 ∙ ap (λ l. x ∷ l) (absent id xs parts.1)

stands_apart : (id : ℕ) (xs : List ℕ) → AllByRecursion (λ other. (id == other) ≡ false) xs → stands_in id xs ≡ false
stands_apart id [] apart = refl
stands_apart id (x ∷ xs) apart = rw apart.0 (stands_apart id xs apart.1)

-- of ids that stand once the first is the only one
pub without_is : (id : ℕ) (xs : List ℕ) → AreOwn xs → without id xs ≡ without_id id xs
without_is id [] own = refl
without_is id (x ∷ xs) own = of (id == x) refl (without_is id xs own.1)
  where
    of : (b : Bool) → (id == x) ≡ b → without id xs ≡ without_id id xs
        → cond b xs (x ∷ without id xs) ≡ cond (not b) (x ∷ without_id id xs) (without_id id xs)
    of true same rest =
        let equal : id ≡ x = eqb-true id x same in
        sym (absent id xs (ap (λ n. stands_in n xs) equal ∙ stands_apart x xs own.0))
    of false other rest = ap (λ l. x ∷ l) rest

stands_append : (id : ℕ) (xs ys : List ℕ) → stands_in id (xs ++ ys) ≡ (stands_in id xs || stands_in id ys)
stands_append id [] ys = refl
stands_append id (x ∷ xs) ys = ap (λ b. (id == x) || b) (stands_append id xs ys) ∙ grouped (id == x) (stands_in id xs) (stands_in id ys)
  where
    grouped : (a b c : Bool) → (a || (b || c)) ≡ ((a || b) || c)
    grouped true b c = refl
    grouped false b c = refl

filter_append : (test : ℕ → Bool) (xs ys : List ℕ) → filter test (xs ++ ys) ≡ filter test xs ++ filter test ys
filter_append test [] ys = refl
filter_append test (x ∷ xs) ys = of (test x) (filter_append test xs ys)
  where
    of : (b : Bool) → filter test (xs ++ ys) ≡ filter test xs ++ filter test ys
        → cond b (x ∷ filter test (xs ++ ys)) (filter test (xs ++ ys)) ≡ cond b (x ∷ filter test xs) (filter test xs) ++ filter test ys
    of true rest = ap (λ l. x ∷ l) rest
    of false rest = rest

nothing_behind : (xs : List ℕ) → xs ++ [] ≡ xs
nothing_behind [] = refl
nothing_behind (x ∷ xs) = ap (λ l. x ∷ l) (nothing_behind xs)

-- an id goes to the end where it is last already
alone_gone : (id : ℕ) → without_id id (id ∷ []) ≡ []
alone_gone id = of (id == id) (eqb_itself id)
  where
    eqb_itself : (n : ℕ) → (n == n) ≡ true
    eqb_itself n = eq-eqb n n refl

    of : (b : Bool) → b ≡ true → cond (not b) (id ∷ []) [] ≡ []
    of true is = refl
    of false is = absurd (false≢true is)

room_for : (id : ℕ) (others : List ℕ) → length others < longest_round → with_last id others ≡ others ++ id ∷ []
room_for id others short =
    let room : nat_lt (length others) longest_round ≡ true = lt-ltb (length others) longest_round short in
    ap (λ b. cond b (others ++ id ∷ []) others) room

ends_already : (id : ℕ) (front : List ℕ) → stands_in id front ≡ false → length front < longest_round
    → with_id id (front ++ id ∷ []) ≡ front ++ id ∷ []
ends_already id front none short =
    let gone : without_id id (front ++ id ∷ []) ≡ front =
    filter_append (λ other. not (id == other)) front (id ∷ []) ∙ (λ i. absent id front none i ++ alone_gone id i) ∙ nothing_behind front in
    ap (with_last id) gone ∙ room_for id front short

-- ---- the last of some ids, and those in front of it

abbrev front_of : ℕ → List ℕ → List ℕ
front_of x [] = []
front_of x (y ∷ ys) = x ∷ front_of y ys

split_last : (x : ℕ) (xs : List ℕ) → front_of x xs ++ last_or x xs ∷ [] ≡ x ∷ xs
split_last x [] = refl
split_last x (y ∷ ys) = ap (λ l. x ∷ l) (split_last y ys)

last_behind : (other : ℕ) (xs : List ℕ) (id : ℕ) → last_or other (xs ++ id ∷ []) ≡ id
last_behind other [] id = refl
last_behind other (x ∷ xs) id = last_behind x xs id

own_front : (front : List ℕ) (id : ℕ) → AreOwn (front ++ id ∷ []) → stands_in id front ≡ false
own_front [] id own = refl
own_front (x ∷ front) id own = rw (turned x id (last_apart x front id own.0)) (own_front front id own.1)
  where
    last_apart : (x : ℕ) (xs : List ℕ) (id : ℕ) → AllByRecursion (λ other. (x == other) ≡ false) (xs ++ id ∷ []) → (x == id) ≡ false
    last_apart x [] id apart = apart.0
    last_apart x (y ∷ ys) id apart = last_apart x ys id apart.1

    turned : (a b : ℕ) → (a == b) ≡ false → (b == a) ≡ false
    turned a b apart = grind (arith, nat_tests)

-- the last one of a round is noted again
pub noted_again : (x : ℕ) (xs : List ℕ) → AreOwn (x ∷ xs) → length (x ∷ xs) ≤ longest_round → with_id (last_or x xs) (x ∷ xs) ≡ x ∷ xs
noted_again x xs own few =
    let split = split_last x xs in
    let front = front_of x xs in
    let last = last_or x xs in
    let none : stands_in last front ≡ false = own_front front last (subst AreOwn (sym split) own) in
    let short : length front < longest_round = omega (arith, few, ap length split, length-append front (last ∷ [])) in
    subst (λ (l : List ℕ). with_id last l ≡ l) split (ends_already last front none short)

-- the last one leaves and comes back
without_end : (id : ℕ) (front : List ℕ) → stands_in id front ≡ false → without id (front ++ id ∷ []) ≡ front
without_end id [] none = ap (λ b. cond b [] (id ∷ [])) (eq-eqb id id refl)
without_end id (x ∷ front) none =
    let parts = or_false (id == x) (stands_in id front) none in
    ap (λ b. cond b (front ++ id ∷ []) (x ∷ without id (front ++ id ∷ []))) parts.0 ∙ ap (λ l. x ∷ l) (without_end id front parts.1)

pub without_last : (x : ℕ) (xs : List ℕ) → AreOwn (x ∷ xs) → without (last_or x xs) (x ∷ xs) ++ last_or x xs ∷ [] ≡ x ∷ xs
without_last x xs own =
    let split = split_last x xs in
    let front = front_of x xs in
    let last = last_or x xs in
    let none : stands_in last front ≡ false = own_front front last (subst AreOwn (sym split) own) in
    let gone : without last (x ∷ xs) ≡ front = ap (without last) (sym split) ∙ without_end last front none in
    ap (λ l. l ++ last ∷ []) gone ∙ split

-- ---- a step of the round

others_gone : (id : ℕ) (xs : List ℕ) → list_any (λ other. not (id == other)) xs ≡ false → without_id id xs ≡ []
others_gone id [] none = refl
others_gone id (x ∷ xs) none =
    let parts = or_false (not (id == x)) (list_any (λ other. not (id == other)) xs) none in
    ap (λ b. cond b (x ∷ without_id id xs) (without_id id xs)) parts.0 ∙ others_gone id xs parts.1

-- what isn't in a round in which a song was started wasn't in it before
absent_before : (x id : ℕ) (xs : List ℕ) → stands_in x (without id xs ++ id ∷ []) ≡ false → stands_in x xs ≡ false
absent_before x id [] none = refl
absent_before x id (y ∷ ys) none = of (id == y) refl none (absent_before x id ys)
  where
    of : (b : Bool) → (id == y) ≡ b → stands_in x (cond b ys (y ∷ without id ys) ++ id ∷ []) ≡ false
        → (stands_in x (without id ys ++ id ∷ []) ≡ false → stands_in x ys ≡ false) → ((x == y) || stands_in x ys) ≡ false
    of true same none rest =
        let parts = or_false (stands_in x ys) (stands_in x (id ∷ [])) (sym (stands_append x ys (id ∷ [])) ∙ none) in
        let last = or_false (x == id) false parts.1 in
        let equal : id ≡ y = eqb-true id y same in
        rw (ap (λ n. x == n) (sym equal) ∙ last.0) parts.0
    of false other none rest =
        let parts = or_false (x == y) (stands_in x (without id ys ++ id ∷ [])) none in rw parts.0 (rest parts.1)

abbrev with_round : PlaceState → List ℕ → PlaceState
with_round place ids = record place { played = ids }

-- where the song before isn't in the round any more, it leaves it; this is what is then left of the kept one
abbrev rid_of : Option ℕ → List ℕ → List ℕ → List ℕ
rid_of None now kept = kept
rid_of (Some id) now kept = cond (stands_in id now) kept (without_id id kept)

leaving : (before : Option ℕ) (now : List ℕ) (place : PlaceState)
    → gone_by (leave_ops before now) place ≡ record place { played = rid_of before now place.played }
leaving None now place = refl
leaving (Some id) now place = of (stands_in id now)
  where
    of : (b : Bool) → gone_by (cond b [] (Leaves id ∷ [])) place ≡ record place { played = cond b place.played (without_id id place.played) }
    of true = refl
    of false = refl

rid_of_none : (before : Option ℕ) (now kept : List ℕ) → ((id : ℕ) → stands_in id now ≡ false → stands_in id kept ≡ false)
    → rid_of before now kept ≡ kept
rid_of_none None now kept none = refl
rid_of_none (Some id) now kept none = of (stands_in id now) refl
  where
    of : (b : Bool) → stands_in id now ≡ b → cond b kept (without_id id kept) ≡ kept
    of true is = refl
    of false is = absent id kept (none id is)

-- the round of more than one id that follows
longer : (before : Option ℕ) (kept : List ℕ) (x y : ℕ) (ys : List ℕ) → RoundStep before kept (x ∷ y ∷ ys) → AreOwn kept
    → AreOwn (x ∷ y ∷ ys) → length (x ∷ y ∷ ys) ≤ longest_round
    → with_id (last_or y ys) (rid_of before (x ∷ y ∷ ys) kept) ≡ x ∷ y ∷ ys
longer before kept x y ys (RoundStep.Stays same) once own few =
    let stays : rid_of before (x ∷ y ∷ ys) kept ≡ kept =
    rid_of_none before (x ∷ y ∷ ys) kept (λ id none. ap (stands_in id) (sym same) ∙ none) in
    ap (with_id (last_or y ys)) (stays ∙ sym same) ∙ noted_again x (y ∷ ys) own few
longer before kept x y ys (RoundStep.Notes id same) once own few =
    let stays : rid_of before (x ∷ y ∷ ys) kept ≡ kept =
    rid_of_none before (x ∷ y ∷ ys) kept (λ other none. absent_before other id kept (ap (stands_in other) (sym same) ∙ none)) in
    let last : last_or y ys ≡ id = ap (last_or 0) same ∙ last_behind 0 (without id kept) id in
    let short : length (without id kept) < longest_round =
    omega (arith, few, ap length same, length-append (without id kept) (id ∷ [])) in
    (λ i. with_id (last i) (stays i)) ∙ ap (with_last id) (sym (without_is id kept once)) ∙ room_for id (without id kept) short ∙ sym same
longer before kept x y ys (RoundStep.Empties same) once own few = absurd (cc)
longer before kept x y ys (RoundStep.Opens id same) once own few = absurd (cc)
longer before kept x y ys (RoundStep.Goes id was same) once own few =
    let none : stands_in id (x ∷ y ∷ ys) ≡ false = ap (stands_in id) same ∙ stands_apart id (without id kept) (apart_without id kept once) in
    let gone : rid_of before (x ∷ y ∷ ys) kept ≡ without_id id kept =
    ap (λ o. rid_of o (x ∷ y ∷ ys) kept) was ∙ ap (λ b. cond b kept (without_id id kept)) none in
    ap (with_id (last_or y ys)) (gone ∙ sym (without_is id kept once) ∙ sym same) ∙ noted_again x (y ∷ ys) own few

-- one id alone
opened : (id : ℕ) (kept : List ℕ) (place : PlaceState) → place.played ≡ kept
    → gone_by (begin_ops id kept ++ Played id ∷ []) place ≡ record place { played = id ∷ [] }
opened id kept place is = of (list_any (λ other. not (id == other)) kept) refl
  where
    of : (b : Bool) → list_any (λ other. not (id == other)) kept ≡ b
        → gone_by (cond b (Begins ∷ []) [] ++ Played id ∷ []) place ≡ record place { played = id ∷ [] }
    of true has = refl
    of false none = ap (λ l. with_round place (with_last id l)) (ap (without_id id) is ∙ others_gone id kept none)

-- so the kept round is the player's
pub round_follows : (before : Option ℕ) (place : PlaceState) (now : List ℕ) → RoundStep before place.played now → AreOwn place.played
    → AreOwn now → length now ≤ longest_round → gone_by (round_ops before place.played now) place ≡ record place { played = now }
round_follows before place [] step once own few = refl
round_follows before place (id ∷ []) step once own few = opened id place.played place refl
round_follows before place (x ∷ y ∷ ys) step once own few =
    gone_by-append (leave_ops before (x ∷ y ∷ ys)) (Played (last_or y ys) ∷ []) place
    ∙ ap (λ (p : PlaceState). record p { played = with_id (last_or y ys) p.played }) (leaving before (x ∷ y ∷ ys) place)
    ∙ ap (with_round place) (longer before place.played x y ys step once own few)
