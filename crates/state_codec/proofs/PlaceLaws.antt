-- What the ops of the player's place keep, and which of them change nothing; and which removals from the queue leave the place as it is.
use Rattle.std.proofs.Common.{◌≡◌, ℕ, suc, zero, ◌+◌, ◌<◌, ◌≤◌, ◌^◌, Bool, true, false, cond, not, ◌==◌, ◌||◌, ◌&&◌, List, [], ◌∷◌, ◌++◌}
use Rattle.std.proofs.Common.{◌-◌, length, get_or, take}
use Rattle.std.proofs.Common.{Option, Some, None, refl, sym, ap, ◌∙◌, subst, arith, nat_lt, nat_le, filter}
use Rattle.std.specs.Prelude.{slice_get, option_map}
use Rattle.std.specs.List.{All}
use Rattle.std.specs.Option.{option_map_or}
use Rattle.std.proofs.lemmas.Bool.{eqb-true, eq-eqb, false≢true, not-true, lt-ltb, le-ltb, ltb-false, leb-true, le-leb, ne_eqb}
use Rattle.std.proofs.lemmas.Bool.Decides.{nat_tests}
use Rattle.std.proofs.lemmas.List.{length-append, take_all, take_more}
use Rattle.std.proofs.lemmas.List.Elements.{All-cons, All-head, All-tail, All-append}
use Rattle.play_queue.specs.declared.entry.Entry.{Entry}
use Rattle.play_queue.specs.Entries.{Uris, is_among}
use Rattle.player_core.specs.Place.{PlaceState, IsPlace, IsRound, at_id, id_leaves, longest_round, place_left, with_id, with_last}
use Rattle.player_core.specs.Place.{without_id, without_song}
use Rattle.player_core.specs.Reports.{takes_at}
use Rattle.player_core.specs.Staying.{takes}
use Rattle.player_core.specs.declared.block.Block.{Block}
use Rattle.player_core.specs.declared.playing.PlayState.{PlayState}
use Rattle.player_core.specs.declared.playing.PlayState.TheVariants.{Stop, Play, Pause}
use Rattle.profile.specs.declared.profile.Profile.{Profile}
use Rattle.profile.specs.declared.profile.Profile.TheVariants.{Named, Wide}
use Rattle.state_codec.specs.Ops.{IsPlaceOp}
use Rattle.state_codec.specs.OpsPlace.{ends_in, is_empty, is_full, leaves_place, place_after, same_state, stands_in, stays_by}
use Rattle.state_codec.specs.SavedState.{IsSavedPlace}
use Rattle.state_codec.specs.declared.op.place_op.PlaceOp.{PlaceOp}
use Rattle.state_codec.specs.declared.op.place_op.PlaceOp.TheVariants.{Put, Played, Begins, Leaves}

and_true : (a b : Bool) → (a && b) ≡ true → (a ≡ true) × (b ≡ true)
and_true true b both = (refl, both)
and_true false b both = absurd (cc)

or_false : (a b : Bool) → (a || b) ≡ false → (a ≡ false) × (b ≡ false)
or_false true b none = absurd (cc)
or_false false b none = (refl, none)

and_all : (a : Bool) → a ≡ (a && true)
and_all true = refl
and_all false = refl

and_turned : (a b c : Bool) → (not a && (b && not c)) ≡ (b && not (a || c))
and_turned true true c = refl
and_turned true false c = refl
and_turned false true c = refl
and_turned false false c = refl

-- ---- lists of ids

filter_short : (test : ℕ → Bool) (xs : List ℕ) → length (filter test xs) ≤ length xs
filter_short test [] = omega arith
filter_short test (x ∷ xs) = of (test x) (filter_short test xs)
  where
    of : (b : Bool) → length (filter test xs) ≤ length xs → length (cond b (x ∷ filter test xs) (filter test xs)) ≤ length (x ∷ xs)
    of true few = omega (arith, few)
    of false few = omega (arith, few)

filter_each : (P : ℕ → Type 0) (test : ℕ → Bool) (xs : List ℕ) → All P xs → All P (filter test xs)
filter_each P test [] all = all
filter_each P test (x ∷ xs) all = of (test x) (filter_each P test xs (All-tail P x xs all))
  where
    of : (b : Bool) → All P (filter test xs) → All P (cond b (x ∷ filter test xs) (filter test xs))
    of true rest = All-cons P x (filter test xs) (All-head P x xs all) rest
    of false rest = rest

pub filter_all : (test : ℕ → Bool) (xs : List ℕ) → ((x : ℕ) → test x ≡ true) → filter test xs ≡ xs
filter_all test [] all = refl
filter_all test (x ∷ xs) all =
    ap (λ b. cond b (x ∷ filter test xs) (filter test xs)) (all x) ∙ ap (λ l. x ∷ l) (filter_all test xs all)

-- an id that doesn't stand in a list is taken out of nothing
without_absent : (id : ℕ) (xs : List ℕ) → stands_in id xs ≡ false → without_id id xs ≡ xs
without_absent id [] none = refl
without_absent id (x ∷ xs) none =
    let parts = or_false (id == x) (stands_in id xs) none in
    ap (λ b. cond (not b) (x ∷ without_id id xs) (without_id id xs)) parts.0 ∙ ap (λ l. x ∷ l) (without_absent id xs parts.1)

pub without_none : (id : ℕ) (xs : List ℕ) → stands_in id (without_id id xs) ≡ false
without_none id [] = refl
without_none id (x ∷ xs) = of (id == x) refl (without_none id xs)
  where
    of : (b : Bool) → (id == x) ≡ b → stands_in id (without_id id xs) ≡ false
        → stands_in id (cond (not b) (x ∷ without_id id xs) (without_id id xs)) ≡ false
    of true same rest = rest
    of false other rest = rw other rest

-- an id that is the last one and stands nowhere else
ends_behind : (id : ℕ) (xs : List ℕ) → stands_in id xs ≡ false → ends_in id (xs ++ id ∷ []) ≡ true
ends_behind id [] none = eq-eqb id id refl
ends_behind id (x ∷ []) none =
    let parts = or_false (id == x) false none in rw parts.0 (eq-eqb id id refl)
ends_behind id (x ∷ y ∷ xs) none =
    let parts = or_false (id == x) (stands_in id (y ∷ xs)) none in rw parts.0 (ends_behind id (y ∷ xs) parts.1)

-- the last id, and those in front of it
pub ends_split : (id : ℕ) (front : List ℕ) (last : ℕ)
    → ends_in id (front ++ last ∷ []) ≡ ((id == last) && not (stands_in id front))
ends_split id [] last = and_all (id == last)
ends_split id (x ∷ []) last =
    ap (λ b. not (id == x) && b) (and_all (id == last)) ∙ and_turned (id == x) (id == last) false
ends_split id (x ∷ y ∷ front) last =
    ap (λ b. not (id == x) && b) (ends_split id (y ∷ front) last) ∙ and_turned (id == x) (id == last) (stands_in id (y ∷ front))

-- by the last id of some, and those in front of it
ends_by : (id : ℕ) (ids : List ℕ) → 1 ≤ length ids → let n = length ids - 1 in
    ends_in id ids ≡ ((id == get_or ids n 0) && not (stands_in id (take n ids)))
ends_by id ids some =
    let n : ℕ = length ids - 1 in
    let within : n < length ids = omega (arith, some) in
    let whole : ids ≡ take n ids ++ get_or ids n 0 ∷ [] =
    sym (take_all (n + 1) ids (omega (arith, some))) ∙ take_more ids n 0 within in
    ap (ends_in id) whole ∙ ends_split id (take n ids) (get_or ids n 0)

pub ends_last : (id : ℕ) (ids : List ℕ) → 1 ≤ length ids → let n = length ids - 1 in
    id ≡ get_or ids n 0 → ends_in id ids ≡ not (stands_in id (take n ids))
ends_last id ids some same =
    ends_by id ids some
    ∙ ap (λ b. b && not (stands_in id (take (length ids - 1) ids))) (eq-eqb id (get_or ids (length ids - 1) 0) same)

pub ends_nowhere : (id : ℕ) (ids : List ℕ) → 1 ≤ length ids → let n = length ids - 1 in
    (id ≡ get_or ids n 0 → ⊥) → ends_in id ids ≡ false
ends_nowhere id ids some other =
    ends_by id ids some
    ∙ ap (λ b. b && not (stands_in id (take (length ids - 1) ids))) (ne_eqb id (get_or ids (length ids - 1) 0) other)

pub record EndsSo (id : ℕ) (xs : List ℕ) : Type 0 where
  pub again : without_id id xs ++ id ∷ [] ≡ xs
  pub shorter : length (without_id id xs) < length xs

ends_so : (id : ℕ) (xs : List ℕ) → ends_in id xs ≡ true → EndsSo id xs
ends_so id [] ends = absurd (false≢true ends)
ends_so id (x ∷ []) ends =
    let same : id ≡ x = eqb-true id x ends in
    record {
      again = ap (λ b. cond (not b) (x ∷ []) [] ++ id ∷ []) ends ∙ ap (λ n. n ∷ []) same;
      shorter = subst (λ b. length (cond (not b) (x ∷ []) []) < 1) (sym ends) (omega arith);
    }
ends_so id (x ∷ y ∷ xs) ends =
    let parts = and_true (not (id == x)) (ends_in id (y ∷ xs)) ends in
    let rest = ends_so id (y ∷ xs) parts.1 in
    record {
      again = ap (λ b. cond b (x ∷ without_id id (y ∷ xs)) (without_id id (y ∷ xs)) ++ id ∷ []) parts.0 ∙ ap (λ l. x ∷ l) rest.again;
      shorter = subst (λ b. length (cond b (x ∷ without_id id (y ∷ xs)) (without_id id (y ∷ xs))) < length (x ∷ y ∷ xs)) (sym parts.0)
          (omega (arith, rest.shorter));
    }

-- ---- what a round keeps

pub kept_round_without : (test : ℕ → Bool) (ids : List ℕ) → IsRound ids → IsRound (filter test ids)
kept_round_without test ids round = record {
  few = omega (arith, filter_short test ids, round.few);
  each = filter_each (λ id. id < 2 ^ 32) test ids round.each;
}

kept_last : (id : ℕ) (others : List ℕ) → id < 2 ^ 32 → IsRound others → IsRound (with_last id others)
kept_last id others low round = of (nat_lt (length others) longest_round) refl
  where
    of : (b : Bool) → nat_lt (length others) longest_round ≡ b → IsRound (cond b (others ++ id ∷ []) others)
    of true room = record {
      few = grind (arith, nat_tests, room, length-append others (id ∷ []));
      each = All-append (λ n. n < 2 ^ 32) others (id ∷ []) round.each
          (All-cons (λ n. n < 2 ^ 32) id [] low (λ k d within. absurd (omega arith)));
    }
    of false full = round

pub kept_place : (op : PlaceOp) (place : PlaceState) → IsPlaceOp op → IsPlace place → IsPlace (place_after op place)
kept_place (Put state song frame) place form good = record { song = form.0; frame = form.1; played = good.played }
kept_place (Played id) place form good = record {
  song = good.song;
  frame = good.frame;
  played = kept_last id (without_id id place.played) form (kept_round_without _ place.played good.played);
}
kept_place Begins place form good = record {
  song = good.song;
  frame = good.frame;
  played = record { few = omega arith; each = λ k d within. absurd (omega arith) };
}
kept_place (Leaves id) place form good = record {
  song = good.song;
  frame = good.frame;
  played = kept_round_without _ place.played good.played;
}

pub kept_saved_place : (op : PlaceOp) (profile : Profile) (place : Option PlaceState) → IsPlaceOp op → IsSavedPlace profile place
    → IsSavedPlace profile (option_map (place_after op) place)
kept_saved_place op Named None form good = tt
kept_saved_place op Named (Some place) form good = absurd good
kept_saved_place op Wide None form good = absurd good
kept_saved_place op Wide (Some place) form good = kept_place op place form good

kept_left : (block : Block) (dropped : Uris) (entries : List Entry) (place : PlaceState) → IsPlace place
    → IsPlace (place_left block dropped entries place)
kept_left block dropped entries place good = of (id_leaves block dropped entries place.song)
  where
    of : (b : Bool) → IsPlace (record (cond b (without_song place) place) {
      played = filter (λ id. not (id_leaves block dropped entries id)) place.played;
    })
    of true = record { song = omega arith; frame = omega arith; played = kept_round_without _ place.played good.played }
    of false = record { song = good.song; frame = good.frame; played = kept_round_without _ place.played good.played }

pub kept_saved_left : (block : Block) (dropped : Uris) (entries : List Entry) (profile : Profile) (place : Option PlaceState)
    → IsSavedPlace profile place → IsSavedPlace profile (option_map (place_left block dropped entries) place)
kept_saved_left block dropped entries Named None good = tt
kept_saved_left block dropped entries Named (Some place) good = absurd good
kept_saved_left block dropped entries Wide None good = absurd good
kept_saved_left block dropped entries Wide (Some place) good = kept_left block dropped entries place good

-- ---- which ops change nothing

state_is : (a b : PlayState) → same_state a b ≡ true → a ≡ b
state_is Stop Stop same = refl
state_is Stop Play same = absurd (cc)
state_is Stop Pause same = absurd (cc)
state_is Play Stop same = absurd (cc)
state_is Play Play same = refl
state_is Play Pause same = absurd (cc)
state_is Pause Stop same = absurd (cc)
state_is Pause Play same = absurd (cc)
state_is Pause Pause same = refl

state_itself : (a b : PlayState) → a ≡ b → same_state a b ≡ true
state_itself Stop b same = ap (same_state Stop) (sym same)
state_itself Play b same = ap (same_state Play) (sym same)
state_itself Pause b same = ap (same_state Pause) (sym same)

-- an id goes to the end of a round where it stands already, or of a full one that doesn't have it
noted_stays : (id : ℕ) (ids : List ℕ) → length ids ≤ longest_round → (ends_in id ids || is_full ids && not (stands_in id ids)) ≡ true
    → with_id id ids ≡ ids
noted_stays id ids few same = of (ends_in id ids) refl same
  where
    of : (b : Bool) → ends_in id ids ≡ b → (b || is_full ids && not (stands_in id ids)) ≡ true → with_id id ids ≡ ids
    of true ends same =
        let so = ends_so id ids ends in
        let room : nat_lt (length (without_id id ids)) longest_round ≡ true = lt-ltb _ _ (omega (arith, so.shorter, few)) in
        ap (λ b. cond b (without_id id ids ++ id ∷ []) (without_id id ids)) room ∙ so.again
    of false other same =
        let parts = and_true (is_full ids) (not (stands_in id ids)) same in
        let none : stands_in id ids ≡ false = not-true (stands_in id ids) parts.1 in
        let room : nat_lt (length ids) longest_round ≡ false = le-ltb _ _ (leb-true _ _ parts.0) in
        ap (with_last id) (without_absent id ids none) ∙ ap (λ b. cond b (ids ++ id ∷ []) ids) room

noted_only : (id : ℕ) (ids : List ℕ) → with_id id ids ≡ ids → (ends_in id ids || is_full ids && not (stands_in id ids)) ≡ true
noted_only id ids same = of (nat_lt (length (without_id id ids)) longest_round) refl same
  where
    true_or : (b : Bool) → (b || true) ≡ true
    true_or true = refl
    true_or false = refl

    of : (b : Bool) → nat_lt (length (without_id id ids)) longest_round ≡ b
        → cond b (without_id id ids ++ id ∷ []) (without_id id ids) ≡ ids
        → (ends_in id ids || is_full ids && not (stands_in id ids)) ≡ true
    of true room same =
        let ends : ends_in id ids ≡ true = ap (ends_in id) (sym same) ∙ ends_behind id (without_id id ids) (without_none id ids) in
        rw ends refl
    of false full same =
        let none : stands_in id ids ≡ false = ap (stands_in id) (sym same) ∙ without_none id ids in
        let many : longest_round ≤ length ids = omega (arith, ltb-false _ _ full, ap length same) in
        let is : is_full ids ≡ true = le-leb _ _ many in
        rw (none, is) (true_or (ends_in id ids))

begun_is : (ids : List ℕ) → is_empty ids ≡ true → ids ≡ []
begun_is [] is = refl
begun_is (id ∷ ids) is = absurd (cc)

left_only : (id : ℕ) (ids : List ℕ) → without_id id ids ≡ ids → not (stands_in id ids) ≡ true
left_only id ids same = ap (λ l. not (stands_in id l)) (sym same) ∙ ap not (without_none id ids)

left_stays : (id : ℕ) (ids : List ℕ) → not (stands_in id ids) ≡ true → without_id id ids ≡ ids
left_stays id ids none = of (stands_in id ids) refl none
  where
    of : (b : Bool) → stands_in id ids ≡ b → not b ≡ true → without_id id ids ≡ ids
    of true is none = absurd (false≢true none)
    of false is none = without_absent id ids is

with_played : PlaceState → List ℕ → PlaceState
with_played place ids = record place { played = ids }

-- of a place with no more ids than it may have
pub op_stays_short : (op : PlaceOp) (place : PlaceState) → length place.played ≤ longest_round → stays_by op place ≡ true
    → place_after op place ≡ place
op_stays_short (Put state song frame) place few same =
    let first = and_true (same_state state place.state) (song == place.song && frame == place.frame) same in
    let second = and_true (song == place.song) (frame == place.frame) first.1 in
    λ i. record place {
      state = state_is state place.state first.0 i;
      song = eqb-true song place.song second.0 i;
      frame = eqb-true frame place.frame second.1 i;
    }
op_stays_short (Played id) place few same = ap (λ ids. record place { played = ids }) (noted_stays id place.played few same)
op_stays_short Begins place few same = ap (λ ids. record place { played = ids }) (sym (begun_is place.played same))
op_stays_short (Leaves id) place few same = ap (λ ids. record place { played = ids }) (left_stays id place.played same)

pub op_stays : (op : PlaceOp) (place : PlaceState) → IsPlace place → stays_by op place ≡ true → place_after op place ≡ place
op_stays op place good same = op_stays_short op place good.played.few same

pub op_only : (op : PlaceOp) (place : PlaceState) → place_after op place ≡ place → stays_by op place ≡ true
op_only (Put state song frame) place same =
    let state_same : same_state state place.state ≡ true = state_itself state place.state (ap (λ (p : PlaceState). p.state) same) in
    let song_same : (song == place.song) ≡ true = eq-eqb song place.song (ap (λ (p : PlaceState). p.song) same) in
    let frame_same : (frame == place.frame) ≡ true = eq-eqb frame place.frame (ap (λ (p : PlaceState). p.frame) same) in
    rw (state_same, song_same) frame_same
op_only (Played id) place same = noted_only id place.played (ap (λ (p : PlaceState). p.played) same)
op_only Begins place same = ap is_empty (sym (ap (λ (p : PlaceState). p.played) same))
op_only (Leaves id) place same = left_only id place.played (ap (λ (p : PlaceState). p.played) same)

pub place_stays : (op : PlaceOp) (profile : Profile) (place : Option PlaceState) → IsSavedPlace profile place → leaves_place op place ≡ true
    → option_map (place_after op) place ≡ place
place_stays op profile None good same = refl
place_stays op Named (Some place) good same = absurd good
place_stays op Wide (Some place) good same = ap Some (op_stays op place good same)

pub place_only : (op : PlaceOp) (place : Option PlaceState) → option_map (place_after op) place ≡ place → leaves_place op place ≡ true
place_only op None same = refl
place_only op (Some place) same = op_only op place (let is : Some (place_after op place) ≡ Some place = same in cc)

-- ---- removals that take nothing the place has

-- no entry of the queue is taken
pub record TakesNone (block : Block) (dropped : Uris) (entries : List Entry) : Type 0 where
  pub none : (at : ℕ) → option_map_or (takes block dropped at) (slice_get entries at) false ≡ false

stays_in : (block : Block) (dropped : Uris) (entries : List Entry) → TakesNone block dropped entries → (id : ℕ)
    → id_leaves block dropped entries id ≡ false
stays_in block dropped entries none id = of (at_id entries id)
  where
    of : (at : Option ℕ) → option_map_or (takes_at block dropped entries) at false ≡ false
    of None = refl
    of (Some at) = none.none at

left_place : (block : Block) (dropped : Uris) (entries : List Entry) (place : PlaceState) → TakesNone block dropped entries
    → place_left block dropped entries place ≡ place
left_place block dropped entries place none =
    let song : id_leaves block dropped entries place.song ≡ false = stays_in block dropped entries none place.song in
    let ids : filter (λ id. not (id_leaves block dropped entries id)) place.played ≡ place.played =
    filter_all (λ id. not (id_leaves block dropped entries id)) place.played (λ id. ap not (stays_in block dropped entries none id)) in
    λ i. record (cond (song i) (without_song place) place) { played = ids i }

pub left_stays_place : (block : Block) (dropped : Uris) (entries : List Entry) (place : Option PlaceState) → TakesNone block dropped entries
    → option_map (place_left block dropped entries) place ≡ place
left_stays_place block dropped entries None none = refl
left_stays_place block dropped entries (Some place) none = ap Some (left_place block dropped entries place none)

-- an empty block of positions, and no dropped song
between_none : (n at : ℕ) → (nat_le n at && nat_lt at n) ≡ false
between_none n at = of (nat_le n at) refl
  where
    of : (b : Bool) → nat_le n at ≡ b → (b && nat_lt at n) ≡ false
    of true low = le-ltb _ _ (leb-true _ _ low)
    of false high = refl

pub none_between : (n : ℕ) (entries : List Entry) → TakesNone (record { start = n; end = n }) [] entries
none_between n entries = record { none = λ at. of at (slice_get entries at) }
  where
    of : (at : ℕ) (entry : Option Entry) → option_map_or (takes (record { start = n; end = n }) [] at) entry false ≡ false
    of at None = refl
    of at (Some entry) = ap (λ b. b || false) (between_none n at)

-- no block, and dropped songs of which no entry is one
pub none_dropped : (dropped : Uris) (entries : List Entry) → All (λ (entry : Entry). is_among dropped entry.uri ≡ false) entries
    → TakesNone (record { start = 0; end = 0 }) dropped entries
none_dropped dropped entries absent = record { none = λ at. of at entries at absent }
  where
    of : (at : ℕ) (rest : List Entry) (k : ℕ) → All (λ (entry : Entry). is_among dropped entry.uri ≡ false) rest
        → option_map_or (takes (record { start = 0; end = 0 }) dropped at) (slice_get rest k) false ≡ false
    of at [] k all = refl
    of at (entry ∷ rest) zero all =
        ap (λ b. b || is_among dropped entry.uri) (between_none 0 at) ∙ All-head (λ (e : Entry). is_among dropped e.uri ≡ false) entry rest all
    of at (entry ∷ rest) (suc k) all = of at rest k (All-tail (λ (e : Entry). is_among dropped e.uri ≡ false) entry rest all)
