-- What is kept behind a command or an event brings the kept place to where the player is.
use Rattle.std.proofs.Common.{◌≡◌, ℕ, zero, suc, ◌+◌, ◌≤◌, Bool, true, false, cond, not, ◌==◌, ◌||◌, ◌&&◌, List, [], ◌∷◌, ◌++◌, length, filter}
use Rattle.std.proofs.Common.{is_some, Option, Some, None, refl, sym, ap, ◌∙◌, subst, arith, ◌⊎◌, inl, inr}
use Rattle.std.specs.Prelude.{IfSome, nat_eq, nat_lt, unwrap_or, map}
use Rattle.std.specs.List.{All, AllByRecursion}
use Rattle.std.specs.Option.{option_eq, option_map, option_map_or}
use Rattle.std.proofs.lemmas.Bool.{eqb-true, false≢true}
use Rattle.std.proofs.lemmas.Bool.Decides.{nat_tests}
use Rattle.std.proofs.lemmas.List.{length-append}
use Rattle.std.proofs.lemmas.List.Elements.{All-head, All-tail}
use Rattle.play_queue.specs.declared.entry.Entry.{Entry}
use Rattle.play_queue.specs.Entries.{Uris}
use Rattle.play_queue.specs.Queue.{IsEntry, ids_of}
use Rattle.player_core.specs.Choice.{placed}
use Rattle.player_core.specs.Place.{PlaceState, at_id, id_leaves, longest_round, place_left, resumed_state, with_last, without_id, without_song}
use Rattle.player_core.specs.Player.{PlayerState, left_by, without}
use Rattle.player_core.specs.Reports.{takes_at}
use Rattle.player_core.specs.Staying.{all_staying}
use Rattle.player_core.specs.declared.block.Block.{Block}
use Rattle.player_core.specs.declared.playing.PlayState.{PlayState}
use Rattle.player_core.specs.declared.playing.PlayState.TheVariants.{Stop, Play, Pause}
use Rattle.player_core.proofs.LeftBlock.{left_by-empty}
use Rattle.profile.specs.declared.profile.Profile.TheVariants.{Wide}
use Rattle.state_codec.specs.Applied.{after_all}
use Rattle.state_codec.specs.OpsPlace.{place_after, stays_by}
use Rattle.state_codec.specs.OpsSettings.{same_flag}
use Rattle.state_codec.specs.SavedState.{SavedState}
use Rattle.state_codec.specs.declared.op.Op.{Op}
use Rattle.state_codec.specs.declared.op.Op.TheVariants.{Place}
use Rattle.state_codec.specs.declared.op.place_op.PlaceOp.{PlaceOp}
use Rattle.state_codec.specs.declared.op.place_op.PlaceOp.TheVariants.{Put, Played, Begins, Leaves}
use Rattle.state_codec.proofs.PlaceLaws.{op_stays_short}
use Rattle.machine_core.specs.Changed.{same_playing, same_state}
use Rattle.machine_core.specs.Keeping.{goes_on, if_kept, keep_ops, place_ops, put_op, round_ops, telling_ops, with_ops}
use Rattle.machine_core.specs.Restart.{IsIdle, IsInStep, IsKeptPlace, IsSoundPlace, IsThere}
use Rattle.machine_core.specs.Sound.{is_in_queue, AreOwn, IsIn, IsSoundMachine, IsSoundPlayer}
use Rattle.machine_core.specs.State.{keeping, MachineState}
use Rattle.machine_core.proofs.KeptLaws.{placed as with_place, ran_so, run, telling, told_so}
use Rattle.machine_core.proofs.Rounds.Following.{RoundStep, round_follows}
use Rattle.machine_core.proofs.Rounds.Left.{left_is, own_ids}
use Rattle.machine_core.proofs.Rounds.Moves.{Leaves as LeavesRound, Moves}
use Rattle.machine_core.proofs.Sound.Ids.{all_both, all_weaker, all_without, apart_without, own_without}
use Rattle.machine_core.proofs.Sound.Resumed.{found_in}
use Rattle.machine_core.proofs.Sound.Steps.{ArePlayed, IsAt, Within, left_played, placed_at, placed_where, stays_current}

-- ---- as many ids as entries, at most

length_without : (id : ℕ) (ids : List ℕ) → length ids ≤ suc (length (without id ids))
length_without id [] = omega arith
length_without id (other ∷ ids) = of (id == other) (length_without id ids)
  where
    of : (b : Bool) → length ids ≤ suc (length (without id ids)) → suc (length ids) ≤ suc (length (cond b ids (other ∷ without id ids)))
    of true rest = omega arith
    of false rest = omega (arith, rest)

not_first : (same rest : Bool) → (same || rest) ≡ true → same ≡ false → rest ≡ true
not_first true rest h apart = absurd (cc)
not_first false rest h apart = h

pub as_few : (entries : List Entry) (ids : List ℕ) → AreOwn ids → AllByRecursion (IsIn entries) ids → length ids ≤ length entries
as_few [] [] own all = omega arith
as_few [] (id ∷ ids) own all = absurd (false≢true all.0)
as_few (entry ∷ entries) ids own all =
    let rest = without entry.id ids in
    let within : AllByRecursion (IsIn entries) rest =
    all_both (IsIn (entry ∷ entries)) (λ id. (entry.id == id) ≡ false) (IsIn entries)
    (λ id h apart. not_first (entry.id == id) (is_in_queue entries id) h apart) rest (all_without (IsIn (entry ∷ entries)) entry.id ids all)
    (apart_without entry.id ids own) in
    omega (arith, as_few entries rest (own_without entry.id ids own) within, length_without entry.id ids)

-- ---- ops that change nothing may be left out

pub filter_short : (test : ℕ → Bool) (ids : List ℕ) → length (filter test ids) ≤ length ids
filter_short test [] = omega arith
filter_short test (id ∷ ids) = of (test id) (filter_short test ids)
  where
    of : (b : Bool) → length (filter test ids) ≤ length ids → length (cond b (id ∷ filter test ids) (filter test ids)) ≤ suc (length ids)
    of true few = omega (arith, few)
    of false few = omega (arith, few)

last_short : (id : ℕ) (others : List ℕ) → length others ≤ longest_round → length (with_last id others) ≤ longest_round
last_short id others few = of (nat_lt (length others) longest_round) refl
  where
    of : (b : Bool) → nat_lt (length others) longest_round ≡ b → length (cond b (others ++ id ∷ []) others) ≤ longest_round
    of true room = grind (arith, nat_tests, room, length-append others (id ∷ []))
    of false full = few

short_after : (op : PlaceOp) (place : PlaceState) → length place.played ≤ longest_round
    → length (place_after op place).played ≤ longest_round
short_after (Put state song frame) place few = few
short_after (Played id) place few =
    last_short id (without_id id place.played) (omega (arith, few, filter_short (λ other. not (id == other)) place.played))
short_after Begins place few = omega arith
short_after (Leaves id) place few = omega (arith, few, filter_short (λ other. not (id == other)) place.played)

run_telling : (ops : List PlaceOp) (place : PlaceState) → length place.played ≤ longest_round → run (telling ops place) place ≡ run ops place
run_telling [] place few = refl
run_telling (op ∷ ops) place few =
    of (stays_by op place) refl (run_telling ops place few) (run_telling ops (place_after op place) (short_after op place few))
  where
    of : (b : Bool) → stays_by op place ≡ b → run (telling ops place) place ≡ run ops place
        → run (telling ops (place_after op place)) (place_after op place) ≡ run ops (place_after op place)
        → run (cond b (telling ops place) (op ∷ telling ops (place_after op place))) place ≡ run ops (place_after op place)
    of true is here rest = here ∙ ap (run ops) (sym (op_stays_short op place few is))
    of false is here rest = rest

run_append : (one other : List PlaceOp) (place : PlaceState) → run (one ++ other) place ≡ run other (run one place)
run_append [] other place = refl
run_append (op ∷ one) other place = run_append one other (place_after op place)

-- ---- where what plays has changed, the place is then the player's

abbrev pub place_of : PlayerState → PlaceState
place_of player = record { state = player.state; song = unwrap_or player.current 0; frame = player.frame; played = player.played }

abbrev steps_to : Option ℕ → PlayerState → PlaceState → List PlaceOp
steps_to before player place = round_ops before place.played player.played ++ put_op player ∷ []

steps_come : (before : Option ℕ) (player : PlayerState) (place : PlaceState) → RoundStep before place.played player.played
    → AreOwn place.played → AreOwn player.played → length player.played ≤ longest_round
    → run (steps_to before player place) place ≡ place_of player
steps_come before player place step once own few =
    run_append (round_ops before place.played player.played) (put_op player ∷ []) place
    ∙ ap (place_after (put_op player)) (round_follows before place player.played step once own few)

pub place_comes : (before : Option ℕ) (n : MachineState) (place : PlaceState) → n.saved.place ≡ Some place
    → length place.played ≤ longest_round → RoundStep before place.played n.player.played → AreOwn place.played
    → AreOwn n.player.played → length n.player.played ≤ longest_round
    → after_all (place_ops before n.player n.saved (Some place)) n.saved ≡ with_place (place_of n.player) n.saved
place_comes before n place is short step once own few =
    let steps = steps_to before n.player place in
    let stands : n.saved ≡ with_place place n.saved = ap (λ (p : Option PlaceState). record n.saved { place = p }) is in
    let told : telling_ops steps n.saved ≡ map Place (telling steps place) = ap (telling_ops steps) stands ∙ told_so steps place n.saved in
    (λ i. after_all (told i) (stands i))
    ∙ ran_so (telling steps place) place n.saved
    ∙ ap (λ (p : PlaceState). with_place p n.saved) (run_telling steps place short ∙ steps_come before n.player place step once own few)

keep_comes : (m n : MachineState) (place : PlaceState) → keeping m ≡ Wide → goes_on m n ≡ false → n.saved.place ≡ Some place
    → length place.played ≤ longest_round → RoundStep m.player.current place.played n.player.played → AreOwn place.played
    → AreOwn n.player.played → length n.player.played ≤ longest_round
    → after_all (keep_ops m n) n.saved ≡ with_place (place_of n.player) n.saved
keep_comes m n place wide other is short step once own few =
    let made : keep_ops m n ≡ place_ops m.player.current n.player n.saved (Some place) =
    (λ i. if_kept (wide i) (cond (other i) [] (place_ops m.player.current n.player n.saved (is i)))) in
    ap (λ (ops : List Op). after_all ops n.saved) made ∙ place_comes m.player.current n place is short step once own few

-- ---- a place that is the player's is sound

song_sound : (entries : List Entry) (current : Option ℕ) → IfSome current (IsIn entries)
    → (unwrap_or current 0 == 0 || is_in_queue entries (unwrap_or current 0)) ≡ true
song_sound entries None here = refl
song_sound entries (Some id) here = of (id == 0) here
  where
    of : (b : Bool) → is_in_queue entries id ≡ true → (b || is_in_queue entries id) ≡ true
    of true here = refl
    of false here = here

pub there_sound : (entries : List Entry) (random : Bool) (player : PlayerState) (place : PlaceState) → IsSoundPlayer entries random player
    → place.song ≡ unwrap_or player.current 0 → place.played ≡ player.played → IsSoundPlace entries random place
there_sound entries random player place sound song played = record {
  song = subst (λ (id : ℕ). (id == 0 || is_in_queue entries id) ≡ true) (sym song) (song_sound entries player.current sound.current);
  played = subst (AllByRecursion (IsIn entries)) (sym played) sound.played;
  once = subst AreOwn (sym played) sound.once;
  ordered = λ off. played ∙ sound.ordered off;
}

plays_so : (state : PlayState) → state ≡ resumed_state true state
plays_so Stop = refl
plays_so Play = refl
plays_so Pause = refl

-- ---- a command or an event keeps the place in step

-- the place behind its own ops, before what is kept behind them
pub record Follows (m n : MachineState) (place : PlaceState) : Type 0 where
  pub once : AreOwn place.played
  pub short : length place.played ≤ longest_round
  pub round : RoundStep m.player.current place.played n.player.played
  pub on : goes_on m n ≡ true → IsKeptPlace n place

the_same : (a b : PlaceState) → (let p : Option PlaceState = Some a in p ≡ Some b) → a ≡ b
the_same a b same = cc

-- the place is just where the player is
pub at_the_player : (n : MachineState) → IsSoundMachine n → IsInStep (record n { saved = with_place (place_of n.player) n.saved })
at_the_player n holds place is =
    subst (IsKeptPlace (record n { saved = with_place (place_of n.player) n.saved })) (the_same (place_of n.player) place is) (record {
      sound = there_sound n.saved.queue.entries n.saved.options.random n.player (place_of n.player) holds.sound refl refl;
      here = inr (record { plays = true; state = λ some. plays_so n.player.state; song = refl; played = refl });
    })

pub few_played : (n : MachineState) → IsSoundMachine n → length n.player.played ≤ longest_round
few_played n holds =
    omega (arith, as_few n.saved.queue.entries n.player.played holds.sound.once holds.sound.played, holds.queue.few)

pub stays_in_step : (m n : MachineState) → keeping m ≡ Wide → IsSoundMachine n
    → ((place : PlaceState) → n.saved.place ≡ Some place → Follows m n place) → IsInStep (with_ops (keep_ops m n) n)
stays_in_step m n wide holds follows = of (goes_on m n) refl n.saved.place refl
  where
    nothing : goes_on m n ≡ true → keep_ops m n ≡ []
    nothing goes =
        (λ i. if_kept (keeping m) (cond (goes i) [] (place_ops m.player.current n.player n.saved n.saved.place)))
        ∙ ap (λ p. if_kept p []) wide

    unkept : goes_on m n ≡ false → n.saved.place ≡ None → keep_ops m n ≡ []
    unkept other none =
        (λ i. if_kept (keeping m) (cond (other i) [] (place_ops m.player.current n.player n.saved (none i))))
        ∙ ap (λ p. if_kept p []) wide

    of : (b : Bool) → goes_on m n ≡ b → (kept : Option PlaceState) → n.saved.place ≡ kept → IsInStep (with_ops (keep_ops m n) n)
    of true goes kept is =
        subst (λ (ops : List Op). IsInStep (with_ops ops n)) (sym (nothing goes)) (λ place there. (follows place there).on goes)
    of false other None is =
        subst (λ (ops : List Op). IsInStep (with_ops ops n)) (sym (unkept other is)) (λ place there. absurd (cc (is, there)))
    of false other (Some place) is =
        let f = follows place is in
        subst (λ (s : SavedState). IsInStep (record n { saved = s }))
        (sym (keep_comes m n place wide other is f.short f.round f.once holds.sound.once (few_played n holds)))
        (at_the_player n holds)

-- ---- where the place stays as it was

-- a step of a round of which nothing is known is one of any other
idle_step : (kept now : List ℕ) → RoundStep None [] now → RoundStep None kept now
idle_step kept now (RoundStep.Stays same) = RoundStep.Empties same
idle_step kept now (RoundStep.Notes id same) = RoundStep.Opens id same
idle_step kept now (RoundStep.Empties same) = RoundStep.Empties same
idle_step kept now (RoundStep.Opens id same) = RoundStep.Opens id same
idle_step kept now (RoundStep.Goes id was same) = absurd (cc)

state_is : (a b : PlayState) → same_state a b ≡ true → a ≡ b
state_is Stop Stop same = refl
state_is Stop Play same = absurd (cc)
state_is Stop Pause same = absurd (cc)
state_is Play Stop same = absurd (cc)
state_is Play Play same = refl
state_is Play Pause same = absurd (cc)
state_is Pause Stop same = absurd (cc)
state_is Pause Play same = absurd (cc)
state_is Pause Pause same = refl

current_is : (a b : Option ℕ) → option_eq nat_eq a b ≡ true → a ≡ b
current_is None None same = refl
current_is None (Some b) same = absurd (cc)
current_is (Some a) None same = absurd (cc)
current_is (Some a) (Some b) same = ap Some (eqb-true a b same)

flag_is : (a b : Bool) → same_flag a b ≡ true → a ≡ b
flag_is true true same = refl
flag_is true false same = absurd (cc)
flag_is false true same = absurd (cc)
flag_is false false same = refl

pub and_first : (a b : Bool) → (a && b) ≡ true → a ≡ true
and_first true b both = refl
and_first false b both = absurd (cc)

and_last : (a b : Bool) → (a && b) ≡ true → b ≡ true
and_last true b both = both
and_last false b both = absurd (cc)

-- what is the same where what plays goes on
pub record GoesOn (m n : MachineState) : Type 0 where
  pub playing : same_playing m.player n.player ≡ true
  pub state : m.player.state ≡ n.player.state
  pub current : m.player.current ≡ n.player.current
  pub ticket : m.player.ticket ≡ n.player.ticket
  pub random : m.saved.options.random ≡ n.saved.options.random

pub going : (m n : MachineState) → goes_on m n ≡ true → GoesOn m n
going m n goes =
    let playing = and_first (same_playing m.player n.player) (same_flag m.saved.options.random n.saved.options.random) goes in
    let rest = and_last (same_state m.player.state n.player.state) _ playing in
    record {
      playing = playing;
      state = state_is m.player.state n.player.state (and_first _ _ playing);
      current = current_is m.player.current n.player.current (and_first _ _ rest);
      ticket = eqb-true m.player.ticket n.player.ticket (and_last _ _ rest);
      random = flag_is m.saved.options.random n.saved.options.random
          (and_last (same_playing m.player n.player) (same_flag m.saved.options.random n.saved.options.random) goes);
    }

weaker_song : (entries after : List Entry) (id : ℕ) → Within entries after → (id == 0 || is_in_queue entries id) ≡ true
    → (id == 0 || is_in_queue after id) ≡ true
weaker_song entries after id within here = of (id == 0) here
  where
    of : (b : Bool) → (b || is_in_queue entries id) ≡ true → (b || is_in_queue after id) ≡ true
    of true here = refl
    of false here = within id here

weaker_place : (entries after : List Entry) (random : Bool) (place : PlaceState) → Within entries after
    → IsSoundPlace entries random place → IsSoundPlace after random place
weaker_place entries after random place within sound = record {
  song = weaker_song entries after place.song within sound.song;
  played = all_weaker (IsIn entries) (IsIn after) within place.played sound.played;
  once = sound.once;
  ordered = sound.ordered;
}

-- the player that goes on is as idle as before, or where it was
still_here : (m n : MachineState) (place : PlaceState) → GoesOn m n → n.player.played ≡ m.player.played
    → (IsIdle m.player) ⊎ (IsThere m.player place) → (IsIdle n.player) ⊎ (IsThere n.player place)
still_here m n place goes played (inl idle) = inl (record {
  state = sym goes.state ∙ idle.state;
  current = sym goes.current ∙ idle.current;
  ticket = sym goes.ticket ∙ idle.ticket;
  played = played ∙ idle.played;
})
still_here m n place goes played (inr there) = inr (record {
  plays = there.plays;
  state = λ some. sym goes.state ∙ there.state some;
  song = there.song ∙ ap (λ (o : Option ℕ). unwrap_or o 0) goes.current;
  played = there.played ∙ sym played;
})

pub short_place : (m : MachineState) (place : PlaceState) → IsSoundMachine m → IsKeptPlace m place → length place.played ≤ longest_round
short_place m place holds kept =
    omega (arith, as_few m.saved.queue.entries place.played kept.sound.once kept.sound.played, holds.queue.few)

pub same_round : (m : MachineState) (place : PlaceState) (now : List ℕ) → (IsIdle m.player) ⊎ (IsThere m.player place)
    → RoundStep m.player.current m.player.played now → RoundStep m.player.current place.played now
same_round m place now (inl idle) step =
    let none : RoundStep None [] now = subst (λ (o : Option ℕ). RoundStep o [] now) idle.current
    (subst (λ (kept : List ℕ). RoundStep m.player.current kept now) idle.played step) in
    subst (λ (o : Option ℕ). RoundStep o place.played now) (sym idle.current) (idle_step place.played now none)
same_round m place now (inr there) step = subst (λ (kept : List ℕ). RoundStep m.player.current kept now) (sym there.played) step

pub follows_same : (m n : MachineState) (place : PlaceState) → IsSoundMachine m → IsKeptPlace m place
    → Moves m.saved.queue.entries None m.player n.player → Within m.saved.queue.entries n.saved.queue.entries → Follows m n place
follows_same m n place holds kept step within = record {
  once = kept.sound.once;
  short = short_place m place holds kept;
  round = same_round m place n.player.played kept.here step.round;
  on = λ goes. let on = going m n goes in record {
    sound = subst (λ random. IsSoundPlace n.saved.queue.entries random place) on.random
        (weaker_place m.saved.queue.entries n.saved.queue.entries m.saved.options.random place within kept.sound);
    here = still_here m n place on (step.same on.playing).1 kept.here;
  };
}

-- ---- where entries leave the queue, and the place with them

pub filter_own : (test : ℕ → Bool) (ids : List ℕ) → AreOwn ids → AreOwn (filter test ids)
filter_own test [] own = tt
filter_own test (id ∷ ids) own = of (test id) (filter_own test ids own.1)
  where
    each : (others : List ℕ) → AllByRecursion (λ other. (id == other) ≡ false) others
        → AllByRecursion (λ other. (id == other) ≡ false) (filter test others)
    each [] all = tt
    each (other ∷ others) all = by (test other) (each others all.1)
      where
        by : (b : Bool) → AllByRecursion (λ one. (id == one) ≡ false) (filter test others)
            → AllByRecursion (λ one. (id == one) ≡ false) (cond b (other ∷ filter test others) (filter test others))
        by true rest = (all.0, rest)
        by false rest = rest

    of : (b : Bool) → AreOwn (filter test ids) → AreOwn (cond b (id ∷ filter test ids) (filter test ids))
    of true rest = (each ids own.0, rest)
    of false rest = rest

-- no entry has the id 0
pub none_has_zero : (next version : ℕ) (entries : List Entry) → All (IsEntry next version) entries → is_in_queue entries 0 ≡ false
none_has_zero next version [] all = refl
none_has_zero next version (entry ∷ entries) all =
    let first = All-head (IsEntry next version) entry entries all in
    of (entry.id == 0) refl first.id_low (none_has_zero next version entries (All-tail (IsEntry next version) entry entries all))
  where
    of : (b : Bool) → (entry.id == 0) ≡ b → 1 ≤ entry.id → is_in_queue entries 0 ≡ false → (b || is_in_queue entries 0) ≡ false
    of true is low rest = let zero : entry.id ≡ 0 = eqb-true entry.id 0 is in absurd (omega (arith, low, zero))
    of false is low rest = rest

none_leaves : (block : Block) (dropped : Uris) (entries : List Entry) (id : ℕ) → is_in_queue entries id ≡ false
    → id_leaves block dropped entries id ≡ false
none_leaves block dropped entries id none = of (at_id entries id) refl
  where
    of : (at : Option ℕ) → at_id entries id ≡ at → option_map_or (takes_at block dropped entries) at false ≡ false
    of None is = refl
    of (Some at) is = absurd (false≢true (sym none ∙ found_in entries id (ap (λ (o : Option ℕ). is_some o) is)))

-- what leaves, and stays, of what is in the queue
pub record Stands (block : Block) (dropped : Uris) (entries : List Entry) (id : ℕ) : Type 0 where
  pub place : ℕ × ℕ
  pub is : placed entries (Some id) ≡ Some place
  pub same : id_leaves block dropped entries id ≡ takes_at block dropped entries place.0

pub stands : (block : Block) (dropped : Uris) (entries : List Entry) (id : ℕ) → IsIn entries id → Stands block dropped entries id
stands block dropped entries id here = of (at_id entries id) refl
  where
    found : (place : ℕ × ℕ) × (placed entries (Some id) ≡ Some place)
    found = placed_where entries id here

    of : (at : Option ℕ) → at_id entries id ≡ at → Stands block dropped entries id
    of None is = absurd (cc (found.1, is))
    of (Some at) is = record {
      place = (at, id);
      is = ap (option_map {U = ℕ × ℕ} (λ (n : ℕ). (n, id))) is;
      same = ap (λ (o : Option ℕ). option_map_or (takes_at block dropped entries) o false) is;
    }

-- the song of the place, where it stays
song_stays : (block : Block) (dropped : Uris) (entries after : List Entry) (id : ℕ) → Within (all_staying block dropped entries) after
    → (id == 0 || is_in_queue entries id) ≡ true → id_leaves block dropped entries id ≡ false → (id == 0 || is_in_queue after id) ≡ true
song_stays block dropped entries after id within here stays = of (id == 0) here
  where
    in_queue : IsIn entries id → IsIn after id
    in_queue there =
        let s = stands block dropped entries id there in
        let at : IsAt entries (Some id) s.place = placed_at entries (Some id) s.place s.is in
        let this : id ≡ s.place.1 = (let e : Some id ≡ Some s.place.1 = at.this in cc) in
        subst (IsIn after) (sym this) (within s.place.1 (stays_current block dropped entries (Some id) s.place at (sym s.same ∙ stays)))

    of : (b : Bool) → (b || is_in_queue entries id) ≡ true → (b || is_in_queue after id) ≡ true
    of true h = refl
    of false h = in_queue h

left_sound : (m : MachineState) (block : Block) (dropped : Uris) (after : List Entry) (place : PlaceState) → IsSoundMachine m
    → Within (all_staying block dropped m.saved.queue.entries) after
    → IsSoundPlace m.saved.queue.entries m.saved.options.random place
    → IsSoundPlace after m.saved.options.random (place_left block dropped m.saved.queue.entries place)
left_sound m block dropped after place holds within sound = of (id_leaves block dropped entries place.song) refl
  where
    entries : List Entry
    entries = m.saved.queue.entries

    left : List ℕ
    left = filter (λ id. not (id_leaves block dropped entries id)) place.played

    are : ArePlayed after m.saved.options.random left
    are = subst (ArePlayed after m.saved.options.random)
        (left_is block dropped entries place.played (own_ids (ids_of entries) holds.queue.own_ids) sound.once)
        (left_played block dropped entries after m.saved.options.random place.played within
        (record { all = sound.played; once = sound.once; ordered = sound.ordered }))

    of : (b : Bool) → id_leaves block dropped entries place.song ≡ b
        → IsSoundPlace after m.saved.options.random (record (cond b (without_song place) place) { played = left })
    of true goes = record { song = refl; played = are.all; once = are.once; ordered = are.ordered }
    of false stays = record {
      song = song_stays block dropped entries after place.song within sound.song stays;
      played = are.all;
      once = are.once;
      ordered = are.ordered;
    }

-- the song that is current stays, where what plays goes on
kept_song : (m n : MachineState) (block : Block) (dropped : Uris) (place : PlaceState) → IsSoundMachine m
    → LeavesRound m.saved.queue.entries block dropped m.player n.player → GoesOn m n → place.song ≡ unwrap_or m.player.current 0
    → id_leaves block dropped m.saved.queue.entries place.song ≡ false
kept_song m n block dropped place holds step on song = of m.player.current refl holds.sound.current
  where
    entries : List Entry
    entries = m.saved.queue.entries

    by : (id : ℕ) → m.player.current ≡ Some id → (s : Stands block dropped entries id) → (b : Bool)
        → takes_at block dropped entries s.place.0 ≡ b → b ≡ false
    by id is s true takes =
        absurd (false≢true (sym (step.taken s.place (ap (placed entries) is ∙ s.is) takes) ∙ on.playing))
    by id is s false stays = refl

    of : (current : Option ℕ) → m.player.current ≡ current → IfSome current (IsIn entries)
        → id_leaves block dropped entries place.song ≡ false
    of None is here =
        let zero : place.song ≡ 0 = song ∙ ap (λ (o : Option ℕ). unwrap_or o 0) is in
        ap (id_leaves block dropped entries) zero
        ∙ none_leaves block dropped entries 0 (none_has_zero m.saved.queue.next_id m.saved.queue.version entries holds.queue.entry)
    of (Some id) is here =
        let s = stands block dropped entries id here in
        let this : place.song ≡ id = song ∙ ap (λ (o : Option ℕ). unwrap_or o 0) is in
        ap (id_leaves block dropped entries) this ∙ s.same
        ∙ by id is s (takes_at block dropped entries s.place.0) refl

still_left : (m n : MachineState) (block : Block) (dropped : Uris) (place : PlaceState) → IsSoundMachine m
    → LeavesRound m.saved.queue.entries block dropped m.player n.player → GoesOn m n → AreOwn place.played
    → (IsIdle m.player) ⊎ (IsThere m.player place)
    → (IsIdle n.player) ⊎ (IsThere n.player (place_left block dropped m.saved.queue.entries place))
still_left m n block dropped place holds step on once (inl idle) = inl (record {
  state = sym on.state ∙ idle.state;
  current = sym on.current ∙ idle.current;
  ticket = sym on.ticket ∙ idle.ticket;
  played = step.same on.playing ∙ ap (left_by block dropped 0 m.saved.queue.entries) idle.played
      ∙ left_by-empty block dropped 0 m.saved.queue.entries;
})
still_left m n block dropped place holds step on once (inr there) =
    inr (of (id_leaves block dropped entries place.song) (kept_song m n block dropped place holds step on there.song))
  where
    entries : List Entry
    entries = m.saved.queue.entries

    left : List ℕ
    left = filter (λ id. not (id_leaves block dropped entries id)) place.played

    same : left ≡ n.player.played
    same =
        sym (left_is block dropped entries place.played (own_ids (ids_of entries) holds.queue.own_ids) once)
        ∙ ap (left_by block dropped 0 entries) there.played ∙ sym (step.same on.playing)

    of : (b : Bool) → b ≡ false → IsThere n.player (record (cond b (without_song place) place) { played = left })
    of true goes = absurd (false≢true (sym goes))
    of false stays = record {
      plays = there.plays;
      state = λ some. sym on.state ∙ there.state some;
      song = there.song ∙ ap (λ (o : Option ℕ). unwrap_or o 0) on.current;
      played = same;
    }

pub left_round : (m : MachineState) (block : Block) (dropped : Uris) (place : PlaceState) (now : List ℕ) → IsSoundMachine m
    → AreOwn place.played → (IsIdle m.player) ⊎ (IsThere m.player place)
    → RoundStep m.player.current (left_by block dropped 0 m.saved.queue.entries m.player.played) now
    → RoundStep m.player.current (place_left block dropped m.saved.queue.entries place).played now
left_round m block dropped place now holds once (inl idle) step =
    let entries = m.saved.queue.entries in
    let none : left_by block dropped 0 entries m.player.played ≡ [] =
    ap (left_by block dropped 0 entries) idle.played ∙ left_by-empty block dropped 0 entries in
    let first : RoundStep None [] now = subst (λ (o : Option ℕ). RoundStep o [] now) idle.current
    (subst (λ (kept : List ℕ). RoundStep m.player.current kept now) none step) in
    subst (λ (o : Option ℕ). RoundStep o (place_left block dropped entries place).played now) (sym idle.current)
    (idle_step (place_left block dropped entries place).played now first)
left_round m block dropped place now holds once (inr there) step =
    let entries = m.saved.queue.entries in
    let same : left_by block dropped 0 entries m.player.played ≡ filter (λ id. not (id_leaves block dropped entries id)) place.played =
    ap (left_by block dropped 0 entries) (sym there.played)
    ∙ left_is block dropped entries place.played (own_ids (ids_of entries) holds.queue.own_ids) once in
    subst (λ (kept : List ℕ). RoundStep m.player.current kept now) same step

pub follows_left : (m n : MachineState) (block : Block) (dropped : Uris) (place : PlaceState) → IsSoundMachine m → IsKeptPlace m place
    → LeavesRound m.saved.queue.entries block dropped m.player n.player
    → Within (all_staying block dropped m.saved.queue.entries) n.saved.queue.entries
    → Follows m n (place_left block dropped m.saved.queue.entries place)
follows_left m n block dropped place holds kept step within =
    let entries = m.saved.queue.entries in
    record {
      once = filter_own (λ id. not (id_leaves block dropped entries id)) place.played kept.sound.once;
      short = omega (
        arith,
        short_place m place holds kept,
        filter_short (λ id. not (id_leaves block dropped entries id)) place.played,
      );
      round = left_round m block dropped place n.player.played holds kept.sound.once kept.here step.round;
      on = λ goes. let on = going m n goes in record {
        sound = subst (λ random. IsSoundPlace n.saved.queue.entries random (place_left block dropped entries place)) on.random
            (left_sound m block dropped n.saved.queue.entries place holds within kept.sound);
        here = still_left m n block dropped place holds step on kept.sound.once kept.here;
      };
    }
