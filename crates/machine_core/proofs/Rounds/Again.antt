-- The player that goes on from a kept place has its song, its round and its state; so a restart finds the player where it was.
use Rattle.std.proofs.Common.{◌≡◌, ℕ, Bool, true, false, cond, ◌==◌, ◌||◌, List, [], ◌∷◌, ◌++◌, is_some}
use Rattle.std.proofs.Common.{Option, Some, None, refl, sym, ap, ◌∙◌, subst, append_assoc, inr}
use Rattle.std.specs.Prelude.{IfSome, min, option_and_then, unwrap_or}
use Rattle.std.specs.List.{AllByRecursion}
use Rattle.std.specs.Option.{option_map}
use Rattle.std.proofs.lemmas.Bool.{eqb-true, false≢true}
use Rattle.play_queue.specs.Queue.{IsQueue}
use Rattle.play_queue.specs.declared.entry.Entry.{Entry}
use Rattle.player_core.specs.Choice.{placed}
use Rattle.player_core.specs.Place.{PlaceState, at_id, found_ids, resumed, resumed_at, resumed_round, resumed_state}
use Rattle.player_core.specs.Player.{PlayerState, noted, without}
use Rattle.player_core.specs.declared.playing.PlayState.{PlayState}
use Rattle.player_core.specs.declared.playing.PlayState.TheVariants.{Stop, Play, Pause}
use Rattle.player_core.specs.declared.selector.Selector.TheVariants.{Id}
use Rattle.player_core.specs.Order.{current_entry}
use Rattle.machine_core.specs.Followed.{entry_row}
use Rattle.machine_core.specs.Happening.{nothing_happens}
use Rattle.machine_core.specs.Keeping.{resumed_from, resumes, when_resumed}
use Rattle.machine_core.specs.Restart.{GoesOnAs, IsInStep, IsSoundPlace, IsThere}
use Rattle.machine_core.specs.Sound.{is_in_queue, AreOwn, IsIn, IsSoundMachine}
use Rattle.machine_core.specs.State.{MachineState, started}
use Rattle.machine_core.specs.Steps.{current_length, length_of, named_length}
use Rattle.machine_core.proofs.Rounds.Kept.{none_has_zero}
use Rattle.machine_core.proofs.Sound.Resumed.{found_in}
use Rattle.machine_core.proofs.Sound.Steps.{placed_where}

-- ---- the round that is found again

found_some : (entries : List Entry) (id : ℕ) → IsIn entries id → is_some (at_id entries id) ≡ true
found_some entries id here = of (at_id entries id) refl
  where
    there : (place : ℕ × ℕ) × (placed entries (Some id) ≡ Some place)
    there = placed_where entries id here

    of : (at : Option ℕ) → at_id entries id ≡ at → is_some at ≡ true
    of None is = absurd (cc (there.1, is))
    of (Some at) is = refl

-- no id in front of one is the same
turned : (a b : ℕ) → (a == b) ≡ false → (b == a) ≡ false
turned a b apart = of (b == a) refl
  where
    of : (same : Bool) → (b == a) ≡ same → same ≡ false
    of true is = let equal : b ≡ a = eqb-true b a is in
        absurd (false≢true (sym apart ∙ ap (λ n. a == n) equal ∙ ap (λ n. n == a) (sym equal) ∙ is))
    of false is = refl

last_apart : (x : ℕ) (known : List ℕ) (id : ℕ) (ids : List ℕ)
    → AllByRecursion (λ other. (x == other) ≡ false) (known ++ id ∷ ids) → (x == id) ≡ false
last_apart x [] id ids apart = apart.0
last_apart x (y ∷ known) id ids apart = last_apart x known id ids apart.1

not_yet : (known : List ℕ) (id : ℕ) (ids : List ℕ) → AreOwn (known ++ id ∷ ids) → without id known ≡ known
not_yet [] id ids own = refl
not_yet (x ∷ known) id ids own =
    ap (λ b. cond b known (x ∷ without id known)) (turned x id (last_apart x known id ids own.0))
    ∙ ap (λ l. x ∷ l) (not_yet known id ids own.1)

-- of ids that all stand in the queue, each once, all are found, in their order
found_all : (entries : List Entry) (ids known : List ℕ) → AreOwn (known ++ ids) → AllByRecursion (IsIn entries) ids
    → found_ids entries ids known ≡ known ++ ids
found_all entries [] known own all = nothing_behind known
  where
    nothing_behind : (xs : List ℕ) → xs ≡ xs ++ []
    nothing_behind [] = refl
    nothing_behind (x ∷ xs) = ap (λ l. x ∷ l) (nothing_behind xs)
found_all entries (id ∷ ids) known own all =
    let added : noted (is_some (at_id entries id)) id known ≡ known ++ id ∷ [] =
    ap (λ b. noted b id known) (found_some entries id all.0) ∙ ap (λ l. l ++ id ∷ []) (not_yet known id ids own) in
    let same : (known ++ id ∷ []) ++ ids ≡ known ++ (id ∷ ids) = append_assoc known (id ∷ []) ids in
    ap (found_ids entries ids) added
    ∙ found_all entries ids (known ++ id ∷ []) (subst AreOwn (sym same) own) all.1 ∙ same

round_again : (entries : List Entry) (random : Bool) (place : PlaceState) → IsSoundPlace entries random place
    → resumed_round random entries place.played ≡ place.played
round_again entries true place sound = found_all entries place.played [] sound.once sound.played
round_again entries false place sound = sym (sound.ordered refl)

-- ---- the player

-- the song of a sound place is none, or stands in the queue
song_place : (entries : List Entry) (id : ℕ) → at_id entries id ≡ None → (id == 0 || is_in_queue entries id) ≡ true → id ≡ 0
song_place entries id none here = of (id == 0) refl here
  where
    of : (b : Bool) → (id == 0) ≡ b → (b || is_in_queue entries id) ≡ true → id ≡ 0
    of true is here = eqb-true id 0 is
    of false is here = absurd (cc (found_some entries id here, ap (λ (o : Option ℕ). is_some o) none))

resumed_there : (plays random : Bool) (frames : ℕ) (entries : List Entry) (place : PlaceState) → IsSoundPlace entries random place
    → IsThere (resumed plays random frames entries place) place
resumed_there plays random frames entries place sound = of (at_id entries place.song) refl
  where
    of : (at : Option ℕ) → at_id entries place.song ≡ at
        → IsThere (resumed_at plays frames place (resumed_round random entries place.played) at) place
    of None none =
        let zero : place.song ≡ 0 = song_place entries place.song none sound.song in
        record {
          plays = plays;
          state = λ some. absurd (false≢true (sym some ∙ ap (λ n. n == 0) zero));
          song = zero;
          played = sym (round_again entries random place sound);
        }
    of (Some at) found = record {
      plays = plays;
      state = λ some. refl;
      song = refl;
      played = sym (round_again entries random place sound);
    }

resumes_in_step : (plays : Bool) (m : MachineState) (place : Option PlaceState) → m.saved.place ≡ place → IsInStep m
    → let h = resumes plays m place in IsInStep h.after
resumes_in_step plays m None is step = step
resumes_in_step plays m (Some place) is step = λ other there.
    let before = step other there in
    let same : place ≡ other = (let found : Some place ≡ Some other = sym is ∙ there in cc) in
    record {
      sound = before.sound;
      here = inr (subst (λ (p : PlaceState). IsThere (resumed_from plays m p) other) (sym same)
          (resumed_there plays m.saved.options.random (named_length (Id other.song) m).frames m.saved.queue.entries other before.sound));
    }

pub resumed_in_step : (plays : Bool) (m : MachineState) → IsInStep m → let h = when_resumed plays m in IsInStep h.after
resumed_in_step plays m step = of (m.player.ticket == 0)
  where
    of : (b : Bool) → let h = cond b (resumes plays m m.saved.place) (nothing_happens m) in IsInStep h.after
    of true = resumes_in_step plays m m.saved.place refl step
    of false = step

-- ---- a restart

paused_so : (plays : Bool) (state : PlayState) → resumed_state false state ≡ resumed_state false (resumed_state plays state)
paused_so plays Stop = refl
paused_so true Play = refl
paused_so false Play = refl
paused_so plays Pause = refl

plays_so : (plays : Bool) (state : PlayState) → resumed_state plays state ≡ Play → resumed_state true state ≡ Play
plays_so plays Stop is = absurd (cc)
plays_so plays Play is = refl
plays_so plays Pause is = absurd (cc)

stops_so : (plays was : Bool) (state : PlayState) → resumed_state was state ≡ Stop → resumed_state plays state ≡ Stop
stops_so plays was Stop is = refl
stops_so plays true Play is = absurd (cc)
stops_so plays false Play is = absurd (cc)
stops_so plays was Pause is = absurd (cc)

-- the player that goes on in the next life
abbrev again_at : Bool → MachineState → PlaceState → Option ℕ → PlayerState
again_at plays m place at =
    resumed_at plays (named_length (Id place.song) (started m.saved)).frames place
    (resumed_round m.saved.options.random m.saved.queue.entries place.played) at

-- its song is the one that was current
current_again : (plays : Bool) (m : MachineState) (place : PlaceState) → IsQueue m.saved.queue
    → IfSome m.player.current (IsIn m.saved.queue.entries) → place.song ≡ unwrap_or m.player.current 0
    → (again_at plays m place (at_id m.saved.queue.entries place.song)).current ≡ m.player.current
current_again plays m place queue here song = by m.player.current here song
  where
    entries : List Entry
    entries = m.saved.queue.entries

    none : (at : Option ℕ) → at_id entries 0 ≡ at → (again_at plays m place at).current ≡ None
    none None is = refl
    none (Some at) is =
        absurd (cc (
          none_has_zero m.saved.queue.next_id m.saved.queue.version entries queue.entry,
          found_in entries 0 (ap (λ (o : Option ℕ). is_some o) is),
        ))

    some : (id : ℕ) → place.song ≡ id → IsIn entries id → (at : Option ℕ) → at_id entries id ≡ at
        → (again_at plays m place at).current ≡ Some id
    some id is here None none = absurd (cc (found_some entries id here, ap (λ (o : Option ℕ). is_some o) none))
    some id is here (Some at) found = ap Some is

    by : (current : Option ℕ) → IfSome current (IsIn entries) → place.song ≡ unwrap_or current 0
        → (again_at plays m place (at_id entries place.song)).current ≡ current
    by None here zero =
        subst (λ (n : ℕ). (again_at plays m place (at_id entries n)).current ≡ None) (sym zero) (none (at_id entries 0) refl)
    by (Some id) here same =
        subst (λ (n : ℕ). (again_at plays m place (at_id entries n)).current ≡ Some id) (sym same)
        (some id same here (at_id entries id) refl)

played_again : (plays : Bool) (m : MachineState) (place : PlaceState) (at : Option ℕ)
    → IsSoundPlace m.saved.queue.entries m.saved.options.random place → place.played ≡ m.player.played
    → (again_at plays m place at).played ≡ m.player.played
played_again plays m place None sound same = round_again m.saved.queue.entries m.saved.options.random place sound ∙ same
played_again plays m place (Some at) sound same = round_again m.saved.queue.entries m.saved.options.random place sound ∙ same

-- a song that is current has an id
has_id : (m : MachineState) (id : ℕ) → IsSoundMachine m → m.player.current ≡ Some id → IsIn m.saved.queue.entries id
has_id m id holds is = subst (λ (o : Option ℕ). IfSome o (IsIn m.saved.queue.entries)) is holds.sound.current

not_zero : (m : MachineState) (id : ℕ) → IsSoundMachine m → IsIn m.saved.queue.entries id → (id == 0) ≡ false
not_zero m id holds here = of (id == 0) refl
  where
    of : (b : Bool) → (id == 0) ≡ b → b ≡ false
    of true is =
        absurd (false≢true (sym (none_has_zero m.saved.queue.next_id m.saved.queue.version m.saved.queue.entries holds.queue.entry)
        ∙ ap (λ n. is_in_queue m.saved.queue.entries n) (sym (eqb-true id 0 is)) ∙ here))
    of false is = refl

state_again : (plays : Bool) (m : MachineState) (place : PlaceState) (id : ℕ) → IsSoundMachine m → m.player.current ≡ Some id
    → place.song ≡ unwrap_or m.player.current 0
    → (again_at plays m place (at_id m.saved.queue.entries place.song)).state ≡ resumed_state plays place.state
state_again plays m place id holds current song =
    of (at_id m.saved.queue.entries place.song) (ap (at_id m.saved.queue.entries) same)
  where
    same : place.song ≡ id
    same = song ∙ ap (λ (o : Option ℕ). unwrap_or o 0) current

    of : (at : Option ℕ) → at ≡ at_id m.saved.queue.entries id → (again_at plays m place at).state ≡ resumed_state plays place.state
    of None is =
        absurd (cc (found_some m.saved.queue.entries id (has_id m id holds current), ap (λ (o : Option ℕ). is_some o) is))
    of (Some at) is = refl

frame_again : (plays : Bool) (m : MachineState) (place : PlaceState) (id : ℕ) → IsSoundMachine m → m.player.current ≡ Some id
    → place.song ≡ unwrap_or m.player.current 0
    → (again_at plays m place (at_id m.saved.queue.entries place.song)).frame ≡ min place.frame (current_length m).frames
frame_again plays m place id holds current song =
    of (at_id m.saved.queue.entries place.song) (ap (at_id m.saved.queue.entries) same)
  where
    same : place.song ≡ id
    same = song ∙ ap (λ (o : Option ℕ). unwrap_or o 0) current

    of : (at : Option ℕ) → at ≡ at_id m.saved.queue.entries id
        → (again_at plays m place at).frame ≡ min place.frame (current_length m).frames
    of None is =
        absurd (cc (found_some m.saved.queue.entries id (has_id m id holds current), ap (λ (o : Option ℕ). is_some o) is))
    of (Some at) is =
        ap (λ (o : Option ℕ). min place.frame
        (length_of (option_and_then (entry_row m.saved.songs) (current_entry m.saved.queue.entries o))).frames)
        (ap Some same ∙ sym current)

pub goes_on_as : (plays : Bool) (m : MachineState) (place : PlaceState) → IsSoundMachine m → m.saved.place ≡ Some place
    → IsSoundPlace m.saved.queue.entries m.saved.options.random place → IsThere m.player place
    → let h = when_resumed plays (started m.saved) in GoesOnAs plays m.player h.after.player
goes_on_as plays m place holds is sound there =
    subst (λ (p : Option PlaceState). let h = resumes plays (started m.saved) p in GoesOnAs plays m.player h.after.player) (sym is)
    (record {
      current = current_again plays m place holds.queue holds.sound.current there.song;
      played = played_again plays m place (at_id m.saved.queue.entries place.song) sound there.played;
      paused = paused_again;
      plays_on = plays_again;
      stopped = stopped_again;
    })
  where
    state : (id : ℕ) → m.player.current ≡ Some id
        → (again_at plays m place (at_id m.saved.queue.entries place.song)).state ≡ resumed_state plays place.state
    state id current = state_again plays m place id holds current there.song

    was : (id : ℕ) → m.player.current ≡ Some id → m.player.state ≡ resumed_state there.plays place.state
    was id current =
        there.state (ap (λ n. n == 0) (there.song ∙ ap (λ (o : Option ℕ). unwrap_or o 0) current)
        ∙ not_zero m id holds (has_id m id holds current))

    paused_again : plays ≡ false → (id : ℕ) → m.player.current ≡ Some id
        → (again_at plays m place (at_id m.saved.queue.entries place.song)).state ≡ resumed_state false m.player.state
    paused_again paused id current =
        state id current ∙ ap (λ b. resumed_state b place.state) paused ∙ paused_so there.plays place.state
        ∙ ap (resumed_state false) (sym (was id current))

    plays_again : plays ≡ true → (id : ℕ) → m.player.current ≡ Some id → m.player.state ≡ Play
        → (again_at plays m place (at_id m.saved.queue.entries place.song)).state ≡ Play
    plays_again on id current playing =
        state id current ∙ ap (λ b. resumed_state b place.state) on
        ∙ plays_so there.plays place.state (sym (was id current) ∙ playing)

    stopped_again : (id : ℕ) → m.player.current ≡ Some id → m.player.state ≡ Stop
        → (again_at plays m place (at_id m.saved.queue.entries place.song)).state ≡ Stop
    stopped_again id current still = state id current ∙ stops_so plays there.plays place.state (sym (was id current) ∙ still)

-- and the position that was kept last
pub finds_position : (plays : Bool) (m : MachineState) (place : PlaceState) (id : ℕ) → IsSoundMachine m → m.saved.place ≡ Some place
    → IsThere m.player place → m.player.current ≡ Some id
    → let h = when_resumed plays (started m.saved) in h.after.player.frame ≡ min place.frame (current_length m).frames
finds_position plays m place id holds is there current =
    subst (λ (p : Option PlaceState). let h = resumes plays (started m.saved) p in
    h.after.player.frame ≡ min place.frame (current_length m).frames) (sym is) (frame_again plays m place id holds current there.song)
