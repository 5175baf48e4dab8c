-- The player stays sound through what follows the end of a song, and through the commands of playback.
use Rattle.std.proofs.Common.{◌≡◌, ℕ, zero, suc, ◌+◌, Bool, true, false, cond, ◌==◌, ◌||◌, List, [], ◌∷◌}
use Rattle.std.proofs.Common.{take, slice_get, Option, Some, None, Result, Ok, Err, refl, sym, ap, subst}
use Rattle.std.specs.List.{AllByRecursion, list_any}
use Rattle.std.specs.Prelude.{IfSome}
use Rattle.play_queue.specs.declared.entry.Entry.{Entry}
use Rattle.play_queue.specs.Entries.{deleted}
use Rattle.play_queue.specs.Queue.{ids_of}
use Rattle.player_core.specs.Choice.{chosen, placed, this_round, nothing}
use Rattle.player_core.specs.Commands.{id_at, named, begun, stepped, played_from, stepped_if_any, to_resume, resumed, halted}
use Rattle.player_core.specs.Commands.{unless_stopped, last_or, in_front, again_from, gone_back, previous_one}
use Rattle.player_core.specs.Ending.{is_on, consumed, after_single, single_by, followed_by, gone_on_or_stopped, over_at, over, ended_in}
use Rattle.player_core.specs.Ending.{held, held_if, waits}
use Rattle.player_core.specs.Order.{current_entry}
use Rattle.player_core.specs.Reports.{broken, counts, failed_of, failure, failures_in, passed, passes}
use Rattle.player_core.specs.declared.failure.BrokenCause.{BrokenCause}
use Rattle.player_core.specs.declared.failure.PlayFailure.TheVariants.{CannotPlay}
use Rattle.player_core.specs.declared.manners.Manners.{Manners}
use Rattle.player_core.specs.declared.manners.Manners.TheVariants.{Named, Mpd}
use Rattle.player_core.specs.Player.{PlayerState, Step, unchanged, started, stopped, without, gone_on}
use Rattle.player_core.specs.Player.{left_by, left_out}
use Rattle.player_core.specs.Seek.{put_to, sought, sought_current, sought_here, frame_at, frame_from}
use Rattle.player_core.specs.Staying.{all_staying}
use Rattle.player_core.specs.declared.choice.Choice.{Choice}
use Rattle.player_core.specs.declared.options.Single.{Single}
use Rattle.player_core.specs.declared.options.Single.TheVariants.{Off, On, Oneshot}
use Rattle.player_core.specs.declared.playing.PlayState.{PlayState}
use Rattle.player_core.specs.declared.playing.PlayState.TheVariants.{Stop, Play, Pause}
use Rattle.player_core.specs.declared.refusal.PlayerError.{PlayerError}
use Rattle.player_core.specs.declared.refusal.PlayerError.TheVariants.{NoSuchSong}
use Rattle.player_core.specs.declared.seek.SeekTime.{SeekTime}
use Rattle.player_core.specs.declared.seek.SongLength.{SongLength}
use Rattle.player_core.specs.declared.selector.Selector.{Selector}
use Rattle.player_core.specs.declared.selector.Selector.TheVariants.{Position, Id}
use Rattle.player_core.specs.declared.settings.PlaySettings.{PlaySettings}
use Rattle.player_core.proofs.Leaving.{staying-all}
use Rattle.machine_core.specs.Sound.{is_in_queue, IsIn, IsSoundPlayer}
use Rattle.machine_core.proofs.Sound.Choices.{chosen_in, first_chosen_in, some_weaker}
use Rattle.machine_core.proofs.Sound.Ids.{all_without, here_in, later_in, own_without}
use Rattle.machine_core.proofs.Sound.Leaving.{stays_deleted}
use Rattle.machine_core.proofs.Sound.Steps.{Within, ArePlayed, IsAt, played_of, sound_from}
use Rattle.machine_core.proofs.Sound.Steps.{sound_within, gone_on_sound, left_played, placed_at}

-- ---- the end of a song

-- the entries that the changes of a step leave
abbrev pub left_of : Option ℕ → List Entry → List Entry
left_of None entries = entries
left_of (Some at) entries = deleted entries at (at + 1)

-- a step leaves a sound player beside whatever has the ids that its changes leave
abbrev pub StepSound : List Entry → Bool → Step → Type 0
StepSound entries random step =
    (after : List Entry) → Within (left_of step.changes.removed entries) after → IsSoundPlayer after random step.player

single_sound : (consume again : Bool) (entries after : List Entry) (random : Bool) (player : PlayerState) (place : ℕ × ℕ)
    → IsAt entries player.current place → Within (all_staying (consumed consume place.0) [] entries) after
    → ArePlayed after random (left_by (consumed consume place.0) [] 0 entries player.played)
    → IsSoundPlayer after random
    (gone_on_or_stopped random (left_out (consumed consume place.0) [] entries player) (after_single consume again place.1))
single_sound true again entries after random player place at within played =
    gone_on_sound after random (left_out (consumed true place.0) [] entries player) nothing tt played
single_sound false true entries after random player place at within played =
    gone_on_sound after random (left_out (consumed false place.0) [] entries player) (this_round (Some place.1))
    (within place.1 (subst (λ (l : List Entry). IsIn l place.1) (sym (staying-all 0 entries)) at.is_in)) played
single_sound false false entries after random player place at within played =
    sound_from after random (stopped (left_out (consumed false place.0) [] entries player))
    (subst (λ (o : Option ℕ). IfSome o (IsIn after)) (sym at.this)
    (within place.1 (subst (λ (l : List Entry). IsIn l place.1) (sym (staying-all 0 entries)) at.is_in))) played

by_sound : (by : Manners) (consume again : Bool) (entries after : List Entry) (random : Bool) (player : PlayerState) (place : ℕ × ℕ)
    (next : Choice) → IsAt entries player.current place → Within (all_staying (consumed consume place.0) [] entries) after
    → ArePlayed after random (left_by (consumed consume place.0) [] 0 entries player.played) → IfSome next.id (IsIn after)
    → IsSoundPlayer after random
    (gone_on_or_stopped random (left_out (consumed consume place.0) [] entries player) (single_by by consume again place.1 next))
by_sound Named consume again entries after random player place next at within played here =
    single_sound consume again entries after random player place at within played
by_sound Mpd true again entries after random player place next at within played here =
    gone_on_sound after random (left_out (consumed true place.0) [] entries player) next here played
by_sound Mpd false true entries after random player place next at within played here =
    single_sound false true entries after random player place at within played
by_sound Mpd false false entries after random player place next at within played here =
    gone_on_sound after random (left_out (consumed false place.0) [] entries player) next here played

next_sound : (single : Single) (entries after : List Entry) (settings : PlaySettings) (player : PlayerState) (place : ℕ × ℕ)
    → IsAt entries player.current place → Within (all_staying (consumed (is_on settings.options.consume) place.0) [] entries) after
    → ArePlayed entries settings.options.random player.played
    → IsSoundPlayer after settings.options.random
    (gone_on_or_stopped settings.options.random (left_out (consumed (is_on settings.options.consume) place.0) [] entries player)
    (followed_by settings single entries player.played place.0 place.1))
next_sound Off entries after settings player place at within played =
    let block = consumed (is_on settings.options.consume) place.0 in
    gone_on_sound after settings.options.random (left_out block [] entries player)
    (chosen settings entries block [] player.played place.0 place.1)
    (some_weaker (IsIn (all_staying block [] entries)) (IsIn after) within
    (chosen settings entries block [] player.played place.0 place.1).id
    (chosen_in settings entries block [] player.played place.0 place.1))
    (left_played block [] entries after settings.options.random player.played within played)
next_sound On entries after settings player place at within played =
    let block = consumed (is_on settings.options.consume) place.0 in
    let next = chosen settings entries block [] player.played place.0 place.1 in
    by_sound settings.manners (is_on settings.options.consume) settings.options.repeat entries after settings.options.random player place
    next at within (left_played block [] entries after settings.options.random player.played within played)
    (some_weaker (IsIn (all_staying block [] entries)) (IsIn after) within next.id
    (chosen_in settings entries block [] player.played place.0 place.1))
next_sound Oneshot entries after settings player place at within played =
    let block = consumed (is_on settings.options.consume) place.0 in
    let next = chosen settings entries block [] player.played place.0 place.1 in
    by_sound settings.manners (is_on settings.options.consume) settings.options.repeat entries after settings.options.random player place
    next at within (left_played block [] entries after settings.options.random player.played within played)
    (some_weaker (IsIn (all_staying block [] entries)) (IsIn after) within next.id
    (chosen_in settings entries block [] player.played place.0 place.1))

consumed_left : (consume : Bool) (at : ℕ) (entries after : List Entry)
    → Within (left_of (cond consume (Some at) None) entries) after → Within (all_staying (consumed consume at) [] entries) after
consumed_left true at entries after within id h = within id (stays_deleted (λ entry. entry.id == id) at (at + 1) entries h)
consumed_left false at entries after within id h = within id (subst (λ (l : List Entry). IsIn l id) (staying-all 0 entries) h)

unchanged_sound : (entries : List Entry) (random : Bool) (player : PlayerState) → IsSoundPlayer entries random player
    → StepSound entries random (unchanged player)
unchanged_sound entries random player sound after within = sound_within entries after random player within sound

held_sound : (b : Bool) (entries : List Entry) (random : Bool) (player : PlayerState) → IsSoundPlayer entries random player
    → IsSoundPlayer entries random (held_if b player)
held_sound false entries random player sound = sound
held_sound true entries random player sound =
    sound_from entries random (record player { state = held player.state }) sound.current (played_of entries random player sound)

over_at_sound : (entries : List Entry) (settings : PlaySettings) (single : Single) (player : PlayerState) (place : Option (ℕ × ℕ))
    → placed entries player.current ≡ place → IsSoundPlayer entries settings.options.random player
    → StepSound entries settings.options.random (over_at entries settings single player place)
over_at_sound entries settings single player None is sound = unchanged_sound entries settings.options.random player sound
over_at_sound entries settings single player (Some place) is sound = λ after within.
    held_sound (waits single settings.manners settings.options.repeat) after settings.options.random _
    (next_sound single entries after settings player place (placed_at entries player.current place is)
    (consumed_left (is_on settings.options.consume) place.0 entries after within)
    (played_of entries settings.options.random player sound))

pub over_sound : (entries : List Entry) (settings : PlaySettings) (single : Single) (player : PlayerState)
    → IsSoundPlayer entries settings.options.random player
    → StepSound entries settings.options.random (over entries settings single player)
over_sound entries settings single player sound = over_at_sound entries settings single player (placed entries player.current) refl sound

pub one_of_sound : (entries : List Entry) (random : Bool) (one other : Step) (which : Bool) → StepSound entries random one
    → StepSound entries random other → StepSound entries random (cond which one other)
one_of_sound entries random one other true first second = first
one_of_sound entries random one other false first second = second

pub ended_sound : (state : PlayState) (entries : List Entry) (settings : PlaySettings) (player : PlayerState) (ticket : ℕ)
    → IsSoundPlayer entries settings.options.random player
    → StepSound entries settings.options.random (ended_in state entries settings player ticket)
ended_sound Stop entries settings player ticket sound = unchanged_sound entries settings.options.random player sound
ended_sound Pause entries settings player ticket sound = unchanged_sound entries settings.options.random player sound
ended_sound Play entries settings player ticket sound =
    one_of_sound entries settings.options.random (over entries settings settings.options.single player) (unchanged player)
    (player.ticket == ticket) (over_sound entries settings settings.options.single player sound)
    (unchanged_sound entries settings.options.random player sound)

-- ---- a song that can't be played on

broken_sound : (ticket : ℕ) (cause : BrokenCause) (uri : List ℕ) (entries : List Entry) (random : Bool) (player : PlayerState)
    → IsSoundPlayer entries random player → IsSoundPlayer entries random (broken player ticket cause uri)
broken_sound ticket cause uri entries random player sound = of (counts player.state player.ticket ticket)
  where
    of : (b : Bool) → IsSoundPlayer entries random (cond b (record player { state = Stop; error = Some (failure cause uri) }) player)
    of true = sound_from entries random (record player { state = Stop; error = Some (failure cause uri) }) sound.current
        (played_of entries random player sound)
    of false = sound

passed_sound : (entries : List Entry) (settings : PlaySettings) (player : PlayerState) (uri : List ℕ)
    → IsSoundPlayer entries settings.options.random player
    → StepSound entries settings.options.random (passed entries settings player uri)
passed_sound entries settings player uri sound = λ after within.
    let step = over entries settings Off player in
    let kept = over_sound entries settings Off player sound after within in
    sound_from after settings.options.random
    (record step.player {
      error = Some (CannotPlay uri);
      failures = failures_in (is_on settings.options.consume) step.changes.order player.failures;
    })
    kept.current (played_of after settings.options.random step.player kept)

failed_of_sound : (entries : List Entry) (settings : PlaySettings) (player : PlayerState) (ticket : ℕ) (cause : BrokenCause)
    (entry : Option Entry) → IsSoundPlayer entries settings.options.random player
    → StepSound entries settings.options.random (failed_of entries settings player ticket cause entry)
failed_of_sound entries settings player ticket cause None sound = unchanged_sound entries settings.options.random player sound
failed_of_sound entries settings player ticket cause (Some entry) sound =
    one_of_sound entries settings.options.random (passed entries settings player entry.uri)
    (unchanged (broken player ticket cause entry.uri)) (passes entries settings player ticket cause)
    (passed_sound entries settings player entry.uri sound)
    (unchanged_sound entries settings.options.random (broken player ticket cause entry.uri)
    (broken_sound ticket cause entry.uri entries settings.options.random player sound))

pub failed_sound : (entries : List Entry) (settings : PlaySettings) (player : PlayerState) (ticket : ℕ) (cause : BrokenCause)
    → IsSoundPlayer entries settings.options.random player
    → StepSound entries settings.options.random (failed_of entries settings player ticket cause (current_entry entries player.current))
failed_sound entries settings player ticket cause sound =
    failed_of_sound entries settings player ticket cause (current_entry entries player.current) sound

-- ---- steps by which no entry leaves the queue

over_takes_none : (entries : List Entry) (settings : PlaySettings) (single : Single) (player : PlayerState) (place : Option (ℕ × ℕ))
    → is_on settings.options.consume ≡ false → (over_at entries settings single player place).changes.removed ≡ None
over_takes_none entries settings single player None off = refl
over_takes_none entries settings single player (Some place) off = ap (λ (b : Bool). cond b (Some place.0) None) off

ended_takes_none : (state : PlayState) (entries : List Entry) (settings : PlaySettings) (player : PlayerState) (ticket : ℕ)
    → is_on settings.options.consume ≡ false → (ended_in state entries settings player ticket).changes.removed ≡ None
ended_takes_none Stop entries settings player ticket off = refl
ended_takes_none Pause entries settings player ticket off = refl
ended_takes_none Play entries settings player ticket off = of (player.ticket == ticket)
  where
    of : (b : Bool)
        → (cond b (over entries settings settings.options.single player) (unchanged player)).changes.removed ≡ None
    of true = over_takes_none entries settings settings.options.single player (placed entries player.current) off
    of false = refl

failed_takes_none : (entries : List Entry) (settings : PlaySettings) (player : PlayerState) (ticket : ℕ) (cause : BrokenCause)
    (entry : Option Entry) → is_on settings.options.consume ≡ false
    → (failed_of entries settings player ticket cause entry).changes.removed ≡ None
failed_takes_none entries settings player ticket cause None off = refl
failed_takes_none entries settings player ticket cause (Some entry) off = of (passes entries settings player ticket cause)
  where
    of : (b : Bool)
        → (cond b (passed entries settings player entry.uri) (unchanged (broken player ticket cause entry.uri))).changes.removed ≡ None
    of true = over_takes_none entries settings Off player (placed entries player.current) off
    of false = refl

-- so the player is sound beside the queue that it had
none_taken : (entries : List Entry) (random : Bool) (step : Step) → StepSound entries random step → step.changes.removed ≡ None
    → IsSoundPlayer entries random step.player
none_taken entries random step sound none =
    sound entries (subst (λ (o : Option ℕ). Within (left_of o entries) entries) (sym none) (λ id h. h))

pub ended_alone : (state : PlayState) (entries : List Entry) (settings : PlaySettings) (player : PlayerState) (ticket : ℕ)
    → is_on settings.options.consume ≡ false → IsSoundPlayer entries settings.options.random player
    → let step = ended_in state entries settings player ticket in IsSoundPlayer entries settings.options.random step.player
ended_alone state entries settings player ticket off sound =
    none_taken entries settings.options.random (ended_in state entries settings player ticket)
    (ended_sound state entries settings player ticket sound) (ended_takes_none state entries settings player ticket off)

pub failed_alone : (entries : List Entry) (settings : PlaySettings) (player : PlayerState) (ticket : ℕ) (cause : BrokenCause)
    → is_on settings.options.consume ≡ false → IsSoundPlayer entries settings.options.random player
    → let step = failed_of entries settings player ticket cause (current_entry entries player.current) in
    IsSoundPlayer entries settings.options.random step.player
failed_alone entries settings player ticket cause off sound =
    none_taken entries settings.options.random (failed_of entries settings player ticket cause (current_entry entries player.current))
    (failed_sound entries settings player ticket cause sound)
    (failed_takes_none entries settings player ticket cause (current_entry entries player.current) off)

-- ---- commands

stepped_sound : (entries : List Entry) (random : Bool) (player : PlayerState) (choice : Choice) → IfSome choice.id (IsIn entries)
    → ArePlayed entries random player.played → StepSound entries random (stepped random player choice)
stepped_sound entries random player choice here played after within =
    sound_within entries after random (gone_on random player choice) within (gone_on_sound entries random player choice here played)

if_any_sound : (entries : List Entry) (random : Bool) (player : PlayerState) (choice : Choice) (id : Option ℕ)
    → IfSome choice.id (IsIn entries) → IsSoundPlayer entries random player
    → StepSound entries random (stepped_if_any random player choice id)
if_any_sound entries random player choice None here sound = unchanged_sound entries random player sound
if_any_sound entries random player choice (Some id) here sound =
    stepped_sound entries random player choice here (played_of entries random player sound)

resumable_in : (entries : List Entry) (settings : PlaySettings) (current : Option ℕ) → IfSome current (IsIn entries)
    → IfSome (to_resume settings entries current).id (IsIn entries)
resumable_in entries settings None here = first_chosen_in settings entries
resumable_in entries settings (Some id) here = here

pub resumed_sound : (state : PlayState) (entries : List Entry) (settings : PlaySettings) (player : PlayerState)
    → IsSoundPlayer entries settings.options.random player
    → StepSound entries settings.options.random (resumed state entries settings player)
resumed_sound Play entries settings player sound = unchanged_sound entries settings.options.random player sound
resumed_sound Pause entries settings player sound =
    unchanged_sound entries settings.options.random (record player { state = Play })
    (sound_from entries settings.options.random (record player { state = Play }) sound.current
    (played_of entries settings.options.random player sound))
resumed_sound Stop entries settings player sound =
    let choice = to_resume settings entries player.current in
    if_any_sound entries settings.options.random player choice choice.id (resumable_in entries settings player.current sound.current) sound

begun_in : (entries : List Entry) (settings : PlaySettings) (current : Option ℕ) (id : ℕ) → IsIn entries id
    → IfSome (begun settings current id).id (IsIn entries)
begun_in entries settings None id here = here
begun_in entries settings (Some current) id here = here

pub played_from_sound : (entries : List Entry) (settings : PlaySettings) (player : PlayerState) (id : ℕ) → IsIn entries id
    → IsSoundPlayer entries settings.options.random player → StepSound entries settings.options.random (played_from settings player id)
played_from_sound entries settings player id here sound =
    stepped_sound entries settings.options.random player (begun settings player.current id)
    (begun_in entries settings player.current id here) (played_of entries settings.options.random player sound)

pub put_sound : (entries : List Entry) (random : Bool) (state : PlayState) (song : SongLength) (frame : ℕ) (player : PlayerState)
    → IsSoundPlayer entries random player → IsSoundPlayer entries random (put_to state song frame player)
put_sound entries random state song frame player sound =
    sound_from entries random (put_to state song frame player) sound.current (played_of entries random player sound)

pub sought_sound : (entries : List Entry) (settings : PlaySettings) (song : SongLength) (milliseconds : ℕ) (player : PlayerState) (id : ℕ)
    → IsIn entries id → IsSoundPlayer entries settings.options.random player
    → StepSound entries settings.options.random (sought settings song milliseconds player id)
sought_sound entries settings song milliseconds player id here sound after within =
    put_sound after settings.options.random player.state song (frame_at song milliseconds)
    (gone_on settings.options.random player (begun settings player.current id))
    (played_from_sound entries settings player id here sound after within)

-- an entry that a command names
at_in : (entries : List Entry) (n : ℕ) → (id : ℕ) → id_at (slice_get entries n) ≡ Ok id → IsIn entries id
at_in [] n id is = absurd (cc)
at_in (entry ∷ entries) zero id is = here_in entry entries id (cc)
at_in (entry ∷ entries) (suc n) id is = later_in entry entries id (at_in entries n id is)

pub named_in : (selector : Selector) (entries : List Entry) (id : ℕ) → named selector entries ≡ Ok id → IsIn entries id
named_in (Position n) entries id is = at_in entries n id is
named_in (Id other) entries id is = of (list_any (λ entry. entry.id == other) entries) refl is
  where
    of : (b : Bool) → list_any (λ entry. entry.id == other) entries ≡ b → cond b (Ok other) (Err NoSuchSong) ≡ Ok id → IsIn entries id
    of true found is = subst (IsIn entries) (let same : other ≡ id = cc in same) found
    of false none is = absurd (cc)

-- `previous`
last_in : (entries : List Entry) (other : ℕ) (ids : List ℕ) → IsIn entries other → AllByRecursion (IsIn entries) ids
    → IsIn entries (last_or other ids)
last_in entries other [] here all = here
last_in entries other (id ∷ ids) here all = last_in entries id ids all.0 all.1

ids_in : (entries others : List Entry) → ((id : ℕ) → IsIn others id → IsIn entries id) → AllByRecursion (IsIn entries) (ids_of others)
ids_in entries [] within = tt
ids_in entries (other ∷ others) within =
    (within other.id (here_in other others other.id refl), ids_in entries others (λ id h. within id (later_in other others id h)))

taken_in : (n : ℕ) (entries : List Entry) (id : ℕ) → IsIn (take n entries) id → IsIn entries id
taken_in zero entries id h = absurd (cc)
taken_in (suc n) [] id h = absurd (cc)
taken_in (suc n) (entry ∷ entries) id h = of (entry.id == id) (taken_in n entries id) h
  where
    of : (same : Bool) → (IsIn (take n entries) id → IsIn entries id) → (same || is_in_queue (take n entries) id) ≡ true
        → (same || is_in_queue entries id) ≡ true
    of true rest h = refl
    of false rest h = rest h

in_front_in : (again : Bool) (entries : List Entry) (at current : ℕ) → IsIn entries current
    → IsIn entries (in_front again entries at current)
in_front_in again entries at current here =
    last_in entries (cond again (last_or current (ids_of entries)) current) (ids_of (take at entries)) (of again)
    (ids_in entries (take at entries) (taken_in at entries))
  where
    of : (b : Bool) → IsIn entries (cond b (last_or current (ids_of entries)) current)
    of true = last_in entries current (ids_of entries) here (ids_in entries entries (λ id h. h))
    of false = here

again_sound : (entries : List Entry) (player : PlayerState) (current : ℕ) (random : Bool) → random ≡ true → IsIn entries current
    → IsSoundPlayer entries random player → IsSoundPlayer entries random (again_from current player (without current player.played))
again_sound entries player current false on here sound = absurd (cc)
again_sound entries player current true on here sound =
    let left = without current player.played in
    let played : ArePlayed entries true left = record {
      all = all_without (IsIn entries) current player.played sound.played;
      once = own_without current player.played sound.once;
      ordered = λ off. absurd (cc);
    } in
    gone_on_sound entries true (record player { played = left }) (this_round (Some (last_or current left)))
    (last_in entries current left here played.all) played

back_sound : (entries : List Entry) (settings : PlaySettings) (player : PlayerState) (place : Option (ℕ × ℕ))
    → placed entries player.current ≡ place → IsSoundPlayer entries settings.options.random player
    → IsSoundPlayer entries settings.options.random (gone_back entries settings player place)
back_sound entries settings player None is sound = sound
back_sound entries settings player (Some place) is sound = of settings.options.random refl
  where
    at : IsAt entries player.current place
    at = placed_at entries player.current place is

    of : (b : Bool) → settings.options.random ≡ b
        → IsSoundPlayer entries settings.options.random (cond b (again_from place.1 player (without place.1 player.played))
        (started false player (in_front settings.options.repeat entries place.0 place.1)))
    of true on = again_sound entries player place.1 settings.options.random on at.is_in sound
    of false off = sound_from entries settings.options.random _
        (in_front_in settings.options.repeat entries place.0 place.1 at.is_in)
        (played_of entries settings.options.random player sound)

-- a player that may be refused
abbrev pub PlayerSound : List Entry → Bool → Result PlayerState PlayerError → Type 0
PlayerSound entries random (Ok player) = IsSoundPlayer entries random player
PlayerSound entries random (Err refusal) = Unit {0}

unless_stopped_sound : (state : PlayState) (entries : List Entry) (random : Bool) (player : PlayerState)
    → IsSoundPlayer entries random player → PlayerSound entries random (unless_stopped state player)
unless_stopped_sound Stop entries random player sound = tt
unless_stopped_sound Play entries random player sound = sound
unless_stopped_sound Pause entries random player sound = sound

pub previous_sound : (entries : List Entry) (settings : PlaySettings) (player : PlayerState)
    → IsSoundPlayer entries settings.options.random player
    → PlayerSound entries settings.options.random (previous_one entries settings player)
previous_sound entries settings player sound =
    unless_stopped_sound player.state entries settings.options.random (gone_back entries settings player (placed entries player.current))
    (back_sound entries settings player (placed entries player.current) refl sound)

-- `seekcur`
sought_current_sound : (entries : List Entry) (settings : PlaySettings) (song : SongLength) (time : SeekTime) (player : PlayerState)
    (current : Option ℕ) → IfSome current (IsIn entries) → IsSoundPlayer entries settings.options.random player
    → IsSoundPlayer entries settings.options.random (sought_current settings song time player current)
sought_current_sound entries settings song time player None here sound = sound
sought_current_sound entries settings song time player (Some id) here sound =
    put_sound entries settings.options.random player.state song (frame_from song player.frame time)
    (gone_on settings.options.random player (this_round (Some id)))
    (gone_on_sound entries settings.options.random player (this_round (Some id)) here
    (played_of entries settings.options.random player sound))

pub sought_here_sound : (entries : List Entry) (settings : PlaySettings) (song : SongLength) (time : SeekTime) (player : PlayerState)
    → IsSoundPlayer entries settings.options.random player
    → PlayerSound entries settings.options.random (sought_here settings song time player)
sought_here_sound entries settings song time player sound =
    unless_stopped_sound player.state entries settings.options.random (sought_current settings song time player player.current)
    (sought_current_sound entries settings song time player player.current sound.current sound)

pub halted_sound : (state : PlayState) (entries : List Entry) (random : Bool) (player : PlayerState)
    → IsSoundPlayer entries random player → IsSoundPlayer entries random (halted state player)
halted_sound Stop entries random player sound = sound
halted_sound Play entries random player sound =
    sound_from entries random (halted Play player) sound.current (played_of entries random player sound)
halted_sound Pause entries random player sound =
    sound_from entries random (halted Pause player) sound.current (played_of entries random player sound)
