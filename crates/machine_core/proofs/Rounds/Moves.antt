-- Each step of the player is a step of its round; and where what plays is as before, so is the round, but for what has left the queue.
use Rattle.std.proofs.Common.{◌≡◌, ℕ, ◌+◌, Bool, true, false, cond, ◌==◌, ◌&&◌, List, [], ◌∷◌, ◌++◌}
use Rattle.std.proofs.Common.{Option, Some, None, Result, Ok, Err, refl, sym, ap, ◌∙◌, subst, arith, inl}
use Rattle.std.specs.Prelude.{nat_eq, position}
use Rattle.std.specs.Option.{option_eq, option_map}
use Rattle.std.proofs.lemmas.Bool.{false≢true}
use Rattle.std.proofs.lemmas.Bool.Decides.{nat_tests}
use Rattle.play_queue.specs.declared.entry.Entry.{Entry}
use Rattle.play_queue.specs.Entries.{Uris}
use Rattle.player_core.specs.Choice.{chosen, placed, this_round}
use Rattle.player_core.specs.Commands.{again_from, begun, gone_back, halted, in_front, last_or, played_from, resumed, stepped}
use Rattle.player_core.specs.Commands.{stepped_if_any, to_resume, unless_stopped}
use Rattle.player_core.specs.Ending.{consumed, ended_in, followed_by, gone_on_or_stopped, held, held_if, is_on, over, over_at, repeats_one, waits}
use Rattle.player_core.specs.Player.{PlayerState, Step, gone_on, gone_to, in_round, left_by, left_out, next_ticket, noted, started}
use Rattle.player_core.specs.Player.{stopped, stopped_without_song, unchanged, without}
use Rattle.player_core.specs.Reports.{broken, counts, failed_of, failure, followed, followed_at, gone, gone_in_pause, gone_on_without}
use Rattle.player_core.specs.Reports.{passed, passes, passes_by, takes_at}
use Rattle.player_core.specs.Seek.{frame_at, frame_from, put_to, sought, sought_current}
use Rattle.player_core.specs.declared.block.Block.{Block}
use Rattle.player_core.specs.declared.choice.Choice.{Choice}
use Rattle.player_core.specs.declared.failure.BrokenCause.{BrokenCause}
use Rattle.player_core.specs.declared.failure.BrokenCause.TheVariants.{Source, Output}
use Rattle.player_core.specs.declared.manners.Manners.{Manners}
use Rattle.player_core.specs.declared.manners.Manners.TheVariants.{Named, Mpd}
use Rattle.player_core.specs.declared.options.Single.{Single}
use Rattle.player_core.specs.declared.options.Single.TheVariants.{Off}
use Rattle.player_core.specs.declared.playing.PlayState.{PlayState}
use Rattle.player_core.specs.declared.playing.PlayState.TheVariants.{Stop, Play, Pause}
use Rattle.player_core.specs.declared.refusal.PlayerError.{PlayerError}
use Rattle.player_core.specs.declared.seek.SeekTime.{SeekTime}
use Rattle.player_core.specs.declared.seek.SongLength.{SongLength}
use Rattle.player_core.specs.declared.settings.PlaySettings.{PlaySettings}
use Rattle.player_core.proofs.LeftBlock.{left_by-back}
use Rattle.machine_core.specs.Changed.{same_playing, same_state}
use Rattle.machine_core.specs.Sound.{AreOwn}
use Rattle.machine_core.proofs.Rounds.Following.{RoundStep, without_last}
use Rattle.machine_core.proofs.Sound.Ids.{own_without}

-- ---- what plays is another

abbrev pub is_stop : PlayState → Bool
is_stop Stop = true
is_stop Play = false
is_stop Pause = false

-- it stops, a song is started or sought, or none is current any more
pub data Differs (p q : PlayerState) : Type 0 where
  Halts : is_stop p.state ≡ false → q.state ≡ Stop → Differs p q
  Starts : q.ticket ≡ next_ticket p.ticket → Differs p q
  Clears : (id : ℕ) → p.current ≡ Some id → q.current ≡ None → Differs p q

ticket_differs : (t : ℕ) → (t == next_ticket t) ≡ false
ticket_differs t = of (t == 18446744073709551615) refl
  where
    of : (b : Bool) → (t == 18446744073709551615) ≡ b → (t == cond b 1 (t + 1)) ≡ false
    of true last = grind (arith, nat_tests)
    of false other = grind (arith, nat_tests)

and_false : (a : Bool) → (a && false) ≡ false
and_false true = refl
and_false false = refl

halted_differs : (s : PlayState) → is_stop s ≡ false → same_state s Stop ≡ false
halted_differs Stop plays = absurd (cc)
halted_differs Play plays = refl
halted_differs Pause plays = refl

pub differs : (p q : PlayerState) → Differs p q → same_playing p q ≡ false
differs p q (Differs.Halts plays stops) =
    ap (λ (s : PlayState). same_state p.state s && (option_eq nat_eq p.current q.current && p.ticket == q.ticket)) stops
    ∙ ap (λ b. b && (option_eq nat_eq p.current q.current && p.ticket == q.ticket)) (halted_differs p.state plays)
differs p q (Differs.Starts next) =
    ap (λ (t : ℕ). same_state p.state q.state && (option_eq nat_eq p.current q.current && p.ticket == t)) next
    ∙ ap (λ b. same_state p.state q.state && (option_eq nat_eq p.current q.current && b)) (ticket_differs p.ticket)
    ∙ ap (λ b. same_state p.state q.state && b) (and_false (option_eq nat_eq p.current q.current))
    ∙ and_false (same_state p.state q.state)
differs p q (Differs.Clears id was none) =
    (λ i. same_state p.state q.state && (option_eq nat_eq (was i) (none i) && p.ticket == q.ticket))
    ∙ and_false (same_state p.state q.state)

-- ---- a step

-- what is left of a round where an entry leaves the queue
abbrev pub kept_by : Option ℕ → List Entry → List ℕ → List ℕ
kept_by None entries played = played
kept_by (Some at) entries played = left_by (record { start = at; end = at + 1 }) [] 0 entries played

-- the player goes on from one to the other, and an entry may leave the queue
pub record Moves (entries : List Entry) (removed : Option ℕ) (p q : PlayerState) : Type 0 where
  pub round : RoundStep p.current (kept_by removed entries p.played) q.played
  pub same : same_playing p q ≡ true → (removed ≡ None) × (q.played ≡ p.played)

abbrev pub StepMoves : List Entry → PlayerState → Step → Type 0
StepMoves entries player step = Moves entries step.changes.removed player step.player

-- a step that may be refused
abbrev pub MadeMoves : List Entry → PlayerState → Result Step PlayerError → Type 0
MadeMoves entries player (Ok step) = StepMoves entries player step
MadeMoves entries player (Err refusal) = Unit {0}

stays : (entries : List Entry) (p q : PlayerState) → q.played ≡ p.played → Moves entries None p q
stays entries p q same = record { round = RoundStep.Stays same; same = λ e. (refl, same) }

moves : (entries : List Entry) (removed : Option ℕ) (p q : PlayerState) → RoundStep p.current (kept_by removed entries p.played) q.played
    → Differs p q → Moves entries removed p q
moves entries removed p q step other =
    record { round = step; same = λ e. absurd (false≢true (sym (differs p q other) ∙ e)) }

-- ---- a song is started, or the player stops

noted_step : (before : Option ℕ) (random : Bool) (id : ℕ) (kept : List ℕ) → RoundStep before kept (noted random id kept)
noted_step before true id kept = RoundStep.Notes id refl
noted_step before false id kept = RoundStep.Stays refl

to_step : (before : Option ℕ) (random : Bool) (player : PlayerState) (id : Option ℕ)
    → RoundStep before player.played (gone_to random player id).played
to_step before random player None = RoundStep.Stays refl
to_step before random player (Some id) = noted_step before random id player.played

on_step : (before : Option ℕ) (random : Bool) (player : PlayerState) (choice : Choice)
    → RoundStep before player.played (gone_on random player choice).played
on_step before random player choice = of choice.order
  where
    first : (random : Bool) (id : ℕ) → RoundStep before player.played (noted random id [])
    first true id = RoundStep.Opens id refl
    first false id = RoundStep.Empties refl

    opens : (id : Option ℕ) → RoundStep before player.played (gone_to random (record player { played = [] }) id).played
    opens None = RoundStep.Empties refl
    opens (Some id) = first random id

    of : (order : Option ℕ) → RoundStep before player.played (gone_to random (in_round order player) choice.id).played
    of None = to_step before random player choice.id
    of (Some order) = opens choice.id

round_ticket : (order : Option ℕ) (player : PlayerState) → (in_round order player).ticket ≡ player.ticket
round_ticket None player = refl
round_ticket (Some order) player = refl

-- from a player that had begun as this one, with the same ticket
on_starts : (random : Bool) (p player : PlayerState) (choice : Choice) (id : ℕ) → player.ticket ≡ p.ticket → choice.id ≡ Some id
    → Differs p (gone_on random player choice)
on_starts random p player choice id same is =
    Differs.Starts (ap (λ (o : Option ℕ). (gone_to random (in_round choice.order player) o).ticket) is
    ∙ ap next_ticket (round_ticket choice.order player ∙ same))

on_differs : (random : Bool) (p player : PlayerState) (choice : Choice) → player.ticket ≡ p.ticket → is_stop p.state ≡ false
    → Differs p (gone_on random player choice)
on_differs random p player choice same plays = of choice.id
  where
    of : (id : Option ℕ) → Differs p (gone_to random (in_round choice.order player) id)
    of None = Differs.Halts plays refl
    of (Some id) = Differs.Starts (ap next_ticket (round_ticket choice.order player ∙ same))

-- ---- the end of a song

held_differs : (b : Bool) (p q : PlayerState) → Differs p q → Differs p (held_if b q)
held_differs false p q other = other
held_differs true p q (Differs.Halts plays stops) = Differs.Halts plays (ap held stops)
held_differs true p q (Differs.Starts next) = Differs.Starts next
held_differs true p q (Differs.Clears id was none) = Differs.Clears id was none

held_played : (b : Bool) (q : PlayerState) → (held_if b q).played ≡ q.played
held_played false q = refl
held_played true q = refl

nothing_left : (entries : List Entry) (played : List ℕ) → left_by (record { start = 0; end = 0 }) [] 0 entries played ≡ played
nothing_left entries played = left_by-back (record { start = 0; end = 0 }) 0 entries played (inl (omega arith))

consumed_left : (consume : Bool) (at : ℕ) (entries : List Entry) (played : List ℕ)
    → left_by (consumed consume at) [] 0 entries played ≡ kept_by (cond consume (Some at) None) entries played
consumed_left true at entries played = refl
consumed_left false at entries played = nothing_left entries played

-- what follows is started, or the player stops
next_moves : (random : Bool) (p player : PlayerState) (next : Option Choice) → player.ticket ≡ p.ticket → is_stop p.state ≡ false
    → RoundStep p.current player.played (gone_on_or_stopped random player next).played × Differs p (gone_on_or_stopped random player next)
next_moves random p player None same plays = (RoundStep.Stays refl, Differs.Halts plays refl)
next_moves random p player (Some choice) same plays =
    (on_step p.current random player choice, on_differs random p player choice same plays)

pub over_moves : (entries : List Entry) (settings : PlaySettings) (single : Single) (player : PlayerState) → is_stop player.state ≡ false
    → StepMoves entries player (over entries settings single player)
over_moves entries settings single player plays = of (placed entries player.current)
  where
    of : (place : Option (ℕ × ℕ)) → StepMoves entries player (over_at entries settings single player place)
    of None = stays entries player player refl
    of (Some place) =
        let consume = is_on settings.options.consume in
        let next = followed_by settings single entries player.played place.0 place.1 in
        let left = left_out (consumed consume place.0) [] entries player in
        let wait = waits single settings.manners settings.options.repeat in
        let both = next_moves settings.options.random player left next refl plays in
        let after = gone_on_or_stopped settings.options.random left next in
        moves entries (cond consume (Some place.0) None) player (held_if wait after)
        (subst (λ (kept : List ℕ). RoundStep player.current kept (held_if wait after).played)
        (consumed_left consume place.0 entries player.played)
        (subst (RoundStep player.current left.played) (sym (held_played wait after)) both.0))
        (held_differs wait player after both.1)

one_of_moves : (entries : List Entry) (player : PlayerState) (one other : Step) (which : Bool) → StepMoves entries player one
    → StepMoves entries player other → StepMoves entries player (cond which one other)
one_of_moves entries player one other true first second = first
one_of_moves entries player one other false first second = second

pub ended_moves : (state : PlayState) (entries : List Entry) (settings : PlaySettings) (player : PlayerState) (ticket : ℕ)
    → player.state ≡ state → StepMoves entries player (ended_in state entries settings player ticket)
ended_moves Stop entries settings player ticket is = stays entries player player refl
ended_moves Pause entries settings player ticket is = stays entries player player refl
ended_moves Play entries settings player ticket is =
    one_of_moves entries player (over entries settings settings.options.single player) (unchanged player) (player.ticket == ticket)
    (over_moves entries settings settings.options.single player (ap is_stop is)) (stays entries player player refl)

-- ---- a song that can't be played on

broken_played : (player : PlayerState) (ticket : ℕ) (cause : BrokenCause) (uri : List ℕ)
    → (broken player ticket cause uri).played ≡ player.played
broken_played player ticket cause uri = of (counts player.state player.ticket ticket)
  where
    of : (b : Bool) → (let q : PlayerState = cond b (record player { state = Stop; error = Some (failure cause uri) }) player in q.played)
        ≡ player.played
    of true = refl
    of false = refl

passing_plays : (manners : Manners) (cause : BrokenCause) (state : PlayState) (rest : Bool) → (passes_by manners cause state && rest) ≡ true
    → is_stop state ≡ false
passing_plays Named cause state rest is = absurd (cc)
passing_plays Mpd Output state rest is = absurd (cc)
passing_plays Mpd Source Stop rest is = absurd (cc)
passing_plays Mpd Source Play rest is = refl
passing_plays Mpd Source Pause rest is = absurd (cc)

pub failed_moves : (entries : List Entry) (settings : PlaySettings) (player : PlayerState) (ticket : ℕ) (cause : BrokenCause)
    (entry : Option Entry) → StepMoves entries player (failed_of entries settings player ticket cause entry)
failed_moves entries settings player ticket cause None = stays entries player player refl
failed_moves entries settings player ticket cause (Some entry) = of (passes entries settings player ticket cause) refl
  where
    of : (b : Bool) → passes entries settings player ticket cause ≡ b
        → StepMoves entries player (cond b (passed entries settings player entry.uri) (unchanged (broken player ticket cause entry.uri)))
    of true is =
        let over_so = over_moves entries settings Off player (passing_plays settings.manners cause player.state _ is) in
        record { round = over_so.round; same = over_so.same }
    of false is = stays entries player (broken player ticket cause entry.uri) (broken_played player ticket cause entry.uri)

-- ---- commands

-- the place that was found is that of the current song
current_is : (entries : List Entry) (current : Option ℕ) (place : ℕ × ℕ) → placed entries current ≡ Some place → current ≡ Some place.1
current_is entries None place is = absurd (cc)
current_is entries (Some id) place is = of (position (λ entry. entry.id == id) entries) is
  where
    of : (at : Option ℕ) → option_map (λ at. (at, id)) at ≡ Some place → Some id ≡ Some place.1
    of None is = absurd (cc)
    of (Some at) is = let same : (at, id) ≡ place = cc in ap (λ (p : ℕ × ℕ). Some p.1) same

any_moves : (entries : List Entry) (random : Bool) (player : PlayerState) (choice : Choice) (id : Option ℕ) → choice.id ≡ id
    → StepMoves entries player (stepped_if_any random player choice id)
any_moves entries random player choice None is = stays entries player player refl
any_moves entries random player choice (Some id) is =
    moves entries None player (gone_on random player choice) (on_step player.current random player choice)
    (on_starts random player player choice id refl is)

pub resumed_moves : (state : PlayState) (entries : List Entry) (settings : PlaySettings) (player : PlayerState)
    → StepMoves entries player (resumed state entries settings player)
resumed_moves Play entries settings player = stays entries player player refl
resumed_moves Pause entries settings player = stays entries player (record player { state = Play }) refl
resumed_moves Stop entries settings player =
    let choice = to_resume settings entries player.current in
    any_moves entries settings.options.random player choice choice.id refl

begun_id : (settings : PlaySettings) (current : Option ℕ) (id : ℕ) → (begun settings current id).id ≡ Some id
begun_id settings None id = refl
begun_id settings (Some current) id = refl

-- an entry is started, and it may be put to a frame
started_moves : (entries : List Entry) (random : Bool) (player : PlayerState) (choice : Choice) (id : ℕ) → choice.id ≡ Some id
    → Moves entries None player (gone_on random player choice)
started_moves entries random player choice id is =
    moves entries None player (gone_on random player choice) (on_step player.current random player choice)
    (on_starts random player player choice id refl is)

put_moves : (entries : List Entry) (random : Bool) (player : PlayerState) (choice : Choice) (id : ℕ) (state : PlayState) (song : SongLength)
    (frame : ℕ) → choice.id ≡ Some id → Moves entries None player (put_to state song frame (gone_on random player choice))
put_moves entries random player choice id state song frame is =
    moves entries None player (put_to state song frame (gone_on random player choice)) (on_step player.current random player choice)
    (Differs.Starts (ap (λ (o : Option ℕ). (gone_to random (in_round choice.order player) o).ticket) is
    ∙ ap next_ticket (round_ticket choice.order player)))

pub played_from_moves : (entries : List Entry) (settings : PlaySettings) (player : PlayerState) (id : ℕ)
    → StepMoves entries player (played_from settings player id)
played_from_moves entries settings player id =
    started_moves entries settings.options.random player (begun settings player.current id) id (begun_id settings player.current id)

pub sought_moves : (entries : List Entry) (settings : PlaySettings) (song : SongLength) (milliseconds : ℕ) (player : PlayerState) (id : ℕ)
    → StepMoves entries player (sought settings song milliseconds player id)
sought_moves entries settings song milliseconds player id =
    put_moves entries settings.options.random player (begun settings player.current id) id player.state song
    (frame_at song milliseconds) (begun_id settings player.current id)

pub next_one_moves : (entries : List Entry) (state : PlayState) (player : PlayerState) (step : Step)
    → (is_stop state ≡ false → StepMoves entries player step) → MadeMoves entries player (unless_stopped state step)
next_one_moves entries Stop player step so = tt
next_one_moves entries Play player step so = so refl
next_one_moves entries Pause player step so = so refl

-- `previous`: the song that was current leaves the round, and the last of the others plays again
pub back_moves : (entries : List Entry) (settings : PlaySettings) (player : PlayerState) (place : Option (ℕ × ℕ))
    → placed entries player.current ≡ place → AreOwn player.played
    → Moves entries None player (gone_back entries settings player place)
back_moves entries settings player None is own = stays entries player player refl
back_moves entries settings player (Some place) is own = by_random settings.options.random
  where
    left : List ℕ
    left = without place.1 player.played

    again : (ids : List ℕ) → ids ≡ left
        → RoundStep player.current player.played (without (last_or place.1 ids) ids ++ last_or place.1 ids ∷ [])
    again [] none = RoundStep.Opens place.1 refl
    again (id ∷ ids) some =
        RoundStep.Goes place.1 (current_is entries player.current place is)
        (without_last id ids (subst AreOwn (sym some) (own_without place.1 player.played own)) ∙ some)

    by_random : (b : Bool)
        → Moves entries None player (cond b (again_from place.1 player left)
        (started false player (in_front settings.options.repeat entries place.0 place.1)))
    by_random true = moves entries None player (again_from place.1 player left) (again left refl) (Differs.Starts refl)
    by_random false =
        moves entries None player (started false player (in_front settings.options.repeat entries place.0 place.1))
        (RoundStep.Stays refl) (Differs.Starts refl)

pub seek_moves : (entries : List Entry) (settings : PlaySettings) (song : SongLength) (time : SeekTime) (player : PlayerState)
    (current : Option ℕ) → Moves entries None player (sought_current settings song time player current)
seek_moves entries settings song time player None = stays entries player player refl
seek_moves entries settings song time player (Some id) =
    put_moves entries settings.options.random player (this_round (Some id)) id player.state song (frame_from song player.frame time) refl

halted_played : (state : PlayState) (player : PlayerState) → (halted state player).played ≡ player.played
halted_played Stop player = refl
halted_played Play player = refl
halted_played Pause player = refl

pub halted_moves : (entries : List Entry) (player : PlayerState) → Moves entries None player (halted player.state player)
halted_moves entries player = stays entries player (halted player.state player) (halted_played player.state player)

-- where another part of the player changes
pub stays_moves : (entries : List Entry) (p q : PlayerState) → q.played ≡ p.played → Moves entries None p q
stays_moves entries p q same = stays entries p q same

-- a player that may be refused
abbrev pub PlayerMoves : List Entry → PlayerState → Result PlayerState PlayerError → Type 0
PlayerMoves entries player (Ok q) = Moves entries None player q
PlayerMoves entries player (Err refusal) = Unit {0}

pub unless_moves : (entries : List Entry) (state : PlayState) (player q : PlayerState) → Moves entries None player q
    → PlayerMoves entries player (unless_stopped state q)
unless_moves entries Stop player q so = tt
unless_moves entries Play player q so = so
unless_moves entries Pause player q so = so

-- ---- entries leave

pub record Leaves (entries : List Entry) (block : Block) (dropped : Uris) (p q : PlayerState) : Type 0 where
  pub round : RoundStep p.current (left_by block dropped 0 entries p.played) q.played
  pub same : same_playing p q ≡ true → q.played ≡ left_by block dropped 0 entries p.played
  pub taken : (place : ℕ × ℕ) → placed entries p.current ≡ Some place → takes_at block dropped entries place.0 ≡ true
      → same_playing p q ≡ false

abbrev LeavesSo : List Entry → Block → Uris → PlayerState → Step → Type 0
LeavesSo entries block dropped player step = Leaves entries block dropped player step.player

leaves : (entries : List Entry) (block : Block) (dropped : Uris) (p q : PlayerState)
    → RoundStep p.current (left_by block dropped 0 entries p.played) q.played → Differs p q → Leaves entries block dropped p q
leaves entries block dropped p q step other = record {
  round = step;
  same = λ e. absurd (false≢true (sym (differs p q other) ∙ e));
  taken = λ place is takes. differs p q other;
}

remains : (entries : List Entry) (block : Block) (dropped : Uris) (p q : PlayerState) → q.played ≡ left_by block dropped 0 entries p.played
    → ((place : ℕ × ℕ) → placed entries p.current ≡ Some place → takes_at block dropped entries place.0 ≡ true → ⊥)
    → Leaves entries block dropped p q
remains entries block dropped p q same none = record {
  round = RoundStep.Stays same;
  same = λ e. same;
  taken = λ place is takes. absurd (none place is takes);
}

without_leaves : (entries : List Entry) (settings : PlaySettings) (block : Block) (dropped : Uris) (player : PlayerState) (place : ℕ × ℕ)
    → is_stop player.state ≡ false
    → LeavesSo entries block dropped player (gone_on_without entries settings block dropped player place)
without_leaves entries settings block dropped player place plays = of (repeats_one settings.manners settings.options)
  where
    left : PlayerState
    left = left_out block dropped entries player

    choice : Choice
    choice = chosen settings entries block dropped player.played place.0 place.1

    of : (b : Bool) → LeavesSo entries block dropped player
        (cond b (unchanged (stopped_without_song left)) (stepped settings.options.random left choice))
    of true = leaves entries block dropped player (stopped_without_song left) (RoundStep.Stays refl) (Differs.Halts plays refl)
    of false =
        leaves entries block dropped player (gone_on settings.options.random left choice)
        (on_step player.current settings.options.random left choice) (on_differs settings.options.random player left choice refl plays)

pause_leaves : (by : Manners) (entries : List Entry) (settings : PlaySettings) (block : Block) (dropped : Uris) (player : PlayerState)
    (place : ℕ × ℕ) → is_stop player.state ≡ false
    → LeavesSo entries block dropped player (gone_in_pause by entries settings block dropped player place)
pause_leaves Named entries settings block dropped player place plays =
    leaves entries block dropped player (stopped_without_song (left_out block dropped entries player)) (RoundStep.Stays refl)
    (Differs.Halts plays refl)
pause_leaves Mpd entries settings block dropped player place plays =
    let step = gone_on_without entries settings block dropped player place in
    leaves entries block dropped player (stopped step.player)
    (without_leaves entries settings block dropped player place plays).round (Differs.Halts plays refl)

gone_leaves : (state : PlayState) (entries : List Entry) (settings : PlaySettings) (block : Block) (dropped : Uris) (player : PlayerState)
    (place : ℕ × ℕ) → player.state ≡ state → player.current ≡ Some place.1
    → LeavesSo entries block dropped player (gone state entries settings block dropped player place)
gone_leaves Play entries settings block dropped player place is current =
    without_leaves entries settings block dropped player place (ap is_stop is)
gone_leaves Pause entries settings block dropped player place is current =
    pause_leaves settings.manners entries settings block dropped player place (ap is_stop is)
gone_leaves Stop entries settings block dropped player place is current =
    leaves entries block dropped player (stopped_without_song (left_out block dropped entries player)) (RoundStep.Stays refl)
    (Differs.Clears place.1 current refl)

pub followed_leaves : (entries : List Entry) (settings : PlaySettings) (block : Block) (dropped : Uris) (player : PlayerState)
    → LeavesSo entries block dropped player (followed entries settings block dropped player)
followed_leaves entries settings block dropped player = of (placed entries player.current) refl
  where
    of : (place : Option (ℕ × ℕ)) → placed entries player.current ≡ place
        → LeavesSo entries block dropped player (followed_at entries settings block dropped player place)
    of None is = remains entries block dropped player (left_out block dropped entries player) refl (λ place other takes. cc (is, other))
    of (Some place) is = taken (takes_at block dropped entries place.0) refl
      where
        taken : (b : Bool) → takes_at block dropped entries place.0 ≡ b
            → LeavesSo entries block dropped player
            (cond b (gone player.state entries settings block dropped player place) (unchanged (left_out block dropped entries player)))
        taken true takes =
            gone_leaves player.state entries settings block dropped player place refl (current_is entries player.current place is)
        taken false stays =
            remains entries block dropped player (left_out block dropped entries player) refl
            (λ other same takes. let one : place ≡ other = cc (is, same) in
            false≢true (sym stays ∙ ap (λ (p : ℕ × ℕ). takes_at block dropped entries p.0) one ∙ takes))
