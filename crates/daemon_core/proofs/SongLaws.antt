-- After any history a song is current in play and in pause.
use Rattle.std.proofs.Common.{◌≡◌, ◌==◌, ◌||◌, ℕ, Bool, true, false, List, [], ◌∷◌, Option, Some, None, cond, Ok, Err, refl, subst}
use Rattle.command_text.specs.declared.tag_mask.TagMask.{TagMask}
use Rattle.command_text.specs.declared.command.Command.{Command}
use Rattle.machine_core.specs.Command.{meaning}
use Rattle.machine_core.specs.Followed.{current_row}
use Rattle.machine_core.specs.Happening.{Happening, if_room, nothing_happens}
use Rattle.machine_core.specs.Keeping.{keeps_place, kept, resumes}
use Rattle.machine_core.specs.Meaning.{Meaning, Meant}
use Rattle.machine_core.specs.Missing.{is_withheld, misses, goes_ahead, is_of_withheld, withholds}
use Rattle.machine_core.specs.Reports.{fed_in}
use Rattle.machine_core.specs.Scanning.{is_running, kept_changes, telling, finds, ends_scan, spared}
use Rattle.machine_core.specs.Room.{caught, is_idle, room_back, when_room}
use Rattle.machine_core.specs.State.{MachineState, lacks_room, settings_of, told_room}
use Rattle.machine_core.specs.Steps.{current_length, named_length, puts, unsaved, without_consume}
use Rattle.player_core.specs.Place.{PlaceState, at_id, resumed_at, resumed_round, resumed_state}
use Rattle.player_core.specs.Ending.{ended}
use Rattle.player_core.specs.Order.{current_entry}
use Rattle.player_core.specs.Player.{PlayerState, Step}
use Rattle.player_core.specs.Reports.{counts, failed}
use Rattle.player_core.specs.declared.selector.Selector.TheVariants.{Id}
use Rattle.song_db.specs.Row.{Row}
use Rattle.song_db.specs.declared.change.RowChange.{RowChange}
use Rattle.state_codec.specs.SavedState.{SavedState}
use Rattle.state_codec.specs.declared.op.Op.TheVariants.{Batch}
use Rattle.machine_core.proofs.CommandForms.{OfForms, Turn, command_so, turned}
use Rattle.machine_core.proofs.FullLaws.{kept_under}
use Rattle.daemon_core.specs.Replay.{Entry, replay}
use Rattle.daemon_core.specs.Running.{has_song}
use Rattle.daemon_core.specs.Stray.{is_stop}
use Rattle.daemon_core.proofs.Lasting.{IsKept, lasts}
use Rattle.daemon_core.proofs.SongForms.{Keeps, KeepsSong, one_of_two, op_song, moves_song, puts_song, previous_song, sought_here_song}
use Rattle.daemon_core.proofs.SongForms.{ended_song, failed_song, paused_song, halted_song}

-- the commands, by the forms of their meanings
turn_song : (turn : Turn) (m : MachineState) → KeepsSong m (puts (turned turn m) m)
turn_song Turn.ClearError m = λ h. h
turn_song (Turn.Pause switch) m = paused_song switch m.player m.player.state refl
turn_song Turn.Previous m =
    puts_song (turned Turn.Previous m) m (previous_song m.saved.queue.entries (settings_of m.saved) m.player)
turn_song (Turn.SeekCurrent time) m =
    puts_song (turned (Turn.SeekCurrent time) m) m (sought_here_song (settings_of m.saved) (current_length m) time m.player)
turn_song Turn.Stop m = halted_song m.player.state m.player

forms_song : OfForms (λ m x. Keeps m.player x.after.player)
forms_song = record {
  says = λ text m h. h;
  edits = λ op text m fits free other. op_song op m;
  replaces = λ name m free other h. h;
  shuffles = λ id span m free h. h;
  stops = λ span m free h. refl;
  together = λ ops m free other h. h;
  begins = λ job text m own h. h;
  waits = λ job text m h. h;
  moves = λ step m knows. moves_song step m;
  turns = turn_song;
}

command_kept : (mask : TagMask) (command : Command) (m : MachineState) (x : Meaning) → has_song m.player ≡ true
    → kept m (meaning mask command m) ≡ Ok x → has_song x.after.player ≡ true
command_kept mask command m x h means =
    subst (KeepsSong m) means (of (meaning mask command m) (command_so (λ n y. Keeps n.player y.after.player) forms_song mask command m)) h
  where
    of : (meant : Meant) → KeepsSong m meant → KeepsSong m (kept m meant)
    of (Ok y) keeps = keeps
    of (Err refusal) keeps = tt

-- the events
fed_song : (row : Option Row) (ticket frames : ℕ) (player : PlayerState) → Keeps player (fed_in row ticket frames player)
fed_song None ticket frames player = λ h. h
fed_song (Some row) ticket frames player =
    one_of_two player _ player (counts player.state player.ticket ticket) (λ h. h) (λ h. h)

abbrev HappeningKeeps : MachineState → Happening → Type 0
HappeningKeeps m happening = Keeps m.player happening.after.player

found_song : (changes : List RowChange) (m : MachineState) → HappeningKeeps m (finds changes m)
found_song [] m = λ h. h
found_song (change ∷ changes) m = op_song (Batch (change ∷ changes)) m

if_running : (m : MachineState) (happening : Happening) (runs : Bool) → HappeningKeeps m happening →
    HappeningKeeps m (cond runs happening (nothing_happens m))
if_running m happening true keeps = keeps
if_running m happening false keeps = λ h. h

-- a player that goes on has a song, or stops
resumed_song : (plays : Bool) (place : PlaceState) (frames : ℕ) (played : List ℕ) (at : Option ℕ)
    → has_song (resumed_at plays frames place played at) ≡ true
resumed_song plays place frames played None = refl
resumed_song plays place frames played (Some at) = or_true (is_stop (resumed_state plays place.state))
  where
    or_true : (b : Bool) → (b || true) ≡ true
    or_true true = refl
    or_true false = refl

resumes_song : (plays : Bool) (m : MachineState) (place : Option PlaceState) → HappeningKeeps m (resumes plays m place)
resumes_song plays m None = λ h. h
resumes_song plays m (Some place) = λ h.
    let s : SavedState = m.saved in
    resumed_song plays place (let l = named_length (Id place.song) m in l.frames)
    (resumed_round s.options.random s.queue.entries place.played) (at_id s.queue.entries place.song)

-- an error alone is shown, or is shown no more
misses_song : (missing : ℕ) (m : MachineState) → HappeningKeeps m (misses missing m)
misses_song missing m = of (is_withheld missing m)
  where
    ahead : (b : Bool) → has_song m.player ≡ true → has_song (cond b (record m.player { error = None }) m.player) ≡ true
    ahead true h = h
    ahead false h = h

    of : (b : Bool) → HappeningKeeps m (cond b (withholds missing m) (goes_ahead m))
    of true = λ h. h
    of false = ahead (is_of_withheld m.player.error)

-- a step that an event brings, with room and without
either_song : (m : MachineState) (a b : Step) (lacks : Bool) → Keeps m.player a.player → Keeps m.player b.player
    → let step : Step = cond lacks (unsaved a) b in Keeps m.player step.player
either_song m a b true alone keeps = alone
either_song m a b false alone keeps = keeps

in_room_song : (m : MachineState) (h : Happening) (lacks : Bool) → HappeningKeeps m h
    → HappeningKeeps m (cond lacks (nothing_happens m) h)
in_room_song m h true keeps = λ has. has
in_room_song m h false keeps = keeps

-- it is told whether there is room: the round alone may change
back_song : (b : Bool) (m : MachineState) → HappeningKeeps m (room_back b m)
back_song false m = λ h. h
back_song true m = of (is_idle m.player)
  where
    of : (b : Bool) → HappeningKeeps m (cond b (nothing_happens (told_room true m)) (keeps_place (caught m)))
    of true = λ h. h
    of false = λ h. h

room_song : (is_there : Bool) (m : MachineState) → HappeningKeeps m (when_room is_there m)
room_song false m = λ h. h
room_song true m = back_song (lacks_room m) m

song_kept : IsKept (λ m. has_song m.player ≡ true)
song_kept = record {
  command = λ mask command m x h is. command_kept mask command m x h (kept_under m (meaning mask command m) x is);
  fed = λ ticket frames m. fed_song (current_row m.saved m.player) ticket frames m.player;
  ended = λ ticket m.
      let entries = m.saved.queue.entries in
      let settings = settings_of m.saved in
      either_song m (ended entries (without_consume settings) m.player ticket) (ended entries settings m.player ticket) (lacks_room m)
      (ended_song m.player.state entries (without_consume settings) m.player ticket)
      (ended_song m.player.state entries settings m.player ticket);
  broken = λ ticket cause m.
      let entries = m.saved.queue.entries in
      let settings = settings_of m.saved in
      let entry = current_entry entries m.player.current in
      either_song m (failed entries (without_consume settings) m.player ticket cause) (failed entries settings m.player ticket cause)
      (lacks_room m) (failed_song entries (without_consume settings) m.player ticket cause entry)
      (failed_song entries settings m.player ticket cause entry);
  found = λ job changes m.
      let rows = finds (telling m.saved.songs (kept_changes m.saved.profile (spared m changes))) m in
      if_running m (if_room m rows) (is_running job m)
      (in_room_song m rows (lacks_room m) (found_song (telling m.saved.songs (kept_changes m.saved.profile (spared m changes))) m));
  missed = λ job missing m. if_running m (misses missing m) (is_running job m) (misses_song missing m);
  scanned = λ job m. if_running m (ends_scan m) (is_running job m) (λ h. h);
  clocked = λ time m h. h;
  kept_at = λ ticket m. if_running m (keeps_place m) (counts m.player.state m.player.ticket ticket) (λ h. h);
  resumed = λ plays m. if_running m (resumes plays m m.saved.place) (m.player.ticket == 0) (resumes_song plays m m.saved.place);
  told = room_song;
}

pub song : (kept : SavedState) (history : List Entry) → has_song (replay kept history).machine.player ≡ true
song kept history = lasts (λ m. has_song m.player ≡ true) song_kept kept refl history
