-- The forms of a command's meaning. What holds of each form, between the machine before and the meaning, holds of every command that isn't
-- refused. So a law of all commands is proved of the forms alone; a command that is added is found to have one, or has its line here.
use Rattle.std.proofs.Common.{◌≡◌, ℕ, ◌-◌, Bool, true, false, suc, List, [], ◌∷◌, length, nat_le, Option, Some, None, Result, Ok, Err, refl}
use Rattle.std.proofs.Common.{arith}
use Rattle.std.specs.Prelude.{nat_lt, if◌then◌else◌}
use Rattle.command_text.specs.declared.tag_mask.TagMask.{TagMask}
use Rattle.command_text.specs.AnswerSetup.{setup_lines}
use Rattle.command_text.specs.AnswerStatus.{job_line}
use Rattle.command_text.specs.declared.command.Command.{Command}
use Rattle.command_text.specs.declared.command.Command.TheVariants as topics
use Rattle.command_text.specs.declared.command.database.DatabaseCommand.{DatabaseCommand}
use Rattle.command_text.specs.declared.command.database.DatabaseCommand.TheVariants as database
use Rattle.command_text.specs.declared.command.finding.FindingCommand.{FindingCommand}
use Rattle.command_text.specs.declared.command.finding.FindingCommand.TheVariants as finding
use Rattle.command_text.specs.declared.command.lists.ListsCommand.{ListsCommand}
use Rattle.command_text.specs.declared.command.lists.ListsCommand.TheVariants as lists
use Rattle.command_text.specs.declared.command.lists.SaveMode.TheVariants.{Replace}
use Rattle.command_text.specs.declared.command.playing.PlayingCommand.{PlayingCommand}
use Rattle.command_text.specs.declared.command.playing.PlayingCommand.TheVariants as playing
use Rattle.command_text.specs.declared.command.queue.QueueCommand.{QueueCommand}
use Rattle.command_text.specs.declared.command.queue.QueueCommand.TheVariants as queue
use Rattle.command_text.specs.declared.command.settings.SettingsCommand.{SettingsCommand}
use Rattle.command_text.specs.declared.command.settings.SettingsCommand.TheVariants as settings
use Rattle.command_text.specs.declared.command.sticker.StickersCommand.{StickersCommand}
use Rattle.command_text.specs.declared.command.sticker.StickersCommand.TheVariants as stickers
use Rattle.command_text.specs.declared.range.PositionRange.{PositionRange}
use Rattle.command_text.specs.declared.range.PositionRange.TheVariants.{One, From, Between}
use Rattle.command_text.specs.declared.refusal.CommandRefusal.{CommandRefusal}
use Rattle.command_text.specs.declared.refusal.CommandRefusal.TheVariants.{BadIndex}
use Rattle.play_queue.specs.declared.target.Target.{Target}
use Rattle.player_core.specs.Commands.{halted, paused, previous_one}
use Rattle.player_core.specs.Player.{PlayerState, stopped_without_song}
use Rattle.player_core.specs.declared.playing.PlayState.{PlayState}
use Rattle.player_core.specs.declared.playing.PlayState.TheVariants as states
use Rattle.profile.specs.declared.profile.Profile.{Profile}
use Rattle.profile.specs.declared.profile.Profile.TheVariants.{Named, Wide}
use Rattle.player_core.specs.Seek.{sought_here}
use Rattle.player_core.specs.declared.refusal.PlayerError.{PlayerError}
use Rattle.player_core.specs.declared.seek.SeekTime.{SeekTime}
use Rattle.state_codec.specs.Applied.{after_all, changes_nothing, refusal_of}
use Rattle.state_codec.specs.Replacing.{replace_ops, replaces_nothing}
use Rattle.state_codec.specs.Steps.{◌>>=◌}
use Rattle.state_codec.specs.declared.op.Op.{Op}
use Rattle.state_codec.specs.declared.op.Op.TheVariants.{Queue as OfQueue, List as OfLists}
use Rattle.state_codec.specs.declared.op.Op.TheVariants as kinds
use Rattle.state_codec.specs.declared.op.list_op.ListOp.{ListOp}
use Rattle.state_codec.specs.declared.op.list_op.ListOp.TheVariants.{Add}
use Rattle.state_codec.specs.declared.op.queue_op.QueueOp.TheVariants.{Shuffle}
use Rattle.state_codec.specs.declared.refusal.OpRefusal.{OpRefusal}
use Rattle.stored_lists.specs.Lists.{songs_or_none}
use Rattle.machine_core.specs.Adding.{adds, place_in}
use Rattle.machine_core.specs.Changed.{same_lists}
use Rattle.machine_core.specs.Command.{meaning}
use Rattle.machine_core.specs.Database.{asked, begins_job, begun, busy, database_meaning, last_job_number, may_wait, next_job, next_number}
use Rattle.machine_core.specs.Database.{waits_for_job}
use Rattle.machine_core.specs.Finding.{finding_meaning}
use Rattle.machine_core.specs.Followed.{followed}
use Rattle.machine_core.specs.Lists.{list_name, lists_meaning, moves_in, replaced, replaces, songs_named}
use Rattle.machine_core.specs.ListMoves.{adds_songs, block_moves, moves_songs, of_lists, puts_in, song_moves, together}
use Rattle.machine_core.specs.Meaning.{Meaning, Meant, begins, does, edited, edits, must, refusal_of_all, says, stands, unless_refused}
use Rattle.machine_core.specs.Meaning.{waits}
use Rattle.machine_core.specs.Playing.{playing_meaning}
use Rattle.machine_core.specs.Queue.{is_held, moves as moves_block, place_in_rest, queue_meaning, shuffle_ops, shuffles, shuffles_around}
use Rattle.machine_core.specs.Queue.{shuffles_by, shuffles_in, shuffles_plainly, shuffles_playing, shuffles_stopped}
use Rattle.machine_core.specs.Settings.{settings_meaning}
use Rattle.machine_core.specs.Spans.{count_of, span_in}
use Rattle.machine_core.specs.State.{MachineState, settings_of, shown_of}
use Rattle.machine_core.specs.Steps.{current_length, moves, named_length, puts, step_in}
use Rattle.machine_core.specs.Stickers.{stickers_meaning}
use Rattle.machine_core.specs.Told.{told}
use Rattle.machine_core.specs.declared.job.Job.{Job}
use Rattle.machine_core.specs.declared.job.WaitingJob.{WaitingJob}
use Rattle.machine_core.specs.declared.span.Span.{Span}
use Rattle.machine_core.specs.declared.steps.PlayerStep.{PlayerStep}
use Rattle.machine_core.specs.declared.steps.PlayerStep.TheVariants as steps

-- what holds of a command that isn't refused
abbrev pub Holds : (MachineState → Meaning → Type 0) → MachineState → Meant → Type 0
Holds Q m (Ok x) = Q m x
Holds Q m (Err refusal) = Unit {0}

-- a command that isn't refused keeps what holds of a machine
abbrev pub KeptBy : (MachineState → Type 0) → MachineState → Meant → Type 0
KeptBy P m meant = Holds (λ n x. P n → P x.after) m meant

-- what commands do that change the player alone
pub data Turn : Type 0 where
  ClearError : Turn
  Pause : (switch : Option Bool) → Turn
  Previous : Turn
  SeekCurrent : (time : SeekTime) → Turn
  Stop : Turn

abbrev pub turned : Turn → MachineState → Result PlayerState PlayerError
turned Turn.ClearError m = Ok (record m.player { error = None })
turned (Turn.Pause switch) m = Ok (record m.player { state = paused switch m.player.state })
turned Turn.Previous m = previous_one m.saved.queue.entries (settings_of m.saved) m.player
turned (Turn.SeekCurrent time) m = sought_here (settings_of m.saved) (current_length m) time m.player
turned Turn.Stop m = Ok (halted m.player.state m.player)

-- the length that a step goes by is that of the song that it names
abbrev pub KnowsLength : PlayerStep → MachineState → Type 0
KnowsLength (steps.Seek selector song milliseconds) m = song ≡ named_length selector m
KnowsLength other m = Unit {0}

-- no command makes a batch itself, and what is kept of the player is made behind it
abbrev pub is_commanded : Op → Bool
is_commanded (kinds.SetOption setting) = true
is_commanded (kinds.SetVolume volume) = true
is_commanded (kinds.SetOrder order) = true
is_commanded (kinds.Queue op) = true
is_commanded (kinds.List op) = true
is_commanded (kinds.Sticker op) = true
is_commanded (kinds.Batch changes) = false
is_commanded (kinds.Place op) = false
is_commanded (kinds.Timed seconds) = false

-- The forms: lines alone; an op that a command may make, that isn't refused and changes something; the songs of the queue in
-- place of a playlist's; several ops of playlists that together change them; a range of the queue that is shuffled around a song, or where
-- no song stays current; a job that begins under a number of its own; one that waits; a step of the player; a turn of the player alone.
pub record OfForms (Q : MachineState → Meaning → Type 0) : Type 0 where
  pub says : (text : List ℕ) (m : MachineState) → Q m (stands text m)
  pub edits : (op : Op) (text : List ℕ) (m : MachineState) → is_commanded op ≡ true → refusal_of op m.saved ≡ None →
      changes_nothing op m.saved ≡ false → Q m (edited op text (followed op m) m)
  pub replaces : (name : List ℕ) (m : MachineState) → refusal_of_all (replace_ops name) m.saved ≡ None →
      replaces_nothing name m.saved ≡ false → Q m (replaced name m)
  pub together : (ops : List ListOp) (m : MachineState) → refusal_of_all (of_lists ops) m.saved ≡ None →
      same_lists m.saved.lists (after_all (of_lists ops) m.saved).lists ≡ false → Q m (does [] (of_lists ops) m.player m)
  pub shuffles : (id : ℕ) (span : Span) (m : MachineState) → refusal_of_all (shuffle_ops id span m.saved) m.saved ≡ None →
      Q m (does [] (shuffle_ops id span m.saved) m.player m)
  pub stops : (span : Span) (m : MachineState) → refusal_of (OfQueue (Shuffle span.start span.end)) m.saved ≡ None →
      Q m (does [] (OfQueue (Shuffle span.start span.end) ∷ []) (stopped_without_song m.player) m)
  pub begins : (job : Job) (text : List ℕ) (m : MachineState) → (job.number ≡ m.job.number → ⊥) → Holds Q m (begins job text m)
  pub waits : (job : WaitingJob) (text : List ℕ) (m : MachineState) → Holds Q m (waits job text m)
  pub moves : (step : PlayerStep) (m : MachineState) → KnowsLength step m → Holds Q m (moves (step_in step m) m)
  pub turns : (turn : Turn) (m : MachineState) → Holds Q m (puts (turned turn m) m)

-- the next job has another number
pub next_is_other : (number : ℕ) → next_job number ≡ number → ⊥
next_is_other number same = by_cases (nat_lt number last_job_number) refl same where
  by_cases : (b : Bool) → nat_lt number last_job_number ≡ b → (if b then suc number else 1) ≡ number → ⊥
  by_cases true less e = omega (arith, e)
  by_cases false more e = absurd (let one : number ≡ 1 = omega (arith, e) in cc)

module _ (Q : MachineState → Meaning → Type 0) (of : OfForms Q) where
  -- ---- the forms with their refusals

  says_so : (text : List ℕ) (m : MachineState) → Holds Q m (says text m)
  says_so text m = of.says text m

  -- a look-up before the rest
  then_so : {A : Type 0} (m : MachineState) (looked : Result A CommandRefusal) (rest : A → Meant) →
      ((found : A) → Holds Q m (rest found)) → Holds Q m (looked >>= rest)
  then_so m (Ok found) rest so = so found
  then_so m (Err refusal) rest so = tt

  edits_so : (op : Op) (text : List ℕ) (m : MachineState) → is_commanded op ≡ true → Holds Q m (edits op text m)
  unfolding edits
  edits_so op text m fits = by_cases (refusal_of op m.saved) refl (changes_nothing op m.saved) refl
    where
      by_cases : (refusal : Option OpRefusal) → refusal_of op m.saved ≡ refusal → (nothing : Bool) → changes_nothing op m.saved ≡ nothing
          → Holds Q m (unless_refused (told refusal) (if nothing then stands text m else edited op text (followed op m) m))
      by_cases None free true same = of.says text m
      by_cases None free false other = of.edits op text m fits free other
      by_cases (Some refusal) refused nothing is = tt

  replaces_so : (name : List ℕ) (m : MachineState) → Holds Q m (replaces name m)
  replaces_so name m = by_cases (refusal_of_all (replace_ops name) m.saved) refl (replaces_nothing name m.saved) refl
    where
      by_cases : (refusal : Option OpRefusal) → refusal_of_all (replace_ops name) m.saved ≡ refusal → (nothing : Bool)
          → replaces_nothing name m.saved ≡ nothing
          → Holds Q m (unless_refused (told refusal) (if nothing then stands [] m else replaced name m))
      by_cases None free true same = of.says [] m
      by_cases None free false other = of.replaces name m free other
      by_cases (Some refusal) refused nothing is = tt

  together_so : (ops : List ListOp) (m : MachineState) → Holds Q m (together ops m)
  together_so ops m =
      by_cases (refusal_of_all (of_lists ops) m.saved) refl (same_lists m.saved.lists (after_all (of_lists ops) m.saved).lists) refl
    where
      by_cases : (refusal : Option OpRefusal) → refusal_of_all (of_lists ops) m.saved ≡ refusal → (same : Bool)
          → same_lists m.saved.lists (after_all (of_lists ops) m.saved).lists ≡ same
          → Holds Q m (unless_refused (told refusal) (if same then stands [] m else does [] (of_lists ops) m.player m))
      by_cases None free true same = of.says [] m
      by_cases None free false other = of.together ops m free other
      by_cases (Some refusal) refused same is = tt

  puts_in_so : (name rows : List ℕ) (at end : ℕ) (m : MachineState) → Holds Q m (puts_in name rows at end m)
  puts_in_so name [] at end m = of.says [] m
  puts_in_so name (row ∷ rows) at end m = together_so (Add name (row ∷ rows) ∷ song_moves false name end at (length (row ∷ rows))) m

  adds_songs_so : (name rows : List ℕ) (to : Option ℕ) (m : MachineState) → Holds Q m (adds_songs name rows to m)
  adds_songs_so name rows None m = edits_so _ _ m refl
  adds_songs_so name rows (Some at) m = by_cases (nat_lt at end) (nat_lt end at)
    where
      end : ℕ
      end = length (songs_or_none m.saved.lists name)

      by_cases : (front past : Bool) → Holds Q m (if front then puts_in name rows at end m
          else (if past then Err BadIndex else edits (OfLists (Add name rows)) [] m))
      by_cases true past = puts_in_so name rows at end m
      by_cases false true = tt
      by_cases false false = edits_so (OfLists (Add name rows)) [] m refl

  moves_songs_so : (name : List ℕ) (block : Span) (to count : ℕ) (m : MachineState) → Holds Q m (moves_songs name block to count m)
  moves_songs_so name block to count m = by_cases (nat_le to (count - count_of block))
    where
      by_cases : (fits : Bool) → Holds Q m (if fits then together (block_moves name block to) m else Err BadIndex)
      by_cases true = together_so (block_moves name block to) m
      by_cases false = tt

  moves_range_so : (name : List ℕ) (range : PositionRange) (to : ℕ) (m : MachineState) → Holds Q m
      (songs_named m.saved.lists name >>= λ songs. span_in range (length songs) >>= λ block. moves_songs name block to (length songs) m)
  moves_range_so name range to m = then_so m (songs_named m.saved.lists name) _ (λ songs. then_so m (span_in range (length songs)) _
      (λ block. moves_songs_so name block to (length songs) m))

  moves_in_so : (name : List ℕ) (range : PositionRange) (to : ℕ) (m : MachineState) → Holds Q m (moves_in name range to m)
  moves_in_so name (One from) to m = then_so m (list_name name) _ (λ good. edits_so _ _ m refl)
  moves_in_so name (From start) to m = moves_range_so name (From start) to m
  moves_in_so name (Between start end) to m = moves_range_so name (Between start end) to m

  adds_so : (to : Option Target) (rows text : List ℕ) (m : MachineState) → Holds Q m (adds to rows text m)
  adds_so to rows text m = then_so m (place_in to m) _ (λ at. edits_so _ _ m refl)

  moves_so : (block : Span) (to : Target) (m : MachineState) → Holds Q m (moves_block block to m)
  moves_so block to m = then_so m (place_in_rest to block m) _ (λ at. edits_so _ _ m refl)

  around_so : (id : ℕ) (span : Span) (m : MachineState) → Holds Q m (shuffles_around id span m)
  around_so id span m = by_cases (refusal_of_all (shuffle_ops id span m.saved) m.saved) refl
    where
      by_cases : (refusal : Option OpRefusal) → refusal_of_all (shuffle_ops id span m.saved) m.saved ≡ refusal
          → Holds Q m (unless_refused (told refusal) (does [] (shuffle_ops id span m.saved) m.player m))
      by_cases None free = of.shuffles id span m free
      by_cases (Some refusal) refused = tt

  stopped_so : (span : Span) (m : MachineState) → Holds Q m (shuffles_stopped span m)
  stopped_so span m = by_cases (refusal_of (OfQueue (Shuffle span.start span.end)) m.saved) refl
    where
      by_cases : (refusal : Option OpRefusal) → refusal_of (OfQueue (Shuffle span.start span.end)) m.saved ≡ refusal
          → Holds Q m (unless_refused (told refusal)
          (does [] (OfQueue (Shuffle span.start span.end) ∷ []) (stopped_without_song m.player) m))
      by_cases None free = of.stops span m free
      by_cases (Some refusal) refused = tt

  plainly_so : (span : Span) (m : MachineState) → Holds Q m (shuffles_plainly span m)
  plainly_so span m = edits_so _ _ m refl

  while_playing_so : (current : Option ℕ) (span : Span) (m : MachineState) → Holds Q m (shuffles_playing current span m)
  while_playing_so None span m = plainly_so span m
  while_playing_so (Some id) span m = by_cases (is_held span (shown_of m).current)
    where
      by_cases : (b : Bool) → Holds Q m (if b then shuffles_around id span m else shuffles_plainly span m)
      by_cases true = around_so id span m
      by_cases false = plainly_so span m

  by_state_so : (state : PlayState) (span : Span) (m : MachineState) → Holds Q m (shuffles_in state span m)
  by_state_so states.Stop span m = stopped_so span m
  by_state_so states.Play span m = while_playing_so m.player.current span m
  by_state_so states.Pause span m = while_playing_so m.player.current span m

  by_profile_so : (profile : Profile) (span : Span) (m : MachineState) → Holds Q m (shuffles_by profile span m)
  by_profile_so Named span m = plainly_so span m
  by_profile_so Wide span m = by_state_so m.player.state span m

  shuffles_so : (span : Span) (m : MachineState) → Holds Q m (shuffles span m)
  shuffles_so span m = by_cases (nat_lt (count_of span) 2)
    where
      by_cases : (b : Bool) → Holds Q m (if b then says [] m else shuffles_by m.saved.profile span m)
      by_cases true = of.says [] m
      by_cases false = by_profile_so m.saved.profile span m

  begins_so : (place : Option (List ℕ)) (all : Bool) (m : MachineState) → Holds Q m (begins_job place all m)
  begins_so place all m = by_cases m.job.runs
    where
      by_cases : (runs : Bool) → Holds Q m (if runs then waits_for_job place all m
          else begins (begun (next_job m.job.number) place all m.clock.now) (job_line (next_job m.job.number)) m)
      by_cases true = then_so m (must (may_wait m.saved.profile m.waiting) (busy m.saved.profile)) _
          (λ room. of.waits (asked (next_number m) place all) _ m)
      by_cases false = of.begins (begun (next_job m.job.number) place all m.clock.now) _ m (next_is_other m.job.number)

  ruleset forms = (says_so, then_so, edits_so, replaces_so, adds_songs_so, moves_in_so, adds_so, moves_so, shuffles_so)

  -- ---- Each command, by the form that its equation ends in, behind what it looks up. The first case of a topic sets the others apart, so
  -- that the form of each is searched by itself.

  settings_so : (command : SettingsCommand) (m : MachineState) → Holds Q m (settings_meaning command m)
  unfolding settings_meaning
  settings_so settings.Status m = says_so _ m
  settings_so other m = search forms

  database_so : (mask : TagMask) (command : DatabaseCommand) (m : MachineState) → Holds Q m (database_meaning mask command m)
  unfolding database_meaning
  database_so mask (database.Update place) m = begins_so place false m
  database_so mask (database.Rescan place) m = begins_so place true m
  database_so mask other m = search forms

  queue_so : (mask : TagMask) (command : QueueCommand) (m : MachineState) → Holds Q m (queue_meaning mask command m)
  unfolding queue_meaning
  queue_so mask (queue.InfoId None) m = says_so _ m
  queue_so mask other m = search forms

  finding_so : (mask : TagMask) (command : FindingCommand) (m : MachineState) → Holds Q m (finding_meaning mask command m)
  unfolding finding_meaning
  finding_so mask (finding.Count tree) m = says_so _ m
  finding_so mask other m = search forms

  lists_so : (mask : TagMask) (command : ListsCommand) (m : MachineState) → Holds Q m (lists_meaning mask command m)
  unfolding lists_meaning
  lists_so mask (lists.Save name Replace) m = search forms
  lists_so mask other m = search forms

  stickers_so : (command : StickersCommand) (m : MachineState) → Holds Q m (stickers_meaning command m)
  unfolding stickers_meaning
  stickers_so (stickers.List uri) m = search forms
  stickers_so other m = search forms

  playing_so : (mask : TagMask) (command : PlayingCommand) (m : MachineState) → Holds Q m (playing_meaning mask command m)
  unfolding playing_meaning
  playing_so mask playing.ClearError m = of.turns Turn.ClearError m
  playing_so mask playing.CurrentSong m = says_so _ m
  playing_so mask playing.Next m = of.moves steps.Next m tt
  playing_so mask (playing.Pause switch) m = of.turns (Turn.Pause switch) m
  playing_so mask (playing.Play None) m = of.moves steps.Resume m tt
  playing_so mask (playing.Play (Some selector)) m = of.moves (steps.Play selector) m tt
  playing_so mask playing.Previous m = of.turns Turn.Previous m
  playing_so mask (playing.Seek selector milliseconds) m = of.moves (steps.Seek selector (named_length selector m) milliseconds) m refl
  playing_so mask (playing.SeekCurrent time) m = of.turns (Turn.SeekCurrent time) m
  playing_so mask playing.Stop m = of.turns Turn.Stop m

  -- all commands
  pub command_so : (mask : TagMask) (command : Command) (m : MachineState) → Holds Q m (meaning mask command m)
  unfolding meaning
  command_so mask (topics.Settings command) m = settings_so command m
  command_so mask (topics.Database command) m = database_so mask command m
  command_so mask (topics.Queue command) m = queue_so mask command m
  command_so mask (topics.Finding command) m = finding_so mask command m
  command_so mask (topics.Lists command) m = lists_so mask command m
  command_so mask (topics.Stickers command) m = stickers_so command m
  command_so mask (topics.Playing command) m = playing_so mask command m
  command_so mask (topics.Messages command) m = says_so [] m
  command_so mask (topics.Pictures command) m = says_so [] m
  command_so mask (topics.Session command) m = says_so [] m
  command_so mask (topics.Setup command) m = says_so (setup_lines command) m
