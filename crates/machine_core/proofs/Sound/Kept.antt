-- Each command, and each event of the output and of a scan, keeps the frame position within the song that is current.
use Rattle.std.proofs.Common.{◌≡◌, ℕ, ◌+◌, Bool, true, false, cond, List, [], ◌∷◌, ◌++◌, Option, Some, None, Ok, refl, sym, subst, arith}
use Rattle.std.specs.Prelude.{min}
use Rattle.command_text.specs.declared.command.Command.{Command}
use Rattle.command_text.specs.declared.tag_mask.TagMask.{TagMask}
use Rattle.play_queue.specs.Queue.{IsQueue}
use Rattle.play_queue.specs.declared.entry.Entry.{Entry as QueueEntry}
use Rattle.player_core.specs.Ending.{ended}
use Rattle.player_core.specs.Player.{Step}
use Rattle.player_core.specs.Reports.{counts, failed}
use Rattle.player_core.specs.declared.failure.BrokenCause.{BrokenCause}
use Rattle.player_core.specs.declared.seek.SongLength.{SongLength}
use Rattle.player_core.specs.declared.settings.PlaySettings.{PlaySettings}
use Rattle.song_db.specs.Row.{Row}
use Rattle.song_db.specs.Scan.{drops_of}
use Rattle.song_db.specs.declared.change.RowChange.{RowChange}
use Rattle.state_codec.specs.Applied.{after_all}
use Rattle.state_codec.specs.declared.op.Op.TheVariants.{Batch}
use Rattle.machine_core.specs.Command.{meaning}
use Rattle.machine_core.specs.Followed.{current_row, followed}
use Rattle.machine_core.specs.Happening.{Happening, if_room, nothing_happens}
use Rattle.machine_core.specs.Meaning.{Meaning, order_ops}
use Rattle.machine_core.specs.Reports.{fed_in, when_broken, when_ended, when_fed}
use Rattle.machine_core.specs.Scanning.{ends_scan, finds, is_running, kept_changes, telling, when_found, when_scanned, spared}
use Rattle.machine_core.specs.Sound.{IsSoundMachine, IsWithinSong}
use Rattle.machine_core.specs.State.{MachineState, lacks_room, settings_of}
use Rattle.machine_core.specs.Steps.{moves, puts, step_in, steps as making, unsaved, without_consume}
use Rattle.machine_core.specs.declared.steps.PlayerStep.{PlayerStep}
use Rattle.machine_core.specs.declared.steps.PlayerStep.TheVariants as steps
use Rattle.machine_core.proofs.CommandForms.{KeptBy, KnowsLength, OfForms, Turn, command_so, turned}
use Rattle.machine_core.proofs.ListMoves.{together_holds}
use Rattle.machine_core.proofs.Sound.Commands.{turn_sound, when_fed_sound, when_found_sound}
use Rattle.machine_core.proofs.Shuffling.{shuffled_holds, stopped_holds}
use Rattle.machine_core.proofs.Sound.Frame.{FrameWithin}
use Rattle.machine_core.proofs.Sound.Queues.{batch_stays}
use Rattle.machine_core.proofs.Sound.Within.{batch_framed, edited_holds, ended_alone_holds, ended_holds, failed_alone_holds}
use Rattle.machine_core.proofs.Sound.Within.{failed_holds, halted_within, next_holds, play_holds, previous_holds}
use Rattle.machine_core.proofs.Sound.Within.{resume_holds, seek_current_holds, seek_holds}

turn_holds : (turn : Turn) (m : MachineState) → KeptBy IsSoundMachine m (puts (turned turn m) m)
turn_holds Turn.ClearError m = λ holds.
    record { queue = holds.queue; sound = turn_sound Turn.ClearError m holds.sound; frame = holds.frame }
turn_holds (Turn.Pause switch) m = λ holds.
    record { queue = holds.queue; sound = turn_sound (Turn.Pause switch) m holds.sound; frame = holds.frame }
turn_holds Turn.Previous m = previous_holds m (turn_sound Turn.Previous m)
turn_holds (Turn.SeekCurrent time) m = seek_current_holds m time (turn_sound (Turn.SeekCurrent time) m)
turn_holds Turn.Stop m = λ holds.
    record {
      queue = holds.queue;
      sound = turn_sound Turn.Stop m holds.sound;
      frame = halted_within m m.player.state holds.frame;
    }

move_holds : (step : PlayerStep) (m : MachineState) → KnowsLength step m → KeptBy IsSoundMachine m (moves (step_in step m) m)
move_holds steps.Resume m knows = resume_holds m
move_holds (steps.Play selector) m knows = play_holds m selector
move_holds (steps.Seek selector song milliseconds) m knows =
    subst (λ (length : SongLength). KeptBy IsSoundMachine m (moves (step_in (steps.Seek selector length milliseconds) m) m)) (sym knows)
    (seek_holds m selector milliseconds)
move_holds steps.Next m knows = next_holds m
move_holds (steps.Ended ticket) m knows = ended_holds m ticket
move_holds (steps.Failed ticket cause) m knows = failed_holds m ticket cause

forms_hold : OfForms (λ m x. IsSoundMachine m → IsSoundMachine x.after)
forms_hold = record {
  says = λ text m holds. holds;
  edits = λ op text m fits free other. edited_holds op text m free;
  replaces = λ name m free other holds. record { queue = holds.queue; sound = holds.sound; frame = holds.frame };
  together = λ ops m free other. together_holds ops m;
  shuffles = shuffled_holds;
  stops = stopped_holds;
  begins = λ job text m own holds. record { queue = holds.queue; sound = holds.sound; frame = holds.frame };
  waits = λ job text m holds. record { queue = holds.queue; sound = holds.sound; frame = holds.frame };
  moves = move_holds;
  turns = turn_holds;
}

pub command_holds : (mask : TagMask) (command : Command) (m : MachineState) (x : Meaning) → IsSoundMachine m → meaning mask command m ≡ Ok x
    → IsSoundMachine x.after
command_holds mask command m x holds means =
    subst (λ meant. KeptBy IsSoundMachine m meant) means
    (command_so (λ n y. IsSoundMachine n → IsSoundMachine y.after) forms_hold mask command m) holds

-- ---- events

fed_within : (m : MachineState) (row : Option Row) (ticket frames : ℕ) → current_row m.saved m.player ≡ row → IsWithinSong m
    → IsWithinSong (record m { player = fed_in row ticket frames m.player })
fed_within m None ticket frames is h = h
fed_within m (Some row) ticket frames is h = of (counts m.player.state m.player.ticket ticket)
  where
    of : (b : Bool)
        → IsWithinSong (record m { player = cond b (record m.player { frame = min (m.player.frame + frames) row.frames }) m.player })
    of true = subst (λ (r : Option Row). FrameWithin r (min (m.player.frame + frames) row.frames)) (sym is) (omega arith)
    of false = h

pub when_fed_holds : (ticket frames : ℕ) (m : MachineState) → IsSoundMachine m → let h = when_fed ticket frames m in IsSoundMachine h.after
when_fed_holds ticket frames m holds = record {
  queue = holds.queue;
  sound = when_fed_sound ticket frames m holds.sound;
  frame = fed_within m (current_row m.saved m.player) ticket frames refl holds.frame;
}

pub when_ended_holds : (ticket : ℕ) (m : MachineState) → IsSoundMachine m → let h = when_ended ticket m in IsSoundMachine h.after
when_ended_holds ticket m holds = of (lacks_room m)
  where
    by : PlaySettings → Step
    by settings = ended m.saved.queue.entries settings m.player ticket

    of : (b : Bool) → let x = making (cond b (unsaved (by (without_consume (settings_of m.saved)))) (by (settings_of m.saved))) m in
        IsSoundMachine x.after
    of true = ended_alone_holds m ticket holds
    of false = ended_holds m ticket holds

pub when_broken_holds : (ticket : ℕ) (cause : BrokenCause) (m : MachineState) → IsSoundMachine m → let h = when_broken ticket cause m in
    IsSoundMachine h.after
when_broken_holds ticket cause m holds = of (lacks_room m)
  where
    by : PlaySettings → Step
    by settings = failed m.saved.queue.entries settings m.player ticket cause

    of : (b : Bool) → let x = making (cond b (unsaved (by (without_consume (settings_of m.saved)))) (by (settings_of m.saved))) m in
        IsSoundMachine x.after
    of true = failed_alone_holds m ticket cause holds
    of false = failed_holds m ticket cause holds

finds_queue : (changes : List RowChange) (m : MachineState) → IsQueue m.saved.queue → let h = finds changes m in
    IsQueue h.after.saved.queue
finds_queue [] m queue = queue
finds_queue (change ∷ changes) m queue = of (let next = followed (Batch (change ∷ changes)) m in next.order)
  where
    of : (order : Option ℕ) → IsQueue (after_all (order_ops order ++ Batch (change ∷ changes) ∷ []) m.saved).queue
    of None = batch_stays m.saved.queue (drops_of (change ∷ changes)) _ queue
    of (Some order) = batch_stays m.saved.queue (drops_of (change ∷ changes)) _ queue

finds_within : (changes : List RowChange) (m : MachineState) → IsWithinSong m → let h = finds changes m in IsWithinSong h.after
finds_within [] m frame = frame
finds_within (change ∷ changes) m frame = of (let next = followed (Batch (change ∷ changes)) m in next.order)
  where
    of : (order : Option ℕ) → let s = after_all (order_ops order ++ Batch (change ∷ changes) ∷ []) m.saved in
        let next = followed (Batch (change ∷ changes)) m in
        FrameWithin (current_row s next.player) next.player.frame
    of None = batch_framed (change ∷ changes) m.saved.order m
    of (Some order) = batch_framed (change ∷ changes) order m

pub when_found_holds : (job : ℕ) (changes : List RowChange) (m : MachineState) → IsSoundMachine m → let h = when_found job changes m in
    IsSoundMachine h.after
when_found_holds job changes m holds = record {
  queue = queue_of (is_running job m);
  sound = when_found_sound job changes m holds.sound;
  frame = frame_of (is_running job m);
}
  where
    rows : Happening
    rows = finds (telling m.saved.songs (kept_changes m.saved.profile (spared m changes))) m

    queue_in : (b : Bool) → let h = cond b (nothing_happens m) rows in IsQueue h.after.saved.queue
    queue_in true = holds.queue
    queue_in false = finds_queue (telling m.saved.songs (kept_changes m.saved.profile (spared m changes))) m holds.queue

    queue_of : (b : Bool) → let h = cond b (if_room m rows) (nothing_happens m) in IsQueue h.after.saved.queue
    queue_of true = queue_in (lacks_room m)
    queue_of false = holds.queue

    frame_in : (b : Bool) → let h = cond b (nothing_happens m) rows in IsWithinSong h.after
    frame_in true = holds.frame
    frame_in false = finds_within (telling m.saved.songs (kept_changes m.saved.profile (spared m changes))) m holds.frame

    frame_of : (b : Bool) → let h = cond b (if_room m rows) (nothing_happens m) in IsWithinSong h.after
    frame_of true = frame_in (lacks_room m)
    frame_of false = holds.frame

pub when_scanned_holds : (job : ℕ) (m : MachineState) → IsSoundMachine m → let h = when_scanned job m in IsSoundMachine h.after
when_scanned_holds job m holds = of (is_running job m)
  where
    of : (b : Bool) → let h = cond b (ends_scan m) (nothing_happens m) in IsSoundMachine h.after
    of true = record { queue = holds.queue; sound = holds.sound; frame = holds.frame }
    of false = holds
