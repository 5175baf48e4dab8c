-- Each command, and each event of the output and of a scan, keeps the player sound.
use Rattle.std.proofs.Common.{◌≡◌, ℕ, Bool, true, false, cond, ◌+◌, List, [], ◌∷◌, ◌++◌, Option, Some, None, Ok, refl, subst}
use Rattle.std.specs.Prelude.{min}
use Rattle.command_text.specs.declared.command.Command.{Command}
use Rattle.command_text.specs.declared.tag_mask.TagMask.{TagMask}
use Rattle.play_queue.specs.declared.entry.Entry.{Entry as QueueEntry}
use Rattle.player_core.specs.Commands.{paused}
use Rattle.player_core.specs.Ending.{ended}
use Rattle.player_core.specs.Player.{PlayerState, Step}
use Rattle.player_core.specs.Reports.{counts, failed}
use Rattle.player_core.specs.declared.failure.BrokenCause.{BrokenCause}
use Rattle.player_core.specs.declared.settings.PlaySettings.{PlaySettings}
use Rattle.song_db.specs.Row.{Row}
use Rattle.song_db.specs.declared.change.RowChange.{RowChange}
use Rattle.state_codec.specs.Applied.{after_all}
use Rattle.state_codec.specs.declared.op.Op.TheVariants.{Batch}
use Rattle.machine_core.specs.Command.{meaning}
use Rattle.machine_core.specs.Followed.{current_row, followed}
use Rattle.machine_core.specs.Happening.{Happening, if_room, nothing_happens}
use Rattle.machine_core.specs.Meaning.{Meaning, order_ops}
use Rattle.machine_core.specs.Reports.{fed_in, when_fed, when_ended, when_broken}
use Rattle.machine_core.specs.Scanning.{is_running, kept_changes, telling, finds, ends_scan, when_found, when_scanned, spared}
use Rattle.machine_core.specs.Sound.{IsSoundPlayer, IsSound}
use Rattle.machine_core.specs.State.{MachineState, lacks_room, settings_of}
use Rattle.machine_core.specs.Steps.{current_length, puts, steps, unsaved, without_consume}
use Rattle.machine_core.proofs.CommandForms.{KeptBy, OfForms, Turn, command_so, turned}
use Rattle.machine_core.proofs.ListMoves.{together_sound}
use Rattle.machine_core.proofs.Shuffling.{shuffled_sound, stopped_sound}
use Rattle.machine_core.proofs.Sound.Forms.{batch_sound, edited_sound, moves_sound, puts_sound, steps_sound}
use Rattle.machine_core.proofs.Sound.Playing.{previous_sound, sought_here_sound, halted_sound, ended_alone, ended_sound, failed_alone}
use Rattle.machine_core.proofs.Sound.Playing.{failed_sound}
use Rattle.machine_core.proofs.Sound.Steps.{sound_from, played_of}

pub turn_sound : (turn : Turn) (m : MachineState) → KeptBy IsSound m (puts (turned turn m) m)
turn_sound Turn.ClearError m = λ sound.
    sound_from m.saved.queue.entries m.saved.options.random (record m.player { error = None }) sound.current
    (played_of m.saved.queue.entries m.saved.options.random m.player sound)
turn_sound (Turn.Pause switch) m = λ sound.
    sound_from m.saved.queue.entries m.saved.options.random (record m.player { state = paused switch m.player.state }) sound.current
    (played_of m.saved.queue.entries m.saved.options.random m.player sound)
turn_sound Turn.Previous m =
    puts_sound (turned Turn.Previous m) m (previous_sound m.saved.queue.entries (settings_of m.saved) m.player)
turn_sound (Turn.SeekCurrent time) m =
    puts_sound (turned (Turn.SeekCurrent time) m) m
    (sought_here_sound m.saved.queue.entries (settings_of m.saved) (current_length m) time m.player)
turn_sound Turn.Stop m = halted_sound m.player.state m.saved.queue.entries m.saved.options.random m.player

forms_sound : OfForms (λ m x. IsSound m → IsSound x.after)
forms_sound = record {
  says = λ text m sound. sound;
  edits = λ op text m fits free other. edited_sound op text m free;
  replaces = λ name m free other sound. sound;
  together = λ ops m free other. together_sound ops m;
  shuffles = shuffled_sound;
  stops = stopped_sound;
  begins = λ job text m own sound. sound;
  waits = λ job text m sound. sound;
  moves = λ step m knows. moves_sound step m;
  turns = turn_sound;
}

pub command_sound : (mask : TagMask) (command : Command) (m : MachineState) (x : Meaning) → IsSound m → meaning mask command m ≡ Ok x
    → IsSound x.after
command_sound mask command m x sound means =
    subst (λ meant. KeptBy IsSound m meant) means (command_so (λ n y. IsSound n → IsSound y.after) forms_sound mask command m) sound

-- ---- events

fed_sound : (row : Option Row) (ticket frames : ℕ) (entries : List QueueEntry) (random : Bool) (player : PlayerState)
    → IsSoundPlayer entries random player → IsSoundPlayer entries random (fed_in row ticket frames player)
fed_sound None ticket frames entries random player sound = sound
fed_sound (Some row) ticket frames entries random player sound = of (counts player.state player.ticket ticket)
  where
    of : (b : Bool) → IsSoundPlayer entries random (cond b (record player { frame = min (player.frame + frames) row.frames }) player)
    of true = sound_from entries random (record player { frame = min (player.frame + frames) row.frames }) sound.current
        (played_of entries random player sound)
    of false = sound

pub when_fed_sound : (ticket frames : ℕ) (m : MachineState) → IsSound m → let h = when_fed ticket frames m in IsSound h.after
when_fed_sound ticket frames m sound =
    fed_sound (current_row m.saved m.player) ticket frames m.saved.queue.entries m.saved.options.random m.player sound

pub when_ended_sound : (ticket : ℕ) (m : MachineState) → IsSound m → let h = when_ended ticket m in IsSound h.after
when_ended_sound ticket m sound = of (lacks_room m)
  where
    by : PlaySettings → Step
    by settings = ended m.saved.queue.entries settings m.player ticket

    of : (b : Bool) → let x = steps (cond b (unsaved (by (without_consume (settings_of m.saved)))) (by (settings_of m.saved))) m in
        IsSound x.after
    of true =
        ended_alone m.player.state m.saved.queue.entries (without_consume (settings_of m.saved)) m.player ticket refl sound
    of false =
        steps_sound (by (settings_of m.saved)) m
        (ended_sound m.player.state m.saved.queue.entries (settings_of m.saved) m.player ticket sound)

pub when_broken_sound : (ticket : ℕ) (cause : BrokenCause) (m : MachineState) → IsSound m → let h = when_broken ticket cause m in
    IsSound h.after
when_broken_sound ticket cause m sound = of (lacks_room m)
  where
    by : PlaySettings → Step
    by settings = failed m.saved.queue.entries settings m.player ticket cause

    of : (b : Bool) → let x = steps (cond b (unsaved (by (without_consume (settings_of m.saved)))) (by (settings_of m.saved))) m in
        IsSound x.after
    of true = failed_alone m.saved.queue.entries (without_consume (settings_of m.saved)) m.player ticket cause refl sound
    of false =
        steps_sound (by (settings_of m.saved)) m (failed_sound m.saved.queue.entries (settings_of m.saved) m.player ticket cause sound)

finds_sound : (changes : List RowChange) (m : MachineState) → IsSound m → let h = finds changes m in IsSound h.after
finds_sound [] m sound = sound
finds_sound (change ∷ changes) m sound = of (let next = followed (Batch (change ∷ changes)) m in next.order)
  where
    of : (order : Option ℕ) → let s = after_all (order_ops order ++ Batch (change ∷ changes) ∷ []) m.saved in
        let next = followed (Batch (change ∷ changes)) m in IsSoundPlayer s.queue.entries s.options.random next.player
    of None = batch_sound (change ∷ changes) m.saved.order m sound
    of (Some order) = batch_sound (change ∷ changes) order m sound

pub when_found_sound : (job : ℕ) (changes : List RowChange) (m : MachineState) → IsSound m → let h = when_found job changes m in
    IsSound h.after
when_found_sound job changes m sound = of (is_running job m)
  where
    rows : Happening
    rows = finds (telling m.saved.songs (kept_changes m.saved.profile (spared m changes))) m

    in_room : (b : Bool) → let h = cond b (nothing_happens m) rows in IsSound h.after
    in_room true = sound
    in_room false = finds_sound (telling m.saved.songs (kept_changes m.saved.profile (spared m changes))) m sound

    of : (b : Bool) → let h = cond b (if_room m rows) (nothing_happens m) in IsSound h.after
    of true = in_room (lacks_room m)
    of false = sound

pub when_scanned_sound : (job : ℕ) (m : MachineState) → IsSound m → let h = when_scanned job m in IsSound h.after
when_scanned_sound job m sound = of (is_running job m)
  where
    of : (b : Bool) → let h = cond b (ends_scan m) (nothing_happens m) in IsSound h.after
    of true = sound
    of false = sound
