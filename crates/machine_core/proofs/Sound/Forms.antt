-- Each form of a command's meaning keeps the player sound.
use Rattle.std.proofs.Common.{◌≡◌, ℕ, ◌+◌, ◌==◌, Bool, true, false, List, [], ◌∷◌}
use Rattle.std.proofs.Common.{◌++◌, Option, Some, None, Result, Ok, Err, refl, sym, subst}
use Rattle.std.specs.List.{AllByRecursion}
use Rattle.std.specs.Prelude.{IfSome}
use Rattle.play_queue.specs.Entries.{deleted, kept}
use Rattle.play_queue.specs.Queue.{ruled}
use Rattle.play_queue.specs.declared.entry.Entry.{Entry}
use Rattle.player_core.specs.Commands.{named, unless_stopped, played_from}
use Rattle.player_core.specs.Ending.{over}
use Rattle.player_core.specs.Player.{PlayerState, Step}
use Rattle.player_core.specs.Reports.{turned, only}
use Rattle.player_core.specs.Seek.{sought}
use Rattle.player_core.specs.declared.options.Options.{Options}
use Rattle.player_core.specs.declared.options.Single.TheVariants.{Off}
use Rattle.player_core.specs.declared.playing.PlayState.{PlayState}
use Rattle.player_core.specs.declared.playing.PlayState.TheVariants.{Stop, Play, Pause}
use Rattle.player_core.specs.declared.refusal.PlayerError.{PlayerError}
use Rattle.song_db.specs.Row.{Row}
use Rattle.song_db.specs.Scan.{drops_of}
use Rattle.song_db.specs.declared.change.RowChange.{RowChange}
use Rattle.state_codec.specs.Applied.{refusal_of, after, after_all}
use Rattle.state_codec.specs.OpsQueue.{queue_refusal, after_queue}
use Rattle.state_codec.specs.OpsSettings.{with_setting}
use Rattle.state_codec.specs.SavedState.{SavedState}
use Rattle.state_codec.specs.declared.op.Op.{Op}
use Rattle.state_codec.specs.declared.op.Op.TheVariants.{SetOption, SetVolume, SetOrder, Queue, List as Lists, Sticker, Batch, Place, Timed}
use Rattle.state_codec.specs.declared.op.queue_op.QueueOp.{QueueOp}
use Rattle.state_codec.specs.declared.op.queue_op.QueueOp.TheVariants as queue
use Rattle.state_codec.specs.declared.op.setting.Setting.{Setting}
use Rattle.state_codec.specs.declared.op.setting.Setting.TheVariants as setting
use Rattle.machine_core.specs.Followed.{followed, follows_queue, follows_setting, follows_batch, cut_to, no_block}
use Rattle.machine_core.specs.Meaning.{edited, order_ops}
use Rattle.machine_core.specs.Sound.{IsIn, AreOwn, IsSoundPlayer, IsSound}
use Rattle.machine_core.specs.State.{MachineState, settings_of}
use Rattle.machine_core.specs.Steps.{moves, puts, from_named, step_in, steps, removal_ops, single_ops, consume_ops}
use Rattle.machine_core.specs.declared.steps.PlayerStep.{PlayerStep}
use Rattle.machine_core.specs.declared.steps.PlayerStep.TheVariants.{Resume, Play as PlayNamed, Seek, Next, Ended, Failed}
use Rattle.machine_core.proofs.CommandForms.{KeptBy}
use Rattle.machine_core.proofs.Sound.Edits.{id_test, op_has, ruled_has}
use Rattle.machine_core.proofs.Sound.Leaving.{stays_deleted, stays_kept}
use Rattle.machine_core.proofs.Sound.Playing.{StepSound, PlayerSound, left_of, over_sound, ended_sound, failed_sound, resumed_sound}
use Rattle.machine_core.proofs.Sound.Playing.{played_from_sound, sought_sound, named_in}
use Rattle.machine_core.proofs.Sound.Steps.{Within, sound_from, sound_within, played_of, followed_sound}

-- ---- ops

pub turned_sound : (on : Bool) (entries : List Entry) (random : Bool) (player : PlayerState) → IsSoundPlayer entries random player
    → IsSoundPlayer entries on (turned on player)
turned_sound true entries random player sound = record {
  current = sound.current;
  played = of player.current sound.current;
  once = alone player.current;
  ordered = λ off. absurd (cc);
}
  where
    of : (current : Option ℕ) → IfSome current (IsIn entries) → AllByRecursion (IsIn entries) (only current)
    of None here = tt
    of (Some id) here = (here, tt)

    alone : (current : Option ℕ) → AreOwn (only current)
    alone None = tt
    alone (Some id) = (tt, tt)
turned_sound false entries random player sound =
    record { current = sound.current; played = tt; once = tt; ordered = λ off. refl }

setting_sound : (op : Setting) (m : MachineState) → IsSound m → let options = with_setting op m.saved.options in
    let next = follows_setting op m in IsSoundPlayer m.saved.queue.entries options.random next.player
setting_sound (setting.Repeat on) m sound = sound
setting_sound (setting.Random on) m sound = turned_sound on m.saved.queue.entries m.saved.options.random m.player sound
setting_sound (setting.Single single) m sound = sound
setting_sound (setting.Consume consume) m sound = sound

cut_sound : (row : Option Row) (entries : List Entry) (random : Bool) (player : PlayerState) → IsSoundPlayer entries random player
    → IsSoundPlayer entries random (cut_to row player)
cut_sound None entries random player sound = sound
cut_sound (Some row) entries random player sound =
    sound_from entries random (cut_to (Some row) player) sound.current (played_of entries random player sound)

queue_sound : (op : QueueOp) (order : ℕ) (m : MachineState) → queue_refusal op m.saved ≡ None → IsSound m
    → let s = after_queue op (record m.saved { order = order }) in let next = follows_queue op m in
    IsSoundPlayer s.queue.entries m.saved.options.random next.player
queue_sound (queue.Add at rows) order m none sound =
    sound_within m.saved.queue.entries _ m.saved.options.random m.player
    (λ id. op_has (λ e. e.id == id) (id_test id) (queue.Add at rows) (record m.saved { order = order }) none refl) sound
queue_sound (queue.Delete start end) order m none sound =
    followed_sound m.saved.queue.entries _ (settings_of m.saved) (record { start = start; end = end }) [] m.player
    (λ id h. ruled_has (λ e. e.id == id) (id_test id) m.saved.queue (deleted m.saved.queue.entries start end) []
    (stays_deleted (λ e. e.id == id) start end m.saved.queue.entries h)) sound
queue_sound (queue.Move start end to) order m none sound =
    sound_within m.saved.queue.entries _ m.saved.options.random m.player
    (λ id. op_has (λ e. e.id == id) (id_test id) (queue.Move start end to) (record m.saved { order = order }) none refl) sound
queue_sound (queue.Swap one other) order m none sound =
    sound_within m.saved.queue.entries _ m.saved.options.random m.player
    (λ id. op_has (λ e. e.id == id) (id_test id) (queue.Swap one other) (record m.saved { order = order }) none refl) sound
queue_sound (queue.Shuffle start end) order m none sound =
    sound_within m.saved.queue.entries _ m.saved.options.random m.player
    (λ id. op_has (λ e. e.id == id) (id_test id) (queue.Shuffle start end) (record m.saved { order = order }) none refl) sound
queue_sound (queue.Prio priority ranges) order m none sound =
    sound_within m.saved.queue.entries _ m.saved.options.random m.player
    (λ id. op_has (λ e. e.id == id) (id_test id) (queue.Prio priority ranges) (record m.saved { order = order }) none refl) sound

options_stay : (op : QueueOp) (s : SavedState) → (after_queue op s).options ≡ s.options
options_stay (queue.Add at rows) s = refl
options_stay (queue.Delete start end) s = refl
options_stay (queue.Move start end to) s = refl
options_stay (queue.Swap one other) s = refl
options_stay (queue.Shuffle start end) s = refl
options_stay (queue.Prio priority ranges) s = refl

pub batch_sound : (changes : List RowChange) (order : ℕ) (m : MachineState) → IsSound m
    → let s = after (Batch changes) (record m.saved { order = order }) in let next = follows_batch changes m in
    IsSoundPlayer s.queue.entries s.options.random next.player
batch_sound changes order m sound =
    let dropped = drops_of changes in
    cut_sound _ _ m.saved.options.random _
    (followed_sound m.saved.queue.entries _ (settings_of m.saved) no_block dropped m.player
    (λ id h. ruled_has (λ e. e.id == id) (id_test id) m.saved.queue (kept m.saved.queue.entries dropped) _
    (stays_kept (λ e. e.id == id) dropped 0 m.saved.queue.entries h)) sound)

pub op_sound : (op : Op) (order : ℕ) (m : MachineState) → refusal_of op m.saved ≡ None → IsSound m
    → let s = after op (record m.saved { order = order }) in let next = followed op m in
    IsSoundPlayer s.queue.entries s.options.random next.player
op_sound (SetOption op) order m none sound = setting_sound op m sound
op_sound (SetVolume volume) order m none sound = sound
op_sound (SetOrder other) order m none sound = sound
op_sound (Queue op) order m none sound =
    let next = follows_queue op m in
    subst (λ (o : Options). IsSoundPlayer (after_queue op (record m.saved { order = order })).queue.entries o.random next.player)
    (sym (options_stay op (record m.saved { order = order }))) (queue_sound op order m none sound)
op_sound (Lists op) order m none sound = sound
op_sound (Sticker op) order m none sound = sound
op_sound (Batch changes) order m none sound = batch_sound changes order m sound
op_sound (Place op) order m none sound = sound
op_sound (Timed seconds) order m none sound = sound

-- ---- steps

deleted_in : (m : MachineState) (at : ℕ) → Within (deleted m.saved.queue.entries at (at + 1))
    (ruled m.saved.queue (deleted m.saved.queue.entries at (at + 1)) []).entries
deleted_in m at id h = ruled_has (λ e. e.id == id) (id_test id) m.saved.queue (deleted m.saved.queue.entries at (at + 1)) [] h

-- `single` and `consume` turn off
turned_off_sound : (single consume : Bool) (s : SavedState) (player : PlayerState) → IsSoundPlayer s.queue.entries s.options.random player
    → let t = after_all (single_ops single ++ consume_ops consume) s in IsSoundPlayer t.queue.entries t.options.random player
turned_off_sound true true s player sound = sound
turned_off_sound true false s player sound = sound
turned_off_sound false true s player sound = sound
turned_off_sound false false s player sound = sound

changed_sound : (m : MachineState) (player : PlayerState) (order removed : Option ℕ) (single consume : Bool)
    → ((after : List Entry) → Within (left_of removed m.saved.queue.entries) after → IsSoundPlayer after m.saved.options.random player)
    → let s = after_all (order_ops order ++ (removal_ops removed ++ (single_ops single ++ consume_ops consume))) m.saved in
    IsSoundPlayer s.queue.entries s.options.random player
changed_sound m player None None single consume k = turned_off_sound single consume m.saved player (k m.saved.queue.entries (λ id h. h))
changed_sound m player (Some order) None single consume k =
    turned_off_sound single consume (record m.saved { order = order }) player (k m.saved.queue.entries (λ id h. h))
changed_sound m player None (Some at) single consume k =
    turned_off_sound single consume (after (Queue (queue.Delete at (at + 1))) m.saved) player (k _ (deleted_in m at))
changed_sound m player (Some order) (Some at) single consume k =
    turned_off_sound single consume (after (Queue (queue.Delete at (at + 1))) (record m.saved { order = order })) player
    (k _ (deleted_in m at))

pub steps_sound : (step : Step) (m : MachineState) → StepSound m.saved.queue.entries m.saved.options.random step
    → let x = steps step m in IsSound x.after
steps_sound step m sound =
    changed_sound m step.player step.changes.order step.changes.removed step.changes.single_off step.changes.consume_off sound

-- a step that may be refused
abbrev MadeSound : MachineState → Result Step PlayerError → Type 0
MadeSound m (Ok step) = StepSound m.saved.queue.entries m.saved.options.random step
MadeSound m (Err refusal) = Unit {0}

named_sound : (m : MachineState) (found : Result ℕ PlayerError) (step : ℕ → Step)
    → ((id : ℕ) → found ≡ Ok id → StepSound m.saved.queue.entries m.saved.options.random (step id)) → MadeSound m (from_named found step)
named_sound m (Ok id) step sound = sound id refl
named_sound m (Err refusal) step sound = tt

next_one_sound : (m : MachineState) (state : PlayState) (step : Step) → StepSound m.saved.queue.entries m.saved.options.random step
    → MadeSound m (unless_stopped state step)
next_one_sound m Stop step sound = tt
next_one_sound m Play step sound = sound
next_one_sound m Pause step sound = sound

step_sound : (step : PlayerStep) (m : MachineState) → IsSound m → MadeSound m (step_in step m)
step_sound Resume m sound = resumed_sound m.player.state m.saved.queue.entries (settings_of m.saved) m.player sound
step_sound (PlayNamed selector) m sound =
    named_sound m (named selector m.saved.queue.entries) (λ id. played_from (settings_of m.saved) m.player id)
    (λ id is. played_from_sound m.saved.queue.entries (settings_of m.saved) m.player id
    (named_in selector m.saved.queue.entries id is) sound)
step_sound (Seek selector song milliseconds) m sound =
    named_sound m (named selector m.saved.queue.entries) (λ id. sought (settings_of m.saved) song milliseconds m.player id)
    (λ id is. sought_sound m.saved.queue.entries (settings_of m.saved) song milliseconds m.player id
    (named_in selector m.saved.queue.entries id is) sound)
step_sound Next m sound =
    next_one_sound m m.player.state (over m.saved.queue.entries (settings_of m.saved) Off m.player)
    (over_sound m.saved.queue.entries (settings_of m.saved) Off m.player sound)
step_sound (Ended ticket) m sound = ended_sound m.player.state m.saved.queue.entries (settings_of m.saved) m.player ticket sound
step_sound (Failed ticket cause) m sound = failed_sound m.saved.queue.entries (settings_of m.saved) m.player ticket cause sound

moved_sound : (made : Result Step PlayerError) (m : MachineState) → (IsSound m → MadeSound m made) → KeptBy IsSound m (moves made m)
moved_sound (Ok step) m keeps = λ sound. steps_sound step m (keeps sound)
moved_sound (Err refusal) m keeps = tt

pub moves_sound : (step : PlayerStep) (m : MachineState) → KeptBy IsSound m (moves (step_in step m) m)
moves_sound step m = moved_sound (step_in step m) m (step_sound step m)

pub puts_sound : (made : Result PlayerState PlayerError) (m : MachineState)
    → (IsSound m → PlayerSound m.saved.queue.entries m.saved.options.random made) → KeptBy IsSound m (puts made m)
puts_sound (Ok player) m keeps = keeps
puts_sound (Err refusal) m keeps = tt

-- ---- edits

pub edited_sound : (op : Op) (text : List ℕ) (m : MachineState) → refusal_of op m.saved ≡ None → IsSound m
    → let x = edited op text (followed op m) m in IsSound x.after
edited_sound op text m none sound = of (let next = followed op m in next.order)
  where
    of : (order : Option ℕ) → let s = after_all (order_ops order ++ op ∷ []) m.saved in let next = followed op m in
        IsSoundPlayer s.queue.entries s.options.random next.player
    of None = op_sound op m.saved.order m none sound
    of (Some order) = op_sound op order m none sound
