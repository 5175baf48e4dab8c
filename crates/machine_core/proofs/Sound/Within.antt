-- Each form of a command's meaning keeps the frame position within the song that is current, beside a sound player and a queue.
use Rattle.std.proofs.Common.{◌≡◌, ℕ, ◌+◌, Bool, true, false, cond, ◌==◌, List, [], ◌∷◌, ◌++◌, get_or}
use Rattle.std.proofs.Common.{Option, Some, None, Result, Ok, Err, refl, sym, subst, arith}
use Rattle.std.specs.List.{find, list_any}
use Rattle.std.specs.Prelude.{min, option_and_then}
use Rattle.play_queue.specs.Entries.{Uris, deleted}
use Rattle.play_queue.specs.Queue.{IsQueue, ruled}
use Rattle.play_queue.specs.declared.entry.Entry.{Entry}
use Rattle.player_core.specs.Choice.{chosen, placed}
use Rattle.player_core.specs.Commands.{again_from, begun, gone_back, halted, in_front, named}
use Rattle.player_core.specs.Commands.{played_from, previous_one, resumed, stepped, stepped_if_any}
use Rattle.player_core.specs.Commands.{to_resume, unless_stopped}
use Rattle.player_core.specs.Ending.{ended, ended_in, followed_by, gone_on_or_stopped, held_if, over, over_at, repeats_one, waits}
use Rattle.player_core.specs.Order.{current_entry}
use Rattle.player_core.specs.Player.{PlayerState, Step, gone_on, gone_to, in_round, left_out, started, stopped_without_song, unchanged}
use Rattle.player_core.specs.Player.{without}
use Rattle.player_core.specs.Reports.{broken, counts, failed, failed_of, failure, followed_at, gone, gone_in_pause, gone_on_without, passed}
use Rattle.player_core.specs.Reports.{passes, takes_at}
use Rattle.player_core.specs.Seek.{frame_at, frame_from, put_to, sought, sought_current, sought_here}
use Rattle.player_core.specs.declared.block.Block.{Block}
use Rattle.player_core.specs.declared.choice.Choice.{Choice}
use Rattle.player_core.specs.declared.failure.BrokenCause.{BrokenCause}
use Rattle.player_core.specs.declared.manners.Manners.{Manners}
use Rattle.player_core.specs.declared.manners.Manners.TheVariants.{Named, Mpd}
use Rattle.player_core.specs.declared.options.Single.{Single}
use Rattle.player_core.specs.declared.options.Single.TheVariants.{Off}
use Rattle.player_core.specs.declared.playing.PlayState.{PlayState}
use Rattle.player_core.specs.declared.playing.PlayState.TheVariants.{Stop, Play, Pause}
use Rattle.player_core.specs.declared.refusal.PlayerError.{PlayerError}
use Rattle.player_core.specs.declared.seek.SeekTime.{SeekTime}
use Rattle.player_core.specs.declared.seek.SongLength.{SongLength}
use Rattle.player_core.specs.declared.selector.Selector.{Selector}
use Rattle.player_core.specs.declared.settings.PlaySettings.{PlaySettings}
use Rattle.song_db.specs.Row.{Row}
use Rattle.song_db.specs.Scan.{drops_of}
use Rattle.song_db.specs.declared.change.RowChange.{RowChange}
use Rattle.state_codec.specs.Applied.{after, after_all, refusal_of}
use Rattle.state_codec.specs.OpsQueue.{after_queue, queue_refusal}
use Rattle.state_codec.specs.SavedState.{SavedState}
use Rattle.state_codec.specs.declared.op.Op.{Op}
use Rattle.state_codec.specs.declared.op.Op.TheVariants.{SetOption, SetVolume, SetOrder, Queue, List as Lists, Sticker, Batch, Place, Timed}
use Rattle.state_codec.specs.declared.op.queue_op.QueueOp.{QueueOp}
use Rattle.state_codec.specs.declared.op.queue_op.QueueOp.TheVariants as queue
use Rattle.state_codec.specs.declared.op.setting.Setting.{Setting}
use Rattle.state_codec.specs.declared.op.setting.Setting.TheVariants as setting
use Rattle.machine_core.specs.Followed.{Following, current_row, cut_to, entry_row, followed, follows_batch, follows_queue, follows_setting}
use Rattle.machine_core.specs.Followed.{no_block, of_step, step_as_they_leave}
use Rattle.machine_core.specs.Meaning.{edited, order_ops}
use Rattle.machine_core.specs.Sound.{IsSound, IsSoundMachine, IsWithinSong}
use Rattle.machine_core.specs.State.{MachineState, settings_of}
use Rattle.machine_core.specs.Steps.{consume_ops, current_length, from_named, length_of, moves, named_entry, named_length}
use Rattle.machine_core.specs.Steps.{puts, removal_ops, single_ops, step_in, steps, without_consume}
use Rattle.machine_core.specs.declared.steps.PlayerStep.{PlayerStep}
use Rattle.machine_core.specs.declared.steps.PlayerStep.TheVariants.{Resume, Play as PlayNamed, Seek, Next, Ended, Failed}
use Rattle.machine_core.proofs.CommandForms.{KeptBy}
use Rattle.machine_core.proofs.Sound.Edits.{op_has, ruled_has, song_test}
use Rattle.machine_core.proofs.Sound.Forms.{edited_sound, moves_sound}
use Rattle.machine_core.proofs.Sound.Frame.{FrameWithin, is_song, least_within, named_row, none_within, row_kept, row_kept_at}
use Rattle.machine_core.proofs.Sound.Leaving.{stays_deleted}
use Rattle.machine_core.proofs.Sound.Playing.{ended_alone, failed_alone}
use Rattle.machine_core.proofs.Sound.Queues.{consumed_stays, batch_stays, queue_stays}
use Rattle.machine_core.proofs.Sound.Steps.{IsAt, no_entry, none_placed, placed_at, stays_song}

-- the frames of the song that is current among these entries
abbrev Framed : List Row → List Entry → PlayerState → Type 0
Framed songs entries player = FrameWithin (option_and_then (entry_row songs) (current_entry entries player.current)) player.frame

framed_none : (songs : List Row) (entries : List Entry) (player : PlayerState) → player.frame ≡ 0 → Framed songs entries player
framed_none songs entries player is = none_within (option_and_then (entry_row songs) (current_entry entries player.current)) player.frame is

-- ---- ops

setting_framed : (op : Setting) (m : MachineState) → IsWithinSong m → let next = follows_setting op m in
    Framed m.saved.songs m.saved.queue.entries next.player
setting_framed (setting.Repeat on) m h = h
setting_framed (setting.Random on) m h = h
setting_framed (setting.Single single) m h = h
setting_framed (setting.Consume consume) m h = h

kept_framed : (op : QueueOp) (order : ℕ) (m : MachineState) → queue_refusal op m.saved ≡ None
    → let s = after_queue op (record m.saved { order = order }) in
    IsQueue s.queue → ((id : ℕ) (uri : List ℕ) → list_any (is_song id uri) m.saved.queue.entries ≡ true
    → list_any (is_song id uri) s.queue.entries ≡ true) → IsSoundMachine m → Framed m.saved.songs s.queue.entries m.player
kept_framed op order m none stays carries holds =
    subst (λ row. FrameWithin row m.player.frame)
    (sym (row_kept m.saved.songs m.saved.queue.entries _ m.player.current holds.queue.own_ids stays.own_ids carries holds.sound.current))
    holds.frame

gone_on_none : (random : Bool) (player : PlayerState) (id : Option ℕ) → (gone_to random player id).frame ≡ 0
gone_on_none random player None = refl
gone_on_none random player (Some id) = refl

without_none : (entries : List Entry) (settings : PlaySettings) (block : Block) (dropped : Uris) (player : PlayerState)
    (place : ℕ × ℕ) → let step = gone_on_without entries settings block dropped player place in step.player.frame ≡ 0
without_none entries settings block dropped player place = of (repeats_one settings.manners settings.options)
  where
    choice : Choice
    choice = chosen settings entries block dropped player.played place.0 place.1

    of : (b : Bool) → let step : Step = cond b (unchanged (stopped_without_song (left_out block dropped entries player)))
        (stepped settings.options.random (left_out block dropped entries player) choice) in step.player.frame ≡ 0
    of true = refl
    of false = gone_on_none settings.options.random (in_round choice.order (left_out block dropped entries player)) choice.id

pause_none : (by : Manners) (entries : List Entry) (settings : PlaySettings) (block : Block) (dropped : Uris) (player : PlayerState)
    (place : ℕ × ℕ) → let step = gone_in_pause by entries settings block dropped player place in step.player.frame ≡ 0
pause_none Named entries settings block dropped player place = refl
pause_none Mpd entries settings block dropped player place = refl

gone_none : (state : PlayState) (entries : List Entry) (settings : PlaySettings) (block : Block) (dropped : Uris) (player : PlayerState)
    (place : ℕ × ℕ) → let step = gone state entries settings block dropped player place in step.player.frame ≡ 0
gone_none Play entries settings block dropped player place = without_none entries settings block dropped player place
gone_none Pause entries settings block dropped player place =
    pause_none settings.manners entries settings block dropped player place
gone_none Stop entries settings block dropped player place = refl

-- a block leaves
left_framed : (m : MachineState) (start end : ℕ) (place : Option (ℕ × ℕ)) → placed m.saved.queue.entries m.player.current ≡ place
    → IsQueue (ruled m.saved.queue (deleted m.saved.queue.entries start end) []) → IsSoundMachine m
    → let step = followed_at m.saved.queue.entries (settings_of m.saved) (record { start = start; end = end }) [] m.player place in
    Framed m.saved.songs (ruled m.saved.queue (deleted m.saved.queue.entries start end) []).entries step.player
left_framed m start end None is stays holds =
    let nothing : m.player.current ≡ None = none_placed m.saved.queue.entries m.player.current is holds.sound.current in
    subst (λ (o : Option ℕ). FrameWithin (option_and_then (entry_row m.saved.songs)
    (current_entry (ruled m.saved.queue (deleted m.saved.queue.entries start end) []).entries o)) m.player.frame) (sym nothing) tt
left_framed m start end (Some place) is stays holds = of (takes_at block [] entries place.0) refl
  where
    block : Block
    block = record { start = start; end = end }

    entries : List Entry
    entries = m.saved.queue.entries

    after_it : List Entry
    after_it = (ruled m.saved.queue (deleted entries start end) []).entries

    at : IsAt entries m.player.current place
    at = placed_at entries m.player.current place is

    of : (b : Bool) → takes_at block [] entries place.0 ≡ b
        → let step : Step = cond b (gone m.player.state entries (settings_of m.saved) block [] m.player place)
        (unchanged (left_out block [] entries m.player)) in Framed m.saved.songs after_it step.player
    of true leaves =
        let step = gone m.player.state entries (settings_of m.saved) block [] m.player place in
        framed_none m.saved.songs after_it step.player (gone_none m.player.state entries (settings_of m.saved) block [] m.player place)
    of false here =
        let uri = (get_or entries place.0 no_entry).uri in
        subst (λ row. FrameWithin row m.player.frame)
        (sym (row_kept_at m.saved.songs entries after_it m.player.current place holds.queue.own_ids stays.own_ids at
        (ruled_has (is_song place.1 uri) (song_test place.1 uri) m.saved.queue (deleted entries start end) []
        (stays_deleted (is_song place.1 uri) start end entries (stays_song block [] entries m.player.current place at here)))))
        holds.frame

queue_framed : (op : QueueOp) (order : ℕ) (m : MachineState) → queue_refusal op m.saved ≡ None → IsSoundMachine m
    → let s = after_queue op (record m.saved { order = order }) in let next = follows_queue op m in
    Framed m.saved.songs s.queue.entries next.player
queue_framed (queue.Add at rows) order m none holds =
    let s = record m.saved { order = order } in
    kept_framed (queue.Add at rows) order m none (queue_stays (queue.Add at rows) s none holds.queue)
    (λ id uri. op_has (is_song id uri) (song_test id uri) (queue.Add at rows) s none refl) holds
queue_framed (queue.Delete start end) order m none holds =
    left_framed m start end (placed m.saved.queue.entries m.player.current) refl
    (queue_stays (queue.Delete start end) m.saved none holds.queue) holds
queue_framed (queue.Move start end to) order m none holds =
    let s = record m.saved { order = order } in
    kept_framed (queue.Move start end to) order m none (queue_stays (queue.Move start end to) s none holds.queue)
    (λ id uri. op_has (is_song id uri) (song_test id uri) (queue.Move start end to) s none refl) holds
queue_framed (queue.Swap one other) order m none holds =
    let s = record m.saved { order = order } in
    kept_framed (queue.Swap one other) order m none (queue_stays (queue.Swap one other) s none holds.queue)
    (λ id uri. op_has (is_song id uri) (song_test id uri) (queue.Swap one other) s none refl) holds
queue_framed (queue.Shuffle start end) order m none holds =
    let s = record m.saved { order = order } in
    kept_framed (queue.Shuffle start end) order m none (queue_stays (queue.Shuffle start end) s none holds.queue)
    (λ id uri. op_has (is_song id uri) (song_test id uri) (queue.Shuffle start end) s none refl) holds
queue_framed (queue.Prio priority ranges) order m none holds =
    let s = record m.saved { order = order } in
    kept_framed (queue.Prio priority ranges) order m none (queue_stays (queue.Prio priority ranges) s none holds.queue)
    (λ id uri. op_has (is_song id uri) (song_test id uri) (queue.Prio priority ranges) s none refl) holds

songs_stay : (op : QueueOp) (s : SavedState) → (after_queue op s).songs ≡ s.songs
songs_stay (queue.Add at rows) s = refl
songs_stay (queue.Delete start end) s = refl
songs_stay (queue.Move start end to) s = refl
songs_stay (queue.Swap one other) s = refl
songs_stay (queue.Shuffle start end) s = refl
songs_stay (queue.Prio priority ranges) s = refl

-- a batch cuts the frame position
cut_framed : (songs : List Row) (entries : List Entry) (player : PlayerState) (row : Option Row)
    → option_and_then (entry_row songs) (current_entry entries player.current) ≡ row → Framed songs entries (cut_to row player)
cut_framed songs entries player None is = subst (λ row. FrameWithin row player.frame) (sym is) tt
cut_framed songs entries player (Some row) is =
    subst (λ (r : Option Row). FrameWithin r (min player.frame row.frames)) (sym is) (omega arith)

pub batch_framed : (changes : List RowChange) (order : ℕ) (m : MachineState)
    → let s = after (Batch changes) (record m.saved { order = order }) in let next = follows_batch changes m in
    Framed s.songs s.queue.entries next.player
batch_framed changes order m =
    let s = after (Batch changes) (record m.saved { order = order }) in
    let left = of_step (step_as_they_leave no_block (drops_of changes) m) in
    cut_framed s.songs s.queue.entries left.player _ refl

op_framed : (op : Op) (order : ℕ) (m : MachineState) → refusal_of op m.saved ≡ None → IsSoundMachine m
    → let s = after op (record m.saved { order = order }) in let next = followed op m in Framed s.songs s.queue.entries next.player
op_framed (SetOption op) order m none holds = setting_framed op m holds.frame
op_framed (SetVolume volume) order m none holds = holds.frame
op_framed (SetOrder other) order m none holds = holds.frame
op_framed (Queue op) order m none holds =
    let next = follows_queue op m in
    subst (λ (songs : List Row). Framed songs (after_queue op (record m.saved { order = order })).queue.entries next.player)
    (sym (songs_stay op (record m.saved { order = order }))) (queue_framed op order m none holds)
op_framed (Lists op) order m none holds = holds.frame
op_framed (Sticker op) order m none holds = holds.frame
op_framed (Batch changes) order m none holds = batch_framed changes order m
op_framed (Place op) order m none holds = holds.frame
op_framed (Timed seconds) order m none holds = holds.frame

queue_none : (op : QueueOp) (order : ℕ) (m : MachineState) → queue_refusal op m.saved ≡ None
    → queue_refusal op (record m.saved { order = order }) ≡ None
queue_none (queue.Add at rows) order m none = none
queue_none (queue.Delete start end) order m none = none
queue_none (queue.Move start end to) order m none = none
queue_none (queue.Swap one other) order m none = none
queue_none (queue.Shuffle start end) order m none = none
queue_none (queue.Prio priority ranges) order m none = none

op_queue : (op : Op) (order : ℕ) (m : MachineState) → refusal_of op m.saved ≡ None → IsQueue m.saved.queue
    → let s = after op (record m.saved { order = order }) in IsQueue s.queue
op_queue (SetOption op) order m none h = h
op_queue (SetVolume volume) order m none h = h
op_queue (SetOrder other) order m none h = h
op_queue (Queue op) order m none h = queue_stays op (record m.saved { order = order }) (queue_none op order m none) h
op_queue (Lists op) order m none h = h
op_queue (Sticker op) order m none h = h
op_queue (Batch changes) order m none h = batch_stays m.saved.queue (drops_of changes) _ h
op_queue (Place op) order m none h = h
op_queue (Timed seconds) order m none h = h

pub edited_holds : (op : Op) (text : List ℕ) (m : MachineState) → refusal_of op m.saved ≡ None → IsSoundMachine m
    → let x = edited op text (followed op m) m in IsSoundMachine x.after
edited_holds op text m none holds = record {
  queue = queue_of next.order;
  sound = edited_sound op text m none holds.sound;
  frame = frame_of next.order;
}
  where
    next : Following
    next = followed op m

    queue_of : (order : Option ℕ) → IsQueue (after_all (order_ops order ++ op ∷ []) m.saved).queue
    queue_of None = op_queue op m.saved.order m none holds.queue
    queue_of (Some order) = op_queue op order m none holds.queue

    frame_of : (order : Option ℕ) → let s = after_all (order_ops order ++ op ∷ []) m.saved in Framed s.songs s.queue.entries next.player
    frame_of None = op_framed op m.saved.order m none holds
    frame_of (Some order) = op_framed op order m none holds

-- ---- steps

-- `single` and `consume` turn off
turned_off_queue : (single consume : Bool) (s : SavedState) → IsQueue s.queue
    → IsQueue (after_all (single_ops single ++ consume_ops consume) s).queue
turned_off_queue true true s h = h
turned_off_queue true false s h = h
turned_off_queue false true s h = h
turned_off_queue false false s h = h

changed_queue : (m : MachineState) (order removed : Option ℕ) (single consume : Bool) → IsQueue m.saved.queue
    → IsQueue (after_all (order_ops order ++ (removal_ops removed ++ (single_ops single ++ consume_ops consume))) m.saved).queue
changed_queue m None None single consume h = turned_off_queue single consume m.saved h
changed_queue m (Some order) None single consume h = turned_off_queue single consume (record m.saved { order = order }) h
changed_queue m None (Some at) single consume h =
    turned_off_queue single consume (after (Queue (queue.Delete at (at + 1))) m.saved) (consumed_stays m.saved.queue at h)
changed_queue m (Some order) (Some at) single consume h =
    turned_off_queue single consume (after (Queue (queue.Delete at (at + 1))) (record m.saved { order = order }))
    (consumed_stays m.saved.queue at h)

-- the frame position after a step
abbrev StepWithin : MachineState → Step → Type 0
StepWithin m step = let x = steps step m in IsWithinSong x.after

-- a song that starts, and a player that stops, has frame 0
begins_within : (m : MachineState) (step : Step) → step.player.frame ≡ 0 → StepWithin m step
begins_within m step is = let x = steps step m in none_within (current_row x.after.saved step.player) step.player.frame is

next_none : (random : Bool) (player : PlayerState) (next : Option Choice) → (gone_on_or_stopped random player next).frame ≡ 0
next_none random player None = refl
next_none random player (Some choice) = gone_on_none random (in_round choice.order player) choice.id

held_none : (b : Bool) (player : PlayerState) → player.frame ≡ 0 → (held_if b player).frame ≡ 0
held_none true player is = is
held_none false player is = is

over_within : (m : MachineState) (single : Single) (place : Option (ℕ × ℕ)) → IsWithinSong m
    → StepWithin m (over_at m.saved.queue.entries (settings_of m.saved) single m.player place)
over_within m single None h = h
over_within m single (Some place) h =
    begins_within m (over_at m.saved.queue.entries (settings_of m.saved) single m.player (Some place))
    (held_none (waits single (settings_of m.saved).manners m.saved.options.repeat) _ (next_none m.saved.options.random _
    (followed_by (settings_of m.saved) single m.saved.queue.entries m.player.played place.0 place.1)))

ended_within : (m : MachineState) (state : PlayState) (ticket : ℕ) → IsWithinSong m
    → StepWithin m (ended_in state m.saved.queue.entries (settings_of m.saved) m.player ticket)
ended_within m Stop ticket h = h
ended_within m Pause ticket h = h
ended_within m Play ticket h = of (m.player.ticket == ticket)
  where
    of : (b : Bool) → StepWithin m (cond b (over m.saved.queue.entries (settings_of m.saved) m.saved.options.single m.player)
        (unchanged m.player))
    of true = over_within m m.saved.options.single (placed m.saved.queue.entries m.player.current) h
    of false = h

broken_within : (m : MachineState) (ticket : ℕ) (cause : BrokenCause) (uri : List ℕ) → IsWithinSong m
    → StepWithin m (unchanged (broken m.player ticket cause uri))
broken_within m ticket cause uri h = of (counts m.player.state m.player.ticket ticket)
  where
    of : (b : Bool)
        → IsWithinSong (record m { player = cond b (record m.player { state = Stop; error = Some (failure cause uri) }) m.player })
    of true = h
    of false = h

failed_within : (m : MachineState) (ticket : ℕ) (cause : BrokenCause) (entry : Option Entry) → IsWithinSong m
    → StepWithin m (failed_of m.saved.queue.entries (settings_of m.saved) m.player ticket cause entry)
failed_within m ticket cause None h = h
failed_within m ticket cause (Some entry) h = of (passes m.saved.queue.entries (settings_of m.saved) m.player ticket cause)
  where
    of : (b : Bool) → StepWithin m (cond b (passed m.saved.queue.entries (settings_of m.saved) m.player entry.uri)
        (unchanged (broken m.player ticket cause entry.uri)))
    of true = over_within m Off (placed m.saved.queue.entries m.player.current) h
    of false = broken_within m ticket cause entry.uri h

resumed_within : (m : MachineState) (state : PlayState) → IsWithinSong m
    → StepWithin m (resumed state m.saved.queue.entries (settings_of m.saved) m.player)
resumed_within m Play h = h
resumed_within m Pause h = h
resumed_within m Stop h = of choice.id
  where
    choice : Choice
    choice = to_resume (settings_of m.saved) m.saved.queue.entries m.player.current

    of : (id : Option ℕ) → StepWithin m (stepped_if_any m.saved.options.random m.player choice id)
    of None = h
    of (Some id) =
        begins_within m (stepped m.saved.options.random m.player choice)
        (gone_on_none m.saved.options.random (in_round choice.order m.player) choice.id)

-- where a song is sought
length_within : (row : Option Row) → FrameWithin row (length_of row).frames
length_within None = tt
length_within (Some row) = omega arith

sought_framed : (songs : List Row) (entries : List Entry) (settings : PlaySettings) (current : Option ℕ) (player : PlayerState) (id : ℕ)
    (state : PlayState) (song : SongLength) (frame : ℕ)
    → FrameWithin (option_and_then (entry_row songs) (find (λ entry. entry.id == id) entries)) song.frames
    → Framed songs entries (put_to state song frame (gone_on settings.options.random player (begun settings current id)))
sought_framed songs entries settings None player id state song frame h = least_within _ frame song.frames h
sought_framed songs entries settings (Some current) player id state song frame h = least_within _ frame song.frames h

sought_within : (m : MachineState) (selector : Selector) (milliseconds id : ℕ) → named selector m.saved.queue.entries ≡ Ok id
    → IsSoundMachine m
    → StepWithin m (sought (settings_of m.saved) (named_length selector m) milliseconds m.player id)
sought_within m selector milliseconds id is holds = of (let choice = begun (settings_of m.saved) m.player.current id in choice.order)
  where
    song : SongLength
    song = named_length selector m

    there : FrameWithin (option_and_then (entry_row m.saved.songs) (find (λ entry. entry.id == id) m.saved.queue.entries)) song.frames
    there = subst (λ row. FrameWithin row song.frames) (named_row m.saved.songs selector m.saved.queue.entries id holds.queue.own_ids is)
        (length_within (option_and_then (entry_row m.saved.songs) (named_entry selector m.saved.queue.entries)))

    player : PlayerState
    player = put_to m.player.state song (frame_at song milliseconds)
        (gone_on m.saved.options.random m.player (begun (settings_of m.saved) m.player.current id))

    framed : Framed m.saved.songs m.saved.queue.entries player
    framed = sought_framed m.saved.songs m.saved.queue.entries (settings_of m.saved) m.player.current m.player id m.player.state song
        (frame_at song milliseconds) there

    of : (order : Option ℕ) → let s = after_all (order_ops order ++ []) m.saved in Framed s.songs s.queue.entries player
    of None = framed
    of (Some order) = framed

-- a step that may be refused
abbrev MadeWithin : MachineState → Result Step PlayerError → Type 0
MadeWithin m (Ok step) = StepWithin m step
MadeWithin m (Err refusal) = Unit {0}

named_within : (m : MachineState) (found : Result ℕ PlayerError) (step : ℕ → Step)
    → ((id : ℕ) → found ≡ Ok id → StepWithin m (step id)) → MadeWithin m (from_named found step)
named_within m (Ok id) step within = within id refl
named_within m (Err refusal) step within = tt

unless_stopped_within : (m : MachineState) (state : PlayState) (step : Step) → StepWithin m step → MadeWithin m (unless_stopped state step)
unless_stopped_within m Stop step within = tt
unless_stopped_within m Play step within = within
unless_stopped_within m Pause step within = within

moved_holds : (made : Result Step PlayerError) (m : MachineState) → KeptBy IsSound m (moves made m) → (IsSoundMachine m → MadeWithin m made)
    → KeptBy IsSoundMachine m (moves made m)
moved_holds (Ok step) m sound within = λ holds. record {
  queue = changed_queue m step.changes.order step.changes.removed step.changes.single_off step.changes.consume_off holds.queue;
  sound = sound holds.sound;
  frame = within holds;
}
moved_holds (Err refusal) m sound within = tt

pub seek_holds : (m : MachineState) (selector : Selector) (milliseconds : ℕ)
    → KeptBy IsSoundMachine m (moves (step_in (Seek selector (named_length selector m) milliseconds) m) m)
seek_holds m selector milliseconds =
    let step : PlayerStep = Seek selector (named_length selector m) milliseconds in
    moved_holds (step_in step m) m (moves_sound step m) (λ holds.
    named_within m (named selector m.saved.queue.entries)
    (λ id. sought (settings_of m.saved) (named_length selector m) milliseconds m.player id)
    (λ id is. sought_within m selector milliseconds id is holds))

pub next_holds : (m : MachineState) → KeptBy IsSoundMachine m (moves (step_in Next m) m)
next_holds m =
    moved_holds (step_in Next m) m (moves_sound Next m) (λ holds.
    unless_stopped_within m m.player.state (over m.saved.queue.entries (settings_of m.saved) Off m.player)
    (over_within m Off (placed m.saved.queue.entries m.player.current) holds.frame))

pub resume_holds : (m : MachineState) → KeptBy IsSoundMachine m (moves (step_in Resume m) m)
resume_holds m = moved_holds (step_in Resume m) m (moves_sound Resume m) (λ holds. resumed_within m m.player.state holds.frame)

pub play_holds : (m : MachineState) (selector : Selector) → KeptBy IsSoundMachine m (moves (step_in (PlayNamed selector) m) m)
play_holds m selector =
    moved_holds (step_in (PlayNamed selector) m) m (moves_sound (PlayNamed selector) m) (λ holds.
    named_within m (named selector m.saved.queue.entries) (λ id. played_from (settings_of m.saved) m.player id) (λ id is.
    let choice = begun (settings_of m.saved) m.player.current id in
    begins_within m (played_from (settings_of m.saved) m.player id)
    (gone_on_none m.saved.options.random (in_round choice.order m.player) choice.id)))

pub ended_holds : (m : MachineState) (ticket : ℕ) → KeptBy IsSoundMachine m (moves (step_in (Ended ticket) m) m)
ended_holds m ticket =
    moved_holds (step_in (Ended ticket) m) m (moves_sound (Ended ticket) m) (λ holds.
    ended_within m m.player.state ticket holds.frame)

pub failed_holds : (m : MachineState) (ticket : ℕ) (cause : BrokenCause)
    → KeptBy IsSoundMachine m (moves (step_in (Failed ticket cause) m) m)
failed_holds m ticket cause =
    moved_holds (step_in (Failed ticket cause) m) m (moves_sound (Failed ticket cause) m) (λ holds.
    failed_within m ticket cause (current_entry m.saved.queue.entries m.player.current) holds.frame)

-- ---- steps by which no entry leaves the queue

over_framed : (songs : List Row) (entries : List Entry) (settings : PlaySettings) (single : Single) (player : PlayerState)
    (place : Option (ℕ × ℕ)) → Framed songs entries player
    → let step = over_at entries settings single player place in Framed songs entries step.player
over_framed songs entries settings single player None h = h
over_framed songs entries settings single player (Some place) h =
    let step = over_at entries settings single player (Some place) in
    framed_none songs entries step.player
    (held_none (waits single settings.manners settings.options.repeat) _ (next_none settings.options.random _
    (followed_by settings single entries player.played place.0 place.1)))

ended_framed : (songs : List Row) (entries : List Entry) (settings : PlaySettings) (state : PlayState) (player : PlayerState) (ticket : ℕ)
    → Framed songs entries player → let step = ended_in state entries settings player ticket in Framed songs entries step.player
ended_framed songs entries settings Stop player ticket h = h
ended_framed songs entries settings Pause player ticket h = h
ended_framed songs entries settings Play player ticket h = of (player.ticket == ticket)
  where
    of : (b : Bool) → let step : Step = cond b (over entries settings settings.options.single player) (unchanged player) in
        Framed songs entries step.player
    of true = over_framed songs entries settings settings.options.single player (placed entries player.current) h
    of false = h

failed_framed : (songs : List Row) (entries : List Entry) (settings : PlaySettings) (player : PlayerState) (ticket : ℕ)
    (cause : BrokenCause) (entry : Option Entry) → Framed songs entries player
    → let step = failed_of entries settings player ticket cause entry in Framed songs entries step.player
failed_framed songs entries settings player ticket cause None h = h
failed_framed songs entries settings player ticket cause (Some entry) h = of (passes entries settings player ticket cause)
  where
    stopped_by : (b : Bool)
        → Framed songs entries (cond b (record player { state = Stop; error = Some (failure cause entry.uri) }) player)
    stopped_by true = h
    stopped_by false = h

    of : (b : Bool)
        → let step : Step = cond b (passed entries settings player entry.uri) (unchanged (broken player ticket cause entry.uri)) in
        Framed songs entries step.player
    of true = over_framed songs entries settings Off player (placed entries player.current) h
    of false = stopped_by (counts player.state player.ticket ticket)

-- so the player makes such a step beside the queue that it had
pub ended_alone_holds : (m : MachineState) (ticket : ℕ) → IsSoundMachine m
    → let step = ended m.saved.queue.entries (without_consume (settings_of m.saved)) m.player ticket in
    IsSoundMachine (record m { player = step.player })
ended_alone_holds m ticket holds = record {
  queue = holds.queue;
  sound = ended_alone m.player.state m.saved.queue.entries (without_consume (settings_of m.saved)) m.player ticket refl holds.sound;
  frame = ended_framed m.saved.songs m.saved.queue.entries (without_consume (settings_of m.saved)) m.player.state m.player ticket
      holds.frame;
}

pub failed_alone_holds : (m : MachineState) (ticket : ℕ) (cause : BrokenCause) → IsSoundMachine m
    → let step = failed m.saved.queue.entries (without_consume (settings_of m.saved)) m.player ticket cause in
    IsSoundMachine (record m { player = step.player })
failed_alone_holds m ticket cause holds = record {
  queue = holds.queue;
  sound = failed_alone m.saved.queue.entries (without_consume (settings_of m.saved)) m.player ticket cause refl holds.sound;
  frame = failed_framed m.saved.songs m.saved.queue.entries (without_consume (settings_of m.saved)) m.player ticket cause
      (current_entry m.saved.queue.entries m.player.current) holds.frame;
}

-- ---- commands that change the player alone

abbrev pub PlayerWithin : MachineState → Result PlayerState PlayerError → Type 0
PlayerWithin m (Ok player) = Framed m.saved.songs m.saved.queue.entries player
PlayerWithin m (Err refusal) = Unit {0}

unless_stopped_player : (m : MachineState) (state : PlayState) (player : PlayerState) → Framed m.saved.songs m.saved.queue.entries player
    → PlayerWithin m (unless_stopped state player)
unless_stopped_player m Stop player within = tt
unless_stopped_player m Play player within = within
unless_stopped_player m Pause player within = within

back_within : (m : MachineState) (place : Option (ℕ × ℕ)) → IsWithinSong m
    → Framed m.saved.songs m.saved.queue.entries (gone_back m.saved.queue.entries (settings_of m.saved) m.player place)
back_within m None h = h
back_within m (Some place) h = of m.saved.options.random
  where
    of : (b : Bool) → Framed m.saved.songs m.saved.queue.entries
        (cond b (again_from place.1 m.player (without place.1 m.player.played))
        (started false m.player (in_front m.saved.options.repeat m.saved.queue.entries place.0 place.1)))
    of true =
        framed_none m.saved.songs m.saved.queue.entries (again_from place.1 m.player (without place.1 m.player.played)) refl
    of false =
        framed_none m.saved.songs m.saved.queue.entries
        (started false m.player (in_front m.saved.options.repeat m.saved.queue.entries place.0 place.1)) refl

sought_here_within : (m : MachineState) (time : SeekTime) (current : Option ℕ) → m.player.current ≡ current → IsWithinSong m
    → Framed m.saved.songs m.saved.queue.entries (sought_current (settings_of m.saved) (current_length m) time m.player current)
sought_here_within m time None is h = h
sought_here_within m time (Some id) is h =
    least_within _ (frame_from (current_length m) m.player.frame time) (current_length m).frames
    (subst (λ (o : Option ℕ). FrameWithin (option_and_then (entry_row m.saved.songs) (current_entry m.saved.queue.entries o))
    (current_length m).frames) is (length_within (current_row m.saved m.player)))

put_holds : (made : Result PlayerState PlayerError) (m : MachineState) → KeptBy IsSound m (puts made m)
    → (IsSoundMachine m → PlayerWithin m made)
    → KeptBy IsSoundMachine m (puts made m)
put_holds (Ok player) m sound within = λ holds. record { queue = holds.queue; sound = sound holds.sound; frame = within holds }
put_holds (Err refusal) m sound within = tt

pub previous_holds : (m : MachineState) → KeptBy IsSound m (puts (previous_one m.saved.queue.entries (settings_of m.saved) m.player) m)
    → KeptBy IsSoundMachine m (puts (previous_one m.saved.queue.entries (settings_of m.saved) m.player) m)
previous_holds m sound =
    put_holds (previous_one m.saved.queue.entries (settings_of m.saved) m.player) m sound (λ holds.
    unless_stopped_player m m.player.state _ (back_within m (placed m.saved.queue.entries m.player.current) holds.frame))

pub seek_current_holds : (m : MachineState) (time : SeekTime)
    → KeptBy IsSound m (puts (sought_here (settings_of m.saved) (current_length m) time m.player) m)
    → KeptBy IsSoundMachine m (puts (sought_here (settings_of m.saved) (current_length m) time m.player) m)
seek_current_holds m time sound =
    put_holds (sought_here (settings_of m.saved) (current_length m) time m.player) m sound (λ holds.
    unless_stopped_player m m.player.state _ (sought_here_within m time m.player.current refl holds.frame))

pub halted_within : (m : MachineState) (state : PlayState) → IsWithinSong m
    → Framed m.saved.songs m.saved.queue.entries (halted state m.player)
halted_within m Stop h = h
halted_within m Play h = framed_none m.saved.songs m.saved.queue.entries (halted Play m.player) refl
halted_within m Pause h = framed_none m.saved.songs m.saved.queue.entries (halted Pause m.player) refl
