-- What the player does where an op takes entries out of the queue, changes the row of the song that it plays, or turns `random`.
use Rattle.std.specs.Prelude.{ℕ, List, [], Bool, Option, Some, None, option_and_then, if◌then◌else◌}
use Rattle.play_queue.specs.declared.entry.Entry.{Entry}
use Rattle.player_core.specs.declared.block.Block.{Block}
use Rattle.player_core.specs.Order.{current_entry}
use Rattle.player_core.specs.Player.{PlayerState, Step}
use Rattle.player_core.specs.Reports.{followed as when_entries_leave, cut, turned}
use Rattle.player_core.specs.Words.{next_order}
use Rattle.song_db.specs.Row.{Row, row_at}
use Rattle.song_db.specs.Scan.{drops_of}
use Rattle.song_db.specs.declared.change.RowChange.{RowChange}
use Rattle.state_codec.specs.Applied.{after}
use Rattle.state_codec.specs.SavedState.{SavedState}
use Rattle.state_codec.specs.declared.op.Op.{Op}
use Rattle.state_codec.specs.declared.op.Op.TheVariants.{SetOption, SetVolume, SetOrder, Queue, List as Lists, Sticker, Batch, Place, Timed}
use Rattle.state_codec.specs.declared.op.queue_op.QueueOp.{QueueOp}
use Rattle.state_codec.specs.declared.op.queue_op.QueueOp.TheVariants.{Add, Delete, Move, Swap, Shuffle, Prio}
use Rattle.state_codec.specs.declared.op.setting.Setting.{Setting}
use Rattle.state_codec.specs.declared.op.setting.Setting.TheVariants.{Repeat, Random, Single, Consume}
use Rattle.machine_core.specs.State.{MachineState, settings_of}

-- the player after an op, and the number of the random order that begins before the op, if one does
pub record Following : Type 0 where
  pub player : PlayerState
  pub order : Option ℕ

abbrev pub stays : MachineState → Following
stays m = record { player = m.player; order = None }

-- where `random` begins, a new random order does
abbrev pub follows_random : Bool → MachineState → Following
follows_random on m = record { player = turned on m.player; order = if on then Some (next_order m.saved.order) else None }

abbrev pub follows_setting : Setting → MachineState → Following
follows_setting (Repeat on) m = stays m
follows_setting (Random on) m = follows_random on m
follows_setting (Single single) m = stays m
follows_setting (Consume consume) m = stays m

-- the step of the player as a block of entries leaves the queue, and the entries of dropped songs
abbrev pub step_as_they_leave : Block → List (List ℕ) → MachineState → Step
step_as_they_leave block dropped m = when_entries_leave m.saved.queue.entries (settings_of m.saved) block dropped m.player

abbrev pub of_step : Step → Following
of_step step = record { player = step.player; order = step.changes.order }

abbrev pub follows_queue : QueueOp → MachineState → Following
follows_queue (Add at rows) m = stays m
follows_queue (Delete start end) m = of_step (step_as_they_leave (record { start = start; end = end }) [] m)
follows_queue (Move start end to) m = stays m
follows_queue (Swap one other) m = stays m
follows_queue (Shuffle start end) m = stays m
follows_queue (Prio priority ranges) m = stays m

-- the row of the song of an entry, and of the one that is current
abbrev pub entry_row : List Row → Entry → Option Row
entry_row songs entry = row_at songs entry.uri

abbrev pub current_row : SavedState → PlayerState → Option Row
current_row s player = option_and_then (entry_row s.songs) (current_entry s.queue.entries player.current)

-- the frame position is cut to the frames of this row
abbrev pub cut_to : Option Row → PlayerState → PlayerState
cut_to None player = player
cut_to (Some row) player = cut row.frames player

-- and so it is to those of the song that is current after a batch
abbrev pub cut_after : List RowChange → MachineState → Following → Following
cut_after changes m next =
    record next { player = cut_to (current_row (after (Batch changes) m.saved) next.player) next.player }

abbrev pub no_block : Block
no_block = record { start = 0; end = 0 }

abbrev pub follows_batch : List RowChange → MachineState → Following
follows_batch changes m = cut_after changes m (of_step (step_as_they_leave no_block (drops_of changes) m))

-- what the player does at an op that changes something
abbrev pub followed : Op → MachineState → Following
followed (SetOption setting) m = follows_setting setting m
followed (SetVolume volume) m = stays m
followed (SetOrder order) m = stays m
followed (Queue op) m = follows_queue op m
followed (Lists op) m = stays m
followed (Sticker op) m = stays m
followed (Batch changes) m = follows_batch changes m
followed (Place op) m = stays m
followed (Timed seconds) m = stays m
