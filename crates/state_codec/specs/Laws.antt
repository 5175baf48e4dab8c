-- What the laws of ops say.
use Rattle.std.specs.Prelude.{◌≡◌, Bool, true, false, List, [], ◌∷◌, None}
use Rattle.song_db.specs.Change.{after_change}
use Rattle.song_db.specs.Row.{Row}
use Rattle.song_db.specs.declared.change.RowChange.{RowChange}
use Rattle.state_codec.specs.Applied.{refusal_of}
use Rattle.state_codec.specs.SavedState.{SavedState, IsSavedState}
use Rattle.state_codec.specs.declared.op.Op.{Op}
use Rattle.state_codec.specs.declared.op.Op.TheVariants.{SetOption, SetVolume, SetOrder, Queue, List as Lists, Sticker, Batch, Place, Timed}
use Rattle.state_codec.specs.declared.op.list_op.ListOp.{ListOp}
use Rattle.state_codec.specs.declared.op.queue_op.QueueOp.{QueueOp}
use Rattle.state_codec.specs.declared.op.queue_op.QueueOp.TheVariants.{Add, Delete, Move, Swap, Shuffle, Prio}
use Rattle.state_codec.specs.declared.op.sticker_op.StickerOp.{StickerOp}

-- so it is of each op that a saved state doesn't refuse
abbrev pub OfEachOp : (Op → SavedState → Type 0) → Type 0
OfEachOp So = (op : Op) (s : SavedState) → IsSavedState s → refusal_of op s ≡ None → So op s

-- of each op of the queue, of the playlists, of the stickers, and of each batch
abbrev pub OfQueueOps : (QueueOp → SavedState → Type 0) → Type 0
OfQueueOps So = (op : QueueOp) (s : SavedState) → IsSavedState s → refusal_of (Queue op) s ≡ None → So op s

abbrev pub OfListOps : (ListOp → SavedState → Type 0) → Type 0
OfListOps So = (op : ListOp) (s : SavedState) → IsSavedState s → refusal_of (Lists op) s ≡ None → So op s

abbrev pub OfStickerOps : (StickerOp → SavedState → Type 0) → Type 0
OfStickerOps So = (op : StickerOp) (s : SavedState) → IsSavedState s → refusal_of (Sticker op) s ≡ None → So op s

abbrev pub OfBatches : (List RowChange → SavedState → Type 0) → Type 0
OfBatches So = (changes : List RowChange) (s : SavedState) → IsSavedState s → refusal_of (Batch changes) s ≡ None → So changes s

abbrev pub is_batch : Op → Bool
is_batch (SetOption setting) = false
is_batch (SetVolume volume) = false
is_batch (SetOrder order) = false
is_batch (Queue op) = false
is_batch (Lists op) = false
is_batch (Sticker op) = false
is_batch (Batch changes) = true
is_batch (Place op) = false
is_batch (Timed seconds) = false

-- an op of what is kept behind a command: the player's place, and the time of what it changed of playlists
abbrev pub is_behind : Op → Bool
is_behind (SetOption setting) = false
is_behind (SetVolume volume) = false
is_behind (SetOrder order) = false
is_behind (Queue op) = false
is_behind (Lists op) = false
is_behind (Sticker op) = false
is_behind (Batch changes) = false
is_behind (Place op) = true
is_behind (Timed seconds) = true

-- a state with the player's place and the playlists' times as another one has them
abbrev pub but_kept : SavedState → SavedState → SavedState
but_kept t s = record s { place = t.place; changed = t.changed }

-- each change leaves the rows as it finds them
abbrev pub LeaveRows : List Row → List RowChange → Type 0
LeaveRows rows [] = Unit {0}
LeaveRows rows (change ∷ changes) = (after_change rows change ≡ rows) × LeaveRows (after_change rows change) changes

-- a state with the parts that an op of the queue can change as another one has them; a shuffle alone changes the order number
abbrev pub with_queue_of : QueueOp → SavedState → SavedState → SavedState
with_queue_of (Add at rows) s t = record s { queue = t.queue }
with_queue_of (Delete start end) s t = record s { queue = t.queue; place = t.place }
with_queue_of (Move start end to) s t = record s { queue = t.queue }
with_queue_of (Swap one other) s t = record s { queue = t.queue }
with_queue_of (Shuffle start end) s t = record s { order = t.order; queue = t.queue }
with_queue_of (Prio priority ranges) s t = record s { queue = t.queue }

-- a state with the parts that an op can change as another one has them
abbrev pub with_parts_of : Op → SavedState → SavedState → SavedState
with_parts_of (SetOption setting) s t = record s { options = t.options }
with_parts_of (SetVolume volume) s t = record s { volume = t.volume }
with_parts_of (SetOrder order) s t = record s { order = t.order }
with_parts_of (Queue op) s t = with_queue_of op s t
with_parts_of (Lists op) s t = record s { lists = t.lists; changed = t.changed }
with_parts_of (Sticker op) s t = record s { stickers = t.stickers }
with_parts_of (Batch changes) s t = record s { songs = t.songs; queue = t.queue; stickers = t.stickers; place = t.place }
with_parts_of (Place op) s t = record s { place = t.place }
with_parts_of (Timed seconds) s t = record s { changed = t.changed }

-- a shuffle draws its words by the order number
abbrev pub draws_words : QueueOp → Bool
draws_words (Add at rows) = false
draws_words (Delete start end) = false
draws_words (Move start end to) = false
draws_words (Swap one other) = false
draws_words (Shuffle start end) = true
draws_words (Prio priority ranges) = false

-- whether the order number has to do with what an op does: where it is set, and in a shuffle
abbrev pub uses_order : Op → Bool
uses_order (SetOption setting) = false
uses_order (SetVolume volume) = false
uses_order (SetOrder order) = true
uses_order (Queue op) = draws_words op
uses_order (Lists op) = false
uses_order (Sticker op) = false
uses_order (Batch changes) = false
uses_order (Place op) = false
uses_order (Timed seconds) = false
