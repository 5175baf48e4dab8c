-- What the ops of the queue do: the leaf edits, the stamp rule once after each.
use Rattle.std.specs.Prelude.{ℕ, ◌+◌, Bool, false, ◌==◌, List, [], length, map, swap, Option, option_map}
use Rattle.play_queue.specs.declared.entry.Entry.{Entry}
use Rattle.play_queue.specs.Entries.{Uris, block, deleted, moved, added, new_entries, prioritized}
use Rattle.play_queue.specs.Queue.{QueueState, ruled, is_unchanged}
use Rattle.play_queue.specs.Refused.{add_refusal, range_refusal, move_refusal, swap_refusal, ranges_refusal}
use Rattle.play_queue.specs.Shuffle.{shuffled}
use Rattle.player_core.specs.Place.{place_left}
use Rattle.player_core.specs.declared.block.Block.{Block}
use Rattle.player_core.specs.Words.{word, next_order}
use Rattle.state_codec.specs.OpsSongs.{have_rows, uris_at, if_named}
use Rattle.state_codec.specs.SavedState.{SavedState}
use Rattle.state_codec.specs.declared.op.queue_op.QueueOp.{QueueOp}
use Rattle.state_codec.specs.declared.op.queue_op.QueueOp.TheVariants.{Add, Delete, Move, Swap, Shuffle, Prio}
use Rattle.state_codec.specs.declared.refusal.OpRefusal.{OpRefusal}
use Rattle.state_codec.specs.declared.refusal.OpRefusal.TheVariants.{Queue}

-- what refuses it
abbrev pub queue_refusal : QueueOp → SavedState → Option OpRefusal
queue_refusal (Add at rows) s = if_named (have_rows s.songs rows) (option_map Queue (add_refusal s.queue at (length rows)))
queue_refusal (Delete start end) s = option_map Queue (range_refusal s.queue.entries start end)
queue_refusal (Move start end to) s = option_map Queue (move_refusal s.queue.entries start end to)
queue_refusal (Swap one other) s = option_map Queue (swap_refusal s.queue.entries one other)
queue_refusal (Shuffle start end) s = option_map Queue (range_refusal s.queue.entries start end)
queue_refusal (Prio priority ranges) s = option_map Queue (ranges_refusal s.queue.entries ranges)

-- songs are added at a place, with the next ids
abbrev pub with_added : QueueState → ℕ → Uris → QueueState
with_added queue at uris =
    record (ruled queue (added queue.entries at (new_entries queue.next_id uris)) []) { next_id = queue.next_id + length uris }

-- the words by which a range of entries is shuffled under an order number
abbrev pub words_for : List ℕ → ℕ → List Entry → ℕ → ℕ → List ℕ
words_for key order entries start end = map (λ entry. word key order entry.id) (block entries start end)

-- a range is put in the order of the words of the next order number
abbrev pub with_shuffled : SavedState → ℕ → ℕ → QueueState
with_shuffled s start end =
    let words = words_for s.key (next_order s.order) s.queue.entries start end in
    ruled s.queue (shuffled s.queue.entries start end words) []

abbrev pub range : ℕ → ℕ → Block
range start end = record { start = start; end = end }

-- the state after it; where the entry of the kept song leaves, or one of its round, the place loses it
abbrev pub after_queue : QueueOp → SavedState → SavedState
after_queue (Add at rows) s = record s { queue = with_added s.queue at (uris_at s.songs rows) }
after_queue (Delete start end) s = record s {
  queue = ruled s.queue (deleted s.queue.entries start end) [];
  place = option_map (place_left (range start end) [] s.queue.entries) s.place;
}
after_queue (Move start end to) s = record s { queue = ruled s.queue (moved s.queue.entries start end to) [] }
after_queue (Swap one other) s = record s { queue = ruled s.queue (swap s.queue.entries one other) [] }
after_queue (Shuffle start end) s = record s { order = next_order s.order; queue = with_shuffled s start end }
after_queue (Prio priority ranges) s = record s { queue = ruled s.queue (prioritized s.queue.entries ranges priority) [] }

-- whether it changes nothing
abbrev pub leaves_queue : QueueOp → SavedState → Bool
leaves_queue (Add at rows) s = length rows == 0
leaves_queue (Delete start end) s = is_unchanged [] s.queue.entries (deleted s.queue.entries start end)
leaves_queue (Move start end to) s = is_unchanged [] s.queue.entries (moved s.queue.entries start end to)
leaves_queue (Swap one other) s = is_unchanged [] s.queue.entries (swap s.queue.entries one other)
leaves_queue (Shuffle start end) s = false
leaves_queue (Prio priority ranges) s = is_unchanged [] s.queue.entries (prioritized s.queue.entries ranges priority)
