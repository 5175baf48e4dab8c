-- The commands of the queue.
use Rattle.std.specs.Prelude.{ℕ, ◌+◌, ◌-◌, Bool, true, false, ◌&&◌, nat_lt, List, [], ◌∷◌, length, map, filter}
use Rattle.std.specs.Prelude.{Option, Some, None, option_map, unwrap_or, Result, Err, if◌then◌else◌}
use Rattle.std.specs.List.{flat_map}
use Rattle.std.specs.Option.{ok_or}
use Rattle.std.specs.Result.{result_map_both}
use Rattle.command_text.specs.AnswerSongs.{id_line}
use Rattle.command_text.specs.declared.command.queue.QueueCommand.{QueueCommand}
use Rattle.command_text.specs.declared.command.queue.QueueCommand.TheVariants as commands
use Rattle.command_text.specs.declared.refusal.CommandRefusal.{CommandRefusal}
use Rattle.command_text.specs.declared.refusal.CommandRefusal.TheVariants.{BadIndex, NoCurrentSong, NoSuchSong, NoSuchUri}
use Rattle.command_text.specs.declared.tag_mask.TagMask.{TagMask}
use Rattle.play_queue.specs.declared.entry.Entry.{Entry}
use Rattle.play_queue.specs.Positions.{position_of, positions_of}
use Rattle.play_queue.specs.Queue.{QueueState, changed_since}
use Rattle.play_queue.specs.declared.target.Target.{Target}
use Rattle.play_queue.specs.declared.target.Target.TheVariants.{At, After, Before}
use Rattle.player_core.specs.Player.{stopped_without_song}
use Rattle.player_core.specs.declared.playing.PlayState.{PlayState}
use Rattle.player_core.specs.declared.playing.PlayState.TheVariants.{Stop, Play, Pause}
use Rattle.profile.specs.declared.profile.Profile.{Profile}
use Rattle.profile.specs.declared.profile.Profile.TheVariants.{Named, Wide}
use Rattle.song_db.specs.Query.{number_at}
use Rattle.state_codec.specs.Applied.{after, refusal_of}
use Rattle.state_codec.specs.SavedState.{SavedState}
use Rattle.state_codec.specs.Steps.{◌>>=◌}
use Rattle.state_codec.specs.declared.op.Op.{Op}
use Rattle.state_codec.specs.declared.op.Op.TheVariants.{Queue}
use Rattle.state_codec.specs.declared.op.queue_op.QueueOp.{QueueOp}
use Rattle.state_codec.specs.declared.op.queue_op.QueueOp.TheVariants.{Delete, Move, Swap, Shuffle, Prio}
use Rattle.machine_core.specs.Adding.{adds, can_count, place_among}
use Rattle.machine_core.specs.Entries.{file_info, place_info, position_info}
use Rattle.machine_core.specs.Meaning.{Meant, does, must, says, edits, refusal_of_all, unless_refused}
use Rattle.machine_core.specs.Named.{numbers_named}
use Rattle.machine_core.specs.Spans.{count_of, holds, positions_in, span_in, span_or_all, spans_in, whole}
use Rattle.machine_core.specs.State.{MachineState, shown_of}
use Rattle.machine_core.specs.Told.{told}
use Rattle.machine_core.specs.declared.span.Span.{Span}

-- how many entries there are
abbrev pub queue_length : MachineState → ℕ
queue_length m = length m.saved.queue.entries

-- the position of the entry with an id
abbrev pub place_of_id : ℕ → MachineState → Result ℕ CommandRefusal
place_of_id id m = ok_or (position_of m.saved.queue.entries id) NoSuchSong

abbrev pub places_of_ids : List ℕ → MachineState → Result (List ℕ) CommandRefusal
places_of_ids ids m = result_map_both (λ places. places) (λ id. NoSuchSong) (positions_of m.saved.queue.entries ids)

-- a place that is counted from the current song
abbrev pub is_relative : Target → Bool
is_relative (At position) = false
is_relative (After n) = true
is_relative (Before n) = true

-- a position is one of the block
abbrev pub is_held : Span → Option ℕ → Bool
is_held block None = false
is_held block (Some current) = holds block current

-- where an entry that isn't of the block stands in the rest
abbrev pub in_rest : Span → ℕ → ℕ
in_rest block at = if nat_lt at block.start then at else at - count_of block

-- the position of a place in the rest without the block; a relative one can't be counted from a song of the block
abbrev pub place_in_rest : Target → Span → MachineState → Result ℕ CommandRefusal
place_in_rest to block m =
    if is_relative to && is_held block (shown_of m).current then Err BadIndex
    else place_among to (option_map (in_rest block) (shown_of m).current) (queue_length m - count_of block)

abbrev pub moves : Span → Target → MachineState → Meant
moves block to m = do
  at ← place_in_rest to block m
  edits (Queue (Move block.start block.end at)) [] m

abbrev pub shuffles_plainly : Span → MachineState → Meant
shuffles_plainly span m = edits (Queue (Shuffle span.start span.end)) [] m

-- the op that brings an entry to a position, at which it stands already where no entry has the id
abbrev pub bring : List Entry → ℕ → ℕ → QueueOp
bring entries id to = let at = unwrap_or (position_of entries id) to in Move at (at + 1) to

-- A range is shuffled around an entry of it: it is shuffled, and then the entry comes to its beginning. Both ops are always made, so that
-- what they take doesn't depend on what the shuffle comes to.
abbrev pub shuffle_ops : ℕ → Span → SavedState → List Op
shuffle_ops id span s =
    Queue (Shuffle span.start span.end)
    ∷ Queue (bring (after (Queue (Shuffle span.start span.end)) s).queue.entries id span.start)
    ∷ []

abbrev pub shuffles_around : ℕ → Span → MachineState → Meant
shuffles_around id span m =
    unless_refused (told (refusal_of_all (shuffle_ops id span m.saved) m.saved)) (does [] (shuffle_ops id span m.saved) m.player m)

-- in stop no song stays current
abbrev pub shuffles_stopped : Span → MachineState → Meant
shuffles_stopped span m =
    unless_refused (told (refusal_of (Queue (Shuffle span.start span.end)) m.saved))
    (does [] (Queue (Shuffle span.start span.end) ∷ []) (stopped_without_song m.player) m)

-- the song that plays or is paused comes to the beginning of the range that holds it
abbrev pub shuffles_playing : Option ℕ → Span → MachineState → Meant
shuffles_playing None span m = shuffles_plainly span m
shuffles_playing (Some id) span m =
    if is_held span (shown_of m).current then shuffles_around id span m else shuffles_plainly span m

abbrev pub shuffles_in : PlayState → Span → MachineState → Meant
shuffles_in Stop span m = shuffles_stopped span m
shuffles_in Play span m = shuffles_playing m.player.current span m
shuffles_in Pause span m = shuffles_playing m.player.current span m

-- the wide profile shuffles as MPD does
abbrev pub shuffles_by : Profile → Span → MachineState → Meant
shuffles_by Named span m = shuffles_plainly span m
shuffles_by Wide span m = shuffles_in m.player.state span m

-- fewer than two entries aren't shuffled
abbrev pub shuffles : Span → MachineState → Meant
shuffles span m = if nat_lt (count_of span) 2 then says [] m else shuffles_by m.saved.profile span m

-- a single position as a range
abbrev pub alone : ℕ → ℕ × ℕ
alone at = (at, at + 1)

-- the positions of a span whose entries have changed since a version
abbrev pub changed_in : QueueState → ℕ → Span → List ℕ
changed_in queue version span = filter (holds span) (changed_since queue version)

unfoldable pub queue_meaning : TagMask → QueueCommand → MachineState → Meant
queue_meaning mask (commands.Add uri to) m = do
  rows ← numbers_named m.saved.profile m.saved.songs uri
  adds to rows [] m
queue_meaning mask (commands.AddId uri to) m = do
  row ← ok_or (number_at m.saved.songs uri) NoSuchUri
  adds to (row ∷ []) (id_line m.saved.queue.next_id) m
queue_meaning mask (commands.Changes version range) m = do
  span ← span_or_all range (queue_length m)
  says (flat_map (position_info mask m.saved) (changed_in m.saved.queue version span)) m
queue_meaning mask (commands.ChangesPositions version range) m = do
  span ← span_or_all range (queue_length m)
  says (flat_map (place_info m.saved.queue.entries) (changed_in m.saved.queue version span)) m
queue_meaning mask commands.Clear m = edits (Queue (Delete 0 (queue_length m))) [] m
queue_meaning mask (commands.Delete range) m = do
  span ← span_in range (queue_length m)
  edits (Queue (Delete span.start span.end)) [] m
queue_meaning mask (commands.DeleteId id) m = do
  at ← place_of_id id m
  edits (Queue (Delete at (at + 1))) [] m
queue_meaning mask commands.Files m = says (flat_map (file_info m.saved.queue.entries) (positions_in (whole (queue_length m)))) m
queue_meaning mask (commands.Info range) m = do
  span ← span_or_all range (queue_length m)
  says (flat_map (position_info mask m.saved) (positions_in span)) m
queue_meaning mask (commands.InfoId None) m = says (flat_map (position_info mask m.saved) (positions_in (whole (queue_length m)))) m
queue_meaning mask (commands.InfoId (Some id)) m = do
  at ← place_of_id id m
  says (position_info mask m.saved at) m
queue_meaning mask (commands.Move range to) m = do
  song ← must (can_count (Some to) (shown_of m).current) NoCurrentSong
  block ← span_in range (queue_length m)
  moves block to m
queue_meaning mask (commands.MoveId id to) m = do
  at ← place_of_id id m
  moves (record { start = at; end = at + 1 }) to m
queue_meaning mask (commands.Priority priority ranges) m = do
  spans ← spans_in ranges (queue_length m)
  edits (Queue (Prio priority spans)) [] m
queue_meaning mask (commands.PriorityId priority ids) m = do
  places ← places_of_ids ids m
  edits (Queue (Prio priority (map alone places))) [] m
queue_meaning mask (commands.Shuffle range) m = do
  span ← span_or_all range (queue_length m)
  shuffles span m
queue_meaning mask (commands.Swap one other) m = edits (Queue (Swap one other)) [] m
queue_meaning mask (commands.SwapId one other) m = do
  first ← place_of_id one m
  second ← place_of_id other m
  edits (Queue (Swap first second)) [] m
