-- Songs of a playlist that go to another place, each by an op of its own.
use Rattle.std.specs.Prelude.{ℕ, zero, suc, ◌+◌, ◌-◌, Bool, true, false, nat_lt, nat_le, List, [], ◌∷◌, ◌++◌, length, map, take, drop}
use Rattle.std.specs.Prelude.{slice_range, Option, Some, None, Err}
use Rattle.std.specs.Prelude.{if◌then◌else◌}
use Rattle.command_text.specs.declared.refusal.CommandRefusal.{CommandRefusal}
use Rattle.command_text.specs.declared.refusal.CommandRefusal.TheVariants.{BadIndex}
use Rattle.state_codec.specs.Applied.{after_all}
use Rattle.state_codec.specs.declared.op.Op.{Op}
use Rattle.state_codec.specs.declared.op.Op.TheVariants.{List as Lists}
use Rattle.state_codec.specs.declared.op.list_op.ListOp.{ListOp}
use Rattle.state_codec.specs.declared.op.list_op.ListOp.TheVariants.{Add, Move}
use Rattle.stored_lists.specs.Lists.{songs_or_none}
use Rattle.stored_lists.specs.Songs.{Uris, without_range}
use Rattle.machine_core.specs.Changed.{same_lists}
use Rattle.machine_core.specs.Meaning.{Meant, does, edits, refusal_of_all, says, stands, unless_refused}
use Rattle.machine_core.specs.Spans.{count_of}
use Rattle.machine_core.specs.State.{MachineState}
use Rattle.machine_core.specs.Told.{told}
use Rattle.machine_core.specs.declared.span.Span.{Span}

-- so many songs that stand together, each of which goes as far as the first one; the last or the first of them goes first
abbrev pub song_moves : Bool → List ℕ → ℕ → ℕ → ℕ → List ListOp
song_moves last_first name from to zero = []
song_moves true name from to (suc n) = Move name (from + n) (to + n) ∷ song_moves true name from to n
song_moves false name from to (suc n) = Move name from to ∷ song_moves false name (from + 1) (to + 1) n

-- A block goes to a place of the rest: towards the end its last song goes first. Where it passes fewer songs than it has, those go the
-- other way.
abbrev pub moves_on : List ℕ → Span → ℕ → List ListOp
moves_on name block to =
    if nat_lt (to - block.start) (count_of block) then song_moves false name block.end block.start (to - block.start)
    else song_moves true name block.start to (count_of block)

abbrev pub moves_back : List ℕ → Span → ℕ → List ListOp
moves_back name block to =
    if nat_lt (block.start - to) (count_of block) then song_moves true name to (to + count_of block) (block.start - to)
    else song_moves false name block.start to (count_of block)

abbrev pub block_moves : List ℕ → Span → ℕ → List ListOp
block_moves name block to = if nat_lt block.start to then moves_on name block to else moves_back name block to

abbrev pub of_lists : List ListOp → List Op
of_lists ops = map (λ op. Lists op) ops

-- Ops of playlists, each of which must apply at its turn. None is made where together they leave the playlists as they are.
abbrev pub together : List ListOp → MachineState → Meant
together ops m =
    unless_refused (told (refusal_of_all (of_lists ops) m.saved))
    (if same_lists m.saved.lists (after_all (of_lists ops) m.saved).lists then stands [] m else does [] (of_lists ops) m.player m)

-- a block of a playlist with so many songs goes to a place of the rest
abbrev pub moves_songs : List ℕ → Span → ℕ → ℕ → MachineState → Meant
moves_songs name block to length m = if nat_le to (length - count_of block) then together (block_moves name block to) m else Err BadIndex

-- So a playlist comes to have other songs at a place of it, or a block of its own at a place of the rest.
abbrev pub with_songs_at : Uris → Uris → ℕ → Uris
with_songs_at songs new at = take at songs ++ (new ++ drop at songs)

abbrev pub with_block_at : Uris → Span → ℕ → Uris
with_block_at songs block to =
    with_songs_at (without_range songs block.start block.end) (slice_range songs block.start block.end) to

-- songs that come to a place in front of the end, where so many stand: they are added at the end, and go to their place from there
abbrev pub puts_in : List ℕ → List ℕ → ℕ → ℕ → MachineState → Meant
puts_in name [] at end m = says [] m
puts_in name (row ∷ rows) at end m = together (Add name (row ∷ rows) ∷ song_moves false name end at (length (row ∷ rows))) m

abbrev pub adds_songs_at : List ℕ → List ℕ → ℕ → ℕ → MachineState → Meant
adds_songs_at name rows at end m =
    if nat_lt at end then puts_in name rows at end m
    else (if nat_lt end at then Err BadIndex else edits (Lists (Add name rows)) [] m)

-- the songs of these rows come into a playlist, at its end or at a place of it
abbrev pub adds_songs : List ℕ → List ℕ → Option ℕ → MachineState → Meant
adds_songs name rows None m = edits (Lists (Add name rows)) [] m
adds_songs name rows (Some at) m = adds_songs_at name rows at (length (songs_or_none m.saved.lists name)) m
