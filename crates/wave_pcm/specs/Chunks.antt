-- The chunks of a RIFF file: a four-byte id, a size of four bytes, the data, and a pad byte after an odd size.
use Rattle.std.specs.Prelude.{ℕ, zero, suc, ◌+◌, ◌%◌, List, [], ◌∷◌, length, take, drop, slice_range, nat_lt, if◌then◌else◌}
use Rattle.std.specs.Int.{w32, from_le_bytes}

-- a chunk: its id, where its data begins in the file, and its data
pub record Chunk : Type 0 where
  pub id : List ℕ
  pub first : ℕ
  pub body : List ℕ

-- the size that the head of a chunk gives, at the front of these bytes
abbrev pub size_in : List ℕ → ℕ
size_in bytes = from_le_bytes w32 (drop 4 bytes)

-- a size with its pad byte
abbrev pub padded : ℕ → ℕ
padded size = size + size % 2

-- The chunk at the front of these bytes, which begin at `at` in the file. A size past the end means to the end.
abbrev pub chunk_of : ℕ → List ℕ → Chunk
chunk_of at bytes = record { id = take 4 bytes; first = at + 8; body = take (size_in bytes) (drop 8 bytes) }

-- The chunks of these bytes, which begin at `at` in the file, from `skip` bytes on.
-- Fewer than 8 bytes for a head end the list.
unfoldable pub chunks_after : ℕ → ℕ → List ℕ → List Chunk
chunks_after skip at [] = []
chunks_after (suc skip) at (b ∷ bytes) = chunks_after skip (at + 1) bytes
chunks_after zero at (b ∷ bytes) =
    if nat_lt (length bytes) 7 then []
    else chunk_of at (b ∷ bytes) ∷ chunks_after (7 + padded (size_in (b ∷ bytes))) (at + 1) bytes

-- the chunks of the file's bytes from `at` up to `end`
abbrev pub chunks_in : List ℕ → ℕ → ℕ → List Chunk
chunks_in file at end = chunks_after 0 at (slice_range file at end)
