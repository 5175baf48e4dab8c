-- The chunk that a head tells of.
use Rattle.std.specs.Prelude.{◌≡◌, length, ℕ, ◌+◌, ◌<◌, ◌≤◌, List, [], ◌∷◌, slice_range, Option, Some, None}
use Rattle.wave_pcm.specs.Chunks.{Chunk, chunks_in}
use Rattle.wave_pcm.specs.declared.chunks.ChunkHead.{ChunkHead}

-- its data is the file's bytes from `first` on
abbrev pub chunk_at : List ℕ → ChunkHead → Chunk
chunk_at file head = record { id = head.id; first = head.first; body = slice_range file head.first (head.first + head.len) }

-- the chunks up to `end`, from the one whose head was found on
abbrev pub chunks_from : List ℕ → ℕ → Option ChunkHead → List Chunk
chunks_from file end None = []
chunks_from file end (Some head) = chunk_at file head ∷ chunks_in file head.next end

-- its id has four bytes, and it stands between these places, as does what follows
pub record IsWithin (at end : ℕ) (head : ChunkHead) : Type 0 where
  pub id : length head.id ≡ 4
  pub after : at < head.first
  pub data_end : head.first + head.len ≤ end
  pub ahead : at < head.next
  pub next_end : head.next ≤ end
