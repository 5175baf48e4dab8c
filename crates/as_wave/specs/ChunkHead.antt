-- The chunks that heads tell of.
use Rattle.std.specs.Prelude.{◌≡◌, length, ℕ, ◌+◌, ◌≤◌, List, map}
use Rattle.std.specs.List.{sum_by}
use Rattle.wave_pcm.specs.ChunkHead.{chunk_at}
use Rattle.wave_pcm.specs.Chunks.{Chunk, padded}
use Rattle.wave_pcm.specs.declared.chunks.ChunkHead.{ChunkHead}

abbrev pub chunks_at : List ℕ → List ChunkHead → List Chunk
chunks_at file heads = map (chunk_at file) heads

-- its id has four bytes, and its data stands before `end`
pub record StandsBy (end : ℕ) (head : ChunkHead) : Type 0 where
  pub id : length head.id ≡ 4
  pub within : head.first + head.len ≤ end

-- how many bytes a chunk takes, with its head and its pad byte, and how many these take
abbrev pub chunk_size : ChunkHead → ℕ
chunk_size head = 8 + padded head.len

abbrev pub total_size : List ChunkHead → ℕ
total_size heads = sum_by chunk_size heads
