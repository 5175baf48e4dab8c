use Rattle.std.proofs.Common.{◌≡◌, ◌+◌, ℕ, List, length, take, drop, All}
use Rattle.as_wave.specs.ChunkHead.{chunks_at, StandsBy, total_size}
use Rattle.as_wave.specs.StandsFor.{chunks_bytes}
use Rattle.as_wave.proofs.pieces.chunk_with.Given as goal

-- What is left counts from the chunk that comes.
abbrev pub invariant-loop-head : goal.invariant-loop-head
invariant-loop-head l = record {
  counted : total_size (take l.head-index l.heads) + l.left ≡ l.at;
  same : (file : List ℕ) → All (StandsBy (length file)) l.heads
      → drop l.at (chunks_bytes (chunks_at file l.heads)) ≡ drop l.left (chunks_bytes (chunks_at file (drop l.head-index l.heads)));
}
