use Rattle.std.proofs.Common.{◌≡◌, ◌+◌, ◌-◌, ◌≤◌, ◌++◌, length, take, vec_len, All}
use Rattle.song_files.specs.Source.{Keeps}
use Rattle.wave_pcm.specs.Chunks.{chunks_in}
use Rattle.wave_pcm.specs.declared.listing.TheConstants.{MAX_CHUNKS}
use Rattle.as_wave.specs.ChunkHead.{chunks_at, StandsBy}
use Rattle.as_wave.specs.declared.chunks.TheConstants.{FIRST_CHUNK}
use Rattle.as_wave.proofs.chunks.list_chunks.Given as goal

-- What is listed, with the chunks from here on, is all the chunks.
abbrev pub invariant-chunks : goal.invariant-chunks
invariant-chunks g l =
    (l.at ≤ l.end)
    × (vec_len l.heads ≤ MAX_CHUNKS + 1)
    × (g.S.Source.honest l.initial.source
    → Keeps g.S.Source.bytes g.S.Source.honest g.S.Source.faults g.S.Source.steady l.initial.source l.source)
    × (g.S.Source.honest l.initial.source → l.end ≤ length (g.S.Source.bytes l.initial.source)
    → take (MAX_CHUNKS + 1) (chunks_at (g.S.Source.bytes l.initial.source) l.heads.items ++ chunks_in (g.S.Source.bytes
    l.initial.source) l.at l.end)
    ≡ take (MAX_CHUNKS + 1) (chunks_in (g.S.Source.bytes l.initial.source) FIRST_CHUNK l.end))
    × All (StandsBy l.end) l.heads.items

abbrev pub decreases-chunks : goal.decreases-chunks
decreases-chunks g l = l.end - l.at
