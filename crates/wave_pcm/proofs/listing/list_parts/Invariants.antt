use Rattle.std.proofs.Common.{◌≡◌, ◌+◌, ◌-◌, ◌≤◌, ◌++◌, length, take, vec_len, All}
use Rattle.song_files.specs.Source.{Keeps}
use Rattle.wave_pcm.specs.Parts.{parts_in}
use Rattle.wave_pcm.specs.PartHead.{parts_at, EndsBy}
use Rattle.wave_pcm.specs.declared.listing.TheConstants.{MAX_CHUNKS, FIRST_CHUNK}
use Rattle.wave_pcm.proofs.listing.list_parts.Given as goal

-- What is listed, with the parts from here on, is all the parts.
abbrev pub invariant-chunks : goal.invariant-chunks
invariant-chunks g l =
    (l.at ≤ l.end)
    × (vec_len l.parts ≤ MAX_CHUNKS + 1)
    × (g.S.Source.honest l.initial.source
    → Keeps g.S.Source.bytes g.S.Source.honest g.S.Source.faults g.S.Source.steady l.initial.source l.source)
    × (g.S.Source.honest l.initial.source → l.end ≤ length (g.S.Source.bytes l.initial.source)
    → take (MAX_CHUNKS + 1) (parts_at (g.S.Source.bytes l.initial.source) l.parts.items ++ parts_in (g.S.Source.bytes
    l.initial.source) l.at l.end)
    ≡ take (MAX_CHUNKS + 1) (parts_in (g.S.Source.bytes l.initial.source) FIRST_CHUNK l.end))
    × All (EndsBy l.end) l.parts.items

abbrev pub decreases-chunks : goal.decreases-chunks
decreases-chunks g l = l.end - l.at
