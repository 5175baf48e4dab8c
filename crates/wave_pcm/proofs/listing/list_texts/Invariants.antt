use Rattle.std.proofs.Common.{◌≡◌, ℕ, ◌+◌, ◌-◌, ◌≤◌, ◌++◌, length, take, map, vec_len, All}
use Rattle.song_files.specs.Source.{Keeps}
use Rattle.wave_pcm.specs.Chunks.{chunks_in}
use Rattle.wave_pcm.specs.Parts.{text_part}
use Rattle.wave_pcm.specs.PartHead.{parts_at, EndsBy}
use Rattle.wave_pcm.specs.declared.listing.TheConstants.{MAX_CHUNKS}
use Rattle.wave_pcm.proofs.listing.list_texts.Given as goal

-- What is listed, with the chunks from here on, is what was listed, with all the chunks.
abbrev pub invariant-texts : goal.invariant-texts
invariant-texts g l =
    (l.at ≤ l.end)
    × (vec_len l.parts ≤ MAX_CHUNKS + 1)
    × (g.S.Source.honest l.initial.source
    → Keeps g.S.Source.bytes g.S.Source.honest g.S.Source.faults g.S.Source.steady l.initial.source l.source)
    × (g.S.Source.honest l.initial.source → l.end ≤ length (g.S.Source.bytes l.initial.source)
    → take (MAX_CHUNKS + 1) (parts_at (g.S.Source.bytes l.initial.source) l.parts.items ++ map text_part (chunks_in
    (g.S.Source.bytes l.initial.source) l.at l.end))
    ≡ take (MAX_CHUNKS + 1) (parts_at (g.S.Source.bytes l.initial.source) l.initial.parts.items ++ map text_part (chunks_in
    (g.S.Source.bytes l.initial.source) l.start l.end)))
    × ((limit : ℕ) → l.end ≤ limit → All (EndsBy limit) l.initial.parts.items → All (EndsBy limit) l.parts.items)

abbrev pub decreases-texts : goal.decreases-texts
decreases-texts g l = l.end - l.at
