use Rattle.std.proofs.Common.{◌≡◌, ◌-◌, ◌≤◌, length, vec_len, All}
use Rattle.song_files.specs.Source.{Keeps}
use Rattle.flac.specs.Blocks.{EndsBy, blocks_from}
use Rattle.flac.specs.Steps.{joined}
use Rattle.flac.specs.declared.blocks.TheConstants.{MAX_BLOCKS}
use Rattle.flac.proofs.blocks.list_blocks.Given as goal

-- What is listed, with the blocks from here on, is all the blocks.
abbrev pub invariant-heads : goal.invariant-heads
invariant-heads g l =
    (l.at ≤ l.end)
    × (vec_len l.blocks ≤ MAX_BLOCKS)
    × (g.S.Source.honest l.initial.source
    → Keeps g.S.Source.bytes g.S.Source.honest g.S.Source.faults g.S.Source.steady l.initial.source l.source)
    × (g.S.Source.honest l.initial.source → l.end ≡ length (g.S.Source.bytes l.initial.source)
    → joined l.blocks.items (blocks_from (MAX_BLOCKS - vec_len l.blocks) (g.S.Source.bytes l.initial.source) l.at)
    ≡ blocks_from MAX_BLOCKS (g.S.Source.bytes l.initial.source) l.start)
    × All (EndsBy l.end) l.blocks.items

abbrev pub decreases-heads : goal.decreases-heads
decreases-heads g l = MAX_BLOCKS - vec_len l.blocks
