use Rattle.std.proofs.Common.{◌≤◌, length}
use Rattle.song_files.specs.Source.{Keeps}
use Rattle.wave_pcm.specs.PartHead.{parts_at}
use Rattle.wave_pcm.proofs.TagTexts.{SoFar}
use Rattle.wave_pcm.proofs.head.read_tags.Given as goal

-- The texts of the tags so far.
abbrev pub invariant-loop-number : goal.invariant-loop-number
invariant-loop-number g l = record {
  kept : g.S.Source.honest l.initial.source
      → Keeps g.S.Source.bytes g.S.Source.honest g.S.Source.faults g.S.Source.steady l.initial.source l.source;
  so_far : g.S.Source.honest l.initial.source → l.listing.end ≤ length (g.S.Source.bytes l.initial.source)
      → SoFar (parts_at (g.S.Source.bytes l.initial.source) l.listing.parts.items) l.wanted l.number l.tags;
}
