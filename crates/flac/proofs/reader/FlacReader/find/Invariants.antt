use Rattle.std.proofs.Common.{◌≡◌, ◌-◌, ◌≤◌, length}
use Rattle.song_files.specs.Source.{Keeps}
use Rattle.flac.specs.Reader.{IsReaderOf, IsPlace, SameStream}
use Rattle.flac.proofs.reader.FlacReader.find.Given as goal

-- What is known stays known, and the place stands before the sample.
abbrev pub invariant-frames : goal.invariant-frames
invariant-frames g l =
    SameStream l.fn.self l.self
    × (l.at.sample ≤ l.sample)
    × (g.S.Source.honest l.initial.source
    → Keeps g.S.Source.bytes g.S.Source.honest g.S.Source.faults g.S.Source.steady l.initial.source l.source)
    × (g.S.Source.honest l.initial.source → l.end ≡ length (g.S.Source.bytes l.initial.source)
    → IsReaderOf (g.S.Source.bytes l.initial.source) l.fn.self
    → IsReaderOf (g.S.Source.bytes l.initial.source) l.self × IsPlace l.self.info l.self.start (g.S.Source.bytes l.initial.source) l.at)

abbrev pub decreases-frames : goal.decreases-frames
decreases-frames g l = l.end - l.at.offset
