use Rattle.std.proofs.Common.{length, take, ◌-◌, ◌≡◌, ◌+◌, ◌≤◌, slice_range}
use Rattle.song_files.specs.Source.{Keeps}
use Rattle.song_files.proofs.read.read_exact.Given as goal

-- The front of the buffer has the source's bytes, which stay.
abbrev pub invariant-loop-filled : goal.invariant-loop-filled
invariant-loop-filled g l =
    (l.filled ≤ length l.buffer)
    × (g.S.Source.honest l.initial.source
    → Keeps g.S.Source.bytes g.S.Source.honest g.S.Source.faults g.S.Source.steady l.initial.source l.source)
    × (g.S.Source.honest l.initial.source → take l.filled l.buffer ≡ slice_range (g.S.Source.bytes l.initial.source) l.at (l.at + l.filled))

abbrev pub decreases-loop-filled : goal.decreases-loop-filled
decreases-loop-filled g l = length l.initial.buffer - l.filled
