use Rattle.std.proofs.Common.{◌≡◌, ◌≤◌, ◌++◌, length, take}
use Rattle.std.specs.List.{flat_map}
use Rattle.song_files.specs.Source.{Keeps}
use Rattle.id3_tags.specs.Frames.{heads_in, texts_at, pictures_at}
use Rattle.id3_tags.proofs.frames.read_frames.Given as goal

-- What was read, with the frames that are left, is all.
abbrev pub invariant-frames : goal.invariant-frames
invariant-frames g l =
    (l.at ≤ l.end)
    × (length l.tag.texts ≤ 256)
    × (l.tag.version ≡ l.layout.version)
    × (g.S.Source.honest l.initial.source
    → Keeps g.S.Source.bytes g.S.Source.honest g.S.Source.faults g.S.Source.steady l.initial.source l.source)
    × (g.S.Source.honest l.initial.source → l.end ≤ length (g.S.Source.bytes l.initial.source)
    → take 256 (l.tag.texts ++ flat_map (texts_at (g.S.Source.bytes l.initial.source)) (heads_in l.left l.layout (g.S.Source.bytes
    l.initial.source) l.at l.end))
    ≡ take 256 (flat_map (texts_at (g.S.Source.bytes l.initial.source)) (heads_in 1024 l.layout (g.S.Source.bytes
    l.initial.source) l.first l.end)))
    × (g.S.Source.honest l.initial.source → l.end ≤ length (g.S.Source.bytes l.initial.source)
    → l.tag.pictures ++ flat_map (pictures_at (g.S.Source.bytes l.initial.source)) (heads_in l.left l.layout (g.S.Source.bytes
    l.initial.source) l.at l.end)
    ≡ flat_map (pictures_at (g.S.Source.bytes l.initial.source)) (heads_in 1024 l.layout (g.S.Source.bytes
    l.initial.source) l.first l.end))

abbrev pub decreases-frames : goal.decreases-frames
decreases-frames g l = l.left
