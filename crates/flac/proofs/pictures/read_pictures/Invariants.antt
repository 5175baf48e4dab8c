use Rattle.std.proofs.Common.{◌≡◌, ◌≤◌, length, take, vec_len}
use Rattle.std.specs.List.{filter_map}
use Rattle.song_files.specs.Source.{Keeps}
use Rattle.flac.specs.Pictures.{picture_of}
use Rattle.flac.specs.declared.pictures.TheConstants.{MAX_PICTURES}
use Rattle.flac.proofs.pictures.read_pictures.Given as goal

-- The pictures of the blocks so far.
abbrev pub invariant-parts : goal.invariant-parts
invariant-parts g l =
    (vec_len l.pictures ≤ MAX_PICTURES)
    × (g.S.Source.honest l.initial.source
    → Keeps g.S.Source.bytes g.S.Source.honest g.S.Source.faults g.S.Source.steady l.initial.source l.source)
    × (g.S.Source.honest l.initial.source → l.end ≡ length (g.S.Source.bytes l.initial.source)
    → l.pictures.items ≡ take MAX_PICTURES (filter_map (picture_of (g.S.Source.bytes l.initial.source)) (take l.block-index l.blocks)))
