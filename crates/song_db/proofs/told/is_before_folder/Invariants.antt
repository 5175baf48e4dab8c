use denote.Text.{Utf8}
use denote.Shadow.{shadow}
use Rattle.std.proofs.Common.{◌≡◌, ◌++◌, length}
use Rattle.std.specs.List.{flat_map}
use Rattle.std.specs.Cmp.Lexicographic.{slice_cmp}
use Rattle.std.specs.Ordering.{nat_cmp, is_lt}
use Rattle.song_db.specs.Told.{folder_end, folder_key, part_key, path_key, told_key}
use Rattle.song_db.specs.Uri.{parts}
use Rattle.song_db.proofs.told.is_before_folder.Given as goal

-- what is left of both paths decides
abbrev pub invariant-parts : goal.invariant-parts
invariant-parts l =
    shadow (Utf8 l.path) × shadow (Utf8 l.folder_path)
    × (is_lt (slice_cmp nat_cmp (path_key l.row (parts l.path)) (flat_map part_key (parts l.folder_path) ++ folder_end l.own))
    ≡ is_lt (slice_cmp nat_cmp (told_key l.row) (folder_key l.folder ++ folder_end l.own)))

abbrev pub decreases-parts : goal.decreases-parts
decreases-parts l = length l.path
