use denote.Text.{Utf8}
use denote.Shadow.{shadow}
use Rattle.std.proofs.Common.{◌≡◌, length}
use Rattle.std.specs.Cmp.Lexicographic.{slice_cmp}
use Rattle.std.specs.Ordering.{nat_cmp}
use Rattle.song_db.specs.Told.{path_key, told_cmp}
use Rattle.song_db.specs.Uri.{parts}
use Rattle.song_db.proofs.told.compare_told.Given as goal

-- what is left of both paths decides
abbrev pub invariant-parts : goal.invariant-parts
invariant-parts l =
    shadow (Utf8 l.left_path) × shadow (Utf8 l.right_path)
    × (slice_cmp nat_cmp (path_key l.left (parts l.left_path)) (path_key l.right (parts l.right_path)) ≡ told_cmp l.left l.right)

abbrev pub decreases-parts : goal.decreases-parts
decreases-parts l = length l.left_path
