use Rattle.std.proofs.Common.{◌≡◌, length, map, chars, IsUtf8}
use Rattle.std.specs.Cmp.Lexicographic.{slice_cmp}
use Rattle.std.specs.Ordering.{nat_cmp}
use Rattle.std.specs.Str.Iter.{chars_rest}
use Rattle.song_db.specs.Letters.{letter}
use Rattle.song_db.proofs.letters.compare_letters.Given as goal

-- what is left of both decides
abbrev pub invariant-loop-one : goal.invariant-loop-one
invariant-loop-one l =
    IsUtf8 (chars_rest l.left)
    × IsUtf8 (chars_rest l.right)
    × (slice_cmp nat_cmp (map letter (chars (chars_rest l.left))) (map letter (chars (chars_rest l.right)))
    ≡ slice_cmp nat_cmp (map letter (chars l.fn.left)) (map letter (chars l.fn.right)))

abbrev pub decreases-loop-one : goal.decreases-loop-one
decreases-loop-one l = length (chars_rest l.left)
