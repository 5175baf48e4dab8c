-- A tag that is unsynchronised as a whole.
use Rattle.std.proofs.Common.{◌≡◌, ℕ, ◌+◌, ◌-◌, ◌≤◌, List, min, true, false, nat_lt, slice_range, refl, arith}
use Rattle.std.proofs.lemmas.Bool.Decides.{nat_tests}
use Rattle.id3_tags.specs.Reading.{is_whole, tag_by, tag_of_whole}
use Rattle.id3_tags.specs.declared.tag_head.TagHead.{TagHead}

pub whole_is : (file : List ℕ) (first end m : ℕ) (head : TagHead) → first + 10 ≤ end → is_whole head ≡ true
    → m ≡ min head.size (end - (first + 10)) → m ≤ 1048576
    → tag_by file first end head ≡ tag_of_whole head (slice_range file (first + 10) (first + 10 + m))
whole_is file first end m head order whole is few =
    let stop : min (first + 10 + head.size) end ≡ first + 10 + m = omega arith in
    let short : nat_lt 1048576 (first + 10 + m - (first + 10)) ≡ false = grind (arith, nat_tests) in
    rw (whole, stop, short) refl
