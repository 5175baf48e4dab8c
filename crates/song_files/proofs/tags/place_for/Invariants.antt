use Rattle.std.proofs.Common.{◌≡◌, ℕ, ◌<◌, false, nat_lt, get_or}
use Rattle.song_files.specs.Tag.{number_of}
use Rattle.song_files.specs.declared.tags.Place.{Place}
use Rattle.song_files.proofs.tags.place_for.Given as goal

-- no text so far is one of a tag of a higher number
abbrev pub invariant-loop-i : goal.invariant-loop-i
invariant-loop-i l = (k : ℕ) (d : Place) → k < l.i → nat_lt (number_of l.tag) (number_of (get_or l.places k d).tag) ≡ false
