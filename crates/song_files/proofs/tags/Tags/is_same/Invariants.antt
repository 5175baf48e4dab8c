use Rattle.std.proofs.Common.{◌≡◌, take}
use Rattle.song_files.proofs.tags.Tags.is_same.Given as goal

-- the texts so far are the same
abbrev pub invariant-loop-i : goal.invariant-loop-i
invariant-loop-i l = take l.i l.self ≡ take l.i l.other
