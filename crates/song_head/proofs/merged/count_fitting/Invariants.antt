use Rattle.std.proofs.Common.{◌≡◌, ◌++◌, take, drop}
use Rattle.song_head.specs.SongReading.{MAX_TEXT_BYTES, fitting}
use Rattle.song_head.proofs.merged.count_fitting.Given as goal

-- those so far, and those of the others that fit into what is left
abbrev pub invariant-loop-at : goal.invariant-loop-at
invariant-loop-at l = take l.at l.tags ++ fitting l.left (drop l.at l.tags) ≡ fitting MAX_TEXT_BYTES l.tags
