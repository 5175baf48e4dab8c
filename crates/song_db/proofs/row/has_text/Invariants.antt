use Rattle.std.proofs.Common.{◌≡◌, drop}
use Rattle.song_db.specs.Valued.{has_text}
use Rattle.song_db.proofs.row.has_text.Given as goal

-- none of the first texts is it
abbrev pub invariant-loop-at : goal.invariant-loop-at
invariant-loop-at l = has_text (drop l.at l.tags) l.tag l.value ≡ has_text l.tags l.tag l.value
