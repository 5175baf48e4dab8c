use Rattle.std.proofs.Common.{◌≡◌, ◌++◌, take, drop}
use Rattle.song_head.specs.Genres.{before_bracket}
use Rattle.song_head.proofs.frame_values.before_bracket.Given as goal

abbrev pub invariant-loop-place : goal.invariant-loop-place
invariant-loop-place l = take l.place l.text ++ before_bracket (drop l.place l.text) ≡ before_bracket l.text
