use Rattle.std.proofs.Common.{◌≡◌, ◌++◌, take, drop}
use Rattle.song_head.specs.Numbers.{digits_in_front}
use Rattle.song_head.proofs.numbers.digits_in_front.Given as goal

abbrev pub invariant-loop-place : goal.invariant-loop-place
invariant-loop-place l = take l.place l.text ++ digits_in_front (drop l.place l.text) ≡ digits_in_front l.text
