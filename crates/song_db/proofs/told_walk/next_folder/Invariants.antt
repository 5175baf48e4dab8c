use Rattle.std.proofs.Common.{◌≡◌}
use Rattle.song_db.specs.ToldWalk.{opened_behind}
use Rattle.song_db.proofs.told_walk.next_folder.Given as goal

-- nothing before this end is opened
abbrev pub invariant-loop-at : goal.invariant-loop-at
invariant-loop-at l = opened_behind l.place l.before l.fn.done l.path ≡ opened_behind l.place l.before l.at l.path
