use Rattle.std.proofs.Common.{◌≡◌, ◌++◌, map, take, drop}
use Rattle.song_db.specs.Order.{without_stamp}
use Rattle.song_db.proofs.order.forget_stamps.Given as goal

abbrev pub invariant-loop-song : goal.invariant-loop-song
invariant-loop-song l = l.known ≡ map without_stamp (take l.song-index l.initial.known) ++ drop l.song-index l.initial.known
