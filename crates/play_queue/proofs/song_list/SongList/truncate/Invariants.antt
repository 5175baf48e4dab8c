use Rattle.std.proofs.Common.{◌≡◌, ◌-◌, length, take}
use Rattle.play_queue.proofs.song_list.SongList.truncate.Given as goal

abbrev pub invariant-loop : goal.invariant-loop
invariant-loop l = (l.self ≡ take (length l.initial.self - (l.counter - l.count)) l.initial.self) × (l.end ≡ length l.initial.self)
