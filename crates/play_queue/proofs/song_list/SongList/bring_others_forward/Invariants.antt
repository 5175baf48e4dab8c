use Rattle.std.proofs.Common.{◌≡◌, not, length}
use Rattle.play_queue.specs.Entries.{is_among}
use Rattle.play_queue.proofs.Compacted.{IsCompactedFrom}
use Rattle.play_queue.proofs.song_list.SongList.bring_others_forward.Given as goal

abbrev pub invariant-loop-at : goal.invariant-loop-at
invariant-loop-at l = (length l.self ≡ length l.initial.self) × (l.at-end ≡ length l.initial.self)
    × IsCompactedFrom (λ entry. not (is_among l.uris entry.uri)) l.first l.initial.self l.self l.count l.at
