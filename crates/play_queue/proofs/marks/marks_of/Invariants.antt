use Rattle.std.proofs.Common.{◌≡◌, ℕ, ◌<◌, true, false, [], length, get_or}
use Rattle.play_queue.specs.Marks.{mark_of}
use Rattle.play_queue.proofs.marks.marks_of.Given as goal

abbrev pub invariant-loop-uri : goal.invariant-loop-uri
invariant-loop-uri l = (length l.marks ≡ 1024) × ((k : ℕ) → k < l.uri-index → get_or l.marks (mark_of (get_or l.uris k [])) false ≡ true)
