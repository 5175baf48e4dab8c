use Rattle.std.proofs.Common.{◌<◌, ◌≢◌, ℕ, slice_index, slice_range, subst}
use Rattle.std.specs.Bool.{OnTrue}
use Rattle.play_queue.specs.Queue.{ids_of}
use Rattle.play_queue.proofs.Stamped.{ids-between}
use Rattle.play_queue.proofs.stamping.has_moved_between.Goals as goal

pub returns-clause-yes : goal.returns-clause-yes
returns-clause-yes c =
    let entries = c.args.entries.now in
    let start = c.args.start in
    let end = c.args.end in
    let P : ℕ → Type 0 = λ n. OnTrue c.has_moved.result ((k : ℕ) × (k < n)
    × (slice_index (ids_of (slice_range entries start end)) k ≢ slice_index c.args.ids.now k)) in
    subst P c.requires.ids (rw (← ids-between entries start end, ← c.ids.ensures.ids) c.has_moved.ensures.yes)

pub returns-clause-no : goal.returns-clause-no
returns-clause-no c = rw (← ids-between c.args.entries.now c.args.start c.args.end, ← c.ids.ensures.ids) c.has_moved.ensures.no
