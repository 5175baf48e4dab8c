use Rattle.std.proofs.Common.{◌≡◌, ◌-◌, ◌++◌, [], length, map, take, drop, slice_range, ap, ◌∙◌, arith, append-nil}
use Rattle.std.proofs.lemmas.List.{length-append, length-map, length-take-le, length-drop, take_at, drop_at, take_all, drop_all}
use Rattle.play_queue.specs.Queue.{with_stamp}
use Rattle.play_queue.specs.Restamp.{marked, marked_one}
use Rattle.play_queue.proofs.rows.stamp_batch.Goals as goal

pub stamp_range-requires-clause-in_range : goal.stamp_range-requires-clause-in_range
stamp_range-requires-clause-in_range c =
    let old = c.args.entries.now in
    let first = c.args.first in
    omega (
      arith,
      ap length c.stamp_rows.ensures,
      length-append (marked c.args.changed.now c.args.stamp (take first old)) (drop first old),
      length-map (take first old) (marked_one c.args.changed.now c.args.stamp),
      length-take-le first old c.requires,
      length-drop first old,
      c.len-len.ensures.len,
    )

pub returns : goal.returns
returns c =
    let old = c.args.entries.now in
    let first = c.args.first in
    let stamp = c.args.stamp in
    let front = marked c.args.changed.now stamp (take first old) in
    let now = c.stamp_rows.new.entries in
    let len = c.len-len.result in
    let count : len ≡ length old = c.len-len.ensures.len in
    let long : length front ≡ first =
    length-map (take first old) (marked_one c.args.changed.now stamp) ∙ length-take-le first old c.requires in
    let whole : now ≡ front ++ drop first old = c.stamp_rows.ensures in
    let in_front : take first now ≡ front = ap (take first) whole ∙ take_at front (drop first old) first long in
    let behind : drop first now ≡ drop first old = ap (λ l. drop first l) whole ∙ drop_at front (drop first old) first long in
    let middle : slice_range now first len ≡ drop first old =
    ap (take (len - first)) behind ∙ take_all (len - first) (drop first old) (omega (arith, count, length-drop first old)) in
    let none : drop len now ≡ [] =
    drop_all len now (omega (arith, ap length whole, length-append front (drop first old), long, length-drop first old, count, c.requires)) in
    rw (c.stamp_range.ensures, in_front, middle, none) (ap (λ l. front ++ l) (append-nil (map (with_stamp stamp) (drop first old))))
