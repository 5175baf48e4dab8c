use Rattle.std.proofs.Common.{◌≡◌, ◌+◌, ◌-◌, arith}
use Rattle.std.proofs.lemmas.List.{take_rest}
use Rattle.song_db.proofs.Slashes.{slash_ends, cut_below}
use Rattle.song_db.proofs.values.folder_of.Goals as goal

pub range-requires-clause-end_boundary : goal.range-requires-clause-end_boundary
range-requires-clause-end_boundary c = slash_ends c.args.path.now c.skipped-skip.result c.in-Some.end (omega arith) (rw
    (c.as_bytes.ensures.value, take_rest) at c.in-Some.ensures)

pub returns-in-Some-clause-below : goal.returns-in-Some-clause-below
returns-in-Some-clause-below c =
    let end : c.skipped-skip.result + c.in-Some.end - 0 ≡ c.skipped-skip.result + c.in-Some.end = omega arith in
    rw (c.range.ensures.value, end) (cut_below c.args.path.now c.skipped-skip.result c.in-Some.end (omega arith) (rw
    (c.as_bytes.ensures.value, take_rest) at c.in-Some.ensures))
