use Rattle.std.proofs.Common.{◌≡◌, ◌+◌, drop, arith}
use Rattle.song_files.specs.Tags.{TagText}
use Rattle.song_db.specs.Limits.{MAX_ROW_TAG_BYTES}
use Rattle.song_db.specs.Row.{tags_size}
use Rattle.song_db.proofs.ShortTags.{size_here, too_long, all_short}
use Rattle.song_db.proofs.row.has_short_tags.Goals as goal

pub returns-then-size-left : goal.returns-then-size-left
returns-then-size-left c =
    let t : TagText = record { tag = c.at.result.0; text = c.at.result.1.now } in
    too_long c.args.tags.now c.loop-at.at c.loop-at.left t c.at.ensures c.loop-at.invariant c.if-size-left.true

pub loop-at-preserved : goal.loop-at-preserved
loop-at-preserved c =
    let t : TagText = record { tag = c.at.result.0; text = c.at.result.1.now } in
    let here = size_here c.args.tags.now c.loop-at.at t c.at.ensures in
    let so_far : c.loop-at.left + tags_size c.args.tags.now ≡ MAX_ROW_TAG_BYTES + tags_size (drop c.loop-at.at c.args.tags.now)
    = c.loop-at.invariant in
    omega (arith, here, so_far, c.if-size-left.false)

pub returns : goal.returns
returns c = all_short c.args.tags.now c.loop-at.at c.loop-at.left (omega arith) c.loop-at.invariant
