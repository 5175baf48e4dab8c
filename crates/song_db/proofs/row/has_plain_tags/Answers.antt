use Rattle.std.proofs.Common.{◌<◌, arith}
use Rattle.song_files.specs.Tags.{TagText}
use Rattle.song_db.proofs.PlainTags.{too_low, too_high, plain_more}
use Rattle.song_db.proofs.row.has_plain_tags.Goals as goal
use Rattle.song_db.proofs.row.has_plain_tags.Goals.{then-number-next-via-then-number-next, then-number-next-via-else-number-next+then-number-ge-PLAIN_TAGS}

pub returns-then-number-next : goal.returns-then-number-next
returns-then-number-next c =
    let t : TagText = record { tag = c.at.result.0; text = c.at.result.1.now } in
    elim c.then-number-next.branch [
      | then-number-next-via-then-number-next w ↦ too_low c.args.tags.now c.loop-at.at c.loop-at.next c.number-number.result t _
          c.at.ensures c.number-number.ensures.number w.if-number-next.true c.loop-at.invariant.rest
      | then-number-next-via-else-number-next+then-number-ge-PLAIN_TAGS w ↦ too_high c.args.tags.now c.loop-at.at c.loop-at.next
          c.number-number.result t _ c.at.ensures c.number-number.ensures.number w.if-number-next.false
          w.if-number-ge-PLAIN_TAGS.true c.loop-at.invariant.rest
    ]

pub loop-at-preserved : goal.loop-at-preserved
loop-at-preserved c =
    let t : TagText = record { tag = c.at.result.0; text = c.at.result.1.now } in
    let low : c.number-number.result < 6 = omega (arith, c.if-number-ge-PLAIN_TAGS.false) in
    record {
      next = omega (arith, low);
      rest = plain_more c.args.tags.now c.loop-at.at c.loop-at.next c.number-number.result t _ c.at.ensures
          c.number-number.ensures.number c.if-number-next.false low c.loop-at.invariant.rest;
    }
