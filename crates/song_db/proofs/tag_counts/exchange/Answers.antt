use Rattle.std.proofs.Common.{◌≡◌, ◌+◌, ◌-◌, ◌<◌, length, refl, ◌∙◌, arith}
use Rattle.std.specs.Prelude.{option_copied, slice_index_or}
use Rattle.std.proofs.lemmas.List.{length-set}
use Rattle.song_files.proofs.TagNumbers.{number_below}
use Rattle.song_db.specs.Tagged.{ones_of}
use Rattle.song_db.proofs.TagCounts.{done_more, left_more}
use Rattle.song_db.proofs.tag_counts.exchange.Goals as goal

pub loop-number-preserved : goal.loop-number-preserved
loop-number-preserved c =
    let counts = c.loop-number.counts in
    let n = c.loop-number.number in
    let tag = c.at-tag.result in
    let goes = option_copied c.args.goes in
    let comes = option_copied c.args.comes in
    let value = c.saturating_sub.result + c.ones_of-in-loop-number.result in
    let within : n < length counts = omega (arith, c.loop-number.invariant.len) in
    let is : value ≡ slice_index_or counts n 0 - ones_of tag goes + ones_of tag comes
    = rw (c.saturating_sub.ensures, c.ones_of.ensures.value, c.ones_of-in-loop-number.ensures.value) refl in
    record {
      len = length-set counts n value ∙ c.loop-number.invariant.len;
      done = done_more goes comes c.args.counts.now counts n value tag c.at-tag.ensures.number within is c.loop-number.invariant.done
          c.loop-number.invariant.left;
      left = left_more c.args.counts.now counts n value c.loop-number.invariant.left;
    }

pub returns : goal.returns
returns c = λ tag. c.loop-number.invariant.done tag (omega (arith, number_below tag, c.loop-number-test.false))
