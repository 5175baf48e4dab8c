use Rattle.std.proofs.Common.{◌+◌, ◌<◌, ◌≤◌, length, drop, sym, ap, ◌∙◌, arith}
use Rattle.std.proofs.lemmas.Result.{err_from_is_err_and}
use Rattle.command_text.specs.Arguments.{range_of}
use Rattle.command_text.specs.Counts.{each}
use Rattle.command_text.proofs.Repeated.{behind, each_begins, each_step, each_stop, each_end, reads_refused}
use Rattle.command_text.proofs.each.ranges.Goals as goal

pub loop-place-init : goal.loop-place-init
loop-place-init c = ap (λ l. behind l (each range_of 2 c.args.words.now)) c.new-ranges.ensures.items ∙ each_begins range_of c.args.words.now

pub returns-in_err-argument : goal.returns-in_err-argument
returns-in_err-argument c =
    let words = c.args.words.now in
    let i = c.loop-place.place in
    let lt : i < length words = omega arith in
    let stop = each_stop range_of words i c.index-words-place.result c.bytes.result.now c.range.result c.in_err-argument.field-0.0
    c.loop-place.ranges.items lt c.index-words-place.is c.bytes.ensures c.range.ensures c.in_err-argument.ensures in
    reads_refused c.from_residual.result (each range_of 2 words) c.in_err-argument.field-0.0
    (err_from_is_err_and c.from_residual.result c.from_residual.ensures.1) (sym c.loop-place.invariant ∙ stop)

pub loop-place-preserved : goal.loop-place-preserved
loop-place-preserved c =
    let words = c.args.words.now in
    let i = c.loop-place.place in
    let lt : i < length words = omega arith in
    let step = each_step range_of words i c.index-words-place.result c.bytes.result.now c.range.result c.in_ok-argument.field-0
    c.loop-place.ranges.items lt c.index-words-place.is c.bytes.ensures c.range.ensures c.in_ok-argument.ensures in
    ap (λ l. behind l (each range_of (i + 1 + 2) (drop (i + 1) words))) c.in_ok-push.ensures.items ∙ sym step ∙ c.loop-place.invariant

pub returns : goal.returns
returns c =
    let le : length c.args.words.now ≤ c.loop-place.place = omega arith in
    sym c.loop-place.invariant ∙ each_end range_of c.args.words.now c.loop-place.place c.loop-place.ranges.items le
