use Rattle.std.proofs.Common.{◌<◌, ◌≤◌, length, ap, ◌∙◌, arith}
use Rattle.command_text.specs.Masks.{empty_mask, with_tags}
use Rattle.command_text.specs.Masks.{with_named}
use Rattle.command_text.proofs.NamedTags.{named_none, named_more, named_end}
use Rattle.command_text.proofs.command.database.tags_named.Goals as goal

pub returns-in-None : goal.returns-in-None
returns-in-None c =
    let i = c.loop-word.word-index in
    let words = c.args.words.now in
    let lt : i < length words = omega arith in
    named_none c.loop-word.mask words i c.word-item.result c.bytes.result.now (with_named empty_mask words) lt c.word-item.is
    c.bytes.ensures c.in-None.ensures c.loop-word.invariant

pub loop-word-preserved : goal.loop-word-preserved
loop-word-preserved c =
    let i = c.loop-word.word-index in
    let words = c.args.words.now in
    let lt : i < length words = omega arith in
    named_more c.loop-word.mask c.with-mask.result words i c.word-item.result c.bytes.result.now c.in-Some.tag (with_named empty_mask words)
    lt c.word-item.is c.bytes.ensures c.in-Some.ensures c.loop-word.invariant
    (c.with-mask.ensures ∙ ap (with_tags c.loop-word.mask) c.only.ensures)

pub returns : goal.returns
returns c =
    let i = c.loop-word.word-index in
    let words = c.args.words.now in
    let le : length words ≤ i = omega arith in
    named_end c.loop-word.mask words i (with_named empty_mask words) le c.loop-word.invariant
