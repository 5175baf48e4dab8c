use Rattle.std.proofs.Common.{◌+◌, ◌-◌, ◌<◌, ◌≤◌, length, sym, ◌∙◌, arith}
use Rattle.command_text.proofs.Repeated.{pairs_stop, pairs_go, pairs_end}
use Rattle.command_text.proofs.command.finding.pairs_length.Goals as goal

pub returns-then-begins_part-clause-value : goal.returns-then-begins_part-clause-value
returns-then-begins_part-clause-value c =
    let words = c.args.words.now in
    let p = c.pairs.passed in
    let le : p + 2 ≤ length words = omega arith in
    sym (pairs_stop c.args.adds words p c.index-words-passed.result c.bytes.result.now le c.index-words-passed.is c.bytes.ensures
    (sym c.begins_part.ensures ∙ c.if-begins_part.true)) ∙ c.pairs.invariant.1

pub pairs-preserved : goal.pairs-preserved
pairs-preserved c =
    let words = c.args.words.now in
    let p = c.pairs.passed in
    let le : p + 2 ≤ length words = omega arith in (
      le,
      sym (pairs_go c.args.adds words p c.index-words-passed.result c.bytes.result.now le c.index-words-passed.is c.bytes.ensures
          (sym c.begins_part.ensures ∙ c.if-begins_part.false)) ∙ c.pairs.invariant.1,
    )

pub returns-clause-value : goal.returns-clause-value
returns-clause-value c =
    let few : length c.args.words.now - c.pairs.passed < 2 = omega arith in
    sym (pairs_end c.args.adds c.args.words.now c.pairs.passed few) ∙ c.pairs.invariant.1
