use Rattle.std.proofs.Common.{◌+◌, ◌≤◌, length, sym, ap, ◌∙◌, arith}
use Rattle.command_text.specs.Finding.{next_length}
use Rattle.command_text.proofs.Mixed.{words_left, mixed_stop, mixed_go, mixed_over}
use Rattle.command_text.proofs.command.finding.mixed_length.Goals as goal

pub returns-then-next-eq0-clause-value : goal.returns-then-next-eq0-clause-value
returns-then-next-eq0-clause-value c =
    let words = c.args.words.now in
    let p = c.mixed.passed in
    let next = c.next_length-next.ensures.value ∙ ap (next_length c.args.parts) (words_left words p) in
    sym (mixed_stop c.args.parts words p c.next_length-next.result next c.if-next-eq0.true) ∙ c.mixed.invariant.1

pub mixed-preserved : goal.mixed-preserved
mixed-preserved c =
    let words = c.args.words.now in
    let p = c.mixed.passed in
    let next = c.next_length-next.ensures.value ∙ ap (next_length c.args.parts) (words_left words p) in (
      omega (arith, c.next_length-next.ensures.bound),
      mixed_go c.args.parts words p c.next_length-next.result next c.if-next-eq0.false ∙ c.mixed.invariant.1,
    )

pub returns-clause-value : goal.returns-clause-value
returns-clause-value c =
    let over : length c.args.words.now ≤ c.mixed.passed = omega arith in
    sym (mixed_over c.args.parts c.args.words.now c.mixed.passed over) ∙ c.mixed.invariant.1
