use Rattle.std.proofs.Common.{◌+◌, arith}
use Rattle.command_text.proofs.Parting.{piece_nil}
use Rattle.command_text.proofs.Searches.{found_special, closed_at, ends_escaped, piece_past, no_special}
use Rattle.command_text.proofs.words.closing_quote.Goals as goal

pub loop-run-init : goal.loop-run-init
loop-run-init c = (omega arith, piece_nil)

pub returns-then-inside-place-eq34 : goal.returns-then-inside-place-eq34
returns-then-inside-place-eq34 c =
    let found = found_special c.args.inside.now c.loop-run.passed c.in-Some.run' c.loop-run.invariant.0 c.loop-run.invariant.1
    c.in-Some.ensures in
    closed_at c.args.inside.now (c.loop-run.passed + c.in-Some.run') found c.if-inside-place-eq34.true

pub returns-then-place-inside : goal.returns-then-place-inside
returns-then-place-inside c =
    let found = found_special c.args.inside.now c.loop-run.passed c.in-Some.run' c.loop-run.invariant.0 c.loop-run.invariant.1
    c.in-Some.ensures in
    ends_escaped c.args.inside.now (c.loop-run.passed + c.in-Some.run') found c.if-inside-place-eq34.false c.if-place-inside.true

pub loop-run-preserved : goal.loop-run-preserved
loop-run-preserved c =
    let found = found_special c.args.inside.now c.loop-run.passed c.in-Some.run' c.loop-run.invariant.0 c.loop-run.invariant.1
    c.in-Some.ensures in
    piece_past c.args.inside.now (c.loop-run.passed + c.in-Some.run') found c.if-inside-place-eq34.false c.if-place-inside.false

pub returns : goal.returns
returns c = no_special c.args.inside.now c.loop-run.passed c.loop-run.invariant.0 c.loop-run.invariant.1 c.in_default.ensures
