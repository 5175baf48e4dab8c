use Rattle.std.proofs.Common.{ℕ, List, [], Bor}
use Rattle.command_text.proofs.Adding.{parts_stop}
use Rattle.command_text.proofs.answer.pairs.append.Goals as goal

pub returns-in_err-extend_from_slice : goal.returns-in_err-extend_from_slice
returns-in_err-extend_from_slice c =
    let nothing : Bor (List ℕ) = record { ref_ptr = (0, 0); now = [] } in
    let extend = c.in_err-extend_from_slice.ensures in
    parts_stop c.args.parts.now c.loop-part.part-index nothing c.from_residual.result c.args.out.now c.loop-part.out
    c.extend_from_slice.new.self c.loop-part-test.true c.loop-part.invariant.items extend.items extend.full c.loop-part.invariant.room
    extend.capacity c.from_residual.ensures.0
