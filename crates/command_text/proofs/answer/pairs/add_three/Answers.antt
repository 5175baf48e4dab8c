use Rattle.std.proofs.Common.{◌++◌}
use Rattle.command_text.proofs.Adding.{adds_stop, adds_then}
use Rattle.command_text.proofs.answer.pairs.add_three.Goals as goal

pub returns-in_err-add : goal.returns-in_err-add
returns-in_err-add c =
    adds_stop c.args.first.now (c.args.second.now ++ c.args.third.now) _ _ _ _ c.in_err-add.ensures c.from_residual.ensures.0

pub returns-in_err-add-2 : goal.returns-in_err-add-2
returns-in_err-add-2 c =
    adds_then c.args.first.now (c.args.second.now ++ c.args.third.now) _ _ _ _ _ c.in_ok-add.ensures
    (adds_stop c.args.second.now c.args.third.now _ _ _ _ c.in_err-add-2.ensures c.from_residual-in_err-add-2.ensures.0)

pub returns : goal.returns
returns c =
    adds_then c.args.first.now (c.args.second.now ++ c.args.third.now) _ _ _ _ _ c.in_ok-add.ensures
    (adds_then c.args.second.now c.args.third.now _ _ _ _ _ c.in_ok-add-2.ensures c.add-3.ensures)
