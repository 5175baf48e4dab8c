use Rattle.std.proofs.Common.{◌≡◌, ◌∷◌, ◌++◌, [], ap, sym, ◌∙◌, arith}
use Rattle.std.proofs.lemmas.List.{append-nil}
use Rattle.state_codec.specs.declared.op.list_op.ListOp.TheVariants.{Move}
use Rattle.machine_core.specs.ListMoves.{of_lists}
use Rattle.machine_core.specs.ListMovesLeft.{moves_of}
use Rattle.machine_core.proofs.Lists.Left.{none_goes, one_pushed, rest_few}
use Rattle.machine_core.proofs.commands.lists.moving.push_moves.Goals as goal

pub moves-preserved : goal.moves-preserved
moves-preserved c =
    let name = c.args.name.now in
    let op = Move name c.first-from.result.from c.first-from.result.to in
    let first : moves_of name c.moves.left ≡ op ∷ moves_of name c.rest-left.result =
    c.first-from.ensures name ∙ ap (λ r. op ∷ moves_of name r) (sym c.rest-left.ensures) in
    record {
      few = rest_few c.moves.left c.rest-left.result c.rest-left.ensures (omega arith) c.moves.invariant.few;
      ops = one_pushed _ _ _ op _ _ _ (rw c.in_ok-try_clone.ensures at c.in_ok-push.ensures.items) first c.moves.invariant.ops;
    }

pub returns-clause-ops : goal.returns-clause-ops
returns-clause-ops c =
    let name = c.args.name.now in
    let none : moves_of name c.moves.left ≡ [] = none_goes name c.moves.left (omega arith) in
    sym (append-nil c.moves.ops.items) ∙ ap (λ l. c.moves.ops.items ++ of_lists l) (sym none) ∙ c.moves.invariant.ops
