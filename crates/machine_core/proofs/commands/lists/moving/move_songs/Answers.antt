use Rattle.std.proofs.Common.{◌≡◌, ◌∷◌, [], ap, sym, ◌∙◌, arith}
use Rattle.state_codec.specs.declared.op.list_op.ListOp.TheVariants.{Move}
use Rattle.machine_core.specs.ListMovesLeft.{all_edited, moves_of, rest_of}
use Rattle.machine_core.proofs.Lists.Left.{first_edited, first_free, none_goes, rest_few}
use Rattle.machine_core.proofs.Lists.Timed.{left_free}
use Rattle.machine_core.proofs.commands.lists.moving.move_songs.Goals as goal

pub move_song-requires : goal.move_song-requires
move_song-requires c =
    let name = c.args.name.now in
    let left = c.moves.left in
    (first_free (Move name c.first-from.result.from c.first-from.result.to) (moves_of name (rest_of left)) (moves_of name left) c.moves.saved
    (c.first-from.ensures name) c.moves.invariant.free).0

pub moves-preserved : goal.moves-preserved
moves-preserved c =
    let name = c.args.name.now in
    let left = c.moves.left in
    let op = Move name c.first-from.result.from c.first-from.result.to in
    let rest = moves_of name c.rest-left.result in
    let first : moves_of name left ≡ op ∷ rest = c.first-from.ensures name ∙ ap (λ r. op ∷ moves_of name r) (sym c.rest-left.ensures) in
    let free = first_free op rest (moves_of name left) c.moves.saved first c.moves.invariant.free in
    record {
      few = rest_few left c.rest-left.result c.rest-left.ensures (omega arith) c.moves.invariant.few;
      free = rw c.move_song.ensures (left_free op rest c.moves.saved free.1);
      edited = first_edited op rest (moves_of name left) (moves_of name c.args.moves) c.moves.saved c.move_song.new.self c.args.saved.now
          first c.move_song.ensures c.moves.invariant.edited;
    }

pub returns : goal.returns
returns c =
    let none : moves_of c.args.name.now c.moves.left ≡ [] = none_goes c.args.name.now c.moves.left (omega arith) in
    ap (λ l. all_edited l c.moves.saved) (sym none) ∙ c.moves.invariant.edited
