use Rattle.std.proofs.Common.{◌≡◌, ◌<◌, ◌+◌, Bool, false, List, [], ◌∷◌, ◌++◌, Some, None, length, slice_index_or, ap, sym, ◌∙◌, arith}
use Rattle.state_codec.specs.Applied.{after, after_all, refusal_of}
use Rattle.state_codec.specs.SavedState.{SavedState}
use Rattle.state_codec.specs.Spelling.{ops_bytes}
use Rattle.state_codec.specs.declared.op.Op.{Op}
use Rattle.state_codec.specs.declared.op.Op.TheVariants.{List as OfLists}
use Rattle.state_codec.specs.declared.op.list_op.ListOp.TheVariants.{Add}
use Rattle.machine_core.specs.Held.{held}
use Rattle.machine_core.specs.ListMoves.{of_lists, puts_in, song_moves}
use Rattle.machine_core.specs.ListMovesLeft.{all_edited, moves_of}
use Rattle.machine_core.specs.Meaning.{does, refusal_of_all}
use Rattle.machine_core.specs.State.{MachineState, shown_of}
use Rattle.machine_core.proofs.Edits.{allowed_by, refused_by, too_much}
use Rattle.machine_core.proofs.Lists.Left.{one_free_then}
use Rattle.machine_core.proofs.Lists.Made.{op_refused, ops_went}
use Rattle.machine_core.proofs.Lists.Placed.{placed_free, placed_means, placed_ops, placed_refused}
use Rattle.machine_core.proofs.Lists.Timed.{added_made, moves_of_one, shown_edited}
use Rattle.machine_core.proofs.machine.Machine.put_in.Goals as goal

-- the songs can't be added
pub returns-in_err-check : goal.returns-in_err-check
returns-in_err-check c =
    let m = c.args.self.now in
    let name = c.args.name.now in
    let rows = c.args.rows in
    let e = c.in_err-check.field-0.0 in
    let saved : c.self.inside.saved ≡ m.saved = ap (λ (n : MachineState). n.saved) c.self.view_is in
    let refused : refusal_of (OfLists (Add name rows)) m.saved ≡ Some e =
    (λ i. refusal_of (OfLists (Add (sym c.in_ok-try_clone.ensures i) rows)) (sym saved i))
    ∙ refused_by Bool (refusal_of (OfLists (Add c.in_ok-try_clone.field-0 rows)) c.self.inside.saved) e c.in_err-check.ensures.answer in
    op_refused (puts_in name rows c.args.at c.args.end m) m c.args.work.now e c.from_residual-in_err-check.result
    (placed_refused name rows c.args.at c.args.end m c.requires.end c.requires.front (omega arith) e refused)
    c.from_residual-in_err-check.ensures.1

-- too many bytes
pub returns-in_err-size : goal.returns-in_err-size
returns-in_err-size c =
    let m = c.args.self.now in
    let name = c.args.name.now in
    let rows = c.args.rows in
    let p = c.profile.result in
    let under : p ≡ m.saved.profile = c.profile.ensures ∙ ap (λ (n : MachineState). n.saved.profile) c.self.view_is in
    let saved : c.self.inside.saved ≡ m.saved = ap (λ (n : MachineState). n.saved) c.self.view_is in
    let some : 0 < length rows = omega arith in
    let free : refusal_of (OfLists (Add name rows)) m.saved ≡ None =
    (λ i. refusal_of (OfLists (Add (sym c.in_ok-try_clone.ensures i) rows)) (sym saved i))
    ∙ allowed_by (refusal_of (OfLists (Add c.in_ok-try_clone.field-0 rows)) c.self.inside.saved) c.in_ok-check.field-0
    c.in_ok-check.ensures.answer in
    let added : c.push.new.self.items ≡ OfLists (Add name rows) ∷ [] =
    c.in_ok-push.ensures.items ∙ (λ i. c.new-ops.ensures.items i ++ OfLists (Add (c.in_ok-try_clone.ensures i) rows) ∷ []) in
    let goes : moves_of name c.song_moves-moves.result ≡ song_moves false name c.args.end c.args.at (length rows) =
    c.song_moves-moves.ensures.moves name ∙ (λ i. song_moves false name c.args.end c.args.at (c.len-2.ensures i)) in
    let ops : c.push_moves.new.ops.items ≡ of_lists (placed_ops name rows c.args.at c.args.end) =
    c.in_ok-push_moves.ensures.ops ∙ (λ i. added i ++ of_lists (goes i)) in
    too_much p (puts_in name rows c.args.at c.args.end m) (does [] (of_lists (placed_ops name rows c.args.at c.args.end)) m.player m)
    (length (ops_bytes p c.deref.result.now)) m c.args.work.now c.admit_all.new.self c.in_err-size.field-0.0
    c.from_residual-in_err-size.result under
    (placed_means name rows c.args.at c.args.end m c.requires.end c.requires.front some free)
    (ap (λ (l : List Op). length (ops_bytes p l)) (c.deref.ensures.value ∙ ops))
    c.in_err-size.ensures.nothing c.in_err-size.ensures.refused c.from_residual-in_err-size.ensures.1

-- they go to their place
pub move_songs-requires-clause-free : goal.move_songs-requires-clause-free
move_songs-requires-clause-free c =
    let m = c.args.self.now in
    let name = c.args.name.now in
    let rows = c.args.rows in
    let at = c.args.at in
    let end = c.args.end in
    let saved : c.self.inside.saved ≡ m.saved = ap (λ (n : MachineState). n.saved) c.self.view_is in
    let free : refusal_of (OfLists (Add name rows)) m.saved ≡ None =
    (λ i. refusal_of (OfLists (Add (sym c.in_ok-try_clone.ensures i) rows)) (sym saved i))
    ∙ allowed_by (refusal_of (OfLists (Add c.in_ok-try_clone.field-0 rows)) c.self.inside.saved) c.in_ok-check.field-0
    c.in_ok-check.ensures.answer in
    let added : c.push.new.self.items ≡ OfLists (Add name rows) ∷ [] =
    c.in_ok-push.ensures.items ∙ (λ i. c.new-ops.ensures.items i ++ OfLists (Add (c.in_ok-try_clone.ensures i) rows) ∷ []) in
    let goes : moves_of name c.song_moves-moves.result ≡ song_moves false name end at (length rows) =
    c.song_moves-moves.ensures.moves name ∙ (λ i. song_moves false name end at (c.len-2.ensures i)) in
    let ops : c.push_moves.new.ops.items ≡ of_lists (placed_ops name rows at end) =
    c.in_ok-push_moves.ensures.ops ∙ (λ i. added i ++ of_lists (goes i)) in
    let first : c.index.result.now ≡ OfLists (Add name rows) =
    c.index.ensures ∙ ap (λ (l : List Op). slice_index_or l 0 c.index.result.now) ops in
    let grown : c.self-2.inside.saved ≡ after (OfLists (Add name rows)) m.saved =
    ap (λ (n : MachineState). n.saved) (c.self-2.view_is ∙ c.in_ok-apply.ensures.ok)
    ∙ ap (λ (op : Op). after op m.saved) first in
    (λ i. refusal_of_all (of_lists (goes i)) (grown i))
    ∙ (one_free_then (Add name rows) (song_moves false name end at (length rows)) m.saved
    (placed_free name rows at end m c.requires.end c.requires.front (omega arith) free)).1

-- what is shown stays
pub invariant_of-self : goal.invariant_of-self
invariant_of-self c x is =
    let n : MachineState = held c.self-2.inside in
    c.self-2.invariant x is
    ∙ sym (shown_edited (moves_of c.args.name.now c.song_moves-moves.result) n)
    ∙ ap (λ (s : SavedState). shown_of (record n { saved = s })) (sym c.move_songs.ensures)

pub returns : goal.returns
returns c =
    let m = c.args.self.now in
    let n : MachineState = held c.self-2.inside in
    let name = c.args.name.now in
    let rows = c.args.rows in
    let at = c.args.at in
    let end = c.args.end in
    let p = c.profile.result in
    let under : p ≡ m.saved.profile = c.profile.ensures ∙ ap (λ (n : MachineState). n.saved.profile) c.self.view_is in
    let saved : c.self.inside.saved ≡ m.saved = ap (λ (n : MachineState). n.saved) c.self.view_is in
    let free : refusal_of (OfLists (Add name rows)) m.saved ≡ None =
    (λ i. refusal_of (OfLists (Add (sym c.in_ok-try_clone.ensures i) rows)) (sym saved i))
    ∙ allowed_by (refusal_of (OfLists (Add c.in_ok-try_clone.field-0 rows)) c.self.inside.saved) c.in_ok-check.field-0
    c.in_ok-check.ensures.answer in
    let added : c.push.new.self.items ≡ OfLists (Add name rows) ∷ [] =
    c.in_ok-push.ensures.items ∙ (λ i. c.new-ops.ensures.items i ++ OfLists (Add (c.in_ok-try_clone.ensures i) rows) ∷ []) in
    let goes : moves_of name c.song_moves-moves.result ≡ song_moves false name end at (length rows) =
    c.song_moves-moves.ensures.moves name ∙ (λ i. song_moves false name end at (c.len-2.ensures i)) in
    let ops : c.push_moves.new.ops.items ≡ of_lists (placed_ops name rows at end) =
    c.in_ok-push_moves.ensures.ops ∙ (λ i. added i ++ of_lists (goes i)) in
    let first : c.index.result.now ≡ OfLists (Add name rows) =
    c.index.ensures ∙ ap (λ (l : List Op). slice_index_or l 0 c.index.result.now) ops in
    let grown : n ≡ record m { saved = after (OfLists (Add name rows)) m.saved } =
    c.self-2.view_is ∙ c.in_ok-apply.ensures.ok ∙ ap (λ (op : Op). record m { saved = after op m.saved }) first in
    let went : c.move_songs.new.saved ≡ all_edited (song_moves false name end at (length rows)) n.saved =
    c.move_songs.ensures ∙ (λ i. all_edited (goes i) n.saved) in
    let made : c.move_songs.new.saved ≡ after_all (of_lists (placed_ops name rows at end)) m.saved =
    added_made name rows (song_moves false name end at (length rows)) m.saved n.saved c.move_songs.new.saved
    (moves_of_one false name end at (length rows)) (omega arith) (ap (λ (k : MachineState). k.saved) grown) went in
    let stands : record n { saved = c.move_songs.new.saved }
    ≡ record m { saved = after_all (of_lists (placed_ops name rows at end)) m.saved } =
    λ i. record (grown i) { saved = made i } in
    ops_went (puts_in name rows at end m) (of_lists (placed_ops name rows at end)) m _ p c.in_ok-size.size c.args.work.now
    c.admit_all.new.self c.push_all.new.self
    (placed_means name rows at end m c.requires.end c.requires.front (omega arith) free) stands under c.requires.room
    c.in_ok-size.ensures.nothing c.in_ok-size.ensures.same
    (c.in_ok-size.ensures.size ∙ ap (λ (l : List Op). c.args.work.now.size + length (ops_bytes p l)) (c.deref.ensures.value ∙ ops))
    (c.push_all.ensures.ops ∙ ap (λ (l : List Op). c.admit_all.new.self.ops.items ++ l) ops)
    c.push_all.ensures.size c.push_all.ensures.text c.push_all.ensures.keeps
