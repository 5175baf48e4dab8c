use Rattle.std.proofs.Common.{◌≡◌, ℕ, ◌+◌, false, true, List, [], ◌++◌, None, Ok, length, ap, sym, ◌∙◌, arith}
use Rattle.std.specs.Option.{option_map}
use Rattle.state_codec.specs.Applied.{after_all}
use Rattle.state_codec.specs.SavedState.{SavedState}
use Rattle.state_codec.specs.Spelling.{ops_bytes}
use Rattle.state_codec.specs.declared.op.Op.{Op}
use Rattle.stored_lists.specs.Times.{Times}
use Rattle.machine_core.specs.Changed.{same_lists}
use Rattle.machine_core.specs.Held.{held}
use Rattle.machine_core.specs.ListMoves.{block_moves, moves_songs, of_lists}
use Rattle.machine_core.specs.ListMovesLeft.{all_edited, moves_of}
use Rattle.machine_core.specs.Meaning.{does, refusal_of_all, says}
use Rattle.machine_core.specs.State.{MachineState, shown_of}
use Rattle.machine_core.proofs.Answering.{also, says_nothing}
use Rattle.machine_core.proofs.Edits.{too_much}
use Rattle.machine_core.proofs.Lists.Going.{block_free, moves_within, together_does, together_stands, well_named}
use Rattle.machine_core.proofs.Lists.Made.{ops_went}
use Rattle.machine_core.proofs.Lists.Timed.{block_of_one, edited_keeps, moves_made, shown_edited}
use Rattle.machine_core.proofs.machine.Machine.move_block_in_list.Goals as goal

-- the block stays where it is
pub returns-then-block_stays : goal.returns-then-block_stays
returns-then-block_stays c =
    let m = c.args.self.now in
    let name = c.args.name.now in
    let block = c.args.block in
    let to = c.args.to in
    let count = c.args.count in
    let free : refusal_of_all (of_lists (block_moves name block to)) m.saved ≡ None =
    block_free name block to count m.saved (well_named name name c.requires.named) c.requires.count.0 c.requires.within (omega arith) in
    let same : same_lists m.saved.lists (after_all (of_lists (block_moves name block to)) m.saved).lists ≡ true =
    ap (λ (text : List ℕ). same_lists m.saved.lists (after_all (of_lists (block_moves text block to)) m.saved).lists)
    (sym c.as_str.ensures.text) ∙ sym c.block_stays.ensures ∙ c.if-block_stays.true in
    also (moves_songs name block to count m) (says [] m) m m c.args.work.now c.args.work.now (Ok tt)
    (moves_within name block to count m (omega arith) ∙ together_stands (block_moves name block to) m free same)
    (says_nothing m c.args.work.now tt c.requires.room)

-- too many bytes
pub returns-in_err-size : goal.returns-in_err-size
returns-in_err-size c =
    let m = c.args.self.now in
    let name = c.args.name.now in
    let block = c.args.block in
    let to = c.args.to in
    let count = c.args.count in
    let p = c.profile.result in
    let under : p ≡ m.saved.profile = c.profile.ensures ∙ ap (λ (n : MachineState). n.saved.profile) c.self.view_is in
    let free : refusal_of_all (of_lists (block_moves name block to)) m.saved ≡ None =
    block_free name block to count m.saved (well_named name name c.requires.named) c.requires.count.0 c.requires.within (omega arith) in
    let other : same_lists m.saved.lists (after_all (of_lists (block_moves name block to)) m.saved).lists ≡ false =
    ap (λ (text : List ℕ). same_lists m.saved.lists (after_all (of_lists (block_moves text block to)) m.saved).lists)
    (sym c.as_str.ensures.text) ∙ sym c.block_stays.ensures ∙ c.if-block_stays.false in
    let ops : c.push_moves.new.ops.items ≡ of_lists (block_moves name block to) =
    c.in_ok-push_moves.ensures.ops ∙ (λ i. c.new-ops.ensures.items i ++ of_lists (c.block_moves-moves.ensures.moves name i)) in
    too_much p (moves_songs name block to count m) (does [] (of_lists (block_moves name block to)) m.player m)
    (length (ops_bytes p c.deref.result.now)) m c.args.work.now c.admit_all.new.self c.in_err-size.field-0.0
    c.from_residual-in_err-size.result under
    (moves_within name block to count m (omega arith) ∙ together_does (block_moves name block to) m free other)
    (ap (λ (l : List Op). length (ops_bytes p l)) (c.deref.ensures.value ∙ ops))
    c.in_err-size.ensures.nothing c.in_err-size.ensures.refused c.from_residual-in_err-size.ensures.1

-- it goes
pub move_songs-requires-clause-free : goal.move_songs-requires-clause-free
move_songs-requires-clause-free c =
    let m = c.args.self.now in
    let name = c.args.name.now in
    let block = c.args.block in
    let to = c.args.to in
    let saved : c.self.inside.saved ≡ m.saved = ap (λ (n : MachineState). n.saved) c.self.view_is in
    (λ i. refusal_of_all (of_lists (c.block_moves-moves.ensures.moves name i)) (saved i))
    ∙ block_free name block to c.args.count m.saved (well_named name name c.requires.named) c.requires.count.0 c.requires.within (omega arith)

-- and then its playlist was changed
pub timed_name-requires : goal.timed_name-requires
timed_name-requires c = well_named c.args.name.now c.args.name.now c.requires.named

pub put_untimed-requires-clause-good : goal.put_untimed-requires-clause-good
put_untimed-requires-clause-good c = well_named c.args.name.now c.args.name.now c.requires.named

pub put_untimed-requires-clause-name : goal.put_untimed-requires-clause-name
put_untimed-requires-clause-name c =
    let ops = moves_of c.args.name.now c.block_moves-moves.result in
    c.in_ok-listed.ensures
    ∙ ap (option_map (λ (times : Times). c.args.name.now))
    (sym (ap (λ (s : SavedState). s.changed) c.move_songs.ensures ∙ edited_keeps ops c.self.inside.saved))

-- what is shown stays
pub invariant_of-self : goal.invariant_of-self
invariant_of-self c x is =
    let n : MachineState = held c.self.inside in
    c.self.invariant x is
    ∙ sym (shown_edited (moves_of c.args.name.now c.block_moves-moves.result) n)
    ∙ ap (λ (s : SavedState). shown_of (record n { saved = s })) (sym c.move_songs.ensures)
    ∙ ap (λ (s : SavedState). shown_of (record n { saved = s })) (sym c.put_untimed.ensures)

pub returns : goal.returns
returns c =
    let m = c.args.self.now in
    let n : MachineState = held c.self.inside in
    let name = c.args.name.now in
    let block = c.args.block in
    let to = c.args.to in
    let count = c.args.count in
    let p = c.profile.result in
    let under : p ≡ m.saved.profile = c.profile.ensures ∙ ap (λ (n : MachineState). n.saved.profile) c.self.view_is in
    let free : refusal_of_all (of_lists (block_moves name block to)) m.saved ≡ None =
    block_free name block to count m.saved (well_named name name c.requires.named) c.requires.count.0 c.requires.within (omega arith) in
    let other : same_lists m.saved.lists (after_all (of_lists (block_moves name block to)) m.saved).lists ≡ false =
    ap (λ (text : List ℕ). same_lists m.saved.lists (after_all (of_lists (block_moves text block to)) m.saved).lists)
    (sym c.as_str.ensures.text) ∙ sym c.block_stays.ensures ∙ c.if-block_stays.false in
    let ops : c.push_moves.new.ops.items ≡ of_lists (block_moves name block to) =
    c.in_ok-push_moves.ensures.ops ∙ (λ i. c.new-ops.ensures.items i ++ of_lists (c.block_moves-moves.ensures.moves name i)) in
    let saved : n.saved ≡ m.saved = ap (λ (k : MachineState). k.saved) c.self.view_is in
    let went : c.move_songs.new.saved ≡ all_edited (block_moves name block to) m.saved =
    c.move_songs.ensures ∙ (λ i. all_edited (c.block_moves-moves.ensures.moves name i) (saved i)) in
    let made : c.put_untimed.new.self ≡ after_all (of_lists (block_moves name block to)) m.saved =
    moves_made name (block_moves name block to) m.saved c.move_songs.new.saved c.put_untimed.new.self (block_of_one name block to) free other
    went c.put_untimed.ensures in
    let stands : record n { saved = c.put_untimed.new.self } ≡ record m { saved = after_all (of_lists (block_moves name block to)) m.saved } =
    λ i. record (c.self.view_is i) { saved = made i } in
    ops_went (moves_songs name block to count m) (of_lists (block_moves name block to)) m _ p c.in_ok-size.size c.args.work.now
    c.admit_all.new.self c.push_all.new.self
    (moves_within name block to count m (omega arith) ∙ together_does (block_moves name block to) m free other) stands under
    c.requires.room c.in_ok-size.ensures.nothing c.in_ok-size.ensures.same
    (c.in_ok-size.ensures.size ∙ ap (λ (l : List Op). c.args.work.now.size + length (ops_bytes p l)) (c.deref.ensures.value ∙ ops))
    (c.push_all.ensures.ops ∙ ap (λ (l : List Op). c.admit_all.new.self.ops.items ++ l) ops)
    c.push_all.ensures.size c.push_all.ensures.text c.push_all.ensures.keeps
