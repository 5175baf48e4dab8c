use Rattle.std.proofs.Common.{◌≡◌, None, sym, ap, ◌∙◌}
use Rattle.state_codec.specs.OpsLists.{list_refusal}
use Rattle.state_codec.specs.Stored.{state_of}
use Rattle.state_codec.specs.declared.op.list_op.ListOp.TheVariants.{Move}
use Rattle.state_codec.proofs.Told.{checked_none, move_told}
use Rattle.state_codec.proofs.saved.checking.check_list.Goals as goal

pub returns-in_ok-of_lists-in-Move-clause-changes : goal.returns-in_ok-of_lists-in-Move-clause-changes
returns-in_ok-of_lists-in-Move-clause-changes c =
    let s = state_of c.args.parts.now in
    let checked : list_refusal (Move c.as_str-in-Move.result.now c.in-Move.from c.in-Move.to) s ≡ None =
    checked_none _ c.in_ok-of_lists-in-Move.field-0 (c.in_ok-of_lists-in-Move.ensures _ c.check_move_at.ensures.answer) in
    let same = c.as_str-in-Move.ensures.text ∙ sym c.as_str-in-Move-2.ensures.text in
    let none : list_refusal (Move c.as_str-in-Move-2.result.now c.in-Move.from c.in-Move.to) s ≡ None =
    ap (λ text. list_refusal (Move text c.in-Move.from c.in-Move.to) s) (sym same) ∙ checked in
    move_told c.args.op.now s c.in-Move.name c.as_str-in-Move-2.result.now c.in-Move.from c.in-Move.to c.would_move_at.result c.in-Move.is
    c.as_str-in-Move-2.ensures.text c.would_move_at.ensures.changes c.would_move_at.ensures.stays none
