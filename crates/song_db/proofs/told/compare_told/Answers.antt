use Rattle.std.proofs.Common.{sym, ◌∙◌, refl, rules}
use Rattle.song_db.specs.Told.{told_key}
use Rattle.song_db.proofs.ToldKeys.{folder_last, folders_decide, folders_tied, song_first}
use Rattle.song_db.proofs.told.compare_told.Goals as goal

pub parts-init : goal.parts-init
unfolding told_key
parts-init c = (search rules, search rules, rw (c.uri-left_path.ensures.text, c.uri-right_path.ensures.text) refl)

pub returns-in_default-split_part : goal.returns-in_default-split_part
returns-in_default-split_part c =
    sym (folder_last c.args.left.now c.args.right.now c.in-Some.left_folder.now c.in-Some.left_rest.now c.parts.right_path.now)
    ∙ rw (c.in-Some.ensures.parts, c.in_default-split_part.ensures.parts) at c.parts.invariant.2

pub returns-then-not-is_eq : goal.returns-then-not-is_eq
returns-then-not-is_eq c =
    let keys = rw (c.in-Some.ensures.parts, c.in-Some-split_part.ensures.parts) at c.parts.invariant.2 in
    folders_decide c.args.left.now c.args.right.now c.in-Some.left_folder.now c.in-Some-split_part.right_folder.now
    c.in-Some.left_rest.now c.in-Some-split_part.right_rest.now _ _ c.compare_texts-order.ensures
    (sym c.is_eq.ensures ∙ c.if-not-is_eq.true) keys

pub returns-in-Some-split_part-2 : goal.returns-in-Some-split_part-2
returns-in-Some-split_part-2 c =
    sym (song_first c.args.left.now c.args.right.now c.parts.left_path.now c.in-Some-split_part-2.field-0.0.now
    c.in-Some-split_part-2.field-0.1.now)
    ∙ rw (c.in_default.ensures.parts, c.in-Some-split_part-2.ensures.parts) at c.parts.invariant.2

pub parts-preserved : goal.parts-preserved
parts-preserved c =
    let keys = rw (c.in-Some.ensures.parts, c.in-Some-split_part.ensures.parts) at c.parts.invariant.2 in (
      search rules,
      search rules,
      folders_tied c.args.left.now c.args.right.now c.in-Some.left_folder.now
          c.in-Some-split_part.right_folder.now c.in-Some.left_rest.now c.in-Some-split_part.right_rest.now _ _ c.compare_texts-order.ensures
          (sym c.is_eq.ensures ∙ c.if-not-is_eq.false) keys,
    )
