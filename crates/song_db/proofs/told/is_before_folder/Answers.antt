use Rattle.std.proofs.Common.{[], refl, sym, ◌∙◌, rules}
use Rattle.song_db.specs.Told.{folder_end, folder_key, told_key}
use Rattle.song_db.proofs.ToldFolders.{at_end, before_folders, part_decides, part_tied}
use Rattle.song_db.proofs.told.is_before_folder.Goals as goal

pub parts-init : goal.parts-init
unfolding told_key folder_key
parts-init c = (search rules, search rules, rw c.uri-path.ensures.text refl)

pub returns-then-not-is_eq : goal.returns-then-not-is_eq
returns-then-not-is_eq c =
    let whole = rw (c.in-Some.ensures.parts, c.first_part.ensures) at c.parts.invariant.2 in
    c.is_lt.ensures ∙ part_decides c.args.row.now c.in-Some.part.now c.in-Some.rest.now _ _ (folder_end c.args.own) _ _
    c.compare_texts-order.ensures (sym c.is_eq.ensures ∙ c.if-not-is_eq.true) whole

pub returns-in_default-more : goal.returns-in_default-more
returns-in_default-more c =
    let whole = rw (c.in-Some.ensures.parts, c.first_part.ensures, c.in_default-more.is) at c.parts.invariant.2 in
    sym (at_end c.args.row.now c.in-Some.rest.now c.args.own)
    ∙ part_tied c.args.row.now c.in-Some.part.now c.in-Some.rest.now _ [] (folder_end c.args.own) _ _
    c.compare_texts-order.ensures (sym c.is_eq.ensures ∙ c.if-not-is_eq.false) whole

pub parts-preserved : goal.parts-preserved
parts-preserved c =
    let whole = rw (c.in-Some.ensures.parts, c.first_part.ensures, c.in-Some-more.is) at c.parts.invariant.2 in (
      search rules,
      search rules,
      part_tied c.args.row.now c.in-Some.part.now c.in-Some.rest.now _ _ (folder_end c.args.own) _ _
          c.compare_texts-order.ensures (sym c.is_eq.ensures ∙ c.if-not-is_eq.false) whole,
    )

pub returns : goal.returns
returns c =
    sym (before_folders c.args.row.now c.parts.path.now c.parts.folder_path.now (folder_end c.args.own))
    ∙ rw c.in_default.ensures.parts at c.parts.invariant.2
