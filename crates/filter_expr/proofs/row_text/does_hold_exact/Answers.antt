use Rattle.std.proofs.Common.{sym, ◌∙◌}
use Rattle.filter_expr.specs.Meaning.{song_of, texts_for}
use Rattle.filter_expr.specs.declared.case.Case.TheVariants.{Exact}
use Rattle.filter_expr.proofs.LikeTexts.{looked_at, passes_some, some_value}
use Rattle.filter_expr.proofs.row_text.does_hold_exact.Goals as goal

pub returns-in_default : goal.returns-in_default
returns-in_default c =
    let value = c.args.value.now in
    let song = song_of c.args.row.now in
    let some = some_value value c.text.result.now c.is_empty.result c.text.ensures c.is_empty.ensures c.if-is_empty.false in
    (rw (c.text-in_default.ensures, c.told.ensures, c.tags-tags.ensures) at c.one_is_like.ensures)
    ∙ sym (passes_some Exact c.args.subject c.args.comparison value (texts_for c.args.subject song) some
    ∙ looked_at Exact c.args.subject c.args.comparison value song c.in_default.not-File)
