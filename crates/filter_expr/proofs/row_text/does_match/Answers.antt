use Rattle.std.proofs.Common.{sym, ◌∙◌}
use Rattle.filter_expr.specs.Meaning.{song_of, texts_for}
use Rattle.filter_expr.proofs.LikeTexts.{matched_at, matches_some, some_value}
use Rattle.filter_expr.proofs.row_text.does_match.Goals as goal

pub returns-in_default : goal.returns-in_default
returns-in_default c =
    let source = c.args.pattern.now in
    let song = song_of c.args.row.now in
    let some = some_value source c.source.result.now c.is_empty.result c.source.ensures c.is_empty.ensures c.if-is_empty.false in
    (rw (c.told.ensures, c.tags-tags.ensures) at c.one_matches.ensures)
    ∙ sym (matches_some c.args.fold c.args.subject source (texts_for c.args.subject song) some
    ∙ matched_at c.args.fold c.args.subject source song c.in_default.not-File)
