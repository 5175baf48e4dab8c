use Rattle.std.proofs.Common.{◌≡◌, Bool, IfOk, List, sym, ap, ◌∙◌, subst}
use Rattle.std.specs.List.{list_any}
use Rattle.song_files.specs.Tags.{TagText}
use Rattle.filter_expr.specs.declared.subject.Subject.{Subject}
use Rattle.filter_expr.specs.Looked.{is_like_of, told_subject}
use Rattle.filter_expr.specs.Meaning.{Song, texts_for}
use Rattle.filter_expr.specs.declared.case.Case.TheVariants.{Folded}
use Rattle.filter_expr.proofs.LikeTexts.{looked_at, passes_some, some_value}
use Rattle.filter_expr.proofs.folded_row.FoldedRow.does_hold.Goals as goal

pub returns-in-File-clause-ascii : goal.returns-in-File-clause-ascii
returns-in-File-clause-ascii c = rw (← c.self.view_is) (λ song. c.is_like.ensures.ascii (rw c.uri.ensures.text song.uri))

pub returns-in_default-clause-member : goal.returns-in_default-clause-member
returns-in_default-clause-member c =
    let value = c.args.value.now in
    let song = c.args.self.now in
    let like = λ (s : Subject). list_any (is_like_of Folded s c.args.comparison value) song.tags in
    let some = some_value value c.text.result.now c.is_empty.result c.text.ensures c.is_empty.ensures c.if-is_empty.false in
    let told = c.told-told.ensures
    ∙ ap (λ (ts : List TagText). told_subject ts c.args.subject) (c.tags.ensures ∙ ap (λ (s : Song). s.tags) c.self.view_is) in
    let same = passes_some Folded c.args.subject c.args.comparison value (texts_for c.args.subject song) some
    ∙ looked_at Folded c.args.subject c.args.comparison value song c.in_default.not-File ∙ ap like (sym told) in
    subst (λ (b : Bool). IfOk c.one_is_like.result (λ passed. passed ≡ b)) (sym same) c.one_is_like.ensures.member
