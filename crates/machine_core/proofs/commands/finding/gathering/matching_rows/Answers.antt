use Rattle.std.proofs.Common.{◌∙◌}
use Rattle.std.proofs.lemmas.Result.{IfOk-weaker}
use Rattle.filter_expr.specs.Meaning.{is_match}
use Rattle.machine_core.proofs.Finding.Selected.{few_rows, selected_rows}
use Rattle.machine_core.proofs.commands.finding.gathering.matching_rows.Goals as goal

pub returns : goal.returns
returns c =
    let passes = is_match c.args.case c.args.filter.now in
    let songs = c.args.songs.now in
    let are = selected_rows passes songs _ _ c.rows.ensures.rows (c.deref.ensures.value ∙ c.in_ok-numbers.ensures.numbers) in
    record {
      found = IfOk-weaker c.rows_at.result _ _ (λ found h. h ∙ are) c.rows_at.ensures;
      few = IfOk-weaker c.rows_at.result _ _ (λ found h. few_rows passes songs (λ row. row.now) found.items (h ∙ are)) c.rows_at.ensures;
    }
