use Rattle.std.proofs.Common.{List, ap, ◌∙◌}
use Rattle.std.proofs.lemmas.Result.{IfOk-weaker}
use Rattle.profile.specs.declared.profile.Profile.TheVariants.{Named}
use Rattle.song_db.specs.Row.{Row}
use Rattle.machine_core.specs.Finding.{found, numbers_in}
use Rattle.machine_core.proofs.Finding.Meanings.{found_by_uri}
use Rattle.machine_core.proofs.commands.finding.gathering.numbers_in_window.Goals as goal

pub returns-in-Folded : goal.returns-in-Folded
returns-in-Folded c =
    let search = c.args.search.now in
    let rows = c.rows-rows.result.now in
    let is = ap (numbers_in rows) (found_by_uri search c.of_window-part.result rows c.requires c.of_window-part.ensures)
    ∙ ap (λ (songs : List Row). numbers_in songs (found Named search songs)) c.rows-rows.ensures.rows in
    record {
      numbers = IfOk-weaker c.matching_numbers.result _ _ (λ numbers h. h ∙ is) c.matching_numbers.ensures.numbers;
      few = c.matching_numbers.ensures.few;
    }
