use Rattle.std.proofs.Common.{length, ap, ◌∙◌, arith}
use Rattle.std.specs.List.{flat_map}
use Rattle.command_text.specs.AnswerSongs.{song_lines}
use Rattle.profile.specs.declared.profile.Profile.TheVariants.{Named}
use Rattle.machine_core.specs.Finding.{found}
use Rattle.machine_core.proofs.Finding.Meanings.{found_by_uri}
use Rattle.machine_core.proofs.Finding.Writers.{writes_same}
use Rattle.machine_core.proofs.commands.finding.writing.write_by_uri.Goals as goal

pub returns-in-Folded : goal.returns-in-Folded
returns-in-Folded c =
    let search = c.args.search.now in
    let rows = c.rows.result.now in
    writes_same _ _ _ _ _ c.write_matching.ensures (ap (flat_map (song_lines c.args.mask))
    (found_by_uri search c.of_window-part.result rows c.requires
    (λ some few. c.of_window-part.ensures some (omega (arith, few, c.len.ensures.count, ap length c.rows.ensures.rows)))
    ∙ ap (found Named search) c.rows.ensures.rows))
