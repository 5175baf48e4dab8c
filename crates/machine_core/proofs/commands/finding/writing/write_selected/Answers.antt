use Rattle.std.proofs.Common.{map, ap, ◌∙◌}
use Rattle.std.specs.List.{flat_map}
use Rattle.command_text.proofs.Adding.{adds_same}
use Rattle.command_text.specs.AnswerSongs.{song_lines}
use Rattle.machine_core.specs.Finding.{in_window}
use Rattle.machine_core.proofs.Finding.Meanings.{matching_found}
use Rattle.machine_core.proofs.Finding.Writers.{of_adds, writes_no_more}
use Rattle.machine_core.proofs.commands.finding.writing.write_selected.Goals as goal

pub returns-in_err-found : goal.returns-in_err-found
returns-in_err-found c = writes_no_more _ c.from_residual.result c.args.out.now c.from_residual.ensures.0

pub returns : goal.returns
returns c =
    let search = c.args.search.now in
    of_adds _ _ _ _ (adds_same _ _ _ _ _ c.write_songs.ensures (ap (flat_map (song_lines c.args.mask)) (c.windowed.ensures.rows
    ∙ ap (λ items. in_window search.window (map (λ row. row.now) items)) c.deref.ensures.value
    ∙ ap (in_window search.window) c.in_ok-found.ensures.found ∙ matching_found search c.args.songs.now c.requires)))
