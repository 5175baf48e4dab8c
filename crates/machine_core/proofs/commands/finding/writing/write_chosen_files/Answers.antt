use Rattle.std.proofs.Common.{List, map, ap, sym, ◌∙◌}
use Rattle.std.specs.List.{flat_map}
use Rattle.std.specs.Option.{option_copied}
use Rattle.command_text.specs.AnswerSongs.{file_line}
use Rattle.command_text.proofs.Adding.{adds_same}
use Rattle.song_db.specs.Row.{Row}
use Rattle.machine_core.specs.Finding.{chosen}
use Rattle.machine_core.proofs.Finding.Writers.{of_adds, writes_no_more}
use Rattle.machine_core.proofs.commands.finding.writing.write_chosen_files.Goals as goal

pub returns-in_err-found-in-Some : goal.returns-in_err-found-in-Some
returns-in_err-found-in-Some c = writes_no_more _ c.from_residual.result c.args.out.now c.from_residual.ensures.0

pub returns-in-None : goal.returns-in-None
returns-in-None c =
    of_adds _ _ _ _ (adds_same _ _ _ _ _ c.write_files.ensures
    (ap (flat_map (λ (row : Row). file_line row.uri)) (c.rows.ensures.rows
    ∙ ap (λ filter. chosen (option_copied filter) c.args.songs.now) (sym c.in-None.is))))

pub returns-in_ok-found-in-Some : goal.returns-in_ok-found-in-Some
returns-in_ok-found-in-Some c =
    of_adds _ _ _ _ (adds_same _ _ _ _ _ c.write_found_files.ensures
    (ap (flat_map (λ (row : Row). file_line row.uri)) (ap (map (λ row. row.now)) c.deref.ensures.value ∙ c.in_ok-found-in-Some.ensures.found
    ∙ ap (λ filter. chosen (option_copied filter) c.args.songs.now) (sym c.in-Some.is))))
