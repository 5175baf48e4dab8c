use Rattle.std.proofs.Common.{◌≡◌, Option, Some, None, refl, ap, sym, ◌∙◌}
use Rattle.command_text.specs.AnswerSongs.{song_lines}
use Rattle.song_db.specs.Row.{Row, row_at}
use Rattle.machine_core.specs.Database.{folder_info, info_at}
use Rattle.machine_core.specs.Meaning.{answers}
use Rattle.machine_core.specs.State.{MachineState}
use Rattle.machine_core.proofs.Answering.{also, reads}
use Rattle.machine_core.proofs.Elsewhere.{same_folder_info}
use Rattle.machine_core.proofs.RowsFound.{no_row}
use Rattle.machine_core.proofs.machine.Machine.list_info.Goals as goal

pub returns-in-Ok : goal.returns-in-Ok
returns-in-Ok c =
    let m = c.args.self.now in
    let path = c.args.path.now in
    let songs : c.songs.result.now ≡ m.saved.songs = c.songs.ensures ∙ ap (λ (n : MachineState). n.saved.songs) c.self.view_is in
    let row : row_at m.saved.songs path ≡ Some c.in-Ok.row.now = ap (λ rows. row_at rows path) (sym songs) ∙ c.in-Ok.ensures.row in
    reads _ (song_lines c.args.mask c.in-Ok.row.now) m m _ c.args.work.now _ c.keep.new.self _ _
    (ap (λ (r : Option Row). answers
    (info_at c.args.mask m.saved path r) m) row) refl c.len-mark.ensures refl refl c.write_song-written.ensures c.keep.ensures

pub returns-in-Err : goal.returns-in-Err
returns-in-Err c =
    let m = c.args.self.now in
    let path = c.args.path.now in
    let songs : c.songs.result.now ≡ m.saved.songs = c.songs.ensures ∙ ap (λ (n : MachineState). n.saved.songs) c.self.view_is in
    let row : row_at m.saved.songs path ≡ None = ap (λ rows. row_at rows path) (sym songs) ∙ no_row _ _ _ c.in-Err.ensures.answer in
    also _ _ _ _ _ _ _
    (ap (λ (r : Option Row). answers (info_at c.args.mask m.saved path r) m) row
    ∙ ap (λ lines. answers lines m) (same_folder_info c.args.mask c.args.path m.saved ∙ ap (folder_info c.args.mask m.saved)
    (sym c.read.ensures)))
    c.list_folder.ensures
