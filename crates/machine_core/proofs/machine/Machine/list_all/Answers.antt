use Rattle.std.proofs.Common.{◌≡◌, Option, None, ap, sym, ◌∙◌}
use Rattle.song_db.specs.Row.{Row, row_at}
use Rattle.machine_core.specs.Database.{all_at, all_below}
use Rattle.machine_core.specs.Meaning.{answers}
use Rattle.machine_core.specs.State.{MachineState}
use Rattle.machine_core.proofs.Answering.{also}
use Rattle.machine_core.proofs.Database.Meanings.{same_all_below}
use Rattle.machine_core.proofs.RowsFound.{no_row}
use Rattle.machine_core.proofs.machine.Machine.list_all.Goals as goal

pub returns-in-Err : goal.returns-in-Err
returns-in-Err c =
    let m = c.args.self.now in
    let path = c.args.path.now in
    let detail = c.args.detail in
    let songs : c.songs.result.now ≡ m.saved.songs = c.songs.ensures ∙ ap (λ (n : MachineState). n.saved.songs) c.self.view_is in
    let row : row_at m.saved.songs path ≡ None = ap (λ rows. row_at rows path) (sym songs) ∙ no_row _ _ _ c.in-Err.ensures.answer in
    also _ _ _ _ _ _ _
    (ap (λ (r : Option Row). answers (all_at detail m.saved path r) m) row
    ∙ ap (λ lines. answers lines m)
    (same_all_below detail c.args.path m.saved ∙ ap (all_below detail m.saved) (sym c.read.ensures)))
    c.list_below.ensures
