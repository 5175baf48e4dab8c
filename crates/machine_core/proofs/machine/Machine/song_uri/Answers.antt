use Rattle.std.proofs.Common.{◌≡◌, true, Some, Ok, ap, sym, ◌∙◌}
use Rattle.song_db.specs.Change.{has_uri}
use Rattle.song_db.specs.Row.{row_at}
use Rattle.machine_core.specs.State.{MachineState}
use Rattle.machine_core.proofs.RowsFound.{has_found, uri_of_row}
use Rattle.machine_core.proofs.machine.Machine.song_uri.Goals as goal

pub returns : goal.returns
returns c =
    let m = c.args.self.now in
    let uri = c.args.uri.now in
    let songs : c.songs.result.now ≡ m.saved.songs = c.songs.ensures ∙ ap (λ (n : MachineState). n.saved.songs) c.self.view_is in
    let found : row_at m.saved.songs uri ≡ Some c.in-Ok.row.now = ap (λ rows. row_at rows uri) (sym songs) ∙ c.in-Ok.ensures.row in
    let there : has_uri m.saved.songs uri ≡ true = has_found m.saved.songs uri _ found in
    let same : c.in_ok-try_clone.field-0 ≡ uri = c.in_ok-try_clone.ensures ∙ c.as_uri.ensures ∙ uri_of_row m.saved.songs uri _ found in
    rw there (ap Ok (sym same))
