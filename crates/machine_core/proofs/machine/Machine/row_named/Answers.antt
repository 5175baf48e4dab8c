use Rattle.std.proofs.Common.{◌≡◌, None, sym, ap, ◌∙◌}
use Rattle.std.specs.Option.{ok_or}
use Rattle.command_text.specs.declared.refusal.CommandRefusal.TheVariants.{NoSuchUri}
use Rattle.song_db.specs.Row.{row_at}
use Rattle.machine_core.specs.State.{MachineState}
use Rattle.machine_core.proofs.Lists.Rows.{no_number}
use Rattle.machine_core.proofs.RowsFound.{no_row}
use Rattle.machine_core.proofs.machine.Machine.row_named.Goals as goal

pub returns-in-Err : goal.returns-in-Err
returns-in-Err c =
    let songs = c.args.self.now.saved.songs in
    let uri = c.args.uri.now in
    let same = c.songs-songs.ensures ∙ ap (λ (m : MachineState). m.saved.songs) c.self.view_is in
    let none : row_at songs uri ≡ None = ap (λ rows. row_at rows uri) (sym same) ∙ no_row _ _ _ c.in-Err.ensures.answer in
    ap (λ number. ok_or number NoSuchUri) (sym (no_number songs uri none))
