use Rattle.std.proofs.Common.{◌≡◌, None, sym}
use Rattle.std.proofs.lemmas.List.{append-nil}
use Rattle.play_queue.specs.Shown.{shown}
use Rattle.song_db.specs.Query.{number_at}
use Rattle.machine_core.proofs.Lists.Rows.{no_number}
use Rattle.machine_core.proofs.RowsFound.{no_row}
use Rattle.machine_core.proofs.named.push_entry_number.Goals as goal

pub returns-in_default : goal.returns-in_default
returns-in_default c =
    let songs = c.args.songs.now in
    let uri = (shown c.args.entry.now).uri in
    let none : number_at songs uri ≡ None = no_number songs uri (no_row _ _ _ c.in_default.ensures.answer) in
    rw none (sym (append-nil c.args.numbers.now.items))
