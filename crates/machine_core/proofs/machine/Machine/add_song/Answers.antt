use Rattle.std.proofs.Common.{ap, sym, ◌∙◌}
use Rattle.std.specs.Option.{ok_or}
use Rattle.command_text.specs.declared.refusal.CommandRefusal.TheVariants.{NoSuchUri}
use Rattle.song_db.specs.Query.{number_at}
use Rattle.machine_core.proofs.Answering.{also}
use Rattle.machine_core.proofs.Queue.Meanings.{song_added}
use Rattle.machine_core.proofs.machine.Machine.add_song.Goals as goal

pub returns : goal.returns
returns c =
    let m = c.args.self.now in
    also _ _ m _ _ _ _
    (song_added c.args.uri c.args.to m c.in_ok-row.row c.in_ok-at.at
    (ap (λ uri. ok_or (number_at m.saved.songs uri) NoSuchUri) (sym c.as_str.ensures) ∙ sym c.in_ok-row.ensures) c.in_ok-at.ensures)
    c.add_row.ensures
