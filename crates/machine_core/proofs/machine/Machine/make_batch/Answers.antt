use Rattle.std.proofs.Common.{◌≡◌, List, sym, ap, ◌∙◌}
use Rattle.song_db.specs.Scan.{drops_of}
use Rattle.song_db.specs.declared.change.RowChange.{RowChange}
use Rattle.state_codec.specs.Applied.{after}
use Rattle.state_codec.specs.declared.op.Op.TheVariants.{Batch}
use Rattle.machine_core.specs.Followed.{Following, no_block, of_step, step_as_they_leave}
use Rattle.machine_core.specs.Held.{held}
use Rattle.machine_core.specs.State.{MachineState}
use Rattle.machine_core.proofs.Edits.{was_ok}
use Rattle.machine_core.proofs.Scans.Laws.{batch_made}
use Rattle.machine_core.proofs.machine.Machine.make_batch.Goals as goal

pub returns-clause-machine : goal.returns-clause-machine
returns-clause-machine c =
    let m = c.args.self.now in
    let n : MachineState = held c.self.inside in
    let changes = c.args.changes in
    let next : Following = record { player = c.in_ok-player.player; order = c.in_ok-player.order } in
    let stands : n ≡ record m { saved = after (Batch changes) m.saved } =
    c.self.view_is ∙ was_ok c.apply.result (c.apply.new.self ≡ record m { saved = after (Batch changes) m.saved })
    (sym c.is_err.ensures.value ∙ c.if-is_err.false) c.apply.ensures.ok in
    let follows : next ≡ of_step (step_as_they_leave no_block (drops_of changes) m) =
    c.in_ok-player.ensures
    ∙ ap (λ (l : List RowChange). of_step (step_as_they_leave no_block (drops_of l) m)) c.as_slice.ensures.changes in
    batch_made changes m n next c.begin_order.new.saved c.cut_to_song.new.player follows stands c.begin_order.ensures
    c.cut_to_song.ensures
