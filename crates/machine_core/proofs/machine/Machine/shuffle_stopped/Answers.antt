use Rattle.std.proofs.Common.{◌≡◌, ◌∷◌, [], length, ap, ◌∙◌}
use Rattle.player_core.specs.Player.{stopped_without_song}
use Rattle.state_codec.specs.Spelling.{ops_bytes}
use Rattle.machine_core.specs.Meaning.{does}
use Rattle.machine_core.specs.State.{MachineState}
use Rattle.machine_core.proofs.Edits.{refused_failed, too_much}
use Rattle.machine_core.proofs.Queue.Shuffled.{stopped_means}
use Rattle.machine_core.proofs.Shuffling.{shuffle}
use Rattle.machine_core.proofs.machine.Machine.shuffle_stopped.Goals as goal

pub returns-in_err-check_shuffle-clause-performs : goal.returns-in_err-check_shuffle-clause-performs
returns-in_err-check_shuffle-clause-performs c =
    refused_failed _ c.args.self.now c.args.work.now c.in_err-check_shuffle.field-0.0 c.from_residual.result
    c.in_err-check_shuffle.ensures.stopped c.from_residual.ensures.1

pub returns-in_err-bytes-clause-performs : goal.returns-in_err-bytes-clause-performs
returns-in_err-bytes-clause-performs c =
    let m = c.args.self.now in
    let p = c.profile.result in
    let profile : p ≡ m.saved.profile = c.profile.ensures ∙ ap (λ (n : MachineState). n.saved.profile) c.self.view_is in
    too_much p _ (does [] (shuffle c.args.span ∷ []) (stopped_without_song m.player) m) (length (ops_bytes p (c.shuffle_op-op.result ∷ [])))
    m c.args.work.now c.admit_edit.new.self c.in_err-bytes.field-0.0 c.from_residual-in_err-bytes.result profile
    (stopped_means c.args.span m c.in_ok-check_shuffle.ensures.fits) (ap (λ op. length (ops_bytes p (op ∷ []))) c.shuffle_op-op.ensures)
    c.in_err-bytes.ensures.nothing c.in_err-bytes.ensures.refused c.from_residual-in_err-bytes.ensures.1
