use Rattle.std.proofs.Common.{◌≡◌, ◌∷◌, ◌++◌, [], length, sym, ap, ◌∙◌}
use Rattle.std.specs.Prelude.{Ok, if◌then◌else◌}
use Rattle.state_codec.specs.Spelling.{ops_bytes}
use Rattle.machine_core.specs.Followed.{Following, followed}
use Rattle.machine_core.specs.Meaning.{edited, edits, order_ops, stands}
use Rattle.machine_core.specs.State.{MachineState}
use Rattle.machine_core.proofs.Edits.{refused_failed, too_much}
use Rattle.machine_core.proofs.machine.Machine.edit.Goals as goal

pub returns-in_err-would_change-clause-performs : goal.returns-in_err-would_change-clause-performs
returns-in_err-would_change-clause-performs c =
    refused_failed _ c.args.self.now c.args.work.now c.in_err-would_change.field-0.0 c.from_residual.result
    c.in_err-would_change.ensures.refused c.from_residual.ensures.1

pub returns-in_err-bytes-clause-performs : goal.returns-in_err-bytes-clause-performs
returns-in_err-bytes-clause-performs c =
    let m = c.args.self.now in
    let op = c.args.op in
    let p = c.profile.result in
    let profile : p ≡ m.saved.profile = c.profile.ensures ∙ ap (λ (n : MachineState). n.saved.profile) c.self.view_is in
    let meant : edits op [] m ≡ Ok (edited op [] (followed op m) m) =
    c.in_ok-would_change.ensures.changes
    ∙ ap (λ b. Ok (if b then edited op [] (followed op m) m else stands [] m)) c.if-not-branch.false in
    too_much p (edits op [] m) (edited op [] (followed op m) m) (length (ops_bytes p (op ∷ []))) m c.args.work.now
    c.admit_edit.new.self c.in_err-bytes.field-0.0 c.from_residual-in_err-bytes.result profile meant
    (ap (λ (next : Following). length (ops_bytes p (order_ops next.order ++ op ∷ []))) (sym c.requires.stays))
    c.in_err-bytes.ensures.nothing c.in_err-bytes.ensures.refused c.from_residual-in_err-bytes.ensures.1
