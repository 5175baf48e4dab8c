use Rattle.std.proofs.Common.{◌≡◌, sym, ap, ◌∙◌}
use Rattle.machine_core.specs.Database.{last_given, next_job}
use Rattle.machine_core.specs.State.{MachineState}
use Rattle.machine_core.proofs.Database.Meanings.{last_is, last_none}
use Rattle.machine_core.proofs.machine.Machine.next_number.Goals as goal

pub returns-in-Some : goal.returns-in-Some
returns-in-Some c =
    let m = c.args.self.now in
    let waiting : c.deref.result.now ≡ m.waiting = c.deref.ensures.value ∙ ap (λ (n : MachineState). n.waiting) c.self.view_is in
    c.next_job.ensures
    ∙ ap next_job (sym (last_is m.job.number c.deref.result.now c.in-Some.job.now (sym c.in-Some.ensures.value))
    ∙ ap (last_given m.job.number) waiting)

pub returns-in-None : goal.returns-in-None
returns-in-None c =
    let m = c.args.self.now in
    let waiting : c.deref.result.now ≡ m.waiting = c.deref.ensures.value ∙ ap (λ (n : MachineState). n.waiting) c.self.view_is in
    let number = ap (λ (n : MachineState). n.job.number) c.self.view_is in
    c.next_job-in-None.ensures ∙ ap next_job (number ∙ sym (last_none m.job.number c.deref.result.now (sym c.in-None.ensures.value))
    ∙ ap (last_given m.job.number) waiting)
