use Rattle.std.proofs.Common.{◌≡◌, true, sym, ap, ◌∙◌}
use Rattle.machine_core.specs.Database.{may_wait}
use Rattle.machine_core.specs.Held.{held}
use Rattle.machine_core.specs.State.{MachineState}
use Rattle.machine_core.proofs.Answering.{also}
use Rattle.machine_core.proofs.Database.Meanings.{job_began, update_waits, waiting_takes}
use Rattle.machine_core.proofs.machine.Machine.begin_job.Goals as goal

pub returns-then-self-clause-performs : goal.returns-then-self-clause-performs
returns-then-self-clause-performs c =
    let m = c.args.self.now in
    let runs : m.job.runs ≡ true = sym (ap (λ (n : MachineState). n.job.runs) c.self.view_is) ∙ c.if-self.true in
    also _ _ _ _ _ _ _ (update_waits c.args.place c.args.opens_all m runs) c.queue_job.ensures.performs

pub returns-then-self-clause-memory : goal.returns-then-self-clause-memory
returns-then-self-clause-memory c = λ none.
    let m = c.args.self.now in
    waiting_takes m.job.runs (may_wait m.saved.profile m.waiting) (c.queue_job.ensures.memory none)

pub returns-clause-performs : goal.returns-clause-performs
returns-clause-performs c =
    job_began c.args.place c.args.opens_all c.next_job-number.result c.args.self.now (held c.self.inside) c.args.work.now c.tell_job.new.work
    c.begun.result c.self.view_is c.next_job-number.ensures c.if-self.false c.begun.ensures c.in_ok-tell_job.ensures
