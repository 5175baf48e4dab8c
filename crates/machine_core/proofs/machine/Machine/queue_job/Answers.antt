use Rattle.std.proofs.Common.{◌≡◌, true, false, sym, ap, ◌∙◌}
use Rattle.machine_core.specs.Database.{busy, may_wait}
use Rattle.machine_core.specs.Held.{held}
use Rattle.machine_core.specs.State.{MachineState}
use Rattle.machine_core.proofs.Database.Meanings.{job_waited, may_not_wait}
use Rattle.machine_core.proofs.machine.Machine.queue_job.Goals as goal

pub returns-then-not-may_wait-clause-performs : goal.returns-then-not-may_wait-clause-performs
returns-then-not-may_wait-clause-performs c =
    let m = c.args.self.now in
    let profile : c.profile-profile.result ≡ m.saved.profile =
    c.profile-profile.ensures ∙ ap (λ (n : MachineState). n.saved.profile) c.self.view_is in
    let waiting : c.deref.result.now ≡ m.waiting = c.deref.ensures.value ∙ ap (λ (n : MachineState). n.waiting) c.self.view_is in
    let full : may_wait m.saved.profile m.waiting ≡ false =
    (λ i. may_wait (sym profile i) (sym waiting i)) ∙ sym c.may_wait.ensures ∙ c.if-not-may_wait.true in
    may_not_wait c.args.place c.args.opens_all m c.args.work.now c.busy.result full (c.busy.ensures ∙ ap busy profile)

pub returns-clause-performs : goal.returns-clause-performs
returns-clause-performs c =
    let m = c.args.self.now in
    let n : MachineState = record (held c.self.inside) { waiting = c.reserve.new.self.items } in
    let profile : c.profile-profile.result ≡ m.saved.profile =
    c.profile-profile.ensures ∙ ap (λ (n : MachineState). n.saved.profile) c.self.view_is in
    let waiting : c.deref.result.now ≡ m.waiting = c.deref.ensures.value ∙ ap (λ (n : MachineState). n.waiting) c.self.view_is in
    let room : may_wait m.saved.profile m.waiting ≡ true =
    (λ i. may_wait (sym profile i) (sym waiting i)) ∙ sym c.may_wait.ensures ∙ c.if-not-may_wait.false in
    let same : n ≡ m = (λ i. record (held c.self.inside) { waiting = c.reserve.ensures.items i }) ∙ c.self.view_is in
    job_waited c.args.place c.args.opens_all c.next_number-number.result m n c.args.work.now c.tell_job.new.work
    c.push_reserved.new.self.items same room c.next_number-number.ensures c.push_reserved.ensures.items c.in_ok-tell_job.ensures
