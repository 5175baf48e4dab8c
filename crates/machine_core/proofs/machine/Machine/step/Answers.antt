use Rattle.std.proofs.Common.{ℕ, ◌<◌, List, length, ap, ◌∙◌, subst, arith}
use Rattle.play_queue.specs.Queue.{QueueState}
use Rattle.play_queue.specs.declared.entry.Entry.{Entry}
use Rattle.machine_core.proofs.Playing.Steps.{step_fair}
use Rattle.machine_core.proofs.StepsDone.{leaves_within}
use Rattle.machine_core.proofs.machine.Machine.step.Goals as goal

pub make_changes-requires : goal.make_changes-requires
make_changes-requires c =
    let entries = c.entries-entries.result.now in
    let settings = c.settings-settings.result in
    let same = c.entries-entries.ensures.entries ∙ ap (λ (q : QueueState). q.entries) c.queue.ensures in
    λ at is. subst (λ (l : List Entry). at < length l) same (leaves_within _ entries settings _ c.in_ok-changes.changes
    (step_fair c.args.step entries settings _) c.in_ok-changes.ensures.answer c.in_ok-changes.ensures.ok at is)

pub returns-clause-within : goal.returns-clause-within
returns-clause-within c =
    let entries = c.entries-entries.result.now in
    let settings = c.settings-settings.result in
    λ at is. omega (
      arith,
      leaves_within _ entries settings _ c.in_ok-changes.changes (step_fair c.args.step entries settings _) c.in_ok-changes.ensures.answer
          c.in_ok-changes.ensures.ok at is,
      ap length c.entries-entries.ensures.entries,
      c.entries-entries.ensures.kept.few,
    )
