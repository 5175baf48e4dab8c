use Rattle.std.proofs.Common.{◌≡◌, ◌<◌, length, [], ap, sym, ◌∙◌}
use Rattle.machine_core.specs.Held.{held}
use Rattle.machine_core.specs.Scanning.{after_job}
use Rattle.machine_core.proofs.Scans.Jobs.{none_behind, none_waits, one_behind, one_waits}
use Rattle.machine_core.proofs.machine.Machine.end_job.Goals as goal

pub returns-then-is_empty : goal.returns-then-is_empty
returns-then-is_empty c =
    let inside = held c.self.inside in
    let none : inside.waiting ≡ [] =
    none_waits inside.waiting _ c.self.inside.waiting.ok.0 (sym c.is_empty.ensures ∙ c.if-is_empty.true) in
    none_behind inside none ∙ ap after_job c.self.view_is

pub returns : goal.returns
returns c =
    let inside = held c.self.inside in
    let some : 0 < length inside.waiting =
    one_waits inside.waiting _ c.self.inside.waiting.ok.0 (sym c.is_empty.ensures ∙ c.if-is_empty.false) in
    (λ i. record inside { job = c.begun.ensures i; waiting = c.remove-number.new.self.items })
    ∙ one_behind inside c.remove-number.result c.remove-number.new.self.items some c.remove-number.ensures.value c.remove-number.ensures.items
    ∙ ap after_job c.self.view_is
