use Rattle.std.proofs.Common.{ap, sym, ◌∙◌}
use Rattle.machine_core.specs.State.{MachineState}
use Rattle.machine_core.proofs.machine.Machine.list_below.Goals as goal

pub list_by_uri-requires : goal.list_by_uri-requires
list_by_uri-requires c = sym (c.profile.ensures ∙ ap (λ (n : MachineState). n.saved.profile) c.self.view_is) ∙ c.in-Named.is

pub list_told-requires : goal.list_told-requires
list_told-requires c = sym (c.profile.ensures ∙ ap (λ (n : MachineState). n.saved.profile) c.self.view_is) ∙ c.in-Wide.is
