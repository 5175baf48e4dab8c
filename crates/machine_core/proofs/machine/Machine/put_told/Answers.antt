use Rattle.std.proofs.Common.{ap, ◌∙◌}
use Rattle.command_text.proofs.Adding.{adds_same, adds_stop, adds_then}
use Rattle.machine_core.specs.Database.{root_lists}
use Rattle.machine_core.specs.State.{MachineState}
use Rattle.machine_core.proofs.machine.Machine.put_told.Goals as goal

pub returns-in_err-write_told_content : goal.returns-in_err-write_told_content
returns-in_err-write_told_content c = adds_stop _ _ _ _ _ _ c.in_err-write_told_content.ensures c.from_residual.ensures.0

pub returns : goal.returns
returns c =
    let is = c.self.view_is in
    let profile = c.profile.ensures ∙ ap (λ (n : MachineState). n.saved.profile) is in
    let changed = c.changed.ensures ∙ ap (λ (n : MachineState). n.saved.changed) is in
    let lists = c.lists.ensures ∙ ap (λ (n : MachineState). n.saved.lists) is in
    adds_then _ _ _ _ _ _ _ c.in_ok-write_told_content.ensures
    (adds_same _ _ _ _ _ c.write_root_lists.ensures (λ i. root_lists (profile i) (changed i) (lists i) c.args.place))
