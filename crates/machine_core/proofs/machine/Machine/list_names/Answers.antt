use Rattle.std.proofs.Common.{refl, ap, ◌∙◌}
use Rattle.command_text.proofs.Adding.{adds_same}
use Rattle.machine_core.specs.Lists.{name_lines, lists_meaning}
use Rattle.machine_core.specs.State.{MachineState}
use Rattle.machine_core.proofs.Answering.{passes, reads}
use Rattle.machine_core.proofs.machine.Machine.list_names.Goals as goal

pub returns : goal.returns
unfolding lists_meaning
returns c =
    let m = c.args.self.now in
    let is = c.self.view_is in
    let profile = c.profile.ensures ∙ ap (λ (n : MachineState). n.saved.profile) is in
    let changed = c.changed.ensures ∙ ap (λ (n : MachineState). n.saved.changed) is in
    let lists = c.lists.ensures ∙ ap (λ (n : MachineState). n.saved.lists) is in
    reads _ _ m m _ c.args.work.now _ c.keep.new.self _ _ refl refl c.len-mark.ensures refl refl
    (adds_same _ _ _ _ _ c.write_list_names-written.ensures (λ i. name_lines (profile i) (changed i) (lists i))) c.keep.ensures

pub returns-then-is_long : goal.returns-then-is_long
unfolding lists_meaning
returns-then-is_long c =
    let m = c.args.self.now in
    passes _ _ m m c.args.work.now c.keep_none.new.self _ _ refl refl c.if-is_long.true c.is_long.ensures c.keep_none.ensures
