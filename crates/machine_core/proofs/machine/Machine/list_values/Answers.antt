use Rattle.std.proofs.Common.{refl, ap, ◌∙◌}
use Rattle.command_text.proofs.Adding.{adds_same}
use Rattle.std.specs.Option.{option_copied}
use Rattle.machine_core.specs.Finding.{chosen, told_values, value_lines}
use Rattle.machine_core.specs.State.{MachineState}
use Rattle.machine_core.proofs.Answering.{reads}
use Rattle.machine_core.proofs.Finding.Meanings.{values_mean}
use Rattle.machine_core.proofs.machine.Machine.list_values.Goals as goal

pub returns : goal.returns
returns c =
    let m = c.args.self.now in
    let tag = c.args.tag in
    let tree = option_copied c.args.filter in
    let profile = c.profile.ensures ∙ ap (λ (n : MachineState). n.saved.profile) c.self.view_is in
    let songs = c.songs.ensures ∙ ap (λ (n : MachineState). n.saved.songs) c.self.view_is in
    reads _ _ m m _ c.args.work.now _ c.keep.new.self _ _ (values_mean m tag tree) refl c.len-mark.ensures refl refl
    (adds_same _ _ _ _ _ (rw c.name.ensures at c.write_texts-written.ensures) (ap (value_lines tag) (c.in_ok-values.ensures
    ∙ (λ i. told_values (profile i) (chosen tree (songs i)) tag)))) c.keep.ensures
