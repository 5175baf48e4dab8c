use Rattle.std.proofs.Common.{◌≡◌, refl, ap, ◌∙◌}
use Rattle.std.specs.Option.{option_copied}
use Rattle.machine_core.specs.Finding.{chosen, group_lines}
use Rattle.machine_core.specs.Grouped.{rows_at}
use Rattle.machine_core.specs.State.{MachineState}
use Rattle.machine_core.proofs.Finding.Meanings.{groups_mean}
use Rattle.machine_core.proofs.Finding.Writers.{finds, writes_same}
use Rattle.machine_core.proofs.machine.Machine.list_groups.Goals as goal

pub returns : goal.returns
returns c =
    let m = c.args.self.now in
    let tree = option_copied c.args.filter in
    let profile = c.profile.ensures ∙ ap (λ (n : MachineState). n.saved.profile) c.self.view_is in
    let songs = c.songs-songs.ensures ∙ ap (λ (n : MachineState). n.saved.songs) c.self.view_is in
    let rows : rows_at c.rows.result.now c.deref.result.now ≡ chosen tree m.saved.songs =
    (λ i. rows_at (c.rows.ensures.rows i) (c.deref.ensures.value i)) ∙ c.in_ok-chosen.ensures.rows ∙ ap (chosen tree) songs in
    finds _ _ m _ c.args.work.now _ c.keep.new.self _ _ (groups_mean m c.args.tags.now tree) c.len-mark.ensures refl refl
    (writes_same _ _ _ _ _ c.write_groups-written.ensures (λ i. group_lines (profile i) (c.as_slice.ensures i) (rows i))) c.keep.ensures
