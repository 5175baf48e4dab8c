use Rattle.std.proofs.Common.{◌≡◌, ap, ◌∙◌}
use Rattle.command_text.proofs.Adding.{adds_same, adds_stop, adds_then}
use Rattle.machine_core.specs.Database.{statistics, time_lines}
use Rattle.machine_core.specs.State.{MachineState}
use Rattle.machine_core.proofs.Database.Meanings.{counted}
use Rattle.machine_core.proofs.machine.Machine.write_all_statistics.Goals as goal

pub returns-in_err-write_statistics : goal.returns-in_err-write_statistics
returns-in_err-write_statistics c =
    let m = c.args.self.now in
    let rows = c.songs-songs.result.now in
    let songs : rows ≡ m.saved.songs = c.songs-songs.ensures ∙ ap (λ (n : MachineState). n.saved.songs) c.self.view_is in
    adds_stop (statistics m.saved.songs) (time_lines m.saved.profile m) _ _ _ _
    (adds_same _ _ _ _ _ c.in_err-write_statistics.ensures
    (counted rows m.saved.songs _ _ _ _ songs c.requires.artists c.requires.albums c.len.ensures.count c.milliseconds.ensures))
    c.from_residual.ensures.0

pub returns : goal.returns
returns c =
    let m = c.args.self.now in
    let rows = c.songs-songs.result.now in
    let songs : rows ≡ m.saved.songs = c.songs-songs.ensures ∙ ap (λ (n : MachineState). n.saved.songs) c.self.view_is in
    adds_then (statistics m.saved.songs) (time_lines m.saved.profile m) _ _ _ _ _
    (adds_same _ _ _ _ _ c.in_ok-write_statistics.ensures
    (counted rows m.saved.songs _ _ _ _ songs c.requires.artists c.requires.albums c.len.ensures.count c.milliseconds.ensures))
    c.write_time_lines.ensures
