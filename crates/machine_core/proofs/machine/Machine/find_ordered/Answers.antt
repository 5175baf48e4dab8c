use Rattle.std.proofs.Common.{map, refl, ap, ◌∙◌}
use Rattle.std.specs.List.{flat_map}
use Rattle.command_text.proofs.Adding.{adds_same}
use Rattle.command_text.specs.AnswerSongs.{song_lines}
use Rattle.machine_core.specs.Finding.{found, in_window}
use Rattle.machine_core.specs.State.{MachineState}
use Rattle.machine_core.proofs.Answering.{reads}
use Rattle.machine_core.proofs.Finding.Meanings.{find_means}
use Rattle.machine_core.proofs.machine.Machine.find_ordered.Goals as goal

pub returns : goal.returns
returns c =
    let m = c.args.self.now in
    let search = c.args.search.now in
    let profile = c.profile.ensures ∙ ap (λ (n : MachineState). n.saved.profile) c.self.view_is in
    let songs = c.songs-songs.ensures ∙ ap (λ (n : MachineState). n.saved.songs) c.self.view_is in
    reads _ _ m m _ c.args.work.now _ c.keep.new.self _ _ (find_means c.args.mask m search) refl c.len-mark.ensures refl refl
    (adds_same _ _ _ _ _ c.write_songs-written.ensures (ap (flat_map (song_lines c.args.mask)) (c.windowed.ensures.rows
    ∙ ap (λ items. in_window search.window (map (λ row. row.now) items)) c.deref.ensures.value
    ∙ ap (in_window search.window) c.in_ok-ordered.ensures.found
    ∙ ap (λ profile. found profile search c.songs-songs.result.now) profile
    ∙ ap (found m.saved.profile search) songs))) c.keep.ensures
