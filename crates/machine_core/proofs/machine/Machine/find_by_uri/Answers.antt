use Rattle.std.proofs.Common.{refl, sym, ap, ◌∙◌}
use Rattle.std.specs.List.{flat_map}
use Rattle.command_text.specs.AnswerSongs.{song_lines}
use Rattle.profile.specs.declared.profile.Profile.TheVariants.{Named}
use Rattle.machine_core.specs.Finding.{found}
use Rattle.machine_core.specs.State.{MachineState}
use Rattle.machine_core.proofs.Finding.Meanings.{find_means}
use Rattle.machine_core.proofs.Finding.Writers.{finds, writes_same}
use Rattle.machine_core.proofs.machine.Machine.find_by_uri.Goals as goal

pub returns : goal.returns
returns c =
    let m = c.args.self.now in
    let search = c.args.search.now in
    let songs = c.songs-songs.ensures ∙ ap (λ (n : MachineState). n.saved.songs) c.self.view_is in
    finds _ _ m _ c.args.work.now _ c.keep.new.self _ _ (find_means c.args.mask m search) c.len-mark.ensures refl refl
    (writes_same _ _ _ _ _ c.write_by_uri-written.ensures (ap (λ rows. flat_map (song_lines c.args.mask) (found Named search rows)) songs
    ∙ ap (λ profile. flat_map (song_lines c.args.mask) (found profile search m.saved.songs)) (sym c.requires.named))) c.keep.ensures
