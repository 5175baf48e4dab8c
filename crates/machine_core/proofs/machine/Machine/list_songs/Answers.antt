use Rattle.std.proofs.Common.{◌≡◌, Ok, refl, ap, sym, subst, ◌∙◌}
use Rattle.std.specs.List.{flat_map}
use Rattle.machine_core.specs.Lists.{song_info, songs_named, lists_meaning}
use Rattle.machine_core.specs.Meaning.{says}
use Rattle.machine_core.specs.Named.{IsNotFound}
use Rattle.machine_core.specs.State.{MachineState}
use Rattle.machine_core.proofs.Answering.{reads}
use Rattle.machine_core.proofs.LookUps.{found, not_found}
use Rattle.machine_core.proofs.machine.Machine.list_songs.Goals as goal

pub returns-in_err-songs : goal.returns-in_err-songs
unfolding lists_meaning
returns-in_err-songs c =
    let m = c.args.self.now in
    let name = c.args.name.now in
    let lists : c.lists.result.now ≡ m.saved.lists = c.lists.ensures ∙ ap (λ (n : MachineState). n.saved.lists) c.self.view_is in
    not_found (songs_named m.saved.lists name) (λ songs. says (flat_map (song_info c.args.mask m.saved.songs) songs) m) m c.args.work.now
    c.in_err-songs.field-0.0 c.from_residual.result
    (subst (λ all. IsNotFound (songs_named all name) c.in_err-songs.field-0.0) lists c.in_err-songs.ensures.refused)
    c.from_residual.ensures.1

pub returns : goal.returns
unfolding lists_meaning
returns c =
    let m = c.args.self.now in
    let name = c.args.name.now in
    let lists : c.lists.result.now ≡ m.saved.lists = c.lists.ensures ∙ ap (λ (n : MachineState). n.saved.lists) c.self.view_is in
    let rows : c.songs.result.now ≡ m.saved.songs = c.songs.ensures ∙ ap (λ (n : MachineState). n.saved.songs) c.self.view_is in
    let is : songs_named m.saved.lists name ≡ Ok c.in_ok-songs.songs.now =
    ap (λ all. songs_named all name) (sym lists) ∙ c.in_ok-songs.ensures.songs in
    reads _ (flat_map (song_info c.args.mask c.songs.result.now) c.as_slice.result.now) m m _ c.args.work.now _ c.keep.new.self _ _
    (found (songs_named m.saved.lists name) (λ songs. says (flat_map (song_info c.args.mask m.saved.songs) songs) m)
    c.in_ok-songs.songs.now is
    ∙ (λ i. says (flat_map (song_info c.args.mask (sym rows i)) (sym c.as_slice.ensures i)) m))
    refl c.len-mark.ensures refl refl c.write_song_infos-written.ensures c.keep.ensures
