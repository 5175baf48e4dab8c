use Rattle.std.proofs.Common.{◌≡◌, Ok, refl, ap, sym, subst, ◌∙◌}
use Rattle.std.specs.List.{flat_map}
use Rattle.command_text.specs.AnswerSongs.{file_line}
use Rattle.machine_core.specs.Lists.{songs_named, lists_meaning}
use Rattle.machine_core.specs.Meaning.{says}
use Rattle.machine_core.specs.Named.{IsNotFound}
use Rattle.machine_core.specs.State.{MachineState}
use Rattle.machine_core.proofs.Answering.{passes, reads}
use Rattle.machine_core.proofs.LookUps.{found, not_found}
use Rattle.machine_core.proofs.machine.Machine.list_uris.Goals as goal

pub returns-in_err-songs : goal.returns-in_err-songs
unfolding lists_meaning
returns-in_err-songs c =
    let m = c.args.self.now in
    let name = c.args.name.now in
    let lists : c.lists.result.now ≡ m.saved.lists = c.lists.ensures ∙ ap (λ (n : MachineState). n.saved.lists) c.self.view_is in
    not_found (songs_named m.saved.lists name) (λ songs. says (flat_map file_line songs) m) m c.args.work.now c.in_err-songs.field-0.0
    c.from_residual.result (subst (λ all. IsNotFound (songs_named all name) c.in_err-songs.field-0.0) lists c.in_err-songs.ensures.refused)
    c.from_residual.ensures.1

pub returns : goal.returns
unfolding lists_meaning
returns c =
    let m = c.args.self.now in
    let name = c.args.name.now in
    let lists : c.lists.result.now ≡ m.saved.lists = c.lists.ensures ∙ ap (λ (n : MachineState). n.saved.lists) c.self.view_is in
    let is : songs_named m.saved.lists name ≡ Ok c.in_ok-songs.songs.now =
    ap (λ all. songs_named all name) (sym lists) ∙ c.in_ok-songs.ensures.songs in
    reads _ (flat_map file_line c.as_slice.result.now) m m _ c.args.work.now _ c.keep.new.self _ _
    (found (songs_named m.saved.lists name) (λ songs. says (flat_map file_line songs) m) c.in_ok-songs.songs.now is
    ∙ ap (λ songs. says (flat_map file_line songs) m) (sym c.as_slice.ensures))
    refl c.len-mark.ensures refl refl c.write_uris-written.ensures c.keep.ensures

pub returns-then-is_long : goal.returns-then-is_long
unfolding lists_meaning
returns-then-is_long c =
    let m = c.args.self.now in
    let name = c.args.name.now in
    let lists : c.lists.result.now ≡ m.saved.lists = c.lists.ensures ∙ ap (λ (n : MachineState). n.saved.lists) c.self.view_is in
    let is : songs_named m.saved.lists name ≡ Ok c.in_ok-songs.songs.now =
    ap (λ all. songs_named all name) (sym lists) ∙ c.in_ok-songs.ensures.songs in
    passes _ _ m m c.args.work.now c.keep_none.new.self _ _
    (found (songs_named m.saved.lists name) (λ songs. says (flat_map file_line songs) m) c.in_ok-songs.songs.now is)
    refl c.if-is_long.true c.is_long.ensures c.keep_none.ensures
