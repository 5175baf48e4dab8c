use Rattle.std.proofs.Common.{◌≡◌, List, ap, sym, ◌∙◌}
use Rattle.song_db.specs.Row.{Row}
use Rattle.machine_core.specs.Finding.{finding_meaning, found as found_by, numbers_in}
use Rattle.machine_core.specs.ListMoves.{adds_songs}
use Rattle.machine_core.specs.Lists.{list_name}
use Rattle.machine_core.specs.State.{MachineState}
use Rattle.machine_core.proofs.Answering.{also}
use Rattle.machine_core.proofs.LookUps.{found, not_found}
use Rattle.machine_core.proofs.machine.Machine.add_to_playlist.Goals as goal

pub returns-in_err-name : goal.returns-in_err-name
unfolding finding_meaning
returns-in_err-name c =
    let m = c.args.self.now in
    not_found (list_name c.args.name.now)
    (λ good. adds_songs good (numbers_in m.saved.songs (found_by m.saved.profile c.args.search.now m.saved.songs)) c.args.to m) m
    c.args.work.now c.in_err-name.field-0.0 c.from_residual.result c.in_err-name.ensures c.from_residual.ensures.1

pub returns : goal.returns
unfolding finding_meaning
returns c =
    let m = c.args.self.now in
    let search = c.args.search.now in
    let name = c.in_ok-name.name in
    let profile = c.profile.ensures ∙ ap (λ (n : MachineState). n.saved.profile) c.self.view_is in
    let songs = c.songs.ensures ∙ ap (λ (n : MachineState). n.saved.songs) c.self.view_is in
    let rows : c.in_ok-rows.rows ≡ numbers_in m.saved.songs (found_by m.saved.profile search m.saved.songs) =
    c.in_ok-rows.ensures ∙ ap (λ profile. numbers_in c.songs.result.now (found_by profile search c.songs.result.now)) profile
    ∙ ap (λ (songs : List Row). numbers_in songs (found_by m.saved.profile search songs)) songs in
    also _ _ _ _ _ _ _
    (found (list_name c.args.name.now)
    (λ good. adds_songs good (numbers_in m.saved.songs (found_by m.saved.profile search m.saved.songs)) c.args.to m)
    name c.in_ok-name.ensures
    ∙ (λ i. adds_songs name (sym rows i) c.args.to m)) c.add_songs.ensures
