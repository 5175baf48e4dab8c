use Rattle.std.proofs.Common.{◌≡◌, List, [], ap, sym, ◌∙◌}
use Rattle.song_db.specs.Row.{Row}
use Rattle.machine_core.specs.Adding.{adds}
use Rattle.machine_core.specs.Finding.{found, numbers_in}
use Rattle.machine_core.specs.State.{MachineState}
use Rattle.machine_core.proofs.Answering.{also}
use Rattle.machine_core.proofs.Finding.Meanings.{add_means}
use Rattle.machine_core.proofs.machine.Machine.add_found.Goals as goal

pub returns : goal.returns
returns c =
    let m = c.args.self.now in
    let search = c.args.search.now in
    let to = c.args.to in
    let profile = c.profile.ensures ∙ ap (λ (n : MachineState). n.saved.profile) c.self.view_is in
    let songs = c.songs.ensures ∙ ap (λ (n : MachineState). n.saved.songs) c.self.view_is in
    let rows : c.in_ok-rows.rows ≡ numbers_in m.saved.songs (found m.saved.profile search m.saved.songs) =
    c.in_ok-rows.ensures ∙ ap (λ profile. numbers_in c.songs.result.now (found profile search c.songs.result.now)) profile
    ∙ ap (λ (songs : List Row). numbers_in songs (found m.saved.profile search songs)) songs in
    also _ (adds to c.in_ok-rows.rows [] m) m _ _ _ _ (add_means m search to ∙ ap (λ rows. adds to rows [] m) (sym rows))
    c.add_rows.ensures
