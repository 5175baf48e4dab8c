use Rattle.std.proofs.Common.{◌≡◌, [], Ok, refl, ap, sym, subst, ◌∙◌}
use Rattle.state_codec.specs.Steps.{◌>>=◌}
use Rattle.machine_core.specs.Adding.{adds}
use Rattle.machine_core.specs.Lists.{songs_named, rows_to_load, lists_meaning}
use Rattle.machine_core.specs.Named.{IsNotFound}
use Rattle.machine_core.specs.State.{MachineState, shown_of}
use Rattle.machine_core.proofs.Answering.{also}
use Rattle.machine_core.proofs.EditCommands.{performs_as}
use Rattle.machine_core.proofs.LookUps.{found, not_found}
use Rattle.machine_core.proofs.machine.Machine.load_list.Goals as goal

pub returns-in_err-songs : goal.returns-in_err-songs
unfolding lists_meaning
returns-in_err-songs c =
    let m = c.args.self.now in
    let name = c.args.name.now in
    let to = c.args.to in
    let lists : c.lists.result.now ≡ m.saved.lists = c.lists.ensures ∙ ap (λ (n : MachineState). n.saved.lists) c.self.view_is in
    performs_as _ _ _ _ m _ _ _ _ _ refl refl refl refl
    (not_found (songs_named m.saved.lists name)
    (λ songs. rows_to_load m.saved.songs songs c.args.range to (shown_of m).current >>= λ rows. adds to rows [] m) m c.args.work.now
    c.in_err-songs.field-0.0 c.from_residual.result
    (subst (λ all. IsNotFound (songs_named all name) c.in_err-songs.field-0.0) lists c.in_err-songs.ensures.refused)
    c.from_residual.ensures.1)

pub returns-in_err-rows : goal.returns-in_err-rows
unfolding lists_meaning
returns-in_err-rows c =
    let m = c.args.self.now in
    let name = c.args.name.now in
    let range = c.args.range in
    let to = c.args.to in
    let songs = c.in_ok-songs.songs.now in
    let lists : c.lists.result.now ≡ m.saved.lists = c.lists.ensures ∙ ap (λ (n : MachineState). n.saved.lists) c.self.view_is in
    let rows : c.songs.result.now ≡ m.saved.songs = c.songs.ensures ∙ ap (λ (n : MachineState). n.saved.songs) c.self.view_is in
    let is : songs_named m.saved.lists name ≡ Ok songs = ap (λ all. songs_named all name) (sym lists) ∙ c.in_ok-songs.ensures.songs in
    performs_as _ _ _ _ m _ _ _ _ _
    (found (songs_named m.saved.lists name)
    (λ all. rows_to_load m.saved.songs all range to (shown_of m).current >>= λ added. adds to added [] m) songs is)
    refl refl refl
    (not_found (rows_to_load m.saved.songs songs range to (shown_of m).current) (λ added. adds to added [] m) m c.args.work.now
    c.in_err-rows.field-0.0 c.from_residual-in_err-rows.result
    (subst (λ looked. IsNotFound looked c.in_err-rows.field-0.0)
    (λ i. rows_to_load (rows i) songs range to (c.current_position-current.ensures i)) c.in_err-rows.ensures)
    c.from_residual-in_err-rows.ensures.1)

pub returns : goal.returns
unfolding lists_meaning
returns c =
    let m = c.args.self.now in
    let name = c.args.name.now in
    let range = c.args.range in
    let to = c.args.to in
    let songs = c.in_ok-songs.songs.now in
    let lists : c.lists.result.now ≡ m.saved.lists = c.lists.ensures ∙ ap (λ (n : MachineState). n.saved.lists) c.self.view_is in
    let rows : c.songs.result.now ≡ m.saved.songs = c.songs.ensures ∙ ap (λ (n : MachineState). n.saved.songs) c.self.view_is in
    let is : songs_named m.saved.lists name ≡ Ok songs = ap (λ all. songs_named all name) (sym lists) ∙ c.in_ok-songs.ensures.songs in
    let loads : rows_to_load m.saved.songs songs range to (shown_of m).current ≡ Ok c.in_ok-rows.rows =
    (λ i. rows_to_load (sym rows i) songs range to (sym c.current_position-current.ensures i)) ∙ c.in_ok-rows.ensures in
    also _ _ _ _ _ _ _
    (found (songs_named m.saved.lists name)
    (λ all. rows_to_load m.saved.songs all range to (shown_of m).current >>= λ added. adds to added [] m) songs is
    ∙ found (rows_to_load m.saved.songs songs range to (shown_of m).current) (λ added. adds to added [] m) c.in_ok-rows.rows loads)
    c.add_rows.ensures
