use Rattle.std.proofs.Common.{◌≡◌, ℕ, Option, None, ap, sym, subst, ◌∙◌}
use Rattle.song_db.specs.Query.{number_at}
use Rattle.machine_core.specs.Named.{Finds, numbers_under, numbers_or_under}
use Rattle.machine_core.specs.State.{MachineState}
use Rattle.machine_core.proofs.Lists.Rows.{no_number, same_numbers_under}
use Rattle.machine_core.proofs.RowsFound.{no_row}
use Rattle.machine_core.proofs.machine.Machine.rows_named.Goals as goal

pub returns-in-Err : goal.returns-in-Err
returns-in-Err c =
    let m = c.args.self.now in
    let path = c.args.path.now in
    let rows = c.songs-songs.result.now in
    let songs : rows ≡ m.saved.songs = c.songs-songs.ensures ∙ ap (λ (n : MachineState). n.saved.songs) c.self.view_is in
    let profile = c.profile.ensures ∙ ap (λ (n : MachineState). n.saved.profile) c.self.view_is in
    let none : number_at m.saved.songs path ≡ None =
    ap (λ all. number_at all path) (sym songs) ∙ no_number rows path (no_row _ _ _ c.in-Err.ensures.answer) in
    subst (λ looked. Finds looked c.numbers_under.result)
    (ap (λ profile. numbers_under profile rows c.read.result) profile
    ∙ ap (λ all. numbers_under m.saved.profile all c.read.result) songs ∙ ap (numbers_under m.saved.profile m.saved.songs) c.read.ensures
    ∙ sym (same_numbers_under m.saved.profile c.args.path m.saved.songs)
    ∙ ap (λ (n : Option ℕ). numbers_or_under m.saved.profile m.saved.songs path n) (sym none))
    c.numbers_under.ensures
