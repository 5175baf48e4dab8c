use Rattle.std.proofs.Common.{◌≡◌, true, refl, ap, ◌∙◌}
use Rattle.song_db.specs.Query.{is_folder}
use Rattle.machine_core.specs.Meaning.{answers}
use Rattle.machine_core.specs.State.{MachineState}
use Rattle.machine_core.proofs.Answering.{passes}
use Rattle.machine_core.proofs.Database.Meanings.{folder_told}
use Rattle.machine_core.proofs.Lists.Rows.{is_there}
use Rattle.machine_core.proofs.machine.Machine.list_folder_told.Goals as goal

pub returns-then-is_long : goal.returns-then-is_long
returns-then-is_long c =
    let m = c.args.self.now in
    let place = c.args.place in
    let songs : c.songs.result.now ≡ m.saved.songs = c.songs.ensures ∙ ap (λ (n : MachineState). n.saved.songs) c.self.view_is in
    let there : is_folder c.songs.result.now place ≡ true = is_there _ (is_folder c.songs.result.now place) _ c.in-Ok.ensures.answer in
    passes _ _ m m c.args.work.now c.keep_none.new.self _ _
    (ap (λ lines. answers lines m) (folder_told c.args.mask c.songs.result.now m.saved place songs there)) refl c.if-is_long.true c.is_long.ensures c.keep_none.ensures
