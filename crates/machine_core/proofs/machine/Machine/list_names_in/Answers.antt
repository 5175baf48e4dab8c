use Rattle.std.proofs.Common.{◌≡◌, true, refl, ap, ◌∙◌}
use Rattle.song_db.specs.Query.{is_folder}
use Rattle.machine_core.specs.Meaning.{answers}
use Rattle.machine_core.specs.State.{MachineState}
use Rattle.machine_core.proofs.Answering.{passes, reads}
use Rattle.machine_core.proofs.Database.Meanings.{files_told, lines_by_name}
use Rattle.machine_core.proofs.Lists.Rows.{is_there}
use Rattle.machine_core.proofs.machine.Machine.list_names_in.Goals as goal

pub returns : goal.returns
returns c =
    let m = c.args.self.now in
    let place = c.args.place in
    let rows = c.in-Ok.rows.now in
    let songs : c.songs.result.now ≡ m.saved.songs = c.songs.ensures ∙ ap (λ (n : MachineState). n.saved.songs) c.self.view_is in
    let there : is_folder c.songs.result.now place ≡ true = is_there _ (is_folder c.songs.result.now place) _ c.in-Ok.ensures.answer in
    reads _ (lines_by_name place rows) m m _ c.args.work.now _ c.keep.new.self _ _
    (ap (λ lines. answers lines m) (files_told c.songs.result.now m.saved.songs rows place songs there c.in-Ok.ensures.rows))
    refl c.len-mark.ensures refl refl c.write_names_in-written.ensures c.keep.ensures

pub returns-then-is_long : goal.returns-then-is_long
returns-then-is_long c =
    let m = c.args.self.now in
    let place = c.args.place in
    let rows = c.in-Ok.rows.now in
    let songs : c.songs.result.now ≡ m.saved.songs = c.songs.ensures ∙ ap (λ (n : MachineState). n.saved.songs) c.self.view_is in
    let there : is_folder c.songs.result.now place ≡ true = is_there _ (is_folder c.songs.result.now place) _ c.in-Ok.ensures.answer in
    passes _ _ m m c.args.work.now c.keep_none.new.self _ _
    (ap (λ lines. answers lines m) (files_told c.songs.result.now m.saved.songs rows place songs there c.in-Ok.ensures.rows))
    refl c.if-is_long.true c.is_long.ensures c.keep_none.ensures
