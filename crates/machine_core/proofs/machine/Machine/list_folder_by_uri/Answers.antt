use Rattle.std.proofs.Common.{◌≡◌, true, refl, sym, ap, ◌∙◌}
use Rattle.song_db.specs.Query.{is_folder}
use Rattle.machine_core.specs.Meaning.{answers}
use Rattle.machine_core.proofs.Answering.{passes}
use Rattle.machine_core.proofs.Database.Meanings.{folder_told}
use Rattle.machine_core.proofs.machine.Machine.list_folder_by_uri.Goals as goal

pub returns-then-is_long : goal.returns-then-is_long
returns-then-is_long c =
    let m = c.args.self.now in
    let place = c.args.place in
    let there : is_folder m.saved.songs place ≡ true = sym c.has_folder.ensures ∙ c.if-not-has_folder.false in
    passes _ _ m m c.args.work.now c.keep_none.new.self _ _
    (ap (λ lines. answers lines m) (folder_told c.args.mask m.saved.songs m.saved place refl there)) refl c.if-is_long.true c.is_long.ensures c.keep_none.ensures
