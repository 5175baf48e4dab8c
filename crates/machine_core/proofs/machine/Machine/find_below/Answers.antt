use Rattle.std.proofs.Common.{◌≡◌, true, false, [], Ok, refl, ap, sym, ◌∙◌}
use Rattle.std.specs.List.{flat_map}
use Rattle.command_text.proofs.Adding.{adds_same}
use Rattle.song_db.specs.Query.{is_folder}
use Rattle.stickers.specs.Find.{found_in}
use Rattle.stickers.specs.Name.{is_good_name}
use Rattle.machine_core.specs.Meaning.{answers, says}
use Rattle.machine_core.specs.State.{MachineState}
use Rattle.machine_core.specs.Stickers.{found_below, found_lines}
use Rattle.machine_core.proofs.Answering.{also, reads, says_nothing}
use Rattle.machine_core.proofs.BadNames.{found_of_bad}
use Rattle.machine_core.proofs.StickerMeanings.{below, nothing_below}
use Rattle.machine_core.proofs.machine.Machine.find_below.Goals as goal

pub returns-then-not-is_good_name : goal.returns-then-not-is_good_name
returns-then-not-is_good_name c =
    let m = c.args.self.now in
    let place = c.args.place in
    let name = c.args.name.now in
    let test = c.args.test.now in
    let folder : is_folder m.saved.songs place ≡ true = sym c.has_folder.ensures ∙ c.if-not-has_folder.false in
    let all = c.stickers-stickers.ensures ∙ ap (λ (n : MachineState). n.saved.stickers) c.self.view_is in
    let bad : is_good_name name ≡ false = sym c.is_good_name.ensures ∙ c.if-not-is_good_name.true in
    let none : found_in m.saved.stickers place name test ≡ [] =
    ap (λ s. found_in s place name test) (sym all) ∙ found_of_bad _ place name test c.len-limits.ensures.within.good bad in
    let w = c.args.work.now in
    also (answers (found_below place name test m) m) (says [] m) m m w w (Ok tt) (nothing_below m place name test folder none)
    (says_nothing m w tt c.requires)

pub returns : goal.returns
returns c =
    let m = c.args.self.now in
    let place = c.args.place in
    let name = c.args.name.now in
    let test = c.args.test.now in
    let folder : is_folder m.saved.songs place ≡ true = sym c.has_folder.ensures ∙ c.if-not-has_folder.false in
    let all = c.stickers-stickers.ensures ∙ ap (λ (n : MachineState). n.saved.stickers) c.self.view_is in
    let found : c.in-Ok.found ≡ found_in m.saved.stickers place name test = c.in-Ok.ensures.found
    ∙ ap (λ s. found_in s place name test) all in
    reads _ _ m m _ c.args.work.now _ c.keep.new.self _ _ (below m place name test folder) refl c.len-mark.ensures refl refl
    (adds_same _ _ _ _ _ c.write_found-written.ensures (ap (flat_map (found_lines name)) found)) c.keep.ensures
