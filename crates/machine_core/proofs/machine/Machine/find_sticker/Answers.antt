use Rattle.std.proofs.Common.{◌≡◌, true, false, ap, sym, ◌∙◌}
use Rattle.command_text.specs.declared.command.sticker.StickersCommand.TheVariants as commands
use Rattle.song_db.specs.Change.{has_uri}
use Rattle.machine_core.specs.Meaning.{answers}
use Rattle.machine_core.specs.Stickers.{found_below, stickers_meaning}
use Rattle.machine_core.proofs.Answering.{also}
use Rattle.machine_core.proofs.StickerMeanings.{found_here, found_in_folder}
use Rattle.machine_core.proofs.machine.Machine.find_sticker.Goals as goal

pub returns-then-has_song : goal.returns-then-has_song
returns-then-has_song c =
    let m = c.args.self.now in
    let uri = c.as_str-uri.result.now in
    let name = c.as_str-name.result.now in
    let song : has_uri m.saved.songs uri ≡ true = sym c.has_song.ensures ∙ c.if-has_song.true in
    let here : stickers_meaning (commands.Find c.args.uri c.args.name c.args.bound) m ≡ stickers_meaning
    (commands.Find uri name c.args.bound) m =
    λ i. stickers_meaning (commands.Find (sym c.as_str-uri.ensures i) (sym c.as_str-name.ensures i) c.args.bound) m in
    also _ _ _ _ _ _ _ (here ∙ found_here m uri name c.args.bound c.test_of-test.result song c.test_of-test.ensures) c.find_at_song.ensures

pub returns : goal.returns
returns c =
    let m = c.args.self.now in
    let uri = c.as_str-uri.result in
    let name = c.as_str-name.result.now in
    let song : has_uri m.saved.songs uri.now ≡ false = sym c.has_song.ensures ∙ c.if-has_song.false in
    let here : stickers_meaning (commands.Find c.args.uri c.args.name c.args.bound) m ≡ stickers_meaning
    (commands.Find uri.now name c.args.bound) m =
    λ i. stickers_meaning (commands.Find (sym c.as_str-uri.ensures i) (sym c.as_str-name.ensures i) c.args.bound) m in
    also _ _ _ _ _ _ _
    (here ∙ found_in_folder m uri name c.args.bound c.test_of-test.result song c.test_of-test.ensures
    ∙ ap (λ place. answers (found_below place name c.test_of-test.result m) m) (sym c.read.ensures))
    c.find_below.ensures
