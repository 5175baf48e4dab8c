use Rattle.std.proofs.Common.{◌≡◌, true, false, refl, ap, sym, ◌∙◌}
use Rattle.command_text.specs.declared.command.sticker.StickersCommand.TheVariants as commands
use Rattle.command_text.specs.declared.refusal.CommandRefusal.TheVariants.{NoSuchUri}
use Rattle.command_text.proofs.Adding.{adds_same}
use Rattle.song_db.specs.Change.{has_uri}
use Rattle.stickers.specs.Sticker.{stickers_of}
use Rattle.machine_core.specs.State.{MachineState}
use Rattle.machine_core.specs.Stickers.{song_stickers, stickers_meaning}
use Rattle.machine_core.proofs.Answering.{is_refused, passes, reads}
use Rattle.machine_core.proofs.StickerMeanings.{no_song_listed, listed}
use Rattle.machine_core.proofs.machine.Machine.list_stickers.Goals as goal

pub returns-then-not-has_song : goal.returns-then-not-has_song
returns-then-not-has_song c =
    let m = c.args.self.now in
    let song : has_uri m.saved.songs c.args.uri ≡ false =
    ap (has_uri m.saved.songs) (sym c.as_str-uri.ensures) ∙ sym c.has_song.ensures ∙ c.if-not-has_song.true in
    is_refused NoSuchUri _ m c.args.work.now (no_song_listed m c.args.uri song)

pub returns : goal.returns
returns c =
    let m = c.args.self.now in
    let uri = c.as_str-uri.result.now in
    let song : has_uri m.saved.songs uri ≡ true = sym c.has_song.ensures ∙ c.if-not-has_song.false in
    let all = c.stickers.ensures ∙ ap (λ (n : MachineState). n.saved.stickers) c.self.view_is in
    let here : stickers_meaning (commands.List c.args.uri) m ≡ stickers_meaning (commands.List uri) m =
    λ i. stickers_meaning (commands.List (sym c.as_str-uri.ensures i)) m in
    reads _ _ m m _ c.args.work.now _ c.keep.new.self _ _ (here ∙ listed m uri song) refl c.len-mark.ensures refl refl
    (adds_same _ _ _ _ _ c.write_stickers-written.ensures (ap (λ s. song_stickers (stickers_of s uri)) all)) c.keep.ensures

pub returns-then-is_long : goal.returns-then-is_long
returns-then-is_long c =
    let m = c.args.self.now in
    let uri = c.as_str-uri.result.now in
    let song : has_uri m.saved.songs uri ≡ true = sym c.has_song.ensures ∙ c.if-not-has_song.false in
    let here : stickers_meaning (commands.List c.args.uri) m ≡ stickers_meaning (commands.List uri) m =
    λ i. stickers_meaning (commands.List (sym c.as_str-uri.ensures i)) m in
    passes _ _ m m c.args.work.now c.keep_none.new.self _ _ (here ∙ listed m uri song) refl c.if-is_long.true c.is_long.ensures c.keep_none.ensures
