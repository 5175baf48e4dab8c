use Rattle.std.proofs.Common.{◌≡◌, true, false, Some, None, refl, ap, sym, ◌∙◌}
use Rattle.command_text.specs.AnswerNames.{sticker_line}
use Rattle.command_text.specs.declared.command.sticker.StickersCommand.TheVariants as commands
use Rattle.command_text.specs.declared.refusal.CommandRefusal.TheVariants.{NoSuchSticker, NoSuchUri}
use Rattle.command_text.proofs.Adding.{adds_same}
use Rattle.song_db.specs.Change.{has_uri}
use Rattle.stickers.specs.Sticker.{value_at}
use Rattle.machine_core.specs.State.{MachineState}
use Rattle.machine_core.specs.Stickers.{stickers_meaning}
use Rattle.machine_core.proofs.Answering.{is_refused, reads}
use Rattle.machine_core.proofs.BadNames.{no_value}
use Rattle.machine_core.proofs.StickerMeanings.{no_song_got, none_got, got}
use Rattle.machine_core.proofs.machine.Machine.get_sticker.Goals as goal

pub returns-then-not-has_song : goal.returns-then-not-has_song
returns-then-not-has_song c =
    let m = c.args.self.now in
    let song : has_uri m.saved.songs c.args.uri ≡ false =
    ap (has_uri m.saved.songs) (sym c.as_str-uri.ensures) ∙ sym c.has_song.ensures ∙ c.if-not-has_song.true in
    is_refused NoSuchUri _ m c.args.work.now (no_song_got m c.args.uri c.args.name song)

pub returns-in_default : goal.returns-in_default
returns-in_default c =
    let m = c.args.self.now in
    let uri = c.as_str-uri.result.now in
    let name = c.as_str-name.result.now in
    let song : has_uri m.saved.songs uri ≡ true = sym c.has_song.ensures ∙ c.if-not-has_song.false in
    let all = c.stickers-stickers.ensures ∙ ap (λ (n : MachineState). n.saved.stickers) c.self.view_is in
    let none : value_at m.saved.stickers uri name ≡ None =
    ap (λ s. value_at s uri name) (sym all) ∙ no_value _ _ uri name _ c.len-limits.ensures.within.good c.in_default.ensures.answer in
    let here : stickers_meaning (commands.Get c.args.uri c.args.name) m ≡ stickers_meaning (commands.Get uri name) m =
    λ i. stickers_meaning (commands.Get (sym c.as_str-uri.ensures i) (sym c.as_str-name.ensures i)) m in
    is_refused NoSuchSticker _ m c.args.work.now (here ∙ none_got m uri name song none)

pub returns : goal.returns
returns c =
    let m = c.args.self.now in
    let uri = c.as_str-uri.result.now in
    let name = c.as_str-name.result.now in
    let song : has_uri m.saved.songs uri ≡ true = sym c.has_song.ensures ∙ c.if-not-has_song.false in
    let all = c.stickers-stickers.ensures ∙ ap (λ (n : MachineState). n.saved.stickers) c.self.view_is in
    let some : value_at m.saved.stickers uri name ≡ Some c.in-Ok.value.now = ap (λ s. value_at s uri name) (sym all)
    ∙ c.in-Ok.ensures.value in
    let here : stickers_meaning (commands.Get c.args.uri c.args.name) m ≡ stickers_meaning (commands.Get uri name) m =
    λ i. stickers_meaning (commands.Get (sym c.as_str-uri.ensures i) (sym c.as_str-name.ensures i)) m in
    reads _ _ m m _ c.args.work.now _ c.keep.new.self _ _ (here ∙ got m uri name _ song some) refl c.len-mark.ensures refl refl
    (adds_same _ _ _ _ _ c.write_sticker-written.ensures (ap (sticker_line name) c.as_str.ensures.text)) c.keep.ensures
