use Rattle.std.proofs.Common.{[], None, Err, ap, sym, ◌∙◌}
use Rattle.command_text.specs.declared.command.sticker.StickersCommand.TheVariants as commands
use Rattle.state_codec.specs.declared.op.Op.TheVariants.{Sticker as OfSticker}
use Rattle.state_codec.specs.declared.op.sticker_op.StickerOp.TheVariants.{DeleteAll}
use Rattle.machine_core.specs.Meaning.{edits}
use Rattle.machine_core.specs.Named.{song_named}
use Rattle.machine_core.specs.Stickers.{stickers_meaning}
use Rattle.machine_core.proofs.Answering.{also}
use Rattle.machine_core.proofs.LookUps.{fails, no_song, a_song}
use Rattle.machine_core.proofs.StickerMeanings.{no_song_deleted, deleted}
use Rattle.machine_core.proofs.machine.Machine.delete_stickers.Goals as goal

pub returns-in_err-uri : goal.returns-in_err-uri
returns-in_err-uri c =
    let m = c.args.self.now in
    let uri = c.as_str.result.now in
    fails (song_named m.saved.songs uri) _ m c.args.work.now c.in_err-uri.field-0.0 c.from_residual.result c.in_err-uri.ensures
    (λ refusal e. ap (λ u. stickers_meaning (commands.Delete u None) m) (sym c.as_str.ensures)
    ∙ no_song_deleted m uri None (no_song m.saved.songs uri refusal e).0 ∙ ap Err (sym (no_song m.saved.songs uri refusal e).1))
    c.from_residual.ensures.1

pub returns : goal.returns
returns c =
    let m = c.args.self.now in
    let uri = c.as_str.result.now in
    let song = a_song m.saved.songs uri c.in_ok-uri.uri c.in_ok-uri.ensures in
    also _ _ _ _ _ _ _
    (ap (λ u. stickers_meaning (commands.Delete u None) m) (sym c.as_str.ensures) ∙ deleted m uri None song.0
    ∙ ap (λ u. edits (OfSticker (DeleteAll u)) [] m) (sym song.1))
    c.edit.ensures.performs
