use Rattle.std.proofs.Common.{◌≡◌, [], false, Some, Err, ap, sym, ◌∙◌}
use Rattle.command_text.specs.declared.command.sticker.StickersCommand.TheVariants as commands
use Rattle.command_text.specs.declared.refusal.CommandRefusal.TheVariants.{BadStickerName}
use Rattle.state_codec.specs.declared.op.Op.TheVariants.{Sticker as OfSticker}
use Rattle.state_codec.specs.declared.op.sticker_op.StickerOp.TheVariants.{Delete}
use Rattle.stickers.specs.Name.{is_good_name}
use Rattle.machine_core.specs.Meaning.{edits}
use Rattle.machine_core.specs.Named.{song_named}
use Rattle.machine_core.specs.Stickers.{stickers_meaning}
use Rattle.machine_core.proofs.Answering.{also, is_refused}
use Rattle.machine_core.proofs.BadNames.{none_is_bad, some_is_good}
use Rattle.machine_core.proofs.LookUps.{fails, no_song, a_song}
use Rattle.machine_core.proofs.StickerMeanings.{no_song_deleted, deleted, bad_name_deleted}
use Rattle.machine_core.proofs.machine.Machine.delete_sticker.Goals as goal

pub returns-in_err-uri : goal.returns-in_err-uri
returns-in_err-uri c =
    let m = c.args.self.now in
    let uri = c.as_str.result.now in
    fails (song_named m.saved.songs uri) _ m c.args.work.now c.in_err-uri.field-0.0 c.from_residual.result c.in_err-uri.ensures
    (λ refusal e. ap (λ u. stickers_meaning (commands.Delete u (Some c.args.name)) m) (sym c.as_str.ensures)
    ∙ no_song_deleted m uri (Some c.args.name) (no_song m.saved.songs uri refusal e).0
    ∙ ap Err (sym (no_song m.saved.songs uri refusal e).1))
    c.from_residual.ensures.1

pub returns-in_default : goal.returns-in_default
returns-in_default c =
    let m = c.args.self.now in
    let uri = c.as_str.result.now in
    let name = c.as_str-2.result.now in
    let song = a_song m.saved.songs uri c.in_ok-uri.uri c.in_ok-uri.ensures in
    let bad : is_good_name name ≡ false =
    none_is_bad (is_good_name name) name c.in_ok-name.field-0 c.in_ok-name.ensures c.in_default.is in
    let here : stickers_meaning (commands.Delete c.args.uri (Some c.args.name)) m ≡ stickers_meaning (commands.Delete uri (Some name)) m =
    λ i. stickers_meaning (commands.Delete (sym c.as_str.ensures i) (Some (sym c.as_str-2.ensures i))) m in
    is_refused BadStickerName _ m c.args.work.now (here ∙ bad_name_deleted m uri name song.0 bad)

pub returns : goal.returns
returns c =
    let m = c.args.self.now in
    let uri = c.as_str.result.now in
    let name = c.as_str-2.result.now in
    let song = a_song m.saved.songs uri c.in_ok-uri.uri c.in_ok-uri.ensures in
    let given = some_is_good (is_good_name name) name c.in-Some.name c.in_ok-name.field-0 c.in_ok-name.ensures c.in-Some.is in
    let here : stickers_meaning (commands.Delete c.args.uri (Some c.args.name)) m ≡ stickers_meaning (commands.Delete uri (Some name)) m =
    λ i. stickers_meaning (commands.Delete (sym c.as_str.ensures i) (Some (sym c.as_str-2.ensures i))) m in
    also _ _ _ _ _ _ _
    (here ∙ deleted m uri (Some name) song.0 ∙ (λ i. edits (OfSticker (Delete (sym song.1 i) (sym given.1 i))) [] m))
    c.edit.ensures.performs
