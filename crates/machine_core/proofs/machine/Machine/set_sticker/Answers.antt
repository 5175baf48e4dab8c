use Rattle.std.proofs.Common.{◌≡◌, [], false, Err, ap, sym, ◌∙◌}
use Rattle.command_text.specs.declared.command.sticker.StickersCommand.TheVariants as commands
use Rattle.command_text.specs.declared.refusal.CommandRefusal.TheVariants.{BadArgument, BadStickerName}
use Rattle.state_codec.specs.declared.op.Op.TheVariants.{Sticker as OfSticker}
use Rattle.state_codec.specs.declared.op.sticker_op.StickerOp.TheVariants.{Set}
use Rattle.stickers.specs.Name.{is_good_name}
use Rattle.stickers.specs.Value.{is_good_value}
use Rattle.machine_core.specs.Meaning.{edits}
use Rattle.machine_core.specs.Named.{song_named}
use Rattle.machine_core.specs.Stickers.{stickers_meaning}
use Rattle.machine_core.proofs.Answering.{also, is_refused}
use Rattle.machine_core.proofs.BadNames.{none_is_bad, some_is_good}
use Rattle.machine_core.proofs.LookUps.{fails, no_song, a_song}
use Rattle.machine_core.proofs.StickerMeanings.{bad_value_set, set_edits, no_song_set, bad_name_set}
use Rattle.machine_core.proofs.machine.Machine.set_sticker.Goals as goal

pub returns-in_default : goal.returns-in_default
returns-in_default c =
    let m = c.args.self.now in
    let value = c.as_str.result.now in
    let bad : is_good_value value ≡ false =
    none_is_bad (is_good_value value) value c.in_ok-value.field-0 c.in_ok-value.ensures c.in_default.is in
    is_refused (BadArgument 5) _ m c.args.work.now
    (ap (λ v. stickers_meaning (commands.Set c.args.uri c.args.name v) m) (sym c.as_str.ensures)
    ∙ bad_value_set m c.args.uri c.args.name value bad)

pub returns-in_err-uri : goal.returns-in_err-uri
returns-in_err-uri c =
    let m = c.args.self.now in
    let value = c.as_str.result.now in
    let uri = c.as_str-2.result.now in
    let given = some_is_good (is_good_value value) value c.in-Some.value c.in_ok-value.field-0 c.in_ok-value.ensures c.in-Some.is in
    fails (song_named m.saved.songs uri) _ m c.args.work.now c.in_err-uri.field-0.0 c.from_residual-in_err-uri.result c.in_err-uri.ensures
    (λ refusal e. (λ i. stickers_meaning (commands.Set (sym c.as_str-2.ensures i) c.args.name (sym c.as_str.ensures i)) m)
    ∙ no_song_set m uri c.args.name value given.0 (no_song m.saved.songs uri refusal e).0
    ∙ ap Err (sym (no_song m.saved.songs uri refusal e).1))
    c.from_residual-in_err-uri.ensures.1

pub returns-in_default-2 : goal.returns-in_default-2
returns-in_default-2 c =
    let m = c.args.self.now in
    let value = c.as_str.result.now in
    let uri = c.as_str-2.result.now in
    let name = c.as_str-3.result.now in
    let given = some_is_good (is_good_value value) value c.in-Some.value c.in_ok-value.field-0 c.in_ok-value.ensures c.in-Some.is in
    let song = a_song m.saved.songs uri c.in_ok-uri.uri c.in_ok-uri.ensures in
    let bad : is_good_name name ≡ false =
    none_is_bad (is_good_name name) name c.in_ok-name.field-0 c.in_ok-name.ensures c.in_default-2.is in
    let here : stickers_meaning (commands.Set c.args.uri c.args.name c.args.value) m ≡ stickers_meaning (commands.Set uri name value) m =
    λ i. stickers_meaning (commands.Set (sym c.as_str-2.ensures i) (sym c.as_str-3.ensures i) (sym c.as_str.ensures i)) m in
    is_refused BadStickerName _ m c.args.work.now (here ∙ bad_name_set m uri name value given.0 song.0 bad)

pub returns : goal.returns
returns c =
    let m = c.args.self.now in
    let value = c.as_str.result.now in
    let uri = c.as_str-2.result.now in
    let name = c.as_str-3.result.now in
    let given = some_is_good (is_good_value value) value c.in-Some.value c.in_ok-value.field-0 c.in_ok-value.ensures c.in-Some.is in
    let song = a_song m.saved.songs uri c.in_ok-uri.uri c.in_ok-uri.ensures in
    let named = some_is_good (is_good_name name) name c.in-Some-2.name c.in_ok-name.field-0 c.in_ok-name.ensures c.in-Some-2.is in
    let here : stickers_meaning (commands.Set c.args.uri c.args.name c.args.value) m ≡ stickers_meaning (commands.Set uri name value) m =
    λ i. stickers_meaning (commands.Set (sym c.as_str-2.ensures i) (sym c.as_str-3.ensures i) (sym c.as_str.ensures i)) m in
    also _ _ _ _ _ _ _
    (here ∙ set_edits m uri name value given.0
    ∙ (λ i. edits (OfSticker (Set (sym song.1 i) (sym named.1 i) (sym given.1 i))) [] m))
    c.edit.ensures.performs
