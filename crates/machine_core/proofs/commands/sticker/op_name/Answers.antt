use Rattle.std.proofs.Common.{◌≡◌, true, sym, ◌∙◌}
use Rattle.std.proofs.lemmas.Str.{is_utf8-from_IsUtf8}
use Rattle.stickers.specs.Name.{is_good_name}
use Rattle.state_codec.specs.Text.{is_text}
use Rattle.machine_core.proofs.BadNames.{good_is_text}
use Rattle.machine_core.proofs.commands.sticker.op_name.Goals as goal

pub returns : goal.returns
returns c =
    let name = c.args.name.now in
    let good : is_good_name name ≡ true = sym c.is_good_name.ensures ∙ c.if-not-is_good_name.false in
    let text : is_text name ≡ true = good_is_text name (is_utf8-from_IsUtf8 name c.utf8.name) good in
    rw good (rw text at c.read.ensures)
