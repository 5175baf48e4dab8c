use Rattle.std.proofs.Common.{◌≡◌, true, sym, ◌∙◌}
use Rattle.std.proofs.lemmas.Str.{is_utf8-from_IsUtf8}
use Rattle.state_codec.specs.Text.{is_text}
use Rattle.stored_lists.specs.Name.{is_good_name}
use Rattle.machine_core.proofs.Lists.Names.{name_is_text}
use Rattle.machine_core.proofs.commands.lists.list_name.Goals as goal

pub unreachable-requires : goal.unreachable-requires
unreachable-requires c =
    let name = c.args.name.now in
    let good : is_good_name name ≡ true = sym c.is_good_name.ensures ∙ c.if-not-is_good_name.false in
    let text : is_text name ≡ true = name_is_text name good (is_utf8-from_IsUtf8 name c.utf8.name) in
    let made = rw text at c.in_ok-text.ensures in
    cc
