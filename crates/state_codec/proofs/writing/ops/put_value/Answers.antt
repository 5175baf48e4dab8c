use Rattle.std.proofs.Common.{◌≡◌, true, arith}
use Rattle.std.specs.Str.{is_utf8}
use Rattle.std.proofs.lemmas.Grind.{common_steps}
use Rattle.std.proofs.lemmas.Str.{is_utf8-from_IsUtf8}
use Rattle.state_codec.proofs.writing.ops.put_value.Goals as goal

pub returns-clause-form : goal.returns-clause-form
returns-clause-form c =
    let utf8 : is_utf8 c.as_str.result.now ≡ true = is_utf8-from_IsUtf8 c.as_str.result.now c.as_str.utf8 in
    grind (arith, common_steps, utf8, c.as_str.ensures.text, c.as_str.ensures.form)
