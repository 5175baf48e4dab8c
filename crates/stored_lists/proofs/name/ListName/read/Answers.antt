use Rattle.std.proofs.Common.{◌≡◌, true, sym, subst, arith}
use Rattle.std.specs.Str.{is_utf8}
use Rattle.std.proofs.lemmas.Grind.{common_steps}
use Rattle.std.proofs.lemmas.Str.{is_utf8-from_IsUtf8}
use Rattle.stored_lists.specs.Name.{IsListName, is_good_name}
use Rattle.stored_lists.proofs.name.ListName.read.Goals as goal

pub invariant_of-result : goal.invariant_of-result
invariant_of-result c =
    let good : is_good_name c.args.name.now ≡ true = grind (arith, common_steps, c.is_good_name.ensures, c.if-not-is_good_name.false) in
    let text : is_utf8 c.args.name.now ≡ true = is_utf8-from_IsUtf8 c.args.name.now c.utf8.name in
    subst IsListName (sym c.in_ok-text.ensures.ok) (record { good = good; text = text })
