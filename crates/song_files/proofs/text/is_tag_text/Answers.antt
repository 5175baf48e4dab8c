use Rattle.std.proofs.Common.{◌≡◌, refl, true, length, nat_lt, nat_le, arith}
use Rattle.std.specs.Str.{is_utf8}
use Rattle.std.proofs.lemmas.Bool.Decides.{nat_tests}
use Rattle.std.proofs.lemmas.Grind.{common_steps}
use Rattle.std.proofs.lemmas.Str.{is_utf8-from_IsUtf8}
use Rattle.song_files.proofs.text.is_tag_text.Goals as goal
use Rattle.song_files.proofs.text.is_tag_text.Goals.{then-not-is_empty, else-not-is_empty}

pub returns-then-text-le-MAX_TAG_BYTES : goal.returns-then-text-le-MAX_TAG_BYTES
returns-then-text-le-MAX_TAG_BYTES c =
    let utf8 : is_utf8 c.args.text.now ≡ true = is_utf8-from_IsUtf8 c.args.text.now c.utf8.text in
    let some : nat_lt 0 (length c.args.text.now) ≡ true = grind (arith, common_steps, nat_tests) in
    let few : nat_le (length c.args.text.now) 512 ≡ true = grind (arith, nat_tests) in
    rw (some, few, utf8, c.has_control.ensures) refl
