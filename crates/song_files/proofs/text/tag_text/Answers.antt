use Rattle.std.proofs.Common.{◌≡◌, ◌<◌, ◌≤◌, sym, true, false, length, arith}
use Rattle.std.proofs.lemmas.Grind.{common_steps}
use Rattle.std.proofs.lemmas.Str.{is_utf8-from_IsUtf8}
use Rattle.song_files.specs.Text.{has_control, is_tag_text}
use Rattle.song_files.proofs.Texts.{text_passes, text_kept, text_dropped, no_utf8}
use Rattle.song_files.proofs.text.tag_text.Goals as goal
use Rattle.song_files.proofs.text.tag_text.Goals.{Else-has_control}

pub returns-in_default-clause-text : goal.returns-in_default-clause-text
returns-in_default-clause-text c = text_dropped c.args.bytes.now (no_utf8 c.args.bytes.now c.in_default.ensures.cases.0)

passes : (c : Else-has_control) → is_tag_text c.in-Ok.text.now ≡ true
passes c =
    let text : c.in-Ok.text.now ≡ c.args.bytes.now = c.in-Ok.ensures.cases.0 in
    let some : 0 < length c.args.bytes.now = grind (arith, common_steps) in
    let few : length c.args.bytes.now ≤ 512 = omega arith in
    let plain : has_control c.args.bytes.now ≡ false = rw text at (sym c.if-has_control.ensures) in
    rw text (text_passes c.args.bytes.now some few (is_utf8-from_IsUtf8 c.args.bytes.now c.in-Ok.ensures.cases.1) plain)

pub returns-clause-text : goal.returns-clause-text
returns-clause-text c = text_kept c.args.bytes.now c.in-Ok.text.now c.in-Ok.ensures.cases.0 (passes (goal.at.returns-clause-text
    c).Else-has_control)

pub returns-clause-good : goal.returns-clause-good
returns-clause-good c = passes (goal.at.returns-clause-good c).Else-has_control
