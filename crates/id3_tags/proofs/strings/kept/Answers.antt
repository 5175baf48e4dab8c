use Rattle.std.proofs.Common.{◌≡◌, ◌∙◌, sym, ap, false}
use Rattle.song_files.specs.Text.{is_tag_text}
use Rattle.song_files.proofs.Texts.{no_utf8}
use Rattle.id3_tags.proofs.Splits.{kept_none}
use Rattle.id3_tags.proofs.strings.kept.Goals as goal
use Rattle.id3_tags.proofs.strings.kept.Goals.{in_default-via-in-Ok+else-is_tag_text, in_default-via-in_default}

pub returns-in_default : goal.returns-in_default
returns-in_default c = elim c.in_default.branch [
  | in_default-via-in-Ok+else-is_tag_text w ↦
      let no : is_tag_text c.args.bytes.now ≡ false = ap is_tag_text (sym w.in-Ok.ensures.cases.0) ∙ sym w.is_tag_text.ensures
      ∙ w.if-is_tag_text.false in
      c.new.ensures.bytes ∙ kept_none c.args.bytes.now no
  | in_default-via-in_default w ↦
      c.new.ensures.bytes ∙ kept_none c.args.bytes.now (no_utf8 c.args.bytes.now w.in_default.ensures.cases.0)
]
