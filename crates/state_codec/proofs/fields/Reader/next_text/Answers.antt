use Rattle.std.proofs.Common.{refl}
use Rattle.song_files.specs.Tags.{TagText}
use Rattle.state_codec.specs.Fields.{both}
use Rattle.state_codec.proofs.fields.Reader.next_text.Goals as goal

pub returns : goal.returns
unfolding both
returns c =
    let t : TagText = record { tag = c.in_ok-tag.tag; text = c.in_ok-text.text.now } in (
      t,
      rw (← c.least_number.ensures, c.in_ok-tag.ensures.tag, c.in_ok-text.ensures.text) refl,
      c.in_ok-add_last.ensures,
    )
