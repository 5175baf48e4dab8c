use Rattle.std.proofs.Common.{◌∙◌}
use Rattle.song_db.specs.Limits.{MAX_ROW_TAG_BYTES}
use Rattle.song_db.specs.Row.{tags_size}
use Rattle.state_codec.proofs.ToldLaws.{all_size, same_test}
use Rattle.state_codec.proofs.reading.rows.fits_a_row.Goals as goal

pub returns : goal.returns
returns c =
    same_test c.texts_len.result (tags_size c.args.tags.now) MAX_ROW_TAG_BYTES (c.texts_len.ensures.len ∙ all_size c.args.tags.now)
