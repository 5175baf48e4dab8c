use Rattle.std.proofs.Common.{◌∙◌, arith}
use Rattle.song_files.specs.Tags.{TagText}
use Rattle.state_codec.proofs.ToldLaws.{last_number}
use Rattle.state_codec.proofs.reading.rows.least_number.Goals as goal

pub returns : goal.returns
returns c =
    let t : TagText = record { tag = c.at-last.result.0; text = c.at-last.result.1.now } in
    c.number.ensures.number ∙ last_number c.args.tags.now _ t c.at-last.ensures (omega arith)
