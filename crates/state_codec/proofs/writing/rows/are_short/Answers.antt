use Rattle.state_codec.proofs.TagLaws.{first_short}
use Rattle.state_codec.proofs.writing.rows.are_short.Goals as goal

pub returns : goal.returns
returns c = λ tag. first_short c.args.tags.now tag c.len-count.ensures.good
