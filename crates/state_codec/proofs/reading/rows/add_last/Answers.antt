use Rattle.std.proofs.Common.{◌∙◌}
use Rattle.state_codec.proofs.ToldLaws.{added_last}
use Rattle.state_codec.proofs.reading.rows.add_last.Goals as goal

pub returns : goal.returns
returns c = c.in_ok-add.ensures.ok
    ∙ added_last c.args.tags.now c.args.tag c.args.text.now c.len-good.ensures.good c.requires.few c.requires.behind
