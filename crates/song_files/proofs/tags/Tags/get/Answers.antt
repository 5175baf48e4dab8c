use Rattle.std.proofs.Common.{◌∙◌}
use Rattle.song_files.proofs.TagTexts.{first_text_is}
use Rattle.song_files.proofs.tags.Tags.get.Goals as goal

pub returns : goal.returns
returns c = c.nth.ensures ∙ first_text_is c.args.self.now c.args.tag
