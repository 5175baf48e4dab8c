use Rattle.std.proofs.Common.{ap, ◌∙◌}
use Rattle.std.specs.Option.{option_or}
use Rattle.song_head.specs.FrameTags.{frame_tag, tag_by_description}
use Rattle.song_head.proofs.frame_tags.frame_tag.Goals as goal

pub returns-in-Some : goal.returns-in-Some
unfolding frame_tag
returns-in-Some c =
    ap (λ own. option_or own (tag_by_description c.args.id c.args.description.now)) c.in-Some.ensures

pub returns-in-None : goal.returns-in-None
unfolding frame_tag
returns-in-None c =
    c.tag_by_description.ensures ∙ ap (λ own. option_or own (tag_by_description c.args.id c.args.description.now)) c.in-None.ensures
