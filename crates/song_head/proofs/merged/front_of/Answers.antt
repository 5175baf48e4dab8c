use Rattle.std.proofs.Common.{ap, sym, ◌∙◌}
use Rattle.song_files.specs.Tags.{added}
use Rattle.song_head.proofs.Texts.{front_more, good_at}
use Rattle.song_head.proofs.merged.front_of.Goals as goal

pub add_good-requires : goal.add_good-requires
add_good-requires c = good_at c.args.tags.now c.loop-at.at c.at-tag.result.0 c.at-tag.result.1.now c.len-good.ensures.good c.at-tag.ensures

pub loop-at-preserved : goal.loop-at-preserved
loop-at-preserved c =
    c.in_ok-add_good.ensures ∙ ap (λ front. added front c.at-tag.result.0 c.at-tag.result.1.now) c.loop-at.invariant
    ∙ front_more c.args.tags.now c.loop-at.at c.at-tag.result.0 c.at-tag.result.1.now c.len-good.ensures.good c.at-tag.ensures
