use Rattle.std.proofs.Common.{◌∙◌, ap, Some, None}
use Rattle.as_wave.specs.FlacTag.{texts_for, cover_in}
use Rattle.as_wave.proofs.FlacTags.{tag_by_parts}
use Rattle.as_wave.proofs.flac_tag.tag_of.Goals as goal

pub returns-in-Some-clause-tag : goal.returns-in-Some-clause-tag
returns-in-Some-clause-tag c = λ file all.
    tag_by_parts c.tag_with.result file c.args.head.now c.deref.result.now (Some c.in-Some.picture.now)
    (c.deref.ensures.value ∙ c.in_ok-texts.ensures ∙ ap texts_for c.as_slice.ensures)
    (c.in-Some.ensures.found ∙ ap (cover_in c.args.end) c.as_slice-2.ensures ∙ ap (λ n. cover_in n c.args.head.now.pictures) all)
    (c.tag_with.ensures.tag file)

pub returns-clause-tag : goal.returns-clause-tag
returns-clause-tag c = λ file all.
    tag_by_parts c.tag_without.result file c.args.head.now c.deref-in-None.result.now None
    (c.deref-in-None.ensures.value ∙ c.in_ok-texts.ensures ∙ ap texts_for c.as_slice.ensures)
    (c.in-None.ensures.found ∙ ap (cover_in c.args.end) c.as_slice-2.ensures ∙ ap (λ n. cover_in n c.args.head.now.pictures) all)
    (c.tag_without.ensures.tag file)
