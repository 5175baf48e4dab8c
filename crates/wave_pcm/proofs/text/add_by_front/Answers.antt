use Rattle.std.proofs.Common.{◌∙◌, ap}
use Rattle.wave_pcm.specs.Text.{tag_text}
use Rattle.wave_pcm.specs.Reading.{with_found}
use Rattle.wave_pcm.proofs.Texts.{text_decided}
use Rattle.wave_pcm.proofs.text.add_by_front.Goals as goal

pub returns-in_ok-add-in-Some-clause-text : goal.returns-in_ok-add-in-Some-clause-text
returns-in_ok-add-in-Some-clause-text g c = λ told within.
    c.in_ok-add-in-Some.ensures.ok
    ∙ ap (with_found c.args.tags.now c.args.tag) (c.in-Some.ensures.text ∙ ap tag_text (c.in_ok-read_exact.ensures.read told)
    ∙ text_decided (g.S.Source.bytes c.args.source.now) c.args.head.first c.args.head.len _ c.requires.front)

pub returns-in-None-clause-text : goal.returns-in-None-clause-text
returns-in-None-clause-text g c = λ told within.
    ap (with_found c.args.tags.now c.args.tag) (c.in-None.ensures.text ∙ ap tag_text (c.in_ok-read_exact.ensures.read told)
    ∙ text_decided (g.S.Source.bytes c.args.source.now) c.args.head.first c.args.head.len _ c.requires.front)
