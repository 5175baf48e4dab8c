use Rattle.std.proofs.Common.{◌≡◌, ◌≤◌, ◌∙◌, refl, sym, length}
use Rattle.song_files.proofs.Sources.{keeps_then}
use Rattle.wave_pcm.specs.PartHead.{parts_at}
use Rattle.wave_pcm.specs.Reading.{text_in, with_found}
use Rattle.wave_pcm.proofs.TagTexts.{one_wanted, not_wanted, whole}
use Rattle.wave_pcm.proofs.head.read_tags.Goals as goal
use Rattle.wave_pcm.proofs.head.read_tags.Goals.{then-contains+in_ok-add_first_text, else-contains}

pub loop-number-preserved : goal.loop-number-preserved
loop-number-preserved g c = elim c.if-contains.branch [
  | then-contains+in_ok-add_first_text w ↦ record {
    kept = λ told. let kept = c.loop-number.invariant.kept told in
        rw w.source-is (keeps_then kept (w.in_ok-add_first_text.ensures.kept kept.is_honest));
    so_far = λ told within.
        let kept = c.loop-number.invariant.kept told in
        let parts = parts_at (g.S.Source.bytes c.args.source.now) c.args.listing.now.parts.items in
        let inside : c.args.listing.now.end ≤ length (g.S.Source.bytes c.loop-number.source) = rw kept.same within in
        let more : w.add_first_text.new.tags ≡ with_found c.loop-number.tags c.at-tag.result (text_in parts c.at-tag.result) =
        rw kept.same at (w.in_ok-add_first_text.ensures.text kept.is_honest inside) in
        rw (w.tags-is, more) (one_wanted parts c.args.wanted c.loop-number.number c.loop-number.tags c.at-tag.result
        (text_in parts c.at-tag.result) refl c.at-tag.ensures.tag c.at-tag.ensures.number c.loop-number-test.true
        (sym c.contains.ensures ∙ w.if-contains.true) (c.loop-number.invariant.so_far told within));
  }
  | else-contains w ↦ record {
    kept = λ told. rw w.source-is (c.loop-number.invariant.kept told);
    so_far = λ told within.
        let parts = parts_at (g.S.Source.bytes c.args.source.now) c.args.listing.now.parts.items in
        rw w.tags-is (not_wanted parts c.args.wanted c.loop-number.number c.loop-number.tags c.at-tag.result c.at-tag.ensures.tag
        (sym c.contains.ensures ∙ w.if-contains.false) (c.loop-number.invariant.so_far told within));
  }
]

pub returns-clause-texts : goal.returns-clause-texts
returns-clause-texts g c = λ told within.
    whole (parts_at (g.S.Source.bytes c.args.source.now) c.args.listing.now.parts.items) c.args.wanted c.loop-number.number
    c.loop-number.tags c.loop-number-test.false (c.loop-number.invariant.so_far told within)
