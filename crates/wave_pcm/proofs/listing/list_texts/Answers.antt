use Rattle.std.proofs.Common.{◌≡◌, ◌≤◌, [], ◌∷◌, length, map, ap, sym, ◌∙◌, refl, arith}
use Rattle.std.proofs.lemmas.Grind.{common_steps}
use Rattle.wave_pcm.specs.Chunks.{chunks_in}
use Rattle.wave_pcm.specs.ChunkHead.{chunk_at, IsWithin}
use Rattle.wave_pcm.specs.PartHead.{EndsBy, part_at}
use Rattle.wave_pcm.specs.Parts.{text_part}
use Rattle.wave_pcm.proofs.PartList.{whole, pushed, listed_full, All_push}
use Rattle.song_files.proofs.Sources.{keeps_then}
use Rattle.wave_pcm.proofs.listing.list_texts.Goals as goal

pub returns-in_default-clause-listed : goal.returns-in_default-clause-listed
returns-in_default-clause-listed g c = λ told within.
    let kept = c.texts.invariant.2 told in
    let inside : c.args.end ≤ length (g.S.Source.bytes c.texts.source) = rw kept.same within in
    let none : chunks_in (g.S.Source.bytes c.texts.source) c.texts.at c.args.end ≡ [] = rw c.in_default.is at
    (c.in_ok-head.ensures.found kept.is_honest inside) in
    let few : length c.texts.parts.items ≤ 65537 = omega arith in
    whole _ _ _ _ _ (c.texts.invariant.3 told within) (ap (map text_part) (rw kept.same at none)) few

pub texts-preserved : goal.texts-preserved
texts-preserved g c =
    let ahead : IsWithin c.texts.at c.args.end c.in-Some.head = rw c.in-Some.is at c.in_ok-head.ensures.within in (
      ahead.next_end,
      grind (arith, common_steps),
      λ told. let kept = c.texts.invariant.2 told in keeps_then kept (c.in_ok-head.ensures.kept kept.is_honest),
      λ told within.
          let kept = c.texts.invariant.2 told in
          let inside : c.args.end ≤ length (g.S.Source.bytes c.texts.source) = rw kept.same within in
          let found : chunks_in (g.S.Source.bytes c.texts.source) c.texts.at c.args.end ≡ chunk_at (g.S.Source.bytes
          c.texts.source) c.in-Some.head ∷ chunks_in (g.S.Source.bytes c.texts.source) c.in-Some.head.next c.args.end
          = rw c.in-Some.is at (c.in_ok-head.ensures.found kept.is_honest inside) in
          let same : part_at (g.S.Source.bytes c.args.source.now) (record {
            kind = c.in_list.result;
            first = c.in-Some.head.first;
            len = c.in-Some.head.len;
          }) ≡ text_part (chunk_at (g.S.Source.bytes c.args.source.now) c.in-Some.head) = rw
          c.in_list.ensures refl in
          pushed 65537 _ _ _ _ _ _ _ _ (c.texts.invariant.3 told within) (ap (map text_part) (rw kept.same at found)) same
          c.in_ok-push.ensures.items,
      λ limit below each. let stands : EndsBy limit (record {
        kind = c.in_list.result;
        first = c.in-Some.head.first;
        len =
            c.in-Some.head.len;
      }) = omega (arith, ahead.data_end) in
          All_push (EndsBy limit) _ _ _ c.in_ok-push.ensures.items (c.texts.invariant.4 limit below each) stands,
    )

pub returns-clause-listed : goal.returns-clause-listed
returns-clause-listed g c = λ told within.
    let full : length c.texts.parts.items ≡ 65537 = omega arith in
    sym (listed_full _ _ _ _ full) ∙ c.texts.invariant.3 told within
