use Rattle.std.proofs.Common.{◌≡◌, ◌+◌, ◌≤◌, ◌∷◌, [], ◌∙◌, ap, sym, arith, length}
use Rattle.std.specs.List.{flat_map}
use Rattle.wave_pcm.specs.Chunks.{chunks_in}
use Rattle.wave_pcm.specs.ChunkHead.{chunk_at, IsWithin}
use Rattle.wave_pcm.specs.Parts.{parts_of}
use Rattle.wave_pcm.proofs.PartList.{whole, listed_full, chunk_listed}
use Rattle.song_files.proofs.Sources.{keeps_then}
use Rattle.wave_pcm.proofs.listing.list_parts.Goals as goal

pub returns-in_default-clause-listed : goal.returns-in_default-clause-listed
returns-in_default-clause-listed g c = λ told within.
    let kept = c.chunks.invariant.2 told in
    let inside : c.args.end ≤ length (g.S.Source.bytes c.chunks.source) = rw kept.same within in
    let none : chunks_in (g.S.Source.bytes c.chunks.source) c.chunks.at c.args.end ≡ [] = rw c.in_default.is at
    (c.in_ok-head.ensures.found kept.is_honest inside) in
    let few : length c.chunks.parts.items ≤ 65537 = omega arith in
    whole 65537 _ _ _ _ (c.chunks.invariant.3 told within) (ap (flat_map parts_of) (rw kept.same at none)) few

pub chunks-preserved : goal.chunks-preserved
chunks-preserved g c =
    let ahead : IsWithin c.chunks.at c.args.end c.in-Some.head = rw c.in-Some.is at c.in_ok-head.ensures.within in (
      ahead.next_end,
      c.in_ok-list_chunk.ensures.few,
      λ told. let kept = c.chunks.invariant.2 told in
          let next = c.in_ok-head.ensures.kept kept.is_honest in
          keeps_then kept (keeps_then next (c.in_ok-list_chunk.ensures.kept next.is_honest)),
      λ told within.
          let kept = c.chunks.invariant.2 told in
          let inside : c.args.end ≤ length (g.S.Source.bytes c.chunks.source) = rw kept.same within in
          let found : chunks_in (g.S.Source.bytes c.chunks.source) c.chunks.at c.args.end ≡ chunk_at (g.S.Source.bytes
          c.chunks.source) c.in-Some.head ∷ chunks_in (g.S.Source.bytes c.chunks.source) c.in-Some.head.next c.args.end
          = rw c.in-Some.is at (c.in_ok-head.ensures.found kept.is_honest inside) in
          let next = keeps_then kept (c.in_ok-head.ensures.kept kept.is_honest) in
          let room : c.args.end ≤ length (g.S.Source.bytes c.next_chunk.new.source) = rw next.same within in
          let body : c.in-Some.head.first + c.in-Some.head.len ≤ length (g.S.Source.bytes c.next_chunk.new.source) = omega (
            arith,
            ahead.data_end,
            room,
          ) in
          chunk_listed 65537 _ _ _ _ _ _ _ _ next.same (c.in_ok-list_chunk.ensures.listed next.is_honest body) (rw kept.same at
          found) (c.chunks.invariant.3 told within),
      c.in_ok-list_chunk.ensures.bounded c.args.end ahead.data_end c.chunks.invariant.4,
    )

pub returns-clause-listed : goal.returns-clause-listed
returns-clause-listed g c = λ told within.
    let full : length c.chunks.parts.items ≡ 65537 = omega arith in
    sym (listed_full _ _ _ _ full) ∙ c.chunks.invariant.3 told within
