use Rattle.std.proofs.Common.{◌≡◌, ◌≤◌, [], arith, length}
use Rattle.wave_pcm.specs.Chunks.{chunks_in}
use Rattle.as_wave.proofs.ChunkPlaces.{whole, full}
use Rattle.as_wave.proofs.chunks.list_chunks.Goals as goal

pub returns-in_default-clause-listed : goal.returns-in_default-clause-listed
returns-in_default-clause-listed g c = λ told within.
    let kept = c.chunks.invariant.2 told in
    let inside : c.args.end ≤ length (g.S.Source.bytes c.chunks.source) = rw kept.same within in
    let none : chunks_in (g.S.Source.bytes c.chunks.source) c.chunks.at c.args.end ≡ [] = rw c.in_default.is at
    (c.in_ok-head.ensures.found kept.is_honest inside) in
    let few : length c.chunks.heads.items ≤ 65537 = omega arith in
    whole 65537 _ _ _ _ (c.chunks.invariant.3 told within) (rw kept.same at none) few

pub returns-clause-listed : goal.returns-clause-listed
returns-clause-listed g c = λ told within.
    let many : length c.chunks.heads.items ≡ 65537 = omega arith in
    full 65537 _ _ _ _ (c.chunks.invariant.3 told within) many
