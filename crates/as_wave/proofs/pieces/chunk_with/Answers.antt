use Rattle.std.proofs.Common.{◌≡◌, ◌+◌, ◌-◌, ◌%◌, ◌<◌, ◌≤◌, ◌∙◌, ap, drop, arith, get_or, []}
use Rattle.std.proofs.lemmas.List.Sums.{sum_by_more}
use Rattle.std.proofs.lemmas.List.{get_or_default}
use Rattle.as_wave.specs.ChunkHead.{chunks_at, chunk_size}
use Rattle.as_wave.specs.StandsFor.{chunks_bytes}
use Rattle.wave_pcm.specs.declared.chunks.ChunkHead.{ChunkHead}
use Rattle.as_wave.proofs.PieceReads.{in_chunk, past_chunk}
use Rattle.as_wave.proofs.pieces.chunk_with.Goals as goal
use Rattle.as_wave.proofs.pieces.chunk_with.Goals.{then-left-lt-HEAD_LEN-via-then-left-lt-HEAD_LEN, then-left-lt-HEAD_LEN-via-else-left-lt-HEAD_LEN+then-left-head, then-left-lt-HEAD_LEN-via-else-left-lt-HEAD_LEN+else-left-head+then-left-head-2}

pub returns-then-left-lt-HEAD_LEN-clause-found : goal.returns-then-left-lt-HEAD_LEN-clause-found
returns-then-left-lt-HEAD_LEN-clause-found c = λ file each.
    let none : ChunkHead = record { id = []; first = 0; len = 0; next = 0 } in
    let heads = c.args.heads.now in
    let i = c.loop-head.head-index in
    let head : ChunkHead = get_or heads i none in
    let here : c.loop-head.left < chunk_size head = elim c.then-left-lt-HEAD_LEN.branch [
      | then-left-lt-HEAD_LEN-via-then-left-lt-HEAD_LEN w ↦ omega arith
      | then-left-lt-HEAD_LEN-via-else-left-lt-HEAD_LEN+then-left-head w ↦ omega arith
      | then-left-lt-HEAD_LEN-via-else-left-lt-HEAD_LEN+else-left-head+then-left-head-2 w ↦ omega arith
    ] in (
      chunks_bytes (chunks_at file (drop (i + 1) heads)),
      in_chunk file heads i c.args.at c.loop-head.left head c.loop-head-test.true
          (get_or_default heads i none head c.loop-head-test.true) each here (c.loop-head.invariant.same file each),
    )

pub loop-head-preserved : goal.loop-head-preserved
loop-head-preserved c =
    let none : ChunkHead = record { id = []; first = 0; len = 0; next = 0 } in
    let heads = c.args.heads.now in
    let i = c.loop-head.head-index in
    let head : ChunkHead = get_or heads i none in
    let past : chunk_size head ≤ c.loop-head.left = omega arith in
    let same_size : c.loop-head.left - chunk_size head ≡ c.loop-head.left - (8 + head.len + head.len % 2) = omega arith in
    record {
      counted = omega (arith, sum_by_more chunk_size heads i none c.loop-head-test.true, past, c.loop-head.invariant.counted);
      same = λ file each. past_chunk file heads i c.args.at c.loop-head.left head c.loop-head-test.true
          (get_or_default heads i none head c.loop-head-test.true) each past (c.loop-head.invariant.same file each)
          ∙ ap (λ k. drop k (chunks_bytes (chunks_at file (drop (i + 1) heads)))) same_size;
    }
