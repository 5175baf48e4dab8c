-- Reads of what a plan lays out.
use Rattle.std.proofs.Common.{◌≡◌, ◌+◌, ◌-◌, ◌*◌, ◌≤◌, ℕ, List, ◌++◌, length, take, drop, ap, ◌∙◌, sym, arith, slice_range, Ok, Err, IfOk, Some, subst}
use Rattle.std.specs.Prelude.{Result, Option, IfSome}
use Rattle.std.proofs.lemmas.List.{drop_at, drop-drop, take-append-le, length-drop}
use Rattle.song_files.proofs.Ranges.{range_is}
use Rattle.wave_pcm.specs.ChunkHead.{chunk_at}
use Rattle.as_wave.specs.ChunkHead.{chunks_at, StandsBy, chunk_size}
use Rattle.as_wave.specs.Plan.{wave_head, sound_from, laid_out, planned, Fits}
use Rattle.as_wave.specs.StandsFor.{chunk_bytes, chunks_bytes}
use Rattle.wave_pcm.specs.declared.chunks.ChunkHead.{ChunkHead}
use Rattle.as_wave.specs.declared.format.SampleFormat.{SampleFormat}
use Rattle.as_wave.specs.declared.plan.PcmPlan.{PcmPlan}
use Rattle.as_wave.proofs.PieceReads.{slice_mid}
use Rattle.as_wave.proofs.PlanParts.{length-sound_from, length-wave_head, length-laid_out}
use Rattle.as_wave.proofs.WaveParts.{length-chunk_at}

pub sound_in_plan : {E : Type 0} (r : Result ℕ E) (file buffer : List ℕ) (format : SampleFormat) (first count rest : ℕ) (kept : List ChunkHead)
    (at most : ℕ) → 44 ≤ at → IfOk r (λ n. (n ≤ most) × (at - 44 + n ≤ 2 * count))
    → IfOk r (λ n. take n buffer ≡ slice_range (sound_from format.width first count file) (at - 44) (at - 44 + n))
    → IfOk r (λ n. take n buffer ≡ slice_range (laid_out format first count rest kept file) at (at + n))
sound_in_plan (Err e) file buffer format first count rest kept at most after few read = tt
sound_in_plan (Ok n) file buffer format first count rest kept at most after few read =
    let head = wave_head format (2 * count) rest in
    let sound = sound_from format.width first count file in
    let e : 44 + (at - 44) ≡ at = omega arith in
    read ∙ sym (slice_mid head sound (chunks_bytes (chunks_at file kept)) (at - 44) n (omega (
      arith,
      few.1,
      length-sound_from
          format.width first count file,
    )))
    ∙ ap (λ l. slice_range (laid_out format first count rest kept file) (l + (at - 44)) (l + (at - 44) + n)) (length-wave_head format (2 *
    count) rest)
    ∙ ap (λ k. slice_range (laid_out format first count rest kept file) k (k + n)) e

-- what stands behind the samples
behind_sound : (file : List ℕ) (format : SampleFormat) (first count rest : ℕ) (kept : List ChunkHead) (at : ℕ) → 44 + 2 * count ≤ at
    → drop at (laid_out format first count rest kept file) ≡ drop (at - 44 - 2 * count) (chunks_bytes (chunks_at file kept))
behind_sound file format first count rest kept at after =
    let head = wave_head format (2 * count) rest in
    let sound = sound_from format.width first count file in
    let k = chunks_bytes (chunks_at file kept) in
    let e : at ≡ 44 + (2 * count + (at - 44 - 2 * count)) = omega arith in
    ap (λ i. drop i (head ++ (sound ++ k))) e
    ∙ sym (drop-drop (2 * count + (at - 44 - 2 * count)) 44 (head ++ (sound ++ k)))
    ∙ ap (drop (2 * count + (at - 44 - 2 * count))) (drop_at head (sound ++ k) 44 (length-wave_head format (2 * count) rest))
    ∙ sym (drop-drop (at - 44 - 2 * count) (2 * count) (sound ++ k))
    ∙ ap (drop (at - 44 - 2 * count)) (drop_at sound k (2 * count) (length-sound_from format.width first count file))

pub chunk_in_plan : {E : Type 0} (r : Result ℕ E) (file buffer more : List ℕ) (format : SampleFormat) (first count rest : ℕ)
    (kept : List ChunkHead) (head : ChunkHead) (at inside most : ℕ) → 44 + 2 * count ≤ at → StandsBy (length file) head
    → drop (at - 44 - 2 * count) (chunks_bytes (chunks_at file kept))
    ≡ drop inside (chunk_bytes head.id (chunk_at file head).body) ++ more
    → IfOk r (λ n. (n ≤ most) × (inside + n ≤ chunk_size head))
    → IfOk r (λ n. take n buffer ≡ slice_range (chunk_bytes head.id (chunk_at file head).body) inside (inside + n))
    → IfOk r (λ n. take n buffer ≡ slice_range (laid_out format first count rest kept file) at (at + n))
chunk_in_plan (Err e) file buffer more format first count rest kept head at inside most after stands found few read = tt
chunk_in_plan (Ok n) file buffer more format first count rest kept head at inside most after stands found few read =
    let text = chunk_bytes head.id (chunk_at file head).body in
    read ∙ range_is text inside n
    ∙ sym (take-append-le n (drop inside text) more (omega (arith, few.1, length-drop inside text, length-chunk_at file head stands)))
    ∙ ap (take n) (sym found ∙ sym (behind_sound file format first count rest kept at after))
    ∙ sym (range_is (laid_out format first count rest kept file) at n)

pub length-planned : (plan : PcmPlan) (file : List ℕ) → Fits plan file → length (planned plan file) ≡ 44 + 2 * plan.count + plan.rest
length-planned plan file fits = length-laid_out file plan.format plan.first plan.count plan.rest plan.kept.items fits.kept plan.counted
