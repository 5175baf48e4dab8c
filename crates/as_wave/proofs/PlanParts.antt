-- What the plan lays out is the WAVE file.
use Rattle.std.proofs.Common.{◌≡◌, ◌+◌, ◌*◌, ◌/◌, ◌%◌, ◌≤◌, ◌<◌, ◌^◌, ℕ, List, ◌++◌, length, drop, map, ap, ◌∙◌, sym, refl, arith, All}
use Rattle.std.proofs.Common.{Some, None, Bool, codes}
use Rattle.std.specs.Prelude.{if◌then◌else◌, Option}
use Rattle.std.proofs.lemmas.Bool.{lt-ltb, le-ltb}
use Rattle.std.proofs.lemmas.List.{length-map, length-append}
use Rattle.std.proofs.Math.Nat.{mul-div-le}
use Rattle.wave_pcm.specs.Chunks.{Chunk}
use Rattle.song_files.proofs.Ranges.{range_is}
use Rattle.wave_pcm.specs.ChunkHead.{chunk_at}
use Rattle.as_wave.specs.ChunkHead.{chunks_at, StandsBy, total_size}
use Rattle.as_wave.specs.Format.{byte_len}
use Rattle.as_wave.specs.Plan.{laid_out, sound_from, wave_head}
use Rattle.as_wave.specs.Samples.{samples_of, at_16, bytes_of, sound_in, frames_in}
use Rattle.as_wave.specs.StandsFor.{chunk_bytes, chunks_bytes, riff_data, riff_file, wave_with}
use Rattle.wave_pcm.specs.declared.chunks.ChunkHead.{ChunkHead}
use Rattle.as_wave.specs.declared.format.SampleFormat.{SampleFormat}
use Rattle.as_wave.specs.declared.format.SampleWidth.{SampleWidth}
use Rattle.as_wave.proofs.SampleList.{length-samples_of, length-bytes_of}
use Rattle.as_wave.proofs.WaveParts.{length-body, length-chunks_at, total_size-even, samples_of-take, length-riff_data, riff_is}

pub length-sound_from : (w : SampleWidth) (first count : ℕ) (file : List ℕ) → length (sound_from w first count file) ≡ 2 * count
length-sound_from w first count file = length-bytes_of (map (at_16 w) (samples_of w count (drop first file)))
    ∙ ap (λ n. 2 * n) (length-map (samples_of w count (drop first file)) (at_16 w) ∙ length-samples_of w count (drop first file))

pub length-wave_head : (format : SampleFormat) (sound rest : ℕ) → length (wave_head format sound rest) ≡ 44
unfolding wave_head
length-wave_head format sound rest = refl

-- whole frames are no longer than the data
pub whole_frames : (len channels width : ℕ) → width * (channels * (len / (channels * width))) ≤ len
whole_frames len channels width =
    let e : width * (channels * (len / (channels * width))) ≡ channels * width * (len / (channels * width)) = omega arith in
    rw e (mul-div-le len (channels * width))

-- the samples, from their place in the file
sound_is : (file : List ℕ) (format : SampleFormat) (sound : ChunkHead) (count : ℕ) → StandsBy (length file) sound
    → count ≡ format.channels * (sound.len / (format.channels * byte_len format.width))
    → bytes_of (sound_in format (chunk_at file sound).body) ≡ sound_from format.width sound.first count file
sound_is file format sound count stands counted =
    let w = format.width in
    let n : format.channels * frames_in format (chunk_at file sound).body ≡ count
    = ap (λ k. format.channels * (k / (format.channels * byte_len w))) (length-body file sound stands) ∙ sym counted in
    let room : byte_len w * count ≤ sound.len = rw counted (whole_frames sound.len format.channels (byte_len w)) in
    ap (λ k. bytes_of (map (at_16 w) (samples_of w k (chunk_at file sound).body))) n
    ∙ ap (λ xs. bytes_of (map (at_16 w) (samples_of w count xs))) (range_is file sound.first sound.len)
    ∙ ap (λ zs. bytes_of (map (at_16 w) zs)) (samples_of-take w count sound.len (drop sound.first file) room)

abbrev riff_if : Bool → List ℕ → Option (List ℕ)
riff_if b body = if b then Some (chunk_bytes (codes "RIFF") body) else None

with_sound : (format : SampleFormat) (body sound : List ℕ) (further : List Chunk) → bytes_of (sound_in format body) ≡ sound
    → wave_with format body further ≡ riff_file (riff_data format sound further)
unfolding wave_with
with_sound format body sound further same = ap (λ xs. riff_file (riff_data format xs further)) same

even_sound : (w : SampleWidth) (first count : ℕ) (file : List ℕ) → length (sound_from w first count file) % 2 ≡ 0
even_sound w first count file = omega (arith, length-sound_from w first count file)

even_rest : (file : List ℕ) (kept : List ChunkHead) → All (StandsBy (length file)) kept → length (chunks_bytes (chunks_at file kept)) % 2 ≡ 0
even_rest file kept each = omega (arith, length-chunks_at file kept each, total_size-even kept)

size_is : (file : List ℕ) (format : SampleFormat) (first count : ℕ) (kept : List ChunkHead) → All (StandsBy (length file)) kept
    → length (riff_data format (sound_from format.width first count file) (chunks_at file kept)) ≡ 36 + 2 * count + total_size kept
size_is file format first count kept each =
    length-riff_data format (sound_from format.width first count file) (chunks_at file kept) (even_sound format.width first count file)
    ∙ omega (arith, length-sound_from format.width first count file, length-chunks_at file kept each)

pub too_long : (file : List ℕ) (format : SampleFormat) (sound : ChunkHead) (kept : List ChunkHead) (count : ℕ) → StandsBy (length file) sound
    → All (StandsBy (length file)) kept
    → count ≡ format.channels * (sound.len / (format.channels * byte_len format.width))
    → 2 ^ 32 ≤ 36 + 2 * count + total_size kept
    → wave_with format (chunk_at file sound).body (chunks_at file kept) ≡ None
too_long file format sound kept count stands each counted long =
    let s = sound_from format.width sound.first count file in
    with_sound format (chunk_at file sound).body s (chunks_at file kept) (sound_is file format sound count stands counted)
    ∙ ap (λ b. riff_if b (riff_data format s (chunks_at file kept))) (le-ltb (length (riff_data format s (chunks_at file kept))) (2 ^ 32)
    (omega (arith, size_is file format sound.first count kept each, long)))

pub fits_in : (file : List ℕ) (format : SampleFormat) (sound : ChunkHead) (kept : List ChunkHead) (count rest : ℕ) → StandsBy (length file) sound
    → All (StandsBy (length file)) kept
    → count ≡ format.channels * (sound.len / (format.channels * byte_len format.width))
    → rest ≡ total_size kept → 36 + 2 * count + rest < 2 ^ 32
    → wave_with format (chunk_at file sound).body (chunks_at file kept) ≡ Some (laid_out format sound.first count rest kept file)
fits_in file format sound kept count rest stands each counted all small =
    let s = sound_from format.width sound.first count file in
    let k = chunks_bytes (chunks_at file kept) in
    with_sound format (chunk_at file sound).body s (chunks_at file kept) (sound_is file format sound count stands counted)
    ∙ ap (λ b. riff_if b (riff_data format s (chunks_at file kept))) (lt-ltb (length (riff_data format s (chunks_at file kept))) (2 ^ 32)
    (omega (arith, size_is file format sound.first count kept each, all, small)))
    ∙ ap Some (riff_is format s (chunks_at file kept) (even_sound format.width sound.first count file) (even_rest file kept each)
    ∙ ap (λ n. wave_head format n (length k) ++ (s ++ k)) (length-sound_from format.width sound.first count file)
    ∙ ap (λ n. wave_head format (2 * count) n ++ (s ++ k)) (length-chunks_at file kept each ∙ sym all))

-- the count by the numbers of the code
pub count_is : (len ch b step n : ℕ) (w : SampleWidth) → n ≡ ch → step ≡ ch * b → b ≡ byte_len w
    → n * (len / step) ≡ ch * (len / (ch * byte_len w))
count_is len ch b step n w many whole bytes = rw (many, whole, bytes) refl

-- the bytes of the samples are in the data
pub samples_within : (len ch b step n : ℕ) (w : SampleWidth) → n ≡ ch → step ≡ ch * b → b ≡ byte_len w
    → byte_len w * (n * (len / step)) ≤ len
samples_within len ch b step n w many whole bytes = rw (count_is len ch b step n w many whole bytes) (whole_frames len ch (byte_len w))

pub length-laid_out : (file : List ℕ) (format : SampleFormat) (first count rest : ℕ) (kept : List ChunkHead)
    → All (StandsBy (length file)) kept → rest ≡ total_size kept
    → length (laid_out format first count rest kept file) ≡ 44 + 2 * count + rest
length-laid_out file format first count rest kept each all =
    length-append (wave_head format (2 * count) rest) (sound_from format.width first count file ++ chunks_bytes (chunks_at file kept))
    ∙ ap (λ n. n + length (sound_from format.width first count file ++ chunks_bytes (chunks_at file kept))) (length-wave_head format (2 *
    count) rest)
    ∙ omega (
      arith,
      length-append (sound_from format.width first count file) (chunks_bytes (chunks_at file kept)),
      length-sound_from format.width first count file,
      length-chunks_at file kept each,
      all,
    )
