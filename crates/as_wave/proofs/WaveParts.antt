-- What stands in a WAVE file of 16-bit PCM, one part behind the other.
use Rattle.std.proofs.Common.{◌≡◌, ◌+◌, ◌-◌, ◌*◌, ◌%◌, ◌≤◌, ℕ, zero, suc, List, [], ◌∷◌, ◌++◌, length, take, drop, replicate}
use Rattle.std.proofs.Common.{ap, ◌∙◌, sym, refl, arith, All, codes}
use Rattle.std.specs.Int.{w32, to_le_bytes}
use Rattle.std.proofs.lemmas.List.{length-append, length-replicate, append-nil, length-take, length-drop, get_or-take, drop-take}
use Rattle.std.proofs.lemmas.List.Sums.{sum_by-cons}
use Rattle.std.proofs.lemmas.List.Elements.{All-head, All-tail}
use Rattle.wave_pcm.specs.Chunks.{Chunk, padded}
use Rattle.song_files.proofs.Ranges.{range_is}
use Rattle.wave_pcm.specs.ChunkHead.{chunk_at}
use Rattle.as_wave.specs.ChunkHead.{chunks_at, StandsBy, chunk_size, total_size}
use Rattle.as_wave.specs.Format.{byte_len}
use Rattle.as_wave.specs.Samples.{sample_at, samples_of}
use Rattle.as_wave.specs.StandsFor.{chunk_bytes, chunks_bytes, format_bytes, riff_data}
use Rattle.as_wave.specs.Plan.{wave_head}
use Rattle.wave_pcm.specs.declared.chunks.ChunkHead.{ChunkHead}
use Rattle.as_wave.specs.declared.format.SampleFormat.{SampleFormat}
use Rattle.as_wave.specs.declared.format.SampleWidth.{SampleWidth}
use Rattle.as_wave.specs.declared.format.SampleWidth.TheVariants.{Bits8, Bits16, Bits24, Bits32}

pub length-chunk_bytes : (id body : List ℕ) → length id ≡ 4 → length (chunk_bytes id body) ≡ 8 + padded (length body)
length-chunk_bytes id body four =
    simp (length-append, length-replicate) (omega arith)

-- the data of a chunk that a head tells of
pub length-body : (file : List ℕ) (head : ChunkHead) → StandsBy (length file) head → length (chunk_at file head).body ≡ head.len
length-body file head stands = rw range_is (omega (
  arith,
  length-take head.len (drop head.first file),
  length-drop head.first
      file,
  stands.within,
))

pub length-chunk_at : (file : List ℕ) (head : ChunkHead) → StandsBy (length file) head
    → length (chunk_bytes (chunk_at file head).id (chunk_at file head).body) ≡ chunk_size head
length-chunk_at file head stands = length-chunk_bytes head.id (chunk_at file head).body stands.id
    ∙ ap (λ n. 8 + padded n) (length-body file head stands)

pub length-chunks_at : (file : List ℕ) (heads : List ChunkHead) → All (StandsBy (length file)) heads
    → length (chunks_bytes (chunks_at file heads)) ≡ total_size heads
length-chunks_at file [] each = refl
length-chunks_at file (head ∷ heads) each =
    length-append (chunk_bytes (chunk_at file head).id (chunk_at file head).body) (chunks_bytes (chunks_at file heads))
    ∙ ap (λ n. n + length (chunks_bytes (chunks_at file heads))) (length-chunk_at file head (All-head (StandsBy (length file)) head heads each))
    ∙ ap (λ n. chunk_size head + n) (length-chunks_at file heads (All-tail (StandsBy (length file)) head heads each))
    ∙ sym (sum_by-cons chunk_size head heads)

padded-even : (n : ℕ) → padded n % 2 ≡ 0
padded-even n = omega arith

pub total_size-even : (heads : List ChunkHead) → total_size heads % 2 ≡ 0
total_size-even [] = refl
total_size-even (head ∷ heads) = rw (sum_by-cons chunk_size head heads) (omega (arith, total_size-even heads, padded-even head.len))

sample_at-take : (w : SampleWidth) (len : ℕ) (xs : List ℕ) → byte_len w ≤ len → sample_at w (take len xs) ≡ sample_at w xs
sample_at-take Bits8 len xs room = let a = get_or-take len xs 0 0 (omega arith) in cc
sample_at-take Bits16 len xs room =
    let a = get_or-take len xs 0 0 (omega arith) in let b = get_or-take len xs 1 0 (omega arith) in cc
sample_at-take Bits24 len xs room =
    let a = get_or-take len xs 0 0 (omega arith) in let b = get_or-take len xs 1 0 (omega arith) in
    let d = get_or-take len xs 2 0 (omega arith) in cc
sample_at-take Bits32 len xs room =
    let a = get_or-take len xs 0 0 (omega arith) in let b = get_or-take len xs 1 0 (omega arith) in
    let d = get_or-take len xs 2 0 (omega arith) in let e = get_or-take len xs 3 0 (omega arith) in cc

-- the bytes of the samples alone count
pub samples_of-take : (w : SampleWidth) (n len : ℕ) (xs : List ℕ) → byte_len w * n ≤ len
    → samples_of w n (take len xs) ≡ samples_of w n xs
samples_of-take w zero len xs room = refl
samples_of-take w (suc n) len xs room =
    let l = byte_len w in
    let e : l * suc n ≡ l + l * n = omega arith in
    let m : len ≡ l + (len - l) = omega arith in
    ap (λ z. z ∷ samples_of w n (drop l (take len xs))) (sample_at-take w len xs (omega arith))
    ∙ ap (λ k. sample_at w xs ∷ samples_of w n (drop l (take k xs))) m
    ∙ ap (λ ys. sample_at w xs ∷ samples_of w n ys) (drop-take l (len - l) xs)
    ∙ ap (λ zs. sample_at w xs ∷ zs) (samples_of-take w n (len - l) (drop l xs) (omega arith))

-- what stands in front of the samples in the data of the RIFF file
riff_front : SampleFormat → ℕ → List ℕ
riff_front format n =
    codes "WAVE" ++ codes "fmt " ++ to_le_bytes w32 16 ++ format_bytes format ++ codes "data" ++ to_le_bytes w32 n

riff_data_is : (format : SampleFormat) (sound : List ℕ) (further : List Chunk) → length sound % 2 ≡ 0
    → riff_data format sound further ≡ riff_front format (length sound) ++ (sound ++ chunks_bytes further)
unfolding riff_data riff_front
riff_data_is format sound further even =
    ap (λ n. riff_front format (length sound) ++ ((sound ++ replicate n 0) ++ chunks_bytes further)) even
    ∙ ap (λ xs. riff_front format (length sound) ++ (xs ++ chunks_bytes further)) (append-nil sound)

length-riff_front : (format : SampleFormat) (n : ℕ) → length (riff_front format n) ≡ 36
unfolding riff_front
length-riff_front format n = refl

pub length-riff_data : (format : SampleFormat) (sound : List ℕ) (further : List Chunk) → length sound % 2 ≡ 0
    → length (riff_data format sound further) ≡ 36 + length sound + length (chunks_bytes further)
length-riff_data format sound further even =
    ap length (riff_data_is format sound further even)
    ∙ length-append (riff_front format (length sound)) (sound ++ chunks_bytes further)
    ∙ ap (λ n. n + length (sound ++ chunks_bytes further)) (length-riff_front format (length sound))
    ∙ omega (arith, length-append sound (chunks_bytes further))

head_is : (format : SampleFormat) (n rest : ℕ) (xs : List ℕ)
    → codes "RIFF" ++ to_le_bytes w32 (36 + n + rest) ++ (riff_front format n ++ xs) ≡ wave_head format n rest ++ xs
unfolding riff_front wave_head
head_is format n rest xs = refl

-- the file, by its head
pub riff_is : (format : SampleFormat) (sound : List ℕ) (further : List Chunk) → length sound % 2 ≡ 0
    → length (chunks_bytes further) % 2 ≡ 0
    → chunk_bytes (codes "RIFF") (riff_data format sound further)
    ≡ wave_head format (length sound) (length (chunks_bytes further)) ++ (sound ++ chunks_bytes further)
riff_is format sound further even even' =
    let x = riff_data format sound further in
    let long = length-riff_data format sound further even in
    let none : length x % 2 ≡ 0 = omega (arith, long, even, even') in
    ap (λ n. codes "RIFF" ++ to_le_bytes w32 (length x) ++ x ++ replicate n 0) none
    ∙ append-nil (codes "RIFF" ++ to_le_bytes w32 (length x) ++ x)
    ∙ ap (λ n. codes "RIFF" ++ to_le_bytes w32 n ++ x) long
    ∙ ap (λ ys. codes "RIFF" ++ to_le_bytes w32 (36 + length sound + length (chunks_bytes further)) ++ ys) (riff_data_is format sound further even)
    ∙ head_is format (length sound) (length (chunks_bytes further)) (sound ++ chunks_bytes further)
