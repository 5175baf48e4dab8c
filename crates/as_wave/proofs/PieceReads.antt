-- Reads of parts, as ranges of what they are parts of.
use Rattle.std.proofs.Common.{◌≡◌, ◌+◌, ◌-◌, ◌*◌, ◌/◌, ◌%◌, ◌≤◌, ◌<◌, ℕ, zero, suc, min, List, ◌∷◌, ◌++◌, length, take, drop, map, replicate}
use Rattle.std.proofs.Common.{ap, ◌∙◌, sym, refl, arith, append_assoc, slice_range, Ok, Err, IfOk, All, subst, get_or}
use Rattle.std.specs.Prelude.{Result}
use Rattle.std.specs.Int.{w32, to_le_bytes}
use Rattle.std.proofs.lemmas.List.{length-append, drop-drop, drop_at, take-append-le, drop-append-le, length-drop, map-append, drop-take, take-take, drop_more}
use Rattle.std.proofs.Math.Seq.{drop-append-add}
use Rattle.std.proofs.lemmas.List.Concat.{flat_map-append}
use Rattle.song_files.proofs.Ranges.{range_is}
use Rattle.wave_pcm.specs.ChunkHead.{chunk_at}
use Rattle.as_wave.specs.ChunkHead.{chunks_at, StandsBy, chunk_size}
use Rattle.as_wave.specs.Format.{byte_len}
use Rattle.as_wave.specs.Plan.{sound_from}
use Rattle.as_wave.specs.Samples.{sample_at, samples_of, at_16, bytes_of}
use Rattle.as_wave.specs.StandsFor.{chunk_bytes, chunks_bytes}
use Rattle.wave_pcm.specs.declared.chunks.ChunkHead.{ChunkHead}
use Rattle.as_wave.specs.declared.format.SampleWidth.{SampleWidth}
use Rattle.as_wave.proofs.PlanParts.{length-sound_from}
use Rattle.as_wave.proofs.SampleList.{two_bytes}
use Rattle.as_wave.proofs.WaveParts.{samples_of-take, length-body, length-chunk_at}

-- a range of the middle
pub slice_mid : (a b d : List ℕ) (i n : ℕ) → i + n ≤ length b
    → slice_range (a ++ (b ++ d)) (length a + i) (length a + i + n) ≡ slice_range b i (i + n)
slice_mid a b d i n room =
    let e : length a + i ≡ i + length a = omega arith in
    range_is (a ++ (b ++ d)) (length a + i) n
    ∙ ap (take n) (sym (drop-drop i (length a) (a ++ (b ++ d))))
    ∙ ap (λ xs. take n (drop i xs)) (drop_at a (b ++ d) (length a) refl)
    ∙ ap (take n) (drop-append-le i b d (omega arith))
    ∙ take-append-le n (drop i b) d (omega (arith, length-drop i b))
    ∙ sym (range_is b i n)

pub samples_of-add : (w : SampleWidth) (k m : ℕ) (xs : List ℕ)
    → samples_of w (k + m) xs ≡ samples_of w k xs ++ samples_of w m (drop (byte_len w * k) xs)
samples_of-add w zero m xs =
    let e : 0 + m ≡ m = omega arith in let f : byte_len w * 0 ≡ 0 = omega arith in rw (e, f) refl
samples_of-add w (suc k) m xs =
    let e : suc k + m ≡ suc (k + m) = omega arith in
    let f : byte_len w + byte_len w * k ≡ byte_len w * suc k = omega arith in
    rw e (ap (λ zs. sample_at w xs ∷ zs) (samples_of-add w k m (drop (byte_len w) xs)
    ∙ ap (λ ys. samples_of w k (drop (byte_len w) xs) ++ samples_of w m ys) (drop-drop (byte_len w * k) (byte_len w) xs
    ∙ ap (λ i. drop i xs) f)))

sound_from-add : (w : SampleWidth) (first k m : ℕ) (file : List ℕ)
    → sound_from w first (k + m) file ≡ sound_from w first k file ++ sound_from w (first + byte_len w * k) m file
sound_from-add w first k m file =
    ap (λ zs. bytes_of (map (at_16 w) zs)) (samples_of-add w k m (drop first file)
    ∙ ap (λ xs. samples_of w k (drop first file) ++ samples_of w m xs) (drop-drop (byte_len w * k) first file))
    ∙ ap bytes_of (map-append (at_16 w) (samples_of w k (drop first file)) (samples_of w m (drop (first + byte_len w * k) file)))
    ∙ flat_map-append two_bytes (map (at_16 w) (samples_of w k (drop first file))) (map (at_16 w) (samples_of w m (drop (first +
    byte_len w * k) file)))

-- a piece of the samples
sound_part : (w : SampleWidth) (first k p r s n : ℕ) (file : List ℕ) → s + n ≤ 2 * p
    → slice_range (sound_from w (first + byte_len w * k) p file) s (s + n)
    ≡ slice_range (sound_from w first (k + (p + r)) file) (2 * k + s) (2 * k + s + n)
sound_part w first k p r s n file room =
    let a = sound_from w first k file in
    let b = sound_from w (first + byte_len w * k) p file in
    let d = sound_from w (first + byte_len w * k + byte_len w * p) r file in
    let cut : sound_from w first (k + (p + r)) file ≡ a ++ (b ++ d) = sound_from-add w first k (p + r) file
    ∙ ap (λ xs. a ++ xs) (sound_from-add w (first + byte_len w * k) p r file) in
    sym (ap (λ xs. slice_range xs (2 * k + s) (2 * k + s + n)) cut
    ∙ ap (λ l. slice_range (a ++ (b ++ d)) (l + s) (l + s + n)) (sym (length-sound_from w first k file))
    ∙ slice_mid a b d s n (omega (arith, length-sound_from w (first + byte_len w * k) p file)))

pub sound_read : {E : Type 0} (r : Result ℕ E) (w : SampleWidth) (first count at piece len : ℕ) (file buffer : List ℕ)
    → at / 2 + piece ≤ count
    → IfOk r (λ n. n ≡ min (2 * piece - at % 2) len)
    → IfOk r (λ n. take n buffer ≡ slice_range (sound_from w (first + byte_len w * (at / 2)) piece file) (at % 2) (at % 2 + n))
    → at % 2 ≤ 2 * piece
    → IfOk r (λ n. take n buffer ≡ slice_range (sound_from w first count file) at (at + n))
sound_read (Err e) w first count at piece len file buffer few counted read room = tt
sound_read (Ok n) w first count at piece len file buffer few counted read room =
    let k = at / 2 in
    let s = at % 2 in
    let whole : k + (piece + (count - (k + piece))) ≡ count = omega arith in
    let place : 2 * k + s ≡ at = omega arith in
    read ∙ sound_part w first k piece (count - (k + piece)) s n file (omega arith)
    ∙ ap (λ m. slice_range (sound_from w first m file) (2 * k + s) (2 * k + s + n)) whole
    ∙ ap (λ m. slice_range (sound_from w first count file) m (m + n)) place

-- what was converted
pub converted_is : (file raw : List ℕ) (w : SampleWidth) (first count n : ℕ) → n ≡ byte_len w * count
    → raw ≡ slice_range file first (first + n)
    → bytes_of (map (at_16 w) (samples_of w count raw)) ≡ sound_from w first count file
converted_is file raw w first count n long read =
    ap (λ xs. bytes_of (map (at_16 w) (samples_of w count xs))) (read ∙ range_is file first n)
    ∙ ap (λ zs. bytes_of (map (at_16 w) zs)) (samples_of-take w count n (drop first file) (omega arith))

-- a range of the data of a chunk
pub body_part : (file : List ℕ) (head : ChunkHead) (place n : ℕ) → StandsBy (length file) head → place + n ≤ head.len
    → slice_range (chunk_bytes head.id (chunk_at file head).body) (8 + place) (8 + place + n)
    ≡ slice_range file (head.first + place) (head.first + place + n)
body_part file head place n stands room =
    let body = (chunk_at file head).body in
    let front = head.id ++ to_le_bytes w32 (length body) in
    let pad = replicate (length body % 2) 0 in
    let long : length front ≡ 8 = length-append head.id (to_le_bytes w32 (length body)) ∙ ap (λ n. n + 4) stands.id in
    let m : head.len ≡ place + (head.len - place) = omega arith in
    ap (λ xs. slice_range xs (8 + place) (8 + place + n)) (append_assoc front body pad)
    ∙ ap (λ l. slice_range (front ++ (body ++ pad)) (l + place) (l + place + n)) (sym long)
    ∙ slice_mid front body pad place n (omega (arith, length-body file head stands))
    ∙ range_is body place n
    ∙ ap (λ xs. take n (drop place xs)) (range_is file head.first head.len ∙ ap (λ k. take k (drop head.first file)) m)
    ∙ ap (take n) (drop-take place (head.len - place) (drop head.first file) ∙ ap (take (head.len - place)) (drop-drop place
    head.first file))
    ∙ take-take n (head.len - place) (drop (head.first + place) file) (omega arith)
    ∙ sym (range_is file (head.first + place) n)

-- what holds of each holds of the one at a place
All-at_same : {X : Type 0} (P : X → Type 0) (xs : List X) (i : ℕ) (x : X) → i < length xs → x ≡ get_or xs i x → All P xs → P x
All-at_same P xs i x within is each = subst P (sym is) (each i x within)

pub body_read : {E : Type 0} (r : Result ℕ E) (file buffer : List ℕ) (head : ChunkHead) (at most : ℕ) → StandsBy (length file) head
    → 8 ≤ at → IfOk r (λ n. (n ≤ most) × (at - 8 + n ≤ head.len))
    → IfOk r (λ n. take n buffer ≡ slice_range file (head.first + (at - 8)) (head.first + (at - 8) + n))
    → IfOk r (λ n. take n buffer ≡ slice_range (chunk_bytes head.id (chunk_at file head).body) at (at + n))
body_read (Err e) file buffer head at most stands after few read = tt
body_read (Ok n) file buffer head at most stands after few read =
    let e : 8 + (at - 8) ≡ at = omega arith in
    read ∙ sym (body_part file head (at - 8) n stands few.1)
    ∙ ap (λ k. slice_range (chunk_bytes head.id (chunk_at file head).body) k (k + n)) e

-- the bytes of a chunk, and those of the chunks behind it
pub chunks_cons : (file : List ℕ) (heads : List ChunkHead) (i : ℕ) (head : ChunkHead) → i < length heads → head ≡ get_or heads i head
    → chunks_bytes (chunks_at file (drop i heads))
    ≡ chunk_bytes head.id (chunk_at file head).body ++ chunks_bytes (chunks_at file (drop (i + 1) heads))
chunks_cons file heads i head within is =
    ap (λ hs. chunks_bytes (chunks_at file hs)) (drop_more heads i head within ∙ ap (λ (h : ChunkHead). h ∷ drop (i + 1) heads) (sym is))

-- the chunk at the place
pub in_chunk : (file : List ℕ) (heads : List ChunkHead) (i at left : ℕ) (head : ChunkHead) → i < length heads → head ≡ get_or heads i head
    → All (StandsBy (length file)) heads → left < chunk_size head
    → drop at (chunks_bytes (chunks_at file heads)) ≡ drop left (chunks_bytes (chunks_at file (drop i heads)))
    → drop at (chunks_bytes (chunks_at file heads))
    ≡ drop left (chunk_bytes head.id (chunk_at file head).body) ++ chunks_bytes (chunks_at file (drop (i + 1) heads))
in_chunk file heads i at left head within is each here so_far =
    let stands = All-at_same (StandsBy (length file)) heads i head within is each in
    so_far ∙ ap (drop left) (chunks_cons file heads i head within is)
    ∙ drop-append-le left (chunk_bytes head.id (chunk_at file head).body) (chunks_bytes (chunks_at file (drop (i + 1) heads)))
    (omega (arith, length-chunk_at file head stands))

-- past the chunk
pub past_chunk : (file : List ℕ) (heads : List ChunkHead) (i at left : ℕ) (head : ChunkHead) → i < length heads → head ≡ get_or heads i head
    → All (StandsBy (length file)) heads → chunk_size head ≤ left
    → drop at (chunks_bytes (chunks_at file heads)) ≡ drop left (chunks_bytes (chunks_at file (drop i heads)))
    → drop at (chunks_bytes (chunks_at file heads)) ≡ drop (left - chunk_size head) (chunks_bytes (chunks_at file (drop (i + 1) heads)))
past_chunk file heads i at left head within is each past so_far =
    let stands = All-at_same (StandsBy (length file)) heads i head within is each in
    let text = chunk_bytes head.id (chunk_at file head).body in
    let e : left ≡ length text + (left - chunk_size head) = omega (arith, length-chunk_at file head stands) in
    so_far ∙ ap (drop left) (chunks_cons file heads i head within is)
    ∙ ap (λ k. drop k (text ++ chunks_bytes (chunks_at file (drop (i + 1) heads)))) e
    ∙ drop-append-add text (chunks_bytes (chunks_at file (drop (i + 1) heads))) (left - chunk_size head)
