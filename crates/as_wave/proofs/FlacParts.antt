-- The parts of the WAVE file that a FLAC file stands for.
use Rattle.std.proofs.Common.{◌≡◌, ◌+◌, ◌-◌, ◌*◌, ◌%◌, ◌≤◌, ◌<◌, ℕ, zero, suc, List, [], ◌∷◌, ◌++◌, length, take, drop, replicate}
use Rattle.std.proofs.Common.{ap, ◌∙◌, sym, refl, arith, append_assoc, slice_range, codes, ℤ, Ok, Err, IfOk, Some, None}
use Rattle.std.specs.Prelude.{Result}
use Rattle.std.specs.Int.{w32, to_le_bytes}
use Rattle.std.proofs.lemmas.List.{length-append, length-replicate, length-take-le, length-drop, append-nil, drop_at, drop-drop, drop-take, take-take}
use Rattle.std.proofs.lemmas.List.{take-append-le, drop-append-le}
use Rattle.song_files.proofs.Ranges.{range_is}
use Rattle.as_wave.specs.FlacLayout.{flac_laid_out}
use Rattle.as_wave.specs.FlacSamples.{at_bits, from_bits}
use Rattle.as_wave.specs.FlacTail.{tag_at, tail_len, tail_bytes}
use Rattle.as_wave.specs.FlacWave.{tag_chunks}
use Rattle.as_wave.specs.Plan.{wave_head}
use Rattle.as_wave.specs.Samples.{bytes_of}
use Rattle.as_wave.specs.StandsFor.{chunk_bytes, chunks_bytes}
use Rattle.as_wave.specs.declared.flac_layout.FlacLayout.{FlacLayout}
use Rattle.as_wave.specs.declared.flac_tag.FlacTag.{FlacTag}
use Rattle.as_wave.specs.declared.flac_tail.FlacTail.{FlacTail}
use Rattle.as_wave.proofs.FlacSounds.{length-padded}
use Rattle.as_wave.proofs.PieceReads.{slice_mid}
use Rattle.as_wave.proofs.PlanParts.{length-wave_head}
use Rattle.as_wave.proofs.SampleList.{length-bytes_of}
use Rattle.as_wave.proofs.WaveParts.{length-chunk_bytes}

-- ranges of the first and of the last of some parts
pub slice_first : (a b : List ℕ) (i n : ℕ) → i + n ≤ length a → slice_range (a ++ b) i (i + n) ≡ slice_range a i (i + n)
slice_first a b i n room =
    range_is (a ++ b) i n ∙ ap (take n) (drop-append-le i a b (omega arith))
    ∙ take-append-le n (drop i a) b (omega (arith, length-drop i a)) ∙ sym (range_is a i n)

pub slice_second : (a b : List ℕ) (l i n : ℕ) → length a ≡ l → slice_range (a ++ b) (l + i) (l + i + n) ≡ slice_range b i (i + n)
slice_second a b l i n long =
    range_is (a ++ b) (l + i) n ∙ ap (take n) (sym (drop-drop i l (a ++ b)))
    ∙ ap (λ ys. take n (drop i ys)) (drop_at a b l long) ∙ sym (range_is b i n)

-- a range of a range
pub range_in : (file : List ℕ) (first len i n : ℕ) → i + n ≤ len
    → slice_range (slice_range file first (first + len)) i (i + n) ≡ slice_range file (first + i) (first + i + n)
range_in file first len i n room =
    let m : len ≡ i + (len - i) = omega arith in
    range_is (slice_range file first (first + len)) i n
    ∙ ap (λ xs. take n (drop i xs)) (range_is file first len ∙ ap (λ k. take k (drop first file)) m)
    ∙ ap (take n) (drop-take i (len - i) (drop first file) ∙ ap (take (len - i)) (drop-drop i first file))
    ∙ take-take n (len - i) (drop (first + i) file) (omega arith)
    ∙ sym (range_is file (first + i) n)

pub length_of_range : (file : List ℕ) (first len : ℕ) → first + len ≤ length file → length (slice_range file first (first + len)) ≡ len
length_of_range file first len within = ap length (range_is file first len)
    ∙ length-take-le len (drop first file) (omega (arith, length-drop first file))

pub length-tail : (tail : FlacTail) (file : List ℕ) → tail.picture + tail.picture_len ≤ length file
    → length (tail_bytes tail file) ≡ tail_len tail
length-tail tail file within =
    let p = slice_range file tail.picture (tail.picture + tail.picture_len) in
    let pad : List ℕ = replicate tail.pad 0 in
    omega (
      arith,
      length-append tail.front.items (p ++ pad),
      length-append p pad,
      length-replicate {A = ℕ} tail.pad 0,
      length_of_range file tail.picture tail.picture_len within,
    )

-- what is read of the tail
pub front_read : (tail : FlacTail) (file out : List ℕ) (at n : ℕ) → at + n ≤ length tail.front.items
    → take n out ≡ slice_range tail.front.items at (at + n) → take n out ≡ slice_range (tail_bytes tail file) at (at + n)
front_read tail file out at n room read =
    read ∙ sym (slice_first tail.front.items (slice_range file tail.picture (tail.picture + tail.picture_len) ++ replicate tail.pad 0) at n room)

pub picture_read : (tail : FlacTail) (file out : List ℕ) (at inside n : ℕ) → tail.picture + tail.picture_len ≤ length file
    → inside + n ≤ tail.picture_len → at ≡ length tail.front.items + inside
    → take n out ≡ slice_range file (tail.picture + inside) (tail.picture + inside + n)
    → take n out ≡ slice_range (tail_bytes tail file) at (at + n)
picture_read tail file out at inside n within room here read =
    let p = slice_range file tail.picture (tail.picture + tail.picture_len) in
    let long = length_of_range file tail.picture tail.picture_len within in
    read ∙ sym (range_in file tail.picture tail.picture_len inside n room)
    ∙ sym (slice_mid tail.front.items p (replicate tail.pad 0) inside n (omega (arith, long)))
    ∙ ap (λ k. slice_range (tail_bytes tail file) k (k + n)) (sym here)

pub pad_read : (tail : FlacTail) (file out pad : List ℕ) (at inside n : ℕ) → tail.picture + tail.picture_len ≤ length file
    → at ≡ length tail.front.items + (tail.picture_len + inside) → pad ≡ replicate tail.pad 0
    → take n out ≡ slice_range pad inside (inside + n)
    → take n out ≡ slice_range (tail_bytes tail file) at (at + n)
pad_read tail file out pad at inside n within here same read =
    let p = slice_range file tail.picture (tail.picture + tail.picture_len) in
    let z = replicate tail.pad 0 in
    read ∙ ap (λ xs. slice_range xs inside (inside + n)) same
    ∙ sym (slice_second p z tail.picture_len inside n (length_of_range file tail.picture tail.picture_len within))
    ∙ sym (slice_second tail.front.items (p ++ z) (length tail.front.items) (tail.picture_len + inside) n refl)
    ∙ ap (λ k. slice_range (tail_bytes tail file) k (k + n)) (sym here)

-- a pad of a byte or none
pub pad_is : (n : ℕ) → n ≤ 1 → take {A = ℕ} n (0 ∷ []) ≡ replicate n 0
pad_is zero few = refl
pad_is (suc zero) few = refl
pad_is (suc (suc n)) few = absurd (omega arith)

-- the chunk of a tag
pub tail_is : (tag : FlacTag) (file : List ℕ) (len pad : ℕ) (front : List ℕ) → tag.picture + tag.picture_len ≤ length file
    → len ≡ length tag.front.items + tag.picture_len → pad ≡ len % 2
    → front ≡ codes "id3 " ++ to_le_bytes w32 len ++ tag.front.items
    → front ++ (slice_range file tag.picture (tag.picture + tag.picture_len) ++ replicate pad 0)
    ≡ chunks_bytes (tag_chunks (Some (tag_at file tag)))
tail_is tag file len pad front within size padded made =
    let t = tag.front.items in
    let p = slice_range file tag.picture (tag.picture + tag.picture_len) in
    let long : length (t ++ p) ≡ len = omega (arith, length-append t p, length_of_range file tag.picture tag.picture_len within) in
    let x = codes "id3 " ++ to_le_bytes w32 len in
    let z = replicate (len % 2) 0 in
    sym (append-nil (chunk_bytes (codes "id3 ") (t ++ p))
    ∙ ap (λ k. codes "id3 " ++ to_le_bytes w32 k ++ (t ++ p) ++ replicate (k % 2) 0) long
    ∙ append_assoc x (t ++ p) z ∙ ap (λ ys. x ++ ys) (append_assoc t p z) ∙ sym (append_assoc x t (p ++ z))
    ∙ ap (λ ys. ys ++ (p ++ z)) (sym made) ∙ ap (λ k. front ++ (p ++ replicate k 0)) (sym padded))

pub even_tag : (body : List ℕ) → length (chunks_bytes (tag_chunks (Some body))) % 2 ≡ 0
even_tag body = ap (λ xs. length xs % 2) (append-nil (chunk_bytes (codes "id3 ") body))
    ∙ omega (arith, length-chunk_bytes (codes "id3 ") body refl)

-- the sound of a layout
pub length-sound : (layout : FlacLayout) (samples : List ℤ) → length (bytes_of (at_bits layout.bits layout.count samples)) ≡ 2 * layout.count
length-sound layout samples = length-bytes_of (at_bits layout.bits layout.count samples)
    ∙ ap (λ n. 2 * n) (length-padded layout.count _)

pub head_read : (layout : FlacLayout) (samples : List ℤ) (file out : List ℕ) (at n : ℕ) → at + n ≤ 44
    → take n out ≡ slice_range (wave_head layout.format (2 * layout.count) (tail_len layout.tail)) at (at + n)
    → take n out ≡ slice_range (flac_laid_out layout samples file) at (at + n)
head_read layout samples file out at n room read =
    read ∙ sym (slice_first (wave_head layout.format (2 * layout.count) (tail_len layout.tail)) _ at n (omega (
      arith,
      length-wave_head layout.format (2 * layout.count) (tail_len layout.tail),
    )))

pub sound_read : (layout : FlacLayout) (samples : List ℤ) (file out : List ℕ) (at place n : ℕ) → at ≡ 44 + place
    → place + n ≤ 2 * layout.count
    → take n out ≡ slice_range (bytes_of (at_bits layout.bits layout.count samples)) place (place + n)
    → take n out ≡ slice_range (flac_laid_out layout samples file) at (at + n)
sound_read layout samples file out at place n here room read =
    let h = wave_head layout.format (2 * layout.count) (tail_len layout.tail) in
    let s = bytes_of (at_bits layout.bits layout.count samples) in
    read ∙ sym (slice_mid h s (tail_bytes layout.tail file) place n (omega (arith, length-sound layout samples)))
    ∙ ap (λ l. slice_range (flac_laid_out layout samples file) (l + place) (l + place + n)) (length-wave_head layout.format (2 *
    layout.count) (tail_len layout.tail))
    ∙ ap (λ k. slice_range (flac_laid_out layout samples file) k (k + n)) (sym here)

pub tail_read : (layout : FlacLayout) (samples : List ℤ) (file out : List ℕ) (at inside n : ℕ) → at ≡ 44 + (2 * layout.count + inside)
    → take n out ≡ slice_range (tail_bytes layout.tail file) inside (inside + n)
    → take n out ≡ slice_range (flac_laid_out layout samples file) at (at + n)
tail_read layout samples file out at inside n here read =
    let h = wave_head layout.format (2 * layout.count) (tail_len layout.tail) in
    let s = bytes_of (at_bits layout.bits layout.count samples) in
    let t = tail_bytes layout.tail file in
    read ∙ sym (slice_second s t (2 * layout.count) inside n (length-sound layout samples))
    ∙ sym (slice_second h (s ++ t) 44 (2 * layout.count + inside) n (length-wave_head layout.format (2 * layout.count) (tail_len
    layout.tail)))
    ∙ ap (λ k. slice_range (flac_laid_out layout samples file) k (k + n)) (sym here)

pub length-laid_out : (layout : FlacLayout) (samples : List ℤ) (file : List ℕ)
    → layout.tail.picture + layout.tail.picture_len ≤ length file
    → length (flac_laid_out layout samples file) ≡ 44 + 2 * layout.count + tail_len layout.tail
length-laid_out layout samples file within =
    let h = wave_head layout.format (2 * layout.count) (tail_len layout.tail) in
    let s = bytes_of (at_bits layout.bits layout.count samples) in
    let t = tail_bytes layout.tail file in
    omega (
      arith,
      length-append h (s ++ t),
      length-append s t,
      length-wave_head layout.format (2 * layout.count) (tail_len layout.tail),
      length-sound layout samples,
      length-tail layout.tail file within,
    )

-- the same of results
pub picture_read_of : {E : Type 0} (r : Result ℕ E) (tail : FlacTail) (file out : List ℕ) (at inside most : ℕ)
    → tail.picture + tail.picture_len ≤ length file → at ≡ length tail.front.items + inside
    → IfOk r (λ n. (n ≤ most) × (inside + n ≤ tail.picture_len))
    → IfOk r (λ n. take n out ≡ slice_range file (tail.picture + inside) (tail.picture + inside + n))
    → IfOk r (λ n. take n out ≡ slice_range (tail_bytes tail file) at (at + n))
picture_read_of (Err e) tail file out at inside most within here few read = tt
picture_read_of (Ok n) tail file out at inside most within here few read = picture_read tail file out at inside n within few.1 here read

pub sound_read_of : {E : Type 0} (r : Result ℕ E) (layout : FlacLayout) (samples : List ℤ) (file out : List ℕ) (at place count : ℕ)
    → at ≡ 44 + place → layout.count ≡ count
    → IfOk r (λ n. (place + n ≤ 2 * count) × (take n out ≡ slice_range (bytes_of (at_bits layout.bits count samples)) place (place + n)))
    → IfOk r (λ n. take n out ≡ slice_range (flac_laid_out layout samples file) at (at + n))
sound_read_of (Err e) layout samples file out at place count here counted read = tt
sound_read_of (Ok n) layout samples file out at place count here counted read =
    sound_read layout samples file out at place n here (omega (arith, read.0)) (read.1
    ∙ ap (λ k. slice_range (bytes_of (at_bits layout.bits k samples)) place (place + n)) (sym counted))
