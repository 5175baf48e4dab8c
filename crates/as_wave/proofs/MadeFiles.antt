-- The WAVE file that a file stands for, by its parts.
use Rattle.std.proofs.Common.{◌≡◌, ◌+◌, ◌*◌, ◌/◌, ◌%◌, ◌≤◌, ◌<◌, ◌^◌, ℕ, zero, suc, List, [], ◌∷◌, ◌++◌, length, take}
use Rattle.std.proofs.Common.{refl, ap, ◌∙◌, sym, arith, Some, None, Bool, true, false, codes, All, slice_range, ℤ, w16}
use Rattle.std.specs.Prelude.{Option, option_and_then, nat_lt, nat_le, ◌&&◌, if◌then◌else◌, FitsSigned}
use Rattle.std.specs.Int.{from_le_bytes, cast_signed, cast_unsigned}
use Rattle.std.proofs.lemmas.Int.{ints, to_z-of_z}
use Rattle.std.proofs.lemmas.Bool.Decides.{nat_tests}
use Rattle.std.proofs.lemmas.List.{length-append, length-take-le}
use Rattle.std.proofs.lemmas.List.Elements.{All-head, All-tail, All-cons, All-nil, All-filter}
use Rattle.wave_pcm.specs.Chunks.{Chunk, chunk_of, chunks_after, size_in, padded}
use Rattle.wave_pcm.specs.Pcm.{samples_in}
use Rattle.wave_pcm.specs.Reading.{MAX_CHUNKS, is_wave}
use Rattle.as_wave.specs.Plan.{wave_head}
use Rattle.as_wave.specs.Samples.{bytes_of, sound_in}
use Rattle.as_wave.specs.StandsFor.{chunk_bytes, chunks_bytes, riff_data, wave_with, wave_by, format_in, data_in, kept_in, is_kept_id, MAX_KEPT, file_chunks, converted}
use Rattle.as_wave.specs.declared.format.SampleFormat.{SampleFormat}
use Rattle.as_wave.proofs.SampleList.{length-bytes_of, two_bytes}
use Rattle.as_wave.proofs.WaveParts.{length-chunk_bytes, riff_is}

some_if : {A : Type 0} (b : Bool) (o : Option A) (x : A) → (if b then o else None) ≡ Some x → o ≡ Some x
some_if true o x same = same
some_if false o x same = absurd (cc)

riff_if : (b : Bool) (bytes x : List ℕ) → (if b then Some bytes else None) ≡ Some x → (b ≡ true) × (x ≡ bytes)
riff_if true bytes x same = (refl, cc)
riff_if false bytes x same = absurd (cc)

by_chunks : (cs : List Chunk) (wave : List ℕ) (format : SampleFormat) (sound : Chunk) → wave_by cs ≡ Some wave
    → format_in cs ≡ Some format → data_in cs ≡ Some sound → wave_with format sound.body (kept_in cs) ≡ Some wave
unfolding wave_by
by_chunks cs wave format sound made f d =
    let inner = some_if (nat_le (length cs) MAX_CHUNKS && nat_le (length (kept_in cs)) MAX_KEPT) (option_and_then (λ x.
    option_and_then (λ (c : Chunk). wave_with x c.body (kept_in cs)) (data_in cs)) (format_in cs)) wave made in
    sym (ap (λ o. option_and_then (λ x. option_and_then (λ (c : Chunk). wave_with x c.body (kept_in cs)) (data_in cs)) o) f
    ∙ ap (λ o. option_and_then (λ (c : Chunk). wave_with format c.body (kept_in cs)) o) d) ∙ inner

with_size : (format : SampleFormat) (body wave : List ℕ) (kept : List Chunk) → wave_with format body kept ≡ Some wave
    → (nat_lt (length (riff_data format (bytes_of (sound_in format body)) kept)) (2 ^ 32) ≡ true)
    × (wave ≡ chunk_bytes (codes "RIFF") (riff_data format (bytes_of (sound_in format body)) kept))
unfolding wave_with
with_size format body wave kept made =
    riff_if (nat_lt (length (riff_data format (bytes_of (sound_in format body)) kept)) (2 ^ 32)) (chunk_bytes (codes "RIFF") (riff_data
    format (bytes_of (sound_in format body)) kept)) wave made

pub all_if : {X : Type 0} (P : X → Type 0) (b : Bool) (xs : List X) → (b ≡ false → All P xs) → All P (if b then [] else xs)
all_if P true xs rest = All-nil P
all_if P false xs rest = rest refl

four_of : (b : ℕ) (bytes : List ℕ) → nat_lt (length bytes) 7 ≡ false → length (take 4 (b ∷ bytes)) ≡ 4
four_of b bytes no' = let long : 7 ≤ length bytes = grind (arith, nat_tests) in length-take-le 4 (b ∷ bytes) (omega arith)

-- ids have four bytes
chunk_ids : (skip at : ℕ) (bytes : List ℕ) → All (λ (c : Chunk). length c.id ≡ 4) (chunks_after skip at bytes)
unfolding chunks_after
chunk_ids skip at [] = All-nil (λ (c : Chunk). length c.id ≡ 4)
chunk_ids (suc skip) at (b ∷ bytes) = chunk_ids skip (at + 1) bytes
chunk_ids zero at (b ∷ bytes) = all_if (λ (c : Chunk). length c.id ≡ 4) (nat_lt (length bytes) 7) (chunk_of at (b ∷ bytes) ∷ chunks_after
    (7 + padded (size_in (b ∷ bytes))) (at + 1) bytes) (λ no'. All-cons (λ (c : Chunk). length c.id ≡ 4) (chunk_of at (b ∷ bytes))
    (chunks_after (7 + padded (size_in (b ∷ bytes))) (at + 1) bytes) (four_of b bytes no') (chunk_ids (7 + padded (size_in (b ∷ bytes)))
    (at + 1) bytes))

-- they take an even number of bytes
pub even_chunks : (cs : List Chunk) → All (λ (c : Chunk). length c.id ≡ 4) cs → length (chunks_bytes cs) % 2 ≡ 0
even_chunks [] ids = refl
even_chunks (c ∷ cs) ids = omega (
  arith,
  length-append (chunk_bytes c.id c.body) (chunks_bytes cs),
  length-chunk_bytes c.id c.body (All-head (λ (c : Chunk). length c.id ≡ 4) c cs ids),
  even_chunks cs (All-tail (λ (c : Chunk). length c.id ≡ 4) c cs ids),
)

pub kept_ids : (file : List ℕ) → All (λ (c : Chunk). length c.id ≡ 4) (kept_in (file_chunks file))
kept_ids file = All-filter (λ (c : Chunk). is_kept_id c.id) (λ (c : Chunk). length c.id ≡ 4) (file_chunks file) (chunk_ids 0 12 (slice_range
    file 12 (length file)))

converted_by : (file wave : List ℕ) → converted file ≡ Some wave → wave_by (file_chunks file) ≡ Some wave
unfolding converted
converted_by file wave made = some_if (is_wave file) (wave_by (file_chunks file)) wave made

even_bytes : (zs : List ℤ) → length (bytes_of zs) % 2 ≡ 0
even_bytes zs = omega (arith, length-bytes_of zs)

-- the file is its head, the samples and the chunks that are kept
pub made_is : (file wave : List ℕ) (format : SampleFormat) (sound : Chunk) → converted file ≡ Some wave
    → format_in (file_chunks file) ≡ Some format → data_in (file_chunks file) ≡ Some sound
    → wave ≡ wave_head format (length (bytes_of (sound_in format sound.body))) (length (chunks_bytes (kept_in (file_chunks file))))
    ++ (bytes_of (sound_in format sound.body) ++ chunks_bytes (kept_in (file_chunks file)))
made_is file wave format sound made f d =
    let cs = file_chunks file in
    (with_size format sound.body wave (kept_in cs) (by_chunks cs wave format sound (converted_by file wave made) f d)).1
    ∙ riff_is format (bytes_of (sound_in format sound.body)) (kept_in cs) (even_bytes (sound_in format sound.body)) (even_chunks (kept_in cs) (kept_ids
    file))

pub made_small : (file wave : List ℕ) (format : SampleFormat) (sound : Chunk) → converted file ≡ Some wave
    → format_in (file_chunks file) ≡ Some format → data_in (file_chunks file) ≡ Some sound
    → length (riff_data format (bytes_of (sound_in format sound.body)) (kept_in (file_chunks file))) < 2 ^ 32
made_small file wave format sound made f d =
    let cs = file_chunks file in
    let small = (with_size format sound.body wave (kept_in cs) (by_chunks cs wave format sound (converted_by file wave made) f d)).0 in
    grind (arith, nat_tests)

-- the sample of bytes that were written
sample_back : (z : ℤ) → FitsSigned w16 z → cast_signed w16 (from_le_bytes w16 (two_bytes z)) ≡ z
sample_back z fits =
    let u : cast_unsigned w16 z < 2 ^ 16 = omega (arith, ints) in
    let e : cast_unsigned w16 z % 256 + cast_unsigned w16 z / 256 % 256 * 256 ≡ cast_unsigned w16 z = omega arith in
    ap (cast_signed w16) e ∙ to_z-of_z w16 z fits

pub samples_back : (zs : List ℤ) → All (FitsSigned w16) zs → samples_in (bytes_of zs) ≡ zs
samples_back [] fits = refl
samples_back (z ∷ zs) fits = ap (λ x. x ∷ samples_in (bytes_of zs)) (sample_back z (All-head (FitsSigned w16) z zs fits))
    ∙ ap (λ xs. z ∷ xs) (samples_back zs (All-tail (FitsSigned w16) z zs fits))
