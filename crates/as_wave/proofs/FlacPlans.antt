-- The layout of a FLAC file is the WAVE file that it stands for.
use Rattle.std.proofs.Common.{◌≡◌, ◌+◌, ◌*◌, ◌%◌, ◌≤◌, ◌<◌, ◌^◌, ℕ, zero, suc, List, ◌++◌, length, ap, ◌∙◌, sym, refl, arith, ℤ, Ok, Err, Some, None, Bool, true, false, codes}
use Rattle.std.specs.Prelude.{Option, Result, IfErr, option_map, nat_lt, nat_le, ◌&&◌, ◌||◌, ◌==◌, if◌then◌else◌}
use Rattle.std.proofs.lemmas.Bool.Decides.{nat_tests}
use Rattle.std.proofs.lemmas.Bool.{lt-ltb, le-ltb}
use Rattle.wave_pcm.specs.Chunks.{Chunk}
use Rattle.flac.specs.FlacError.{IsVerdict}
use Rattle.flac.specs.Reading.{flac_reading}
use Rattle.flac.specs.declared.head.FlacHead.{FlacHead}
use Rattle.flac.specs.Frames.{file_samples}
use Rattle.flac.specs.declared.refusal.FlacError.{FlacError}
use Rattle.wave_pcm.specs.WaveError.{Fails}
use Rattle.wave_pcm.specs.declared.refusal.WaveError.{WaveError}
use Rattle.wave_pcm.specs.declared.refusal.WaveError.TheVariants.{NoMemory, NotWave, NoFormat, Unsupported, NoData, ReadFault, TooManyTurns}
use Rattle.std.proofs.lemmas.Result.{IfErr-weaker}
use Rattle.flac.specs.declared.stream_info.StreamInfo.{StreamInfo}
use Rattle.as_wave.specs.FlacLayout.{flac_laid_out}
use Rattle.as_wave.specs.FlacSamples.{at_bits, from_bits}
use Rattle.as_wave.specs.FlacTail.{tail_len, tail_bytes}
use Rattle.as_wave.specs.FlacTag.{tag_of}
use Rattle.as_wave.specs.FlacWave.{is_told, tag_chunks, flac_format, wave_of_head, wave_of_reading, flac_wave}
use Rattle.as_wave.specs.Plan.{wave_head}
use Rattle.as_wave.specs.Samples.{bytes_of}
use Rattle.as_wave.specs.StandsFor.{chunk_bytes, chunks_bytes, riff_data, riff_file}
use Rattle.as_wave.specs.declared.flac_layout.FlacLayout.{FlacLayout}
use Rattle.as_wave.specs.declared.flac_tail.FlacTail.{FlacTail}
use Rattle.as_wave.specs.declared.format.SampleFormat.{SampleFormat}
use Rattle.as_wave.proofs.FlacParts.{length-tail, even_tag}
use Rattle.as_wave.proofs.FlacSounds.{length-padded}
use Rattle.as_wave.proofs.SampleList.{length-bytes_of}
use Rattle.as_wave.proofs.WaveParts.{length-riff_data, riff_is}

abbrev riff_if : Bool → List ℕ → Option (List ℕ)
riff_if b body = if b then Some (chunk_bytes (codes "RIFF") body) else None

abbrev sound_of : StreamInfo → List ℤ → List ℕ
sound_of info samples = bytes_of (at_bits info.bits (info.channels * info.samples) samples)

length-sound_of : (info : StreamInfo) (samples : List ℤ) → length (sound_of info samples) ≡ 2 * (info.channels * info.samples)
length-sound_of info samples = length-bytes_of (at_bits info.bits (info.channels * info.samples) samples)
    ∙ ap (λ n. 2 * n) (length-padded (info.channels * info.samples) _)

size_is : (info : StreamInfo) (samples : List ℤ) (chunks : List Chunk)
    → length (riff_data (flac_format info) (sound_of info samples) chunks) ≡ 36 + 2 * (info.channels * info.samples) + length (chunks_bytes chunks)
size_is info samples chunks =
    let long = length-sound_of info samples in
    let even : length (sound_of info samples) % 2 ≡ 0 = omega (arith, long) in
    length-riff_data (flac_format info) (sound_of info samples) chunks even ∙ ap (λ n. 36 + n + length (chunks_bytes chunks)) long

-- where a RIFF file has no room
pub too_long : (info : StreamInfo) (samples : List ℤ) (chunks : List Chunk)
    → 2 ^ 32 ≤ 36 + 2 * (info.channels * info.samples) + length (chunks_bytes chunks)
    → riff_file (riff_data (flac_format info) (sound_of info samples) chunks) ≡ None
too_long info samples chunks long =
    let body = riff_data (flac_format info) (sound_of info samples) chunks in
    ap (λ b. riff_if b body) (le-ltb (length body) (2 ^ 32) (omega (arith, long, size_is info samples chunks)))

-- and where it has
pub fits_in : (info : StreamInfo) (format : SampleFormat) (bits count : ℕ) (tail : FlacTail) (samples : List ℤ) (file : List ℕ) (chunks : List Chunk)
    → format ≡ flac_format info → bits ≡ info.bits → count ≡ info.channels * info.samples
    → tail.picture + tail.picture_len ≤ length file → tail_bytes tail file ≡ chunks_bytes chunks
    → length (chunks_bytes chunks) % 2 ≡ 0 → 36 + 2 * count + tail_len tail < 2 ^ 32
    → riff_file (riff_data (flac_format info) (sound_of info samples) chunks)
    ≡ Some (wave_head format (2 * count) (tail_len tail) ++ (bytes_of (at_bits bits count samples) ++ tail_bytes tail file))
fits_in info format bits count tail samples file chunks same width counted within told even small =
    let s = sound_of info samples in
    let k = chunks_bytes chunks in
    let body = riff_data (flac_format info) s chunks in
    let long : length s ≡ 2 * (info.channels * info.samples) = length-sound_of info samples in
    let rest : length k ≡ tail_len tail = ap length (sym told) ∙ length-tail tail file within in
    let even' : length s % 2 ≡ 0 = omega (arith, long) in
    let size : length body ≡ 36 + 2 * count + tail_len tail = size_is info samples chunks
    ∙ ap (λ n. 36 + 2 * n + length k) (sym counted) ∙ ap (λ n. 36 + 2 * count + n) rest in
    ap (λ b. riff_if b body) (lt-ltb (length body) (2 ^ 32) (omega (arith, size, small)))
    ∙ ap Some (riff_is (flac_format info) s chunks even' even
    ∙ ap (λ f. wave_head f (length s) (length k) ++ (s ++ k)) (sym same)
    ∙ ap (λ n. wave_head format n (length k) ++ (s ++ k)) (long ∙ ap (λ n. 2 * n) (sym counted))
    ∙ ap (λ n. wave_head format (2 * count) n ++ (s ++ k)) rest
    ∙ ap (λ n. wave_head format (2 * count) (tail_len tail) ++ (bytes_of (at_bits info.bits n samples) ++ k)) (sym counted)
    ∙ ap (λ n. wave_head format (2 * count) (tail_len tail) ++ (bytes_of (at_bits n count samples) ++ k)) (sym width)
    ∙ ap (λ xs. wave_head format (2 * count) (tail_len tail) ++ (bytes_of (at_bits bits count samples) ++ xs)) (sym told))

flac_wave_is : (file : List ℕ) → flac_wave file ≡ wave_of_reading file (flac_reading file)
unfolding flac_wave
flac_wave_is file = refl

pub by_head : (file : List ℕ) (head : FlacHead) → flac_reading file ≡ Ok head → flac_wave file ≡ wave_of_head file head
by_head file head read = flac_wave_is file ∙ ap (wave_of_reading file) read

pub no_head : (file : List ℕ) (e : FlacError) → flac_reading file ≡ Err e → flac_wave file ≡ None
no_head file e refused = flac_wave_is file ∙ ap (wave_of_reading file) refused

read_format : (channels rate bits samples : ℕ)
    → ((channels == 1 || channels == 2) && nat_le 1 rate && nat_le rate 192000 && nat_le bits 32 && nat_lt 0 samples) ≡ true
    → (1 ≤ rate) × (rate ≤ 192000) × (1 ≤ channels) × (channels ≤ 2) × (bits ≤ 32) × (0 < samples)
read_format channels rate bits samples yes' = (
  grind (arith, nat_tests),
  grind (arith, nat_tests),
  grind (arith, nat_tests),
  grind (arith, nat_tests),
  grind (arith, nat_tests),
  grind (arith, nat_tests),
)

-- what STREAMINFO may tell
pub record IsTold (info : StreamInfo) : Type 0 where
  pub some_rate : 1 ≤ info.rate
  pub rate_within : info.rate ≤ 192000
  pub some_channels : 1 ≤ info.channels
  pub channels_within : info.channels ≤ 2
  pub bits : info.bits ≤ 32
  pub some_samples : 0 < info.samples

pub told_limits : (info : StreamInfo) → is_told info ≡ true → IsTold info
told_limits info yes' =
    let l = read_format info.channels info.rate info.bits info.samples yes' in
    record { some_rate = l.0; rate_within = l.1; some_channels = l.2; channels_within = l.3; bits = l.4; some_samples = l.5 }

pub at_least : (c n : ℕ) → 1 ≤ c → n ≤ c * n
at_least zero n some = absurd (omega arith)
at_least (suc c) n some = omega arith

pub at_most_twice : (c n : ℕ) → c ≤ 2 → c * n ≤ 2 * n
at_most_twice zero n few = omega arith
at_most_twice (suc zero) n few = omega arith
at_most_twice (suc (suc zero)) n few = omega arith
at_most_twice (suc (suc (suc c))) n few = absurd (omega arith)

-- the WAVE file by the layout and the reader's samples
pub form_made : (file : List ℕ) (head : FlacHead) (layout : FlacLayout) (samples : List ℤ) → is_told head.info ≡ true
    → riff_file (riff_data (flac_format head.info) (sound_of head.info (file_samples file head)) (tag_chunks (tag_of file head)))
    ≡ Some (flac_laid_out layout (file_samples file head) file) → samples ≡ file_samples file head
    → wave_of_head file head ≡ Some (flac_laid_out layout samples file)
form_made file head layout samples yes' made same =
    ap (λ b. if b then riff_file (riff_data (flac_format head.info) (sound_of head.info (file_samples file head)) (tag_chunks (tag_of file head)))
    else None) yes'
    ∙ made ∙ ap (λ xs. Some (flac_laid_out layout xs file)) (sym same)

pub no_form : (file : List ℕ) (head : FlacHead)
    → riff_file (riff_data (flac_format head.info) (sound_of head.info (file_samples file head)) (tag_chunks (tag_of file head))) ≡ None
    → wave_of_head file head ≡ None
no_form file head none = either (is_told head.info) none
  where
    either : (b : Bool)
        → riff_file (riff_data (flac_format head.info) (sound_of head.info (file_samples file head)) (tag_chunks (tag_of file head))) ≡ None
        → (if b then riff_file (riff_data (flac_format head.info) (sound_of head.info (file_samples file head)) (tag_chunks (tag_of file
        head))) else None) ≡ None
    either true n = n
    either false n = refl

pub not_told : (file : List ℕ) (head : FlacHead) → is_told head.info ≡ false → wave_of_head file head ≡ None
not_told file head no' =
    ap (λ b. if b then riff_file (riff_data (flac_format head.info) (sound_of head.info (file_samples file head)) (tag_chunks (tag_of file head)))
    else None) no'

pub even_tags : (tag : Option (List ℕ)) → length (chunks_bytes (tag_chunks tag)) % 2 ≡ 0
even_tags None = refl
even_tags (Some body) = even_tag body

-- want of memory or a fault that is handed on
pub fails_by : {A : Type 0} (r : Result A WaveError) (fault more : Type 0) → (fault → more) → IfErr r (Fails fault) → IfErr r (Fails more)
fails_by r fault more up h = IfErr-weaker r (Fails fault) (Fails more) (fails_one fault more up) h
  where
    fails_one : (fault more : Type 0) → (fault → more) → (e : WaveError) → Fails fault e → Fails more e
    fails_one fault more up NoMemory h = tt
    fails_one fault more up ReadFault h = up h
    fails_one fault more up NotWave h = absurd h
    fails_one fault more up NoFormat h = absurd h
    fails_one fault more up (Unsupported tag bits channels) h = absurd h
    fails_one fault more up NoData h = absurd h
    fails_one fault more up TooManyTurns h = absurd h
