-- The frames of the WAVE file that a file stands for.
use Rattle.std.proofs.Common.{◌≡◌, ◌+◌, ◌-◌, ◌*◌, ◌<◌, ℕ, zero, suc, List, [], ◌∷◌, ◌++◌, length, take, drop, map}
use Rattle.std.proofs.Common.{ap, ◌∙◌, sym, arith, Some, Bool, true, false, cond, All, slice_range, ℤ, pos, negsuc, w16, subst}
use Rattle.std.specs.Prelude.{Option, nat_lt, FitsSigned, slice_index}
use Rattle.std.specs.List.{find}
use Rattle.std.specs.Int.{saturate_signed}
use Rattle.std.proofs.lemmas.Int.{ints}
use Rattle.std.proofs.lemmas.List.{take_all, length-map}
use Rattle.std.proofs.lemmas.List.Elements.{All-head, All-tail, All-cons, All-nil, All-take, All-drop}
use Rattle.wave_pcm.specs.Chunks.{Chunk, chunk_of, chunks_after, size_in, padded}
use Rattle.wave_pcm.specs.Pcm.{samples_in, frames_from}
use Rattle.song_files.specs.Tags.{TagText}
use Rattle.song_files.proofs.Ranges.{range_is}
use Rattle.as_wave.specs.Format.{byte_len}
use Rattle.as_wave.specs.OwnHead.{IsMade, own_info}
use Rattle.as_wave.specs.Plan.{wave_head}
use Rattle.as_wave.specs.Samples.{sample_at, samples_of, at_16, bytes_of, frames_in, sound_in}
use Rattle.as_wave.specs.StandsFor.{chunks_bytes, is_data_id, kept_in, file_chunks}
use Rattle.as_wave.specs.declared.format.SampleFormat.{SampleFormat}
use Rattle.as_wave.specs.declared.format.SampleWidth.{SampleWidth}
use Rattle.as_wave.specs.declared.format.SampleWidth.TheVariants.{Bits8, Bits16, Bits24, Bits32}
use Rattle.as_wave.proofs.MadeFiles.{made_is, samples_back, all_if}
use Rattle.as_wave.proofs.PieceReads.{slice_mid}
use Rattle.as_wave.proofs.PlanParts.{length-wave_head}
use Rattle.as_wave.proofs.SampleList.{length-samples_of, length-bytes_of}

abbrev IsByte : ℕ → Type 0
IsByte b = b < 256

-- the data of the chunks of bytes is bytes
chunk_bodies : (skip at : ℕ) (bytes : List ℕ) → All IsByte bytes → All (λ (c : Chunk). All IsByte c.body) (chunks_after skip at bytes)
unfolding chunks_after
chunk_bodies skip at [] each = All-nil (λ (c : Chunk). All IsByte c.body)
chunk_bodies (suc skip) at (b ∷ bytes) each = chunk_bodies skip (at + 1) bytes (All-tail IsByte b bytes each)
chunk_bodies zero at (b ∷ bytes) each = all_if (λ (c : Chunk). All IsByte c.body) (nat_lt (length bytes) 7) (chunk_of at (b ∷ bytes)
    ∷ chunks_after (7 + padded (size_in (b ∷ bytes))) (at + 1) bytes) (λ no'. All-cons (λ (c : Chunk). All IsByte c.body) (chunk_of at (b
    ∷ bytes)) (chunks_after (7 + padded (size_in (b ∷ bytes))) (at + 1) bytes) (All-take IsByte (size_in (b ∷ bytes)) (drop 8 (b ∷
    bytes)) (All-drop IsByte 8 (b ∷ bytes) each)) (chunk_bodies (7 + padded (size_in (b ∷ bytes))) (at + 1) bytes (All-tail IsByte b
    bytes each)))

chosen : (P : Chunk → Type 0) (b : Bool) (o : Option Chunk) (d c : Chunk) → cond b (Some d) o ≡ Some c → P d → (o ≡ Some c → P c) → P c
chosen P true o d c same here rest = let e : d ≡ c = cc in subst P e here
chosen P false o d c same here rest = rest same

found_one : (P : Chunk → Type 0) (p : Chunk → Bool) (cs : List Chunk) (c : Chunk) → find p cs ≡ Some c → All P cs → P c
found_one P p [] c found each = absurd (cc)
found_one P p (d ∷ cs) c found each = chosen P (p d) (find p cs) d c found (All-head P d cs each) (λ same. found_one P p cs c same (All-tail P
    d cs each))

byte_in : (body : List ℕ) (i : ℕ) → All IsByte body → slice_index body i < 256
byte_in [] i each = omega arith
byte_in (b ∷ body) zero each = All-head IsByte b body each
byte_in (b ∷ body) (suc i) each = byte_in body i (All-tail IsByte b body each)

saturated : (z : ℤ) → FitsSigned w16 (saturate_signed w16 z)
saturated (pos n) = record { sfits = omega arith }
saturated (negsuc n) = record { sfits = omega arith }

-- each sample is one of 16 bits
sample_fits : (w : SampleWidth) (body : List ℕ) → All IsByte body → FitsSigned w16 (at_16 w (sample_at w body))
sample_fits Bits8 body each = let b : slice_index body 0 < 256 = byte_in body 0 each in grind (arith, ints)
sample_fits Bits16 body each =
    let a : slice_index body 0 < 256 = byte_in body 0 each in
    let b : slice_index body 1 < 256 = byte_in body 1 each in grind (arith, ints)
sample_fits Bits24 body each = saturated _
sample_fits Bits32 body each = saturated _

samples_fit : (w : SampleWidth) (n : ℕ) (body : List ℕ) → All IsByte body → All (FitsSigned w16) (map (at_16 w) (samples_of w n body))
samples_fit w zero body each = All-nil (FitsSigned w16)
samples_fit w (suc n) body each = All-cons (FitsSigned w16) (at_16 w (sample_at w body)) (map (at_16 w) (samples_of w n (drop (byte_len
    w) body))) (sample_fits w body each) (samples_fit w n (drop (byte_len w) body) (All-drop IsByte (byte_len w) body each))

pub length-sound : (format : SampleFormat) (body : List ℕ) → length (bytes_of (sound_in format body)) ≡ 2 * format.channels * frames_in format body
length-sound format body =
    let w = format.width in
    let n = format.channels * frames_in format body in
    length-bytes_of (sound_in format body) ∙ ap (λ k. 2 * k) (length-map (samples_of w n body) (at_16 w) ∙ length-samples_of w n body)
    ∙ omega arith

-- the samples stand behind the head
sound_part : (file wave : List ℕ) (format : SampleFormat) (sound : Chunk) → IsMade file wave format sound
    → slice_range wave 44 (44 + 2 * format.channels * frames_in format sound.body) ≡ bytes_of (sound_in format sound.body)
sound_part file wave format sound made =
    let s = bytes_of (sound_in format sound.body) in
    let k = chunks_bytes (kept_in (file_chunks file)) in
    let h = wave_head format (length s) (length k) in
    let n = 2 * format.channels * frames_in format sound.body in
    let long : length s ≡ n = length-sound format sound.body in
    let front : length h ≡ 44 = length-wave_head format (length s) (length k) in
    ap (λ xs. slice_range xs 44 (44 + n)) (made_is file wave format sound made.made made.by_format made.by_data)
    ∙ ap (λ m. slice_range (h ++ (s ++ k)) m (m + n)) (sym (omega (arith, front)))
    ∙ slice_mid h s k 0 n (omega (arith, long))
    ∙ range_is s 0 n ∙ take_all n s (omega (arith, long))

pub frames_are : (file wave : List ℕ) (format : SampleFormat) (sound : Chunk) (texts : List TagText) → IsMade file wave format sound
    → All IsByte file → (from most : ℕ)
    → frames_from wave (own_info format (frames_in format sound.body) texts) from most
    ≡ take (format.channels * most) (drop (format.channels * from) (sound_in format sound.body))
frames_are file wave format sound texts made each from most =
    let bodies = chunk_bodies 0 12 (slice_range file 12 (length file)) (All-take IsByte (length file - 12) (drop 12 file) (All-drop IsByte
    12 file each)) in
    let body : All IsByte sound.body = found_one (λ (c : Chunk). All IsByte c.body) (λ (c : Chunk). is_data_id c.id) (file_chunks file)
    sound made.by_data bodies in
    ap (λ xs. take (format.channels * most) (drop (format.channels * from) xs)) (ap samples_in (sound_part file wave format sound made)
    ∙ samples_back (sound_in format sound.body) (samples_fit format.width (format.channels * frames_in format sound.body) sound.body body))
