-- The head of the WAVE file that a file stands for.
use Rattle.std.proofs.Common.{◌≡◌, ◌+◌, ◌-◌, ◌*◌, ◌/◌, ◌%◌, ◌≤◌, ◌<◌, ◌^◌, ℕ, zero, suc, List, [], ◌∷◌, ◌++◌, length, take, drop, replicate}
use Rattle.std.proofs.Common.{refl, ap, ◌∙◌, sym, arith, Some, None, Ok, Err, Bool, true, false, All, slice_range, codes, subst, lit<, append_assoc}
use Rattle.std.specs.Prelude.{Option, option_and_then, nat_le, ◌&&◌, not, if◌then◌else◌}
use Rattle.std.specs.List.{find, flat_map}
use Rattle.std.proofs.lemmas.Bool.Decides.{nat_tests}
use Rattle.std.proofs.lemmas.List.{length-append, length-replicate, append-nil, take_at, take_all, drop_at, drop-drop, length-drop}
use Rattle.std.proofs.lemmas.List.Elements.{All-head, All-tail, All-cons, All-nil}
use Rattle.std.proofs.lemmas.Nat.{from_le_bytes-to_le_bytes_2, from_le_bytes-to_le_bytes_4}
use Rattle.wave_pcm.specs.Chunks.{Chunk, chunks_after, size_in, padded}
use Rattle.wave_pcm.specs.Format.{is_supported, judged, u16_at, u32_at}
use Rattle.wave_pcm.specs.Parts.{Part, file_parts, parts_of, is_data}
use Rattle.wave_pcm.specs.Reading.{is_wave, wave_reading, reading_of, format_of, data_of, data_at, texts_in, is_long}
use Rattle.song_files.specs.declared.tag_set.TagSet.{TagSet}
use Rattle.wave_pcm.specs.declared.parts.Kind.TheVariants.{Format as FormatKind, Data as DataKind}
use Rattle.wave_pcm.specs.declared.refusal.WaveError.TheVariants.{Unsupported, NotWave}
use Rattle.wave_pcm.proofs.ChunkList.{chunks_first, chunks_none}
use Rattle.wave_pcm.proofs.Readings.{reading_ok}
use Rattle.as_wave.specs.Format.{width_of, judged as judged_format, is_playable, is_pcm, is_plain, format_by, sample_format}
use Rattle.as_wave.specs.OwnHead.{IsMade, own_info}
use Rattle.as_wave.specs.Plan.{wave_head}
use Rattle.as_wave.specs.Samples.{bytes_of, sound_in, frames_in}
use Rattle.as_wave.specs.StandsFor.{chunk_bytes, chunks_bytes, format_bytes, riff_data, is_format_id, is_key, kept_in, file_chunks}
use Rattle.as_wave.specs.declared.format.SampleFormat.{SampleFormat}
use Rattle.as_wave.specs.declared.format.SampleWidth.{SampleWidth}
use Rattle.as_wave.proofs.MadeFiles.{made_is, made_small, kept_ids}
use Rattle.as_wave.proofs.OwnFrames.{length-sound}
use Rattle.as_wave.proofs.OwnTexts.{placed, texts_kept}
use Rattle.as_wave.proofs.WaveParts.{length-chunk_bytes}

-- a chunk that was written is found
parsed : (id body rest : List ℕ) (at : ℕ) → length id ≡ 4 → length body < 2 ^ 32
    → chunks_after 0 at (chunk_bytes id body ++ rest)
    ≡ record { id = id; first = at + 8; body = body } ∷ chunks_after 0 (at + (8 + padded (length body))) rest
parsed [] body rest at four small = absurd (omega arith)
parsed (a ∷ []) body rest at four small = absurd (omega arith)
parsed (a ∷ b ∷ []) body rest at four small = absurd (omega arith)
parsed (a ∷ b ∷ c ∷ []) body rest at four small = absurd (omega arith)
parsed (a ∷ b ∷ c ∷ d ∷ e ∷ id) body rest at four small = absurd (omega arith)
parsed (a ∷ b ∷ c ∷ d ∷ []) body rest at four small =
    let id = a ∷ b ∷ c ∷ d ∷ [] in
    let n = length body in
    let pad = replicate (n % 2) 0 in
    let bytes = chunk_bytes id body ++ rest in
    let size : size_in bytes ≡ n = from_le_bytes-to_le_bytes_4 n small in
    let sound : take n (body ++ pad ++ rest) ≡ body = ap (take n) (append_assoc body pad rest) ∙ take_at body (pad ++ rest) n refl in
    let long : length (body ++ pad) ≡ padded n = length-append body pad ∙ ap (λ k. n + k) (length-replicate (n % 2) 0) in
    let behind : drop (8 + padded n) bytes ≡ rest = sym (drop-drop (padded n) 8 bytes) ∙ drop_at (body ++ pad) rest (padded n) long in
    chunks_first at bytes (omega arith)
    ∙ ap (λ k. record { id = id; first = at + 8; body = take k (body ++ pad ++ rest) } ∷ chunks_after 0 (at + (8 + padded k)) (drop (8 + padded k) bytes)) size
    ∙ ap (λ xs. record { id = id; first = at + 8; body = xs } ∷ chunks_after 0 (at + (8 + padded n)) (drop (8 + padded n) bytes)) sound
    ∙ ap (λ xs. record { id = id; first = at + 8; body = body } ∷ chunks_after 0 (at + (8 + padded n)) xs) behind

abbrev IsSmall : Chunk → Type 0
IsSmall c = length c.body < 2 ^ 32

abbrev pub HasId : Chunk → Type 0
HasId c = length c.id ≡ 4

chunks_placed : (at : ℕ) (cs : List Chunk) → All HasId cs → All IsSmall cs → chunks_after 0 at (chunks_bytes cs) ≡ placed at cs
chunks_placed at [] ids small = chunks_none at [] (lit< tt)
chunks_placed at (c ∷ cs) ids small =
    parsed c.id c.body (chunks_bytes cs) at (All-head HasId c cs ids) (All-head IsSmall c cs small)
    ∙ ap (λ ds. record { id = c.id; first = at + 8; body = c.body } ∷ ds) (chunks_placed (at + (8 + padded (length c.body))) cs (All-tail
    HasId c cs ids) (All-tail IsSmall c cs small))

-- each of some chunks is small where all are
all_small : (cs : List Chunk) → All HasId cs → length (chunks_bytes cs) < 2 ^ 32 → All IsSmall cs
all_small [] ids small = All-nil IsSmall
all_small (c ∷ cs) ids small =
    let whole = length-append (chunk_bytes c.id c.body) (chunks_bytes cs) in
    let one = length-chunk_bytes c.id c.body (All-head HasId c cs ids) in
    All-cons IsSmall c cs (omega (arith, whole, one, small)) (all_small cs (All-tail HasId c cs ids) (omega (arith, whole, small)))

-- the chunks of the file
abbrev pub format_chunk : SampleFormat → Chunk
format_chunk format = record { id = codes "fmt "; first = 20; body = format_bytes format }

abbrev pub data_chunk : List ℕ → Chunk
data_chunk sound = record { id = codes "data"; first = 44; body = sound }

behind_tag : (format : SampleFormat) (sound : List ℕ) (kept : List Chunk) (rest : ℕ) → length sound % 2 ≡ 0
    → drop 12 (wave_head format (length sound) rest ++ (sound ++ chunks_bytes kept))
    ≡ chunks_bytes (format_chunk format ∷ data_chunk sound ∷ kept)
unfolding wave_head
behind_tag format sound kept rest even =
    sym (ap (λ n. drop 12 (wave_head format (length sound) rest ++ (sound ++ replicate n 0 ++ chunks_bytes kept))) even
    ∙ ap (λ xs. drop 12 (wave_head format (length sound) rest ++ (xs ++ chunks_bytes kept))) (append-nil sound))

riff_is_chunks : (format : SampleFormat) (sound : List ℕ) (kept : List Chunk)
    → riff_data format sound kept ≡ codes "WAVE" ++ chunks_bytes (format_chunk format ∷ data_chunk sound ∷ kept)
unfolding riff_data
riff_is_chunks format sound kept = refl

tagged : (format : SampleFormat) (n rest : ℕ) (xs : List ℕ) → is_wave (wave_head format n rest ++ xs) ≡ true
unfolding wave_head
tagged format n rest xs = refl

judged_same : (a b c d e a' b' c' d' e' : ℕ) → a ≡ a' → b ≡ b' → c ≡ c' → d ≡ d' → e ≡ e' → judged a b c d e ≡ judged a' b' c' d' e'
judged_same a b c d e a' b' c' d' e' p q r s t = rw (p, q, r, s, t) refl

-- the format that is played can be read
pub record IsRead (format : SampleFormat) : Type 0 where
  pub some_rate : 1 ≤ format.rate
  pub rate_within : format.rate ≤ 192000
  pub some_channels : 1 ≤ format.channels
  pub channels_within : format.channels ≤ 2

format_back : (format : SampleFormat) (more : List Part) → IsRead format
    → format_of (record { kind = FormatKind; first = 20; body = format_bytes format } ∷ more)
    ≡ Ok (record { rate = format.rate; channels = format.channels })
format_back format more limits =
    let yes' : is_supported 1 format.channels format.rate (2 * format.channels) 16 ≡ true = grind (arith, nat_tests) in
    judged_same _ _ _ _ _ 1 format.channels format.rate (2 * format.channels) 16 refl (from_le_bytes-to_le_bytes_2 format.channels (omega
    arith)) (from_le_bytes-to_le_bytes_4 format.rate (omega arith)) (from_le_bytes-to_le_bytes_2 (2 * format.channels) (omega arith)) refl
    ∙ ap (λ b. if b then Ok (record { rate = format.rate; channels = format.channels }) else Err (Unsupported 1 16 format.channels)) yes'

data_back : (parts : List Part) (p : Part) → is_long parts ≡ false → find (λ (q : Part). is_data q.kind) parts ≡ Some p → data_of parts ≡ Ok p
data_back parts p short found = ap (λ b. data_at b (find (λ (q : Part). is_data q.kind) parts)) short ∙ ap (data_at false) found

pub whole_frames : (channels count : ℕ) → 1 ≤ channels → channels ≤ 2 → 2 * channels * count / (2 * channels) ≡ count
whole_frames zero count some few = absurd (omega arith)
whole_frames (suc zero) count some few = omega arith
whole_frames (suc (suc zero)) count some few = omega arith
whole_frames (suc (suc (suc channels))) count some few = absurd (omega arith)

some_if : {A : Type 0} (b : Bool) (o : Option A) (x : A) → (if b then o else None) ≡ Some x → (b ≡ true) × (o ≡ Some x)
some_if true o x same = (refl, same)
some_if false o x same = absurd (cc)

read_limits : (channels rate align : ℕ) (w : SampleWidth) → is_playable channels rate align w ≡ true
    → IsRead (record { rate = rate; channels = channels; width = w })
read_limits channels rate align w yes' = record {
  some_rate = grind (arith, nat_tests);
  rate_within = grind (arith, nat_tests);
  some_channels = grind (arith, nat_tests);
  channels_within = grind (arith, nat_tests);
}

by_width : (channels rate align : ℕ) (o : Option SampleWidth) (format : SampleFormat)
    → option_and_then (judged_format channels rate align) o ≡ Some format → IsRead format
by_width channels rate align None format same = absurd (cc)
by_width channels rate align (Some w) format same =
    let passed = some_if (is_playable channels rate align w) (Some (record { rate = rate; channels = channels; width = w })) format same in
    let is : record { rate = rate; channels = channels; width = w } ≡ format = cc (passed.1) in
    subst IsRead is (read_limits channels rate align w passed.0)

read_by : (o : Option Chunk) (format : SampleFormat)
    → option_and_then (λ (c : Chunk). if is_format_id c.id then sample_format c.body else None) o ≡ Some format → IsRead format
read_by None format same = absurd (cc)
read_by (Some c) format same =
    let chosen = (some_if (is_format_id c.id) (sample_format c.body) format same).1 in
    let played = (some_if (nat_le 16 (length c.body) && is_pcm c.body && not (is_plain c.body)) (format_by c.body) format chosen).1 in
    by_width (u16_at 2 c.body) (u32_at 4 c.body) (u16_at 12 c.body) (width_of (u16_at 14 c.body)) format played

-- the parts of a WAVE file that is made of a format, its samples and further chunks
pub parts_are : (wave : List ℕ) (format : SampleFormat) (s : List ℕ) (kept : List Chunk)
    → wave ≡ wave_head format (length s) (length (chunks_bytes kept)) ++ (s ++ chunks_bytes kept) → length s % 2 ≡ 0 → All HasId kept
    → length (riff_data format s kept) < 2 ^ 32
    → file_parts wave ≡ flat_map parts_of (placed 12 (format_chunk format ∷ data_chunk s ∷ kept))
parts_are wave format s kept is even each little =
    let k = chunks_bytes kept in
    let cs = format_chunk format ∷ data_chunk s ∷ kept in
    let ids : All HasId cs = All-cons HasId (format_chunk format) (data_chunk s ∷ kept) refl (All-cons HasId (data_chunk s) kept refl each) in
    let small : All IsSmall cs = all_small cs ids (omega (arith, little, ap length (riff_is_chunks format s kept), length-append (codes "WAVE") (chunks_bytes cs))) in
    let all : slice_range wave 12 (length wave) ≡ chunks_bytes cs = take_all (length wave - 12) (drop 12 wave) (omega (
      arith,
      length-drop
          12 wave,
    )) ∙ ap (drop 12) is ∙ behind_tag format s kept (length k) even in
    ap (λ bytes. flat_map parts_of (chunks_after 0 12 bytes)) all ∙ ap (flat_map parts_of) (chunks_placed 12 cs ids small)

-- what is read of it
pub read_is : (wave : List ℕ) (wanted : TagSet) (format : SampleFormat) (s : List ℕ) (kept : List Chunk)
    → wave ≡ wave_head format (length s) (length (chunks_bytes kept)) ++ (s ++ chunks_bytes kept) → length s % 2 ≡ 0 → All HasId kept
    → length (riff_data format s kept) < 2 ^ 32 → IsRead format → is_long (file_parts wave) ≡ false
    → wave_reading wave wanted ≡ Ok (own_info format (length s / (2 * format.channels)) (texts_in (flat_map parts_of (placed 12 (format_chunk
    format ∷ data_chunk s ∷ kept))) wanted))
unfolding wave_reading
read_is wave wanted format s kept is even each little limits short =
    let k = chunks_bytes kept in
    let n = length s in
    let cs = format_chunk format ∷ data_chunk s ∷ kept in
    let ps = flat_map parts_of (placed 12 cs) in
    let parts : file_parts wave ≡ flat_map parts_of (placed 12 (format_chunk format ∷ data_chunk s ∷ kept)) = parts_are wave format s kept is
    even each little in
    let short' : is_long ps ≡ false = ap is_long (sym parts) ∙ short in
    let sound_part : Part = record { kind = DataKind; first = 44; body = s } in
    ap (λ xs. if is_wave xs then reading_of (file_parts wave) wanted else Err NotWave) is
    ∙ ap (λ b. if b then reading_of (file_parts wave) wanted else Err NotWave) (tagged format n (length k) (s ++ k))
    ∙ ap (λ xs. reading_of xs wanted) parts
    ∙ reading_ok wanted ps (record { rate = format.rate; channels = format.channels }) sound_part (format_back format (sound_part ∷ flat_map parts_of (placed (36 + (8 + padded n)) kept)) limits) (data_back ps
    sound_part short' refl)

pub head_is : (file wave : List ℕ) (wanted : TagSet) (format : SampleFormat) (sound : Chunk) → IsMade file wave format sound
    → is_long (file_parts wave) ≡ false
    → wave_reading wave wanted ≡ Ok (own_info format (frames_in format sound.body) (texts_in (file_parts file) wanted))
head_is file wave wanted format sound made short =
    let s = bytes_of (sound_in format sound.body) in
    let kept = kept_in (file_chunks file) in
    let n = length s in
    let limits : IsRead format = read_by (find is_key (file_chunks file)) format made.by_format in
    let even : n % 2 ≡ 0 = omega (arith, length-sound format sound.body) in
    let ps = flat_map parts_of (placed 12 (format_chunk format ∷ data_chunk s ∷ kept)) in
    let texts : texts_in ps wanted ≡ texts_in (file_parts file) wanted = texts_kept (36 + (8 + padded n)) (file_chunks file) wanted in
    let frames : n / (2 * format.channels) ≡ frames_in format sound.body = ap (λ m. m / (2 * format.channels)) (length-sound format
    sound.body) ∙ whole_frames format.channels (frames_in format sound.body) limits.some_channels limits.channels_within in
    read_is wave wanted format s kept (made_is file wave format sound made.made made.by_format made.by_data) even (kept_ids file)
    (made_small file wave format sound made.made made.by_format made.by_data) limits short
    ∙ ap (λ m. Ok (own_info format m (texts_in ps wanted))) frames
    ∙ ap (λ t. Ok (own_info format (frames_in format sound.body) t)) texts
