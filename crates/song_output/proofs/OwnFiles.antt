-- A piece in the form `Wave` is read as the WAVE file that it is.
use Rattle.std.proofs.Common.{◌≡◌, ◌<◌, ◌≤◌, ◌+◌, ◌-◌, ◌*◌, ◌/◌, ◌^◌, ℕ, zero, suc, List, [], ◌∷◌, ◌++◌, length, take, drop, slice_range}
use Rattle.std.proofs.Common.{refl, ap, ◌∙◌, arith, ℤ, true, Ok, Err, All, w16}
use Rattle.std.specs.Prelude.{FitsSigned, if◌then◌else◌}
use Rattle.std.proofs.lemmas.Bool.Decides.{nat_tests}
use Rattle.std.proofs.lemmas.List.{drop_all, take_all, length-drop}
use Rattle.std.proofs.lemmas.List.Elements.{All-head, All-tail}
use Rattle.std.proofs.lemmas.Nat.{from_le_bytes-to_le_bytes_2, from_le_bytes-to_le_bytes_4}
use Rattle.song_files.specs.TagSet.{tags_in}
use Rattle.song_files.specs.declared.tag.Tag.{Tag}
use Rattle.song_files.specs.declared.tag_set.TagSet.{TagSet}
use Rattle.wave_pcm.specs.Chunks.{chunks_after, size_in, padded}
use Rattle.wave_pcm.specs.Format.{is_supported, judged}
use Rattle.wave_pcm.specs.Parts.{Part, file_parts, parts_of}
use Rattle.wave_pcm.specs.Pcm.{samples_in, frames_from}
use Rattle.wave_pcm.specs.Reading.{is_wave, wave_reading, reading_of, format_of, texts_for, texts_in, info_of}
use Rattle.wave_pcm.specs.declared.info.WaveInfo.{WaveInfo}
use Rattle.wave_pcm.specs.declared.refusal.WaveError.TheVariants.{Unsupported, NotWave}
use Rattle.wave_pcm.specs.declared.parts.Kind.TheVariants.{Format as FormatKind, Data}
use Rattle.std.specs.List.{flat_map}
use Rattle.wave_pcm.proofs.ChunkList.{chunks_first, chunks_none}
use Rattle.wave_pcm.proofs.Readings.{reading_ok}
use Rattle.song_output.specs.Wave.{wave_head, format_chunk, two_bytes, four_bytes}
use Rattle.song_output.specs.Sound.{bytes_of, head_in, in_form}
use Rattle.song_output.specs.declared.output.Form.TheVariants.{Wave}
use Rattle.song_output.specs.OwnFile.{AreFrames, own_info}
use Rattle.song_output.proofs.Samples.{sample_back}
use Rattle.song_output.proofs.Supported.{IsSupported}

-- the head behind its first 12 bytes, and the samples
abbrev format_bytes : ℕ → ℕ → List ℕ
format_bytes rate channels =
    two_bytes 1 ++ two_bytes channels ++ four_bytes rate ++ four_bytes (rate * channels * 2) ++ two_bytes (channels * 2) ++ two_bytes 16

abbrev data_chunk : ℕ → List ℕ → List ℕ
data_chunk len sound = 100 ∷ 97 ∷ 116 ∷ 97 ∷ (four_bytes len ++ sound)

abbrev both_chunks : ℕ → ℕ → ℕ → List ℕ → List ℕ
both_chunks rate channels len sound =
    102 ∷ 109 ∷ 116 ∷ 32 ∷ 16 ∷ 0 ∷ 0 ∷ 0 ∷ (format_bytes rate channels ++ data_chunk len sound)

-- the length of a chunk as it is written
size_back : (len : ℕ) (sound : List ℕ) → len < 2 ^ 32 → size_in (data_chunk len sound) ≡ len
size_back len sound small = from_le_bytes-to_le_bytes_4 len small

tag_of : (rate channels : ℕ) → is_wave (wave_head rate channels 0) ≡ true
unfolding wave_head format_chunk
tag_of rate channels = refl

after_the_tag : (rate channels len : ℕ) (sound : List ℕ) → drop 12 (wave_head rate channels len ++ sound) ≡ both_chunks rate channels len sound
unfolding wave_head format_chunk
after_the_tag rate channels len sound = refl

behind_the_head : (rate channels len : ℕ) (sound : List ℕ) → drop 44 (wave_head rate channels len ++ sound) ≡ sound
unfolding wave_head format_chunk
behind_the_head rate channels len sound = refl

is_tagged : (rate channels len : ℕ) (sound : List ℕ) → is_wave (wave_head rate channels len ++ sound) ≡ true
unfolding wave_head format_chunk
is_tagged rate channels len sound = refl

head_len : (rate channels len : ℕ) (sound : List ℕ) → length (wave_head rate channels len ++ sound) ≡ 44 + length sound
unfolding wave_head format_chunk
head_len rate channels len sound = omega arith

-- the two chunks
abbrev format_part : ℕ → ℕ → Part
format_part rate channels = record { kind = FormatKind; first = 20; body = format_bytes rate channels }

abbrev data_part : List ℕ → Part
data_part sound = record { kind = Data; first = 44; body = sound }

data_alone : (len : ℕ) (sound : List ℕ) → len < 2 ^ 32 → length sound ≡ len
    → chunks_after 0 36 (data_chunk len sound) ≡ record { id = 100 ∷ 97 ∷ 116 ∷ 97 ∷ []; first = 44; body = sound } ∷ []
data_alone len sound small whole =
    let size : size_in (data_chunk len sound) ≡ len = size_back len sound small in
    let all : take (size_in (data_chunk len sound)) sound ≡ sound = rw size (take_all len sound (omega arith)) in
    let rest : drop (8 + padded (size_in (data_chunk len sound))) (data_chunk len sound) ≡ [] =
    drop_all (8 + padded (size_in (data_chunk len sound))) (data_chunk len sound) (omega (arith, size, whole)) in
    chunks_first 36 (data_chunk len sound) (omega arith)
    ∙ ap (λ body. record { id = 100 ∷ 97 ∷ 116 ∷ 97 ∷ []; first = 44; body = body } ∷ chunks_after 0 (36 + (8 + padded (size_in
    (data_chunk len sound)))) (drop (8 + padded (size_in (data_chunk len sound))) (data_chunk len sound))) all
    ∙ ap (λ bytes. record { id = 100 ∷ 97 ∷ 116 ∷ 97 ∷ []; first = 44; body = sound } ∷ chunks_after 0 (36 + (8 + padded (size_in
    (data_chunk len sound)))) bytes) rest
    ∙ ap (λ chunks. record { id = 100 ∷ 97 ∷ 116 ∷ 97 ∷ []; first = 44; body = sound } ∷ chunks) (chunks_none (36 + (8 + padded
    (size_in (data_chunk len sound)))) [] (omega arith))

two_chunks : (rate channels len : ℕ) (sound : List ℕ) → len < 2 ^ 32 → length sound ≡ len
    → chunks_after 0 12 (both_chunks rate channels len sound)
    ≡ record { id = 102 ∷ 109 ∷ 116 ∷ 32 ∷ []; first = 20; body = format_bytes rate channels }
    ∷ record { id = 100 ∷ 97 ∷ 116 ∷ 97 ∷ []; first = 44; body = sound } ∷ []
two_chunks rate channels len sound small whole =
    chunks_first 12 (both_chunks rate channels len sound) (omega arith)
    ∙ ap (λ chunks. record { id = 102 ∷ 109 ∷ 116 ∷ 32 ∷ []; first = 20; body = format_bytes rate channels } ∷ chunks)
    (data_alone len sound small whole)

both_parts : (rate channels len : ℕ) (sound : List ℕ) → len < 2 ^ 32 → length sound ≡ len
    → file_parts (wave_head rate channels len ++ sound) ≡ format_part rate channels ∷ data_part sound ∷ []
both_parts rate channels len sound small whole =
    let file = wave_head rate channels len ++ sound in
    let body : drop 12 file ≡ both_chunks rate channels len sound = after_the_tag rate channels len sound in
    let all : slice_range file 12 (length file) ≡ both_chunks rate channels len sound =
    take_all (length file - 12) (drop 12 file) (omega (arith, length-drop 12 file)) ∙ body in
    ap (λ bytes. flat_map parts_of (chunks_after 0 12 bytes)) all
    ∙ ap (flat_map parts_of) (two_chunks rate channels len sound small whole)

judged_same : (a b c d e a' b' c' d' e' : ℕ) → a ≡ a' → b ≡ b' → c ≡ c' → d ≡ d' → e ≡ e' → judged a b c d e ≡ judged a' b' c' d' e'
judged_same a b c d e a' b' c' d' e' p q r s t = rw (p, q, r, s, t) refl

format_back : (rate channels : ℕ) (sound : List ℕ) → IsSupported rate channels
    → format_of (format_part rate channels ∷ data_part sound ∷ []) ≡ Ok (record { rate = rate; channels = channels })
format_back rate channels sound limits =
    let yes' : is_supported 1 channels rate (channels * 2) 16 ≡ true = grind (arith, nat_tests) in
    judged_same _ _ _ _ _ 1 channels rate (channels * 2) 16 refl (from_le_bytes-to_le_bytes_2 channels (omega arith))
    (from_le_bytes-to_le_bytes_4 rate (omega arith)) (from_le_bytes-to_le_bytes_2 (channels * 2) (omega arith)) refl
    ∙ ap (λ b. if b then Ok (record { rate = rate; channels = channels }) else Err (Unsupported 1 16 channels)) yes'

whole_frames : (channels count : ℕ) → 1 ≤ channels → channels ≤ 2 → 2 * (channels * count) / (2 * channels) ≡ count
whole_frames zero count some few = absurd (omega arith)
whole_frames (suc zero) count some few = omega arith
whole_frames (suc (suc zero)) count some few = omega arith
whole_frames (suc (suc (suc channels))) count some few = absurd (omega arith)

few_bytes : (channels count : ℕ) → 1 ≤ channels → channels ≤ 2 → 0 < count → count ≤ 4096
    → (0 < 2 * (channels * count)) × (2 * (channels * count) < 2 ^ 32)
few_bytes zero count some few one within = absurd (omega arith)
few_bytes (suc zero) count some few one within = (omega arith, omega arith)
few_bytes (suc (suc zero)) count some few one within = (omega arith, omega arith)
few_bytes (suc (suc (suc channels))) count some few one within = absurd (omega arith)

-- neither chunk has a text of a tag
no_texts : (rate channels : ℕ) (sound : List ℕ) (tags : List Tag) → texts_for (format_part rate channels ∷ data_part sound ∷ []) tags ≡ []
no_texts rate channels sound [] = refl
no_texts rate channels sound (tag ∷ tags) = no_texts rate channels sound tags

-- what a reader finds in a file of such a head
pub head_back : (rate channels count : ℕ) (sound : List ℕ) → IsSupported rate channels → 0 < count → count ≤ 4096
    → length sound ≡ 2 * (channels * count)
    → (wanted : TagSet) → wave_reading (wave_head rate channels (2 * (channels * count)) ++ sound) wanted ≡ Ok (record {
      rate = rate;
      channels = channels;
      first_byte = 44;
      frames = count;
      tags = [];
    })
unfolding wave_reading
head_back rate channels count sound limits one few whole wanted =
    let len = 2 * (channels * count) in
    let file = wave_head rate channels len ++ sound in
    let parts = format_part rate channels ∷ data_part sound ∷ [] in
    let bounds : (0 < len) × (len < 2 ^ 32) = few_bytes channels count limits.some_channels limits.channels_within one few in
    let frames : length sound / (2 * channels) ≡ count =
    ap (λ n. n / (2 * channels)) whole ∙ whole_frames channels count limits.some_channels limits.channels_within in
    let texts : texts_in parts wanted ≡ [] = no_texts rate channels sound (tags_in wanted) in
    let read : reading_of parts wanted ≡ Ok (info_of (record { rate = rate; channels = channels }) (data_part sound) (texts_in parts wanted)) =
    reading_ok wanted parts (record { rate = rate; channels = channels }) (data_part sound) (format_back rate channels sound limits) refl in
    ap (λ b. if b then reading_of (file_parts file) wanted else Err NotWave) (is_tagged rate channels len sound)
    ∙ ap (λ ps. reading_of ps wanted) (both_parts rate channels len sound bounds.1 whole)
    ∙ read
    ∙ ap (λ t. Ok (info_of (record { rate = rate; channels = channels }) (data_part sound) t)) texts
    ∙ ap (λ n. Ok (record { rate = rate; channels = channels; first_byte = 44; frames = n; tags = [] })) frames

-- bytes of samples
pub length-bytes_of : (samples : List ℤ) → length (bytes_of samples) ≡ 2 * length samples
length-bytes_of [] = refl
length-bytes_of (z ∷ samples) = let rest : length (bytes_of samples) ≡ 2 * length samples = length-bytes_of samples in omega arith

pub samples_back : (samples : List ℤ) → All (FitsSigned w16) samples → samples_in (bytes_of samples) ≡ samples
samples_back [] fit = refl
samples_back (z ∷ samples) fit =
    ap (λ x. x ∷ samples_in (bytes_of samples)) (sample_back z (All-head (FitsSigned w16) z samples fit))
    ∙ ap (λ xs. z ∷ xs) (samples_back samples (All-tail (FitsSigned w16) z samples fit))

head_there : (info : WaveInfo) (len : ℕ) → 0 < len → head_in Wave info len ≡ wave_head info.rate info.channels len
head_there info zero some = absurd (omega arith)
head_there info (suc len) some = refl

module _ (info : WaveInfo) (count : ℕ) (samples : List ℤ) (limits : IsSupported info.rate info.channels)
    (are : AreFrames info count samples) where
  abbrev len : ℕ
  len = 2 * (info.channels * count)

  abbrev sound : List ℕ
  sound = bytes_of samples

  bounds : (0 < len) × (len < 2 ^ 32)
  bounds = few_bytes info.channels count limits.some_channels limits.channels_within are.some are.few

  whole : length sound ≡ len
  whole = length-bytes_of samples ∙ ap (λ n. 2 * n) are.whole

  written : in_form Wave info sound ≡ wave_head info.rate info.channels len ++ sound
  written = ap (λ n. head_in Wave info n ++ sound) whole ∙ ap (λ head. head ++ sound) (head_there info len bounds.0)

  pub read_back : (wanted : TagSet) → wave_reading (in_form Wave info sound) wanted ≡ Ok (own_info info count)
  read_back wanted =
      ap (λ file. wave_reading file wanted) written ∙ head_back info.rate info.channels count sound limits are.some are.few whole wanted

  pub frames_back : frames_from (in_form Wave info sound) (own_info info count) 0 count ≡ samples
  frames_back =
      let frame : 44 + 2 * info.channels * count - 44 ≡ len = omega arith in
      let from : info.channels * 0 ≡ 0 = omega arith in
      let behind : slice_range (in_form Wave info sound) 44 (44 + 2 * info.channels * count) ≡ sound =
      ap (λ file. take (44 + 2 * info.channels * count - 44) (drop 44 file)) written
      ∙ ap (take (44 + 2 * info.channels * count - 44)) (behind_the_head info.rate info.channels len sound)
      ∙ take_all (44 + 2 * info.channels * count - 44) sound (omega (arith, whole)) in
      ap (λ bytes. take (info.channels * count) (drop (info.channels * 0) (samples_in bytes))) behind
      ∙ ap (λ xs. take (info.channels * count) (drop (info.channels * 0) xs)) (samples_back samples are.fit)
      ∙ ap (λ n. take (info.channels * count) (drop n samples)) from
      ∙ take_all (info.channels * count) samples (omega (arith, are.whole))

  pub end_back : length (in_form Wave info sound) ≡ 44 + 2 * info.channels * count
  end_back = ap length written ∙ head_len info.rate info.channels len sound ∙ (omega (arith, whole))
