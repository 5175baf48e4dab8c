-- The WAVE file that a FLAC file stands for, as it is read.
use Rattle.std.proofs.Common.{◌≡◌, ◌+◌, ◌-◌, ◌*◌, ◌/◌, ◌%◌, ◌≤◌, ◌<◌, ◌^◌, ℕ, zero, suc, List, [], ◌∷◌, ◌++◌, length, take, drop, map, replicate}
use Rattle.std.proofs.Common.{refl, ap, ◌∙◌, sym, arith, Some, None, Ok, Err, Bool, true, false, cond, All, slice_range, codes, subst, append_assoc, ℤ, pos, negsuc, w16}
use Rattle.std.specs.Prelude.{Option, Result, option_map, nat_lt, nat_le, ◌&&◌, ◌||◌, ◌==◌, if◌then◌else◌, FitsSigned}
use Rattle.std.specs.List.{find, flat_map, filter_map, cons_option}
use Rattle.std.specs.Option.{option_or}
use Rattle.std.specs.Int.{w32, to_le_bytes, saturate_signed}
use Rattle.std.proofs.lemmas.Int.{ints}
use Rattle.std.proofs.lemmas.Bool.Decides.{nat_tests}
use Rattle.std.proofs.lemmas.List.{length-append, append-nil, take_all}
use Rattle.std.proofs.lemmas.List.Elements.{All-cons, All-nil, All-take, All-append, All-replicate}
use Rattle.wave_pcm.specs.Chunks.{Chunk, padded}
use Rattle.wave_pcm.specs.Parts.{Part, file_parts, parts_of, is_id3, is_text}
use Rattle.wave_pcm.specs.Pcm.{samples_in, frames_from}
use Rattle.wave_pcm.specs.Reading.{wave_reading, texts_in, texts_for as tag_texts, found_text, is_long, id3_chunk, id3_place}
use Rattle.wave_pcm.specs.declared.info.ChunkPlace.{ChunkPlace}
use Rattle.song_files.specs.TagSet.{tags_in}
use Rattle.song_files.specs.declared.tag.Tag.{Tag}
use Rattle.song_files.specs.declared.tag_set.TagSet.{TagSet}
use Rattle.song_files.proofs.Ranges.{range_is}
use Rattle.id3_tags.specs.Reading.{tag_in}
use Rattle.id3_tags.specs.Writing.{WrittenPicture, can_write, written, tag_given, picture_len}
use Rattle.id3_tags.proofs.ReadBack.{read_back}
use Rattle.flac.specs.Frames.{file_samples}
use Rattle.flac.specs.Pictures.{PicturePlace}
use Rattle.flac.specs.Reading.{flac_reading}
use Rattle.flac.specs.declared.head.FlacHead.{FlacHead}
use Rattle.flac.specs.declared.refusal.FlacError.{FlacError}
use Rattle.flac.specs.declared.stream_info.StreamInfo.{StreamInfo}
use Rattle.as_wave.specs.FlacLaws.{IsFlac, IsTold, flac_info, has_tag, told_picture}
use Rattle.as_wave.specs.FlacSamples.{from_bits, padded_to, at_bits, flac_samples}
use Rattle.as_wave.specs.FlacTag.{texts_for, cover_of, cover_in, is_cover, is_front_cover, front_of, cover_bytes, tag_bytes, tag_of}
use Rattle.as_wave.specs.FlacWave.{is_told, flac_format, tag_chunks, wave_of_head, flac_wave}
use Rattle.as_wave.specs.OwnHead.{own_info}
use Rattle.as_wave.specs.Plan.{wave_head}
use Rattle.as_wave.specs.Samples.{rounded, bytes_of}
use Rattle.as_wave.specs.StandsFor.{chunk_bytes, chunks_bytes, riff_data, riff_file}
use Rattle.as_wave.specs.declared.format.SampleFormat.{SampleFormat}
use Rattle.as_wave.proofs.FlacParts.{length_of_range, slice_second}
use Rattle.as_wave.proofs.FlacPlans.{by_head, told_limits, even_tags}
use Rattle.as_wave.proofs.FlacSounds.{length-padded}
use Rattle.as_wave.proofs.MadeFiles.{samples_back}
use Rattle.as_wave.proofs.OwnHeads.{HasId, IsRead, format_chunk, data_chunk, parts_are, read_is, whole_frames}
use Rattle.as_wave.proofs.OwnTexts.{placed}
use Rattle.as_wave.proofs.PieceReads.{slice_mid}
use Rattle.as_wave.proofs.PlanParts.{length-wave_head}
use Rattle.as_wave.proofs.SampleList.{length-bytes_of}
use Rattle.as_wave.proofs.WaveParts.{riff_is}

some_if : {A : Type 0} (b : Bool) (o : Option A) (x : A) → (if b then o else None) ≡ Some x → (b ≡ true) × (o ≡ Some x)
some_if true o x same = (refl, same)
some_if false o x same = absurd (cc)

riff_some : (b : Bool) (body x : List ℕ) → (if b then Some body else None) ≡ Some x → (b ≡ true) × (x ≡ body)
riff_some true body x same = (refl, cc)
riff_some false body x same = absurd (cc)

-- what the WAVE file is made of
abbrev sound_of : List ℕ → FlacHead → List ℕ
sound_of file head = bytes_of (flac_samples file head)

abbrev chunks_of : List ℕ → FlacHead → List Chunk
chunks_of file head = tag_chunks (tag_of file head)

record IsWave (file wave : List ℕ) (head : FlacHead) : Type 0 where
  told : is_told head.info ≡ true
  small : nat_lt (length (riff_data (flac_format head.info) (sound_of file head) (chunks_of file head))) (2 ^ 32) ≡ true
  is : wave ≡ chunk_bytes (codes "RIFF") (riff_data (flac_format head.info) (sound_of file head) (chunks_of file head))

wave_is : (file wave : List ℕ) (head : FlacHead) → IsFlac file wave head → IsWave file wave head
wave_is file wave head flac =
    let x = riff_data (flac_format head.info) (sound_of file head) (chunks_of file head) in
    let made : wave_of_head file head ≡ Some wave = sym (by_head file head flac.read) ∙ flac.made in
    let parts = some_if (is_told head.info) (riff_file x) wave made in
    let riff = riff_some (nat_lt (length x) (2 ^ 32)) (chunk_bytes (codes "RIFF") x) wave parts.1 in
    record { told = parts.0; small = riff.0; is = riff.1 }

tag_ids : (tag : Option (List ℕ)) → All HasId (tag_chunks tag)
tag_ids None = All-nil HasId
tag_ids (Some body) = All-cons HasId (record { id = codes "id3 "; first = 0; body = body }) [] refl (All-nil HasId)

length-sound : (file : List ℕ) (head : FlacHead) → length (sound_of file head) ≡ 2 * (head.info.channels * head.info.samples)
length-sound file head = length-bytes_of (flac_samples file head)
    ∙ ap (λ n. 2 * n) (length-padded (head.info.channels * head.info.samples) (map (from_bits head.info.bits) (file_samples file head)))

laid_out : (file wave : List ℕ) (head : FlacHead) → IsWave file wave head
    → wave ≡ wave_head (flac_format head.info) (length (sound_of file head)) (length (chunks_bytes (chunks_of file head))) ++ (sound_of file
    head ++ chunks_bytes (chunks_of file head))
laid_out file wave head made =
    made.is ∙ riff_is (flac_format head.info) (sound_of file head) (chunks_of file head) (omega (arith, length-sound file head)) (even_tags
    (tag_of file head))

little : (file wave : List ℕ) (head : FlacHead) → IsWave file wave head
    → length (riff_data (flac_format head.info) (sound_of file head) (chunks_of file head)) < 2 ^ 32
little file wave head made = let s = made.small in grind (arith, nat_tests)

limits : (info : StreamInfo) → is_told info ≡ true → IsRead (flac_format info)
limits info yes' =
    let l = told_limits info yes' in record {
      some_rate = l.some_rate;
      rate_within = l.rate_within;
      some_channels = l.some_channels;
      channels_within = l.channels_within;
    }

-- its parts are a format, the samples and a tag
abbrev parts_for : FlacHead → List ℕ → Option (List ℕ) → List Part
parts_for head sound tag = flat_map parts_of (placed 12 (format_chunk (flac_format head.info) ∷ data_chunk sound ∷ tag_chunks tag))

few_parts : (head : FlacHead) (sound : List ℕ) (tag : Option (List ℕ)) → is_long (parts_for head sound tag) ≡ false
few_parts head sound None = refl
few_parts head sound (Some body) = refl

no_text : (head : FlacHead) (sound : List ℕ) (tag : Option (List ℕ)) (name : Tag) → found_text (parts_for head sound tag) name ≡ None
no_text head sound None name = refl
no_text head sound (Some body) name = refl

no_texts_for : (head : FlacHead) (sound : List ℕ) (tag : Option (List ℕ)) (names : List Tag) → tag_texts (parts_for head sound tag) names ≡ []
no_texts_for head sound tag [] = refl
no_texts_for head sound tag (name ∷ names) =
    ap (λ o. cons_option o (tag_texts (parts_for head sound tag) names)) (no_text head sound tag name) ∙ no_texts_for head sound tag names

file_parts_are : (file wave : List ℕ) (head : FlacHead) → IsWave file wave head
    → file_parts wave ≡ parts_for head (sound_of file head) (tag_of file head)
file_parts_are file wave head made =
    parts_are wave (flac_format head.info) (sound_of file head) (chunks_of file head) (laid_out file wave head made) (omega (
      arith,
      length-sound file head,
    )) (tag_ids (tag_of file head)) (little file wave head made)

pub head_read : (file wave : List ℕ) (wanted : TagSet) (head : FlacHead) → IsFlac file wave head → wave_reading wave wanted ≡ Ok (flac_info head)
head_read file wave wanted head flac =
    let made = wave_is file wave head flac in
    let l = limits head.info made.told in
    let c = head.info.channels in
    let s = sound_of file head in
    let short : is_long (file_parts wave) ≡ false = ap is_long (file_parts_are file wave head made) ∙ few_parts head s (tag_of file head) in
    let frames : length s / (2 * c) ≡ head.info.samples
    = ap (λ n. n / (2 * c)) (length-sound file head ∙ omega arith)
    ∙ whole_frames c head.info.samples l.some_channels l.channels_within in
    read_is wave wanted (flac_format head.info) s (chunks_of file head) (laid_out file wave head made) (omega (
      arith,
      length-sound file
          head,
    )) (tag_ids (tag_of file head)) (little file wave head made) l short
    ∙ ap (λ n. Ok (own_info (flac_format head.info) n (texts_in (parts_for head s (tag_of file head)) wanted))) frames
    ∙ ap (λ ts. Ok (own_info (flac_format head.info) head.info.samples ts)) (no_texts_for head s (tag_of file head) (tags_in wanted))

-- the samples are of 16 bits
saturated : (z : ℤ) → FitsSigned w16 (saturate_signed w16 z)
saturated (pos n) = record { sfits = omega arith }
saturated (negsuc n) = record { sfits = omega arith }

fits_if : (b : Bool) (x y : ℤ) → FitsSigned w16 x → FitsSigned w16 y → FitsSigned w16 (if b then x else y)
fits_if true x y p q = p
fits_if false x y p q = q

sample_fits : (bits : ℕ) (z : ℤ) → FitsSigned w16 (from_bits bits z)
sample_fits bits z = fits_if (nat_le bits 16) _ (rounded (bits - 16) z) (saturated _) (saturated _)

samples_fit : (bits : ℕ) (zs : List ℤ) → All (FitsSigned w16) (map (from_bits bits) zs)
samples_fit bits [] = All-nil (FitsSigned w16)
samples_fit bits (z ∷ zs) = All-cons (FitsSigned w16) (from_bits bits z) (map (from_bits bits) zs) (sample_fits bits z) (samples_fit bits zs)

all_fit : (bits n : ℕ) (zs : List ℤ) → All (FitsSigned w16) (at_bits bits n zs)
all_fit bits n zs =
    All-take (FitsSigned w16) n (map (from_bits bits) zs ++ replicate n (pos 0)) (All-append (FitsSigned w16) (map (from_bits bits) zs)
    (replicate n (pos 0)) (samples_fit bits zs) (All-replicate (FitsSigned w16) n (pos 0) (record { sfits = omega arith })))

pub frames_read : (file wave : List ℕ) (head : FlacHead) → IsFlac file wave head → (from most : ℕ)
    → frames_from wave (flac_info head) from most ≡ take (head.info.channels * most) (drop (head.info.channels * from) (flac_samples file head))
frames_read file wave head flac from most =
    let made = wave_is file wave head flac in
    let c = head.info.channels in
    let s = sound_of file head in
    let k = chunks_bytes (chunks_of file head) in
    let h = wave_head (flac_format head.info) (length s) (length k) in
    let n = 2 * c * head.info.samples in
    let long : length s ≡ n = length-sound file head ∙ omega arith in
    let sound : slice_range wave 44 (44 + n) ≡ s
    = ap (λ xs. slice_range xs 44 (44 + n)) (laid_out file wave head made)
    ∙ ap (λ m. slice_range (h ++ (s ++ k)) m (m + n)) (sym (omega (arith, length-wave_head (flac_format head.info) (length s) (length k))))
    ∙ slice_mid h s k 0 n (omega (arith, long)) ∙ range_is s 0 n ∙ take_all n s (omega (arith, long)) in
    ap (λ xs. take (c * most) (drop (c * from) xs)) (ap samples_in sound ∙ samples_back (flac_samples file head) (all_fit head.info.bits (c *
    head.info.samples) (file_samples file head)))

-- the tag
tag_is : (file : List ℕ) (head : FlacHead) → has_tag file head ≡ true
    → tag_of file head ≡ Some (written (texts_for head.comments) (told_picture file head) ++ cover_bytes file (cover_of file head))
unfolding tag_of
tag_is file head yes' = ap (λ b. if b then Some (written (texts_for head.comments) (told_picture file head) ++ cover_bytes file (cover_of
    file head)) else None) yes'

within_if : (first len end : ℕ) (some : Bool) → (some && nat_le (first + len) end) ≡ true → first + len ≤ end
within_if first len end true yes' = grind (arith, nat_tests)
within_if first len end false yes' = absurd (cc)

-- where each picture that passes a test stands in the file, the first that does so stands there
find_chosen : (test : PicturePlace → Bool) (end : ℕ) → ((q : PicturePlace) → test q ≡ true → q.first + q.len ≤ end)
    → (q p : PicturePlace) (b : Bool) (rest : Option PicturePlace) → test q ≡ b
    → (rest ≡ Some p → p.first + p.len ≤ end) → cond b (Some q) rest ≡ Some p → p.first + p.len ≤ end
find_chosen test end fits q p true rest is more same =
    let e : q ≡ p = cc in subst (λ (x : PicturePlace). x.first + x.len ≤ end) e (fits q is)
find_chosen test end fits q p false rest is more same = more same

find_within : (test : PicturePlace → Bool) (end : ℕ) → ((q : PicturePlace) → test q ≡ true → q.first + q.len ≤ end)
    → (pictures : List PicturePlace) (p : PicturePlace) → find test pictures ≡ Some p → p.first + p.len ≤ end
find_within test end fits [] p found = absurd (cc)
find_within test end fits (q ∷ pictures) p found =
    find_chosen test end fits q p (test q) (find test pictures) refl (find_within test end fits pictures p) found

cover_fits : (end : ℕ) (q : PicturePlace) → is_cover end q ≡ true → q.first + q.len ≤ end
cover_fits end q yes' = within_if q.first q.len end (nat_lt 0 (length q.media_type)) yes'

front_if : (first len end : ℕ) (front some : Bool) → (front && (some && nat_le (first + len) end)) ≡ true → first + len ≤ end
front_if first len end true some yes' = within_if first len end some yes'
front_if first len end false some yes' = absurd (cc)

front_fits : (end : ℕ) (q : PicturePlace) → is_front_cover end q ≡ true → q.first + q.len ≤ end
front_fits end q yes' = front_if q.first q.len end (q.kind == 3) (nat_lt 0 (length q.media_type)) yes'

either_within : (end : ℕ) (p : PicturePlace) (front cover : Option PicturePlace) → (front ≡ Some p → p.first + p.len ≤ end)
    → (cover ≡ Some p → p.first + p.len ≤ end) → option_or front cover ≡ Some p → p.first + p.len ≤ end
either_within end p None cover by_front by_cover same = by_cover same
either_within end p (Some q) cover by_front by_cover same = by_front same

cover_within : (end : ℕ) (pictures : List PicturePlace) (p : PicturePlace) → cover_in end pictures ≡ Some p → p.first + p.len ≤ end
cover_within end pictures p found =
    either_within end p (find (is_front_cover end) pictures) (find (is_cover end) pictures)
    (find_within (is_front_cover end) end (front_fits end) pictures p) (find_within (is_cover end) end (cover_fits end) pictures p) found

cover_long : (file : List ℕ) (cover : Option PicturePlace) → ((p : PicturePlace) → cover ≡ Some p → p.first + p.len ≤ length file)
    → length (cover_bytes file cover) ≡ picture_len (option_map front_of cover)
cover_long file None within = refl
cover_long file (Some p) within = length_of_range file p.first p.len (within p refl) ∙ omega arith

tag_found : (head : FlacHead) (sound : List ℕ) (tag : Option (List ℕ)) (body : List ℕ) → tag ≡ Some body
    → id3_place (parts_for head sound tag) ≡ Some (record { first = 36 + (8 + padded (length sound)) + 8; len = length body })
tag_found head sound tag body same = ap (λ t. id3_place (parts_for head sound t)) same

-- where the chunk's data stands
body_stands : (file wave : List ℕ) (head : FlacHead) (body : List ℕ) → IsWave file wave head → tag_of file head ≡ Some body
    → slice_range wave (36 + (8 + padded (length (sound_of file head))) + 8) (36 + (8 + padded (length (sound_of file head))) + 8 + length body) ≡ body
body_stands file wave head body made same =
    let s = sound_of file head in
    let x = codes "id3 " ++ to_le_bytes w32 (length body) in
    let pad = replicate (length body % 2) 0 in
    let k = chunks_bytes (chunks_of file head) in
    let h = wave_head (flac_format head.info) (length s) (length k) in
    let n = length body in
    let cut : k ≡ x ++ (body ++ pad) = ap (λ t. chunks_bytes (tag_chunks t)) same ∙ append-nil (chunk_bytes (codes "id3 ") body)
    ∙ append_assoc x body pad in
    let even : padded (length s) ≡ length s = omega (arith, length-sound file head) in
    let place : 36 + (8 + padded (length s)) + 8 ≡ 44 + (length s + (8 + 0)) = omega (arith, even) in
    ap (λ q. slice_range wave q (q + n)) place
    ∙ ap (λ xs. slice_range xs (44 + (length s + (8 + 0))) (44 + (length s + (8 + 0)) + n)) (laid_out file wave head made)
    ∙ slice_second h (s ++ k) 44 (length s + (8 + 0)) n (length-wave_head (flac_format head.info) (length s) (length k))
    ∙ slice_second s k (length s) (8 + 0) n refl
    ∙ ap (λ xs. slice_range xs (8 + 0) (8 + 0 + n)) cut
    ∙ slice_mid x body pad 0 n (omega arith)
    ∙ range_is body 0 n ∙ take_all n body (omega arith)

pub tag_told : (file wave : List ℕ) (head : FlacHead) → IsFlac file wave head → has_tag file head ≡ true
    → (place : ChunkPlace) × IsTold file wave head place
tag_told file wave head flac yes' =
    let made = wave_is file wave head flac in
    let s = sound_of file head in
    let texts = texts_for head.comments in
    let picture = told_picture file head in
    let tail = cover_bytes file (cover_of file head) in
    let body = written texts picture ++ tail in
    let tag : tag_of file head ≡ Some (written (texts_for head.comments) (told_picture file head) ++ cover_bytes file (cover_of file head))
    = tag_is file head yes' in
    let first = 36 + (8 + padded (length s)) + 8 in
    let long : length tail ≡ picture_len picture = cover_long file (cover_of file head) (cover_within (length file) head.pictures) in (
      record { first = first; len = length body },
      record {
        stands = ap id3_place (file_parts_are file wave head made) ∙ tag_found head s (tag_of file head) body tag;
        told = read_back texts picture yes' wave tail first long (body_stands file wave head body made tag);
      },
    )
