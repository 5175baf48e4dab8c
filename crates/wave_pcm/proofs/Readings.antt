-- The reading of a list of parts, by its format, its data and its texts.
use Rattle.std.proofs.Common.{◌≡◌, ◌+◌, ◌*◌, ◌/◌, ◌≤◌, ℕ, List, length, take, drop, refl, ap, ◌∙◌, sym, Ok, Err}
use Rattle.std.proofs.Common.{slice_range, arith, subst, Bool, true, false, nat_lt, inl, inr}
use Rattle.std.specs.Prelude.{Result, Option, Some, None, IfErr, ◌<◌, if◌then◌else◌}
use Rattle.std.proofs.lemmas.List.{length-take, length-drop, take-take, take_all, length-take-le}
use Rattle.std.proofs.lemmas.Bool.{lt-ltb, cases_lt}
use Rattle.std.proofs.lemmas.Bool.Decides.{nat_tests}
use Rattle.std.proofs.lemmas.Result.{IfErr-at_err, IfErr-weaker}
use Rattle.wave_pcm.specs.declared.listing.TheConstants.{MAX_CHUNKS, FIRST_CHUNK}
use Rattle.wave_pcm.specs.Parts.{Part, is_data, file_parts, parts_in}
use Rattle.std.specs.List.{find}
use Rattle.wave_pcm.specs.PartHead.{part_at, parts_at}
use Rattle.wave_pcm.specs.Reading.{◌>>=◌, format_of, data_of, texts_in, data_at, format_at, is_key, reading_of}
use Rattle.wave_pcm.specs.Reading.{is_wave, wave_reading, info_of, Refuses, IsVerdict}
use Rattle.song_files.specs.Tags.{TagText}
use Rattle.song_files.specs.declared.tag_set.TagSet.{TagSet}
use Rattle.wave_pcm.specs.declared.parts.PartHead.{PartHead}
use Rattle.wave_pcm.specs.declared.format.Format.{Format}
use Rattle.wave_pcm.specs.declared.info.WaveInfo.{WaveInfo}
use Rattle.wave_pcm.specs.declared.refusal.WaveError.{WaveError}
use Rattle.wave_pcm.specs.declared.refusal.WaveError.TheVariants.{NoMemory, NotWave, NoFormat, Unsupported, NoData, ReadFault, TooManyTurns}
use Rattle.song_files.proofs.Ranges.{range_is}

pub reading_ok : (wanted : TagSet) (parts : List Part) (format : Format) (sound : Part) → format_of parts ≡ Ok format
    → data_of parts ≡ Ok sound
    → reading_of parts wanted ≡ Ok (info_of format sound (texts_in parts wanted))
unfolding reading_of
reading_ok wanted parts format sound f d = ap (λ r. r >>= (λ x. data_of parts >>= (λ y. Ok (info_of x y (texts_in parts wanted))))) f
    ∙ ap (λ r. r >>= (λ y. Ok (info_of format y (texts_in parts wanted)))) d

no_format : (wanted : TagSet) (parts : List Part) (e : WaveError) → format_of parts ≡ Err e → reading_of parts wanted ≡ Err e
unfolding reading_of
no_format wanted parts e f = ap (λ r. r >>= (λ x. data_of parts >>= (λ y. Ok (info_of x y (texts_in parts wanted))))) f

no_data : (wanted : TagSet) (parts : List Part) (format : Format) (e : WaveError) → format_of parts ≡ Ok format → data_of parts ≡ Err e
    → reading_of parts wanted ≡ Err e
unfolding reading_of
no_data wanted parts format e f d = ap (λ r. r >>= (λ x. data_of parts >>= (λ y. Ok (info_of x y (texts_in parts wanted))))) f
    ∙ ap (λ r. r >>= (λ y. Ok (info_of format y (texts_in parts wanted)))) d

pub refuses_format : (wanted : TagSet) (parts : List Part) (fault : Type 0) (e : WaveError) → Refuses (format_of parts) fault e
    → Refuses (reading_of parts wanted) fault e
refuses_format wanted parts fault NoMemory h = tt
refuses_format wanted parts fault NotWave h = no_format wanted parts NotWave h
refuses_format wanted parts fault NoFormat h = no_format wanted parts NoFormat h
refuses_format wanted parts fault (Unsupported tag bits channels) h = no_format wanted parts (Unsupported tag bits channels) h
refuses_format wanted parts fault NoData h = no_format wanted parts NoData h
refuses_format wanted parts fault ReadFault h = h
refuses_format wanted parts fault TooManyTurns h = no_format wanted parts TooManyTurns h

pub refuses_verdict : {A : Type 0} (reading : Result A WaveError) (fault : Type 0) (e : WaveError) → IsVerdict e
    → reading ≡ Err e → Refuses reading fault e
refuses_verdict reading fault NoMemory v h = tt
refuses_verdict reading fault NotWave v h = h
refuses_verdict reading fault NoFormat v h = h
refuses_verdict reading fault (Unsupported tag bits channels) v h = h
refuses_verdict reading fault NoData v h = h
refuses_verdict reading fault ReadFault v h = absurd v
refuses_verdict reading fault TooManyTurns v h = h

pub refuses_data : (wanted : TagSet) (parts : List Part) (fault : Type 0) (format : Format) (e : WaveError) → IsVerdict e
    → format_of parts ≡ Ok format → data_of parts ≡ Err e → Refuses (reading_of parts wanted) fault e
refuses_data wanted parts fault format e v f d = refuses_verdict (reading_of parts wanted) fault e v (no_data wanted parts format e f d)

abbrev made : Format → PartHead → List TagText → ℕ → WaveInfo
made format head texts frames = record {
  rate = format.rate;
  channels = format.channels;
  first_byte = head.first;
  frames = frames;
  tags = texts;
}

-- a part that stands in the file is as long as its head says
pub part_long : (file : List ℕ) (head : PartHead) → head.first + head.len ≤ length file → length (part_at file head).body ≡ head.len
part_long file head within = rw range_is (omega (arith, length-take head.len (drop head.first file), length-drop head.first file))

-- the answer of the code
pub info_is : (file : List ℕ) (format : Format) (head : PartHead) (texts : List TagText) (channels : ℕ)
    → head.first + head.len ≤ length file → channels ≡ format.channels
    → info_of format (part_at file head) texts ≡ record {
      rate = format.rate;
      channels = format.channels;
      first_byte = head.first;
      frames = head.len / (2 * channels);
      tags = texts;
    }
info_is file format head texts channels within same =
    let long : length (slice_range file head.first (head.first + head.len)) ≡ head.len = part_long file head within in
    ap (λ n. made format head texts (n / (2 * format.channels))) long ∙ ap (λ n. made format head texts (head.len / (2 * n))) (sym same)

abbrev read_by : Result Format WaveError → Result Part WaveError → List TagText → Result WaveInfo WaveError
read_by f d texts = f >>= (λ x. d >>= (λ y. Ok (info_of x y texts)))

abbrev format_within : ℕ → List Part → Result Format WaveError
format_within n parts = format_at (nat_lt n (length parts)) (find is_key (take n parts))

abbrev data_within : ℕ → List Part → Result Part WaveError
data_within n parts = data_at (nat_lt n (length parts)) (find (λ p. is_data p.kind) parts)

abbrev reading_within : TagSet → ℕ → List Part → Result WaveInfo WaveError
reading_within wanted n parts = read_by (format_within n parts) (data_within n parts) (texts_in parts wanted)

reading_is : (wanted : TagSet) (parts : List Part) → reading_of parts wanted ≡ reading_within wanted MAX_CHUNKS parts
unfolding reading_of
reading_is wanted parts = refl

too_many : (found : Option Part) → data_at true found ≡ Err TooManyTurns
too_many None = refl
too_many (Some p) = refl

data_too_many : (n : ℕ) (parts : List Part) → n < length parts → data_within n parts ≡ Err TooManyTurns
data_too_many n parts more =
    ap (λ b. data_at b (find (λ p. is_data p.kind) parts)) (lt-ltb n (length parts) more) ∙ too_many (find (λ p. is_data p.kind) parts)

cut_short : (wanted : TagSet) (n : ℕ) (parts : List Part) → n + 1 ≤ length parts
    → reading_within wanted n (take (n + 1) parts) ≡ reading_within wanted n parts
cut_short wanted n parts more =
    let count : length (take (n + 1) parts) ≡ n + 1 = length-take-le (n + 1) parts more in
    let here : n < length (take (n + 1) parts) = omega arith in
    let there : n < length parts = omega arith in
    let formats : format_within n (take (n + 1) parts) ≡ format_within n parts
    = ap (λ b. format_at b (find is_key (take n (take (n + 1) parts)))) (lt-ltb n (length (take (n + 1) parts)) here)
    ∙ ap (λ ps. format_at true (find is_key ps)) (take-take n (n + 1) parts (omega arith))
    ∙ sym (ap (λ b. format_at b (find is_key (take n parts))) (lt-ltb n (length parts) there)) in
    ap (λ f. read_by f (data_within n (take (n + 1) parts)) (texts_in (take (n + 1) parts) wanted)) formats
    ∙ ap (λ d. read_by (format_within n parts) d (texts_in (take (n + 1) parts) wanted)) (data_too_many n (take (n + 1) parts) here)
    ∙ sym (ap (λ d. read_by (format_within n parts) d (texts_in parts wanted)) (data_too_many n parts there))

capped : (wanted : TagSet) (n : ℕ) (parts : List Part) → reading_within wanted n (take (n + 1) parts) ≡ reading_within wanted n parts
capped wanted n parts = elim (cases_lt (length parts) (n + 1)) as (λ _. reading_within wanted n (take (n + 1) parts)
    ≡ reading_within wanted n parts) [
      | inl few ↦ ap (reading_within wanted n) (take_all (n + 1) parts (omega arith))
      | inr more ↦ cut_short wanted n parts more
    ]

-- one chunk too many is enough
pub reading_of-take : (wanted : TagSet) (parts : List Part) → reading_of (take (MAX_CHUNKS + 1) parts) wanted ≡ reading_of parts wanted
reading_of-take wanted parts = reading_is wanted (take (MAX_CHUNKS + 1) parts) ∙ capped wanted MAX_CHUNKS parts
    ∙ sym (reading_is wanted parts)

pub verdict_of : {A : Type 0} (reading : Result A WaveError) (fault : Type 0) (e : WaveError) → Refuses reading fault e
    → IsVerdict e → reading ≡ Err e
verdict_of reading fault NoMemory h v = absurd v
verdict_of reading fault NotWave h v = h
verdict_of reading fault NoFormat h v = h
verdict_of reading fault (Unsupported tag bits channels) h v = h
verdict_of reading fault NoData h v = h
verdict_of reading fault ReadFault h v = absurd v
verdict_of reading fault TooManyTurns h v = h

pub verdicts_of : {A B : Type 0} (r : Result B WaveError) (reading : Result A WaveError) (fault : Type 0)
    → IfErr r (Refuses reading fault) → IfErr r (λ e. IsVerdict e → reading ≡ Err e)
verdicts_of (Ok x) reading fault h = tt
verdicts_of (Err e) reading fault h = verdict_of reading fault e h

pub fault_of : {A B : Type 0} (r : Result B WaveError) (reading : Result A WaveError) (fault : Type 0)
    → IfErr r (Refuses reading fault) → r ≡ Err ReadFault → fault
fault_of r reading fault h same = IfErr-at_err (Refuses reading fault) same h

pub not_wave : (wanted : TagSet) (file : List ℕ) → is_wave file ≡ false → wave_reading file wanted ≡ Err NotWave
unfolding wave_reading
not_wave wanted file no' = ap (λ b. if b then reading_of (file_parts file) wanted else Err NotWave) no'

pub whole_reading : (wanted : TagSet) (file was now : List ℕ) (heads : List PartHead) (end : ℕ) → is_wave file ≡ true → end ≡ length file
    → was ≡ file → now ≡ file
    → parts_at was heads ≡ take (MAX_CHUNKS + 1) (parts_in was FIRST_CHUNK end)
    → wave_reading file wanted ≡ reading_of (parts_at now heads) wanted
unfolding wave_reading
whole_reading wanted file was now heads end yes' all same still listed =
    let P : List ℕ → Type 0 = λ bytes. parts_at bytes heads ≡ take (MAX_CHUNKS + 1) (parts_in bytes FIRST_CHUNK end) in
    let here : parts_at file heads ≡ take (MAX_CHUNKS + 1) (parts_in file FIRST_CHUNK end) = subst P same listed in
    ap (λ b. if b then reading_of (file_parts file) wanted else Err NotWave) yes'
    ∙ ap (λ e. reading_of (parts_in file FIRST_CHUNK e) wanted) (sym all)
    ∙ sym (reading_of-take wanted (parts_in file FIRST_CHUNK end))
    ∙ ap (λ ps. reading_of ps wanted) (sym here) ∙ ap (λ bytes. reading_of (parts_at bytes heads) wanted) (sym still)

-- what has been read has few enough chunks
not_long : (long : Bool) (found : Option Part) (sound : Part) → data_at long found ≡ Ok sound → long ≡ false
not_long false found sound read = refl
not_long true None sound read = absurd (cc)
not_long true (Some p) sound read = absurd (cc)

read_is : (f : Result Format WaveError) (d : Result Part WaveError) (texts : List TagText) (info : WaveInfo) → read_by f d texts ≡ Ok info
    → (sound : Part) × (d ≡ Ok sound)
read_is (Ok x) (Ok y) texts info read = (y, refl)
read_is (Ok x) (Err e) texts info read = absurd (cc)
read_is (Err e) d texts info read = absurd (cc)

few_of : (wanted : TagSet) (parts : List Part) (info : WaveInfo) → reading_of parts wanted ≡ Ok info → length parts ≤ MAX_CHUNKS
few_of wanted parts info read =
    let sound = read_is (format_of parts) (data_of parts) (texts_in parts wanted) info (sym (reading_is wanted parts) ∙ read) in
    let short : nat_lt MAX_CHUNKS (length parts) ≡ false =
    not_long (nat_lt MAX_CHUNKS (length parts)) (find (λ p. is_data p.kind) parts) sound.0 sound.1 in
    grind (arith, nat_tests)

take_few : {X : Type 0} (n : ℕ) (xs : List X) → length (take (n + 1) xs) ≤ n → take (n + 1) xs ≡ xs
take_few n xs few = take_all (n + 1) xs (omega (arith, length-take (n + 1) xs))

-- the parts of a file that has been read are all its parts
pub all_parts : (wanted : TagSet) (file was now : List ℕ) (heads : List PartHead) (end : ℕ) (info : WaveInfo) → end ≡ length file
    → was ≡ file → now ≡ file → parts_at was heads ≡ take (MAX_CHUNKS + 1) (parts_in was FIRST_CHUNK end)
    → reading_of (parts_at now heads) wanted ≡ Ok info → parts_at file heads ≡ file_parts file
all_parts wanted file was now heads end info all same still listed read =
    let P : List ℕ → Type 0 = λ bytes. parts_at bytes heads ≡ take (MAX_CHUNKS + 1) (parts_in bytes FIRST_CHUNK end) in
    let here : parts_at file heads ≡ take (MAX_CHUNKS + 1) (parts_in file FIRST_CHUNK end) = subst P same listed in
    let Q : List ℕ → Type 0 = λ bytes. reading_of (parts_at bytes heads) wanted ≡ Ok info in
    let few : length (parts_at file heads) ≤ MAX_CHUNKS = few_of wanted (parts_at file heads) info (subst Q still read) in
    let short : length (take (MAX_CHUNKS + 1) (parts_in file FIRST_CHUNK end)) ≤ MAX_CHUNKS =
    subst (λ (ps : List Part). length ps ≤ MAX_CHUNKS) here few in
    here ∙ take_few MAX_CHUNKS (parts_in file FIRST_CHUNK end) short ∙ ap (parts_in file FIRST_CHUNK) all

refuses_more : {A : Type 0} (reading : Result A WaveError) (fault more : Type 0) → (fault → more) → (e : WaveError)
    → Refuses reading fault e → Refuses reading more e
refuses_more reading fault more up NoMemory h = tt
refuses_more reading fault more up NotWave h = h
refuses_more reading fault more up NoFormat h = h
refuses_more reading fault more up (Unsupported tag bits channels) h = h
refuses_more reading fault more up NoData h = h
refuses_more reading fault more up ReadFault h = up h
refuses_more reading fault more up TooManyTurns h = h

pub refused_more : {A B : Type 0} (r : Result B WaveError) (reading : Result A WaveError) (fault more : Type 0) → (fault → more)
    → IfErr r (Refuses reading fault) → IfErr r (Refuses reading more)
refused_more r reading fault more up h = IfErr-weaker r (Refuses reading fault) (Refuses reading more) (refuses_more reading fault
    more up) h
