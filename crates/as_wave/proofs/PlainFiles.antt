-- A WAVE file that is read is what it stands for.
use Rattle.std.proofs.Common.{◌≡◌, ℕ, zero, suc, List, [], ◌∷◌, ◌++◌, length, take, drop, map, ◌+◌, Bool, true, false, cond, refl, ap, ◌∙◌, sym, Ok, Err, Some, None, codes}
use Rattle.std.specs.Prelude.{Result, Option, option_map, option_and_then, nat_lt, nat_le, if◌then◌else◌, unwrap_or, ◌==◌, ◌&&◌, ◌||◌, not}
use Rattle.std.specs.List.{find, flat_map}
use Rattle.std.specs.Str.{bytes_eq}
use Rattle.std.proofs.lemmas.Bool.Decides.{nat_tests}
use Rattle.std.proofs.Common.{arith}
use Rattle.wave_pcm.specs.Chunks.{Chunk, chunks_after}
use Rattle.wave_pcm.specs.Format.{is_supported, u16_at, u32_at, format_by, format_from}
use Rattle.wave_pcm.specs.Parts.{Part, file_parts, is_format, is_data, file_part, text_part, parts_of, file_kind, text_kind, kind_by, is_text_list}
use Rattle.song_files.specs.Tag.{info_tag}
use Rattle.song_files.specs.declared.tag.Tag.{Tag}
use Rattle.song_files.specs.declared.tag_set.TagSet.{TagSet}
use Rattle.wave_pcm.specs.Reading.{◌>>=◌, is_wave, wave_reading, reading_of, format_of, format_at, data_of, texts_in, info_of, is_long, is_key, MAX_CHUNKS}
use Rattle.wave_pcm.specs.declared.format.Format.{Format}
use Rattle.wave_pcm.specs.declared.info.WaveInfo.{WaveInfo}
use Rattle.wave_pcm.specs.declared.parts.Kind.{Kind}
use Rattle.wave_pcm.specs.declared.parts.Kind.TheVariants.{Format as FormatKind, Data as DataKind, Nested, Id3, Other}
use Rattle.wave_pcm.specs.declared.refusal.WaveError.{WaveError}
use Rattle.wave_pcm.specs.declared.refusal.WaveError.TheVariants.{NotWave, NoFormat, Unsupported}
use Rattle.as_wave.specs.Format.{is_pcm, is_plain, format_by as sample_format_by, sample_format}
use Rattle.std.specs.Option.{option_or}
use Rattle.as_wave.specs.FlacWave.{flac_wave}
use Rattle.as_wave.specs.Forms.{as_wave, taken}
use Rattle.as_wave.proofs.NoFlac.{no_flac}
use Rattle.as_wave.specs.StandsFor.{is_format_id, is_data_id, is_key as is_key_chunk, format_in, file_chunks, wave_by, converted}
use Rattle.as_wave.specs.declared.format.SampleFormat.{SampleFormat}
use Rattle.as_wave.specs.declared.forms.Forms.{Forms}
use Rattle.as_wave.proofs.Picks.{no_format_by}

passes : {A : Type 0} (b : Bool) (x : Result A WaveError) (e : WaveError) (y : A) → (if b then x else Err e) ≡ Ok y → (b ≡ true) × (x ≡ Ok y)
passes true x e y same = (refl, same)
passes false x e y same = absurd (cc)

passes_not : {A : Type 0} (b : Bool) (x : Result A WaveError) (e : WaveError) (y : A) → (if b then Err e else x) ≡ Ok y → x ≡ Ok y
passes_not false x e y same = same
passes_not true x e y same = absurd (cc)

then_ok : {A B : Type 0} (r : Result A WaveError) (f : A → Result B WaveError) (y : B) → (r >>= f) ≡ Ok y → (x : A) × (r ≡ Ok x)
then_ok (Ok x) f y same = (x, refl)
then_ok (Err e) f y same = absurd (cc)

judged_ok : (b : Bool) (made format : Format) (e : WaveError) → (if b then Ok made else Err e) ≡ Ok format → b ≡ true
judged_ok true made format e same = refl
judged_ok false made format e same = absurd (cc)

plain_of : (tag channels rate align bits : ℕ) → is_supported tag channels rate align bits ≡ true → (tag == 1 && bits == 16) ≡ true
plain_of tag channels rate align bits yes' = grind (arith, nat_tests)

no_sample_format : (some pcm : Bool) (found : Option SampleFormat) → (if some && pcm && not true then found else None) ≡ None
no_sample_format true true found = refl
no_sample_format true false found = refl
no_sample_format false pcm found = refl

-- 16-bit PCM is no form of its own
plain_format : (body : List ℕ) (format : Format) → format_from body ≡ Ok format → sample_format body ≡ None
plain_format body format same =
    let read : format_by body ≡ Ok format = passes_not (nat_lt (length body) 16) (format_by body) NoFormat format same in
    let tag = u16_at 0 body in
    let bits = u16_at 14 body in
    let yes' : is_supported tag (u16_at 2 body) (u32_at 4 body) (u16_at 12 body) bits ≡ true = judged_ok (is_supported tag (u16_at 2
    body) (u32_at 4 body) (u16_at 12 body) bits) (record { rate = u32_at 4 body; channels = u16_at 2 body }) format (Unsupported tag bits
    (u16_at 2 body)) read in
    let plain : is_plain body ≡ true = plain_of tag (u16_at 2 body) (u32_at 4 body) (u16_at 12 body) bits yes' in
    ap (λ b. if nat_le 16 (length body) && is_pcm body && not b then sample_format_by body else None) plain
    ∙ no_sample_format (nat_le 16 (length body)) (is_pcm body) (sample_format_by body)

-- no chunk inside a list is a format or data
abbrev is_key_kind : Kind → Bool
is_key_kind kind = is_format kind || is_data kind

kind_no_key : (o : Option Tag) → is_key_kind (kind_by o) ≡ false
kind_no_key None = refl
kind_no_key (Some tag) = refl

text_no_key : (id : List ℕ) → is_key_kind (text_kind id) ≡ false
text_no_key id = kind_no_key (info_tag id)

texts_no_key : (cs : List Chunk) (ps : List Part) → find is_key (map text_part cs ++ ps) ≡ find is_key ps
texts_no_key [] ps = refl
texts_no_key (c ∷ cs) ps = ap (λ b. cond b (Some (text_part c)) (find is_key (map text_part cs ++ ps))) (text_no_key c.id)
    ∙ texts_no_key cs ps

key_by : (a b d e : Bool)
    → is_key_kind (if a then FormatKind else if b then DataKind else if d then Nested else if e then Id3 else Other) ≡ (a || b)
key_by true b d e = refl
key_by false true d e = refl
key_by false false true e = refl
key_by false false false true = refl
key_by false false false false = refl

nested_no_key : (b : Bool) (cs : List Chunk) (ps : List Part) → find is_key ((if b then map text_part cs else []) ++ ps) ≡ find is_key ps
nested_no_key true cs ps = texts_no_key cs ps
nested_no_key false cs ps = refl

-- the first format or data among the parts is that among the chunks
key_among : (cs : List Chunk) → find is_key (flat_map parts_of cs) ≡ option_map file_part (find is_key_chunk cs)
key_among [] = refl
key_among (c ∷ cs) =
    let nested = chunks_after 0 (c.first + 4) (drop 4 c.body) in
    let t = is_text_list (file_kind c.id) c.body in
    ap (λ b. cond b (Some (file_part c)) (find is_key ((if t then map text_part nested else []) ++ flat_map parts_of cs))) (key_by
    (is_format_id c.id) (is_data_id c.id) (bytes_eq c.id (codes "LIST")) (bytes_eq c.id (codes "id3 ") || bytes_eq c.id (codes "ID3 ")))
    ∙ ap (λ o. cond (is_key_chunk c) (Some (file_part c)) o) (nested_no_key t nested (flat_map parts_of cs) ∙ key_among cs)
    ∙ split (is_key_chunk c)
  where
    split : (b : Bool) → cond b (Some (file_part c)) (option_map file_part (find is_key_chunk cs))
        ≡ option_map file_part (cond b (Some c) (find is_key_chunk cs))
    split true = refl
    split false = refl

-- what is found in a front is found
find-take : {X : Type 0} (p : X → Bool) (n : ℕ) (xs : List X) (x : X) → find p (take n xs) ≡ Some x → find p xs ≡ Some x
find-take p zero xs x found = absurd (cc)
find-take p (suc n) [] x found = absurd (cc)
find-take p (suc n) (y ∷ xs) x found = chosen (p y) (find-take p n xs x) found
  where
    chosen : (b : Bool) → (find p (take n xs) ≡ Some x → find p xs ≡ Some x) → cond b (Some y) (find p (take n xs)) ≡ Some x
        → cond b (Some y) (find p xs) ≡ Some x
    chosen true more same = same
    chosen false more same = more same

abbrev body_of : Option Part → List ℕ
body_of None = []
body_of (Some q) = q.body

none_either : {A : Type 0} (b : Bool) (o : Option A) → o ≡ None → (if b then o else None) ≡ None
none_either true o none = none
none_either false o none = refl

key_of : (cs : List Chunk) (long : Bool) (found : Option Part) (format : Format) → find is_key (take MAX_CHUNKS (flat_map parts_of cs)) ≡ found
    → format_at long found ≡ Ok format → format_in cs ≡ None
key_of cs true None format found same = absurd (cc)
key_of cs false None format found same = absurd (cc)
key_of cs long (Some p) format found same =
    by_chunk (find is_key_chunk cs) (sym (key_among cs) ∙ find-take is_key MAX_CHUNKS (flat_map parts_of cs) p found)
    (passes (is_format p.kind) (format_from p.body) NoFormat format same).1
  where
    by_chunk : (o : Option Chunk) → option_map file_part o ≡ Some p → format_from p.body ≡ Ok format
        → option_and_then (λ (c : Chunk). if is_format_id c.id then sample_format c.body else None) o ≡ None
    by_chunk None is read = refl
    by_chunk (Some c) is read =
        let body : c.body ≡ p.body = ap body_of is in
        none_either (is_format_id c.id) (sample_format c.body) (plain_format c.body format (ap format_from body ∙ read))

no_form : (file : List ℕ) (wanted : TagSet) (info : WaveInfo) → reading_of (file_parts file) wanted ≡ Ok info → format_in (file_chunks file) ≡ None
unfolding reading_of
no_form file wanted info same =
    let parts = file_parts file in
    let first = then_ok (format_of parts) (λ format. data_of parts >>= (λ sound. Ok (info_of format sound (texts_in parts wanted)))) info same in
    key_of (file_chunks file) (is_long parts) (find is_key (take MAX_CHUNKS parts)) first.0 refl first.1

is_wave_if : (b : Bool) (x : Result WaveInfo WaveError) (info : WaveInfo) → (if b then x else Err NotWave) ≡ Ok info → x ≡ Ok info
is_wave_if true x info same = same
is_wave_if false x info same = absurd (cc)

not_converted : (file : List ℕ) (wanted : TagSet) (info : WaveInfo) → wave_reading file wanted ≡ Ok info → converted file ≡ None
unfolding wave_reading converted
not_converted file wanted info same =
    let none = no_form file wanted info (is_wave_if (is_wave file) (reading_of (file_parts file) wanted) info same) in
    none_either (is_wave file) (wave_by (file_chunks file)) (no_format_by (file_chunks file) none)

wave_of : (b : Bool) (x : Result WaveInfo WaveError) (info : WaveInfo) → (if b then x else Err NotWave) ≡ Ok info → b ≡ true
wave_of true x info same = refl
wave_of false x info same = absurd (cc)

is_wave_of : (file : List ℕ) (wanted : TagSet) (info : WaveInfo) → wave_reading file wanted ≡ Ok info → is_wave file ≡ true
unfolding wave_reading
is_wave_of file wanted info same = wave_of (is_wave file) (reading_of (file_parts file) wanted) info same

not_taken : (b : Bool) (o : Option (List ℕ)) → o ≡ None → taken b o ≡ None
not_taken true o none = none
not_taken false o none = refl

pub plain_stays : (forms : Forms) (file : List ℕ) (wanted : TagSet) (info : WaveInfo) → wave_reading file wanted ≡ Ok info → as_wave forms file ≡ file
plain_stays forms file wanted info same =
    ap (λ o. unwrap_or (option_or o (taken forms.flac (flac_wave file))) file) (not_taken forms.wave_pcm (converted file) (not_converted file
    wanted info same))
    ∙ ap (λ o. unwrap_or o file) (not_taken forms.flac (flac_wave file) (no_flac file (is_wave_of file wanted info same)))
