-- What is read of a song's file: the head of a WAVE file, with the tags of its ID3v2 tag that its list INFO lacks.
use Rattle.std.specs.Prelude.{ℕ, ◌+◌, ◌-◌, nat_le, length, sum_by, Bool, List, [], ◌∷◌, map, take, Option, Some, None, option_and_then, Result, Ok, Err, if◌then◌else◌}
use Rattle.std.specs.List.{flat_map}
use Rattle.std.specs.Option.{option_map_or}
use Rattle.id3_tags.specs.Reading.{tag_in}
use Rattle.id3_tags.specs.Texts.{FrameText}
use Rattle.id3_tags.specs.declared.tag.Id3Tag.{Id3Tag}
use Rattle.song_files.specs.Limits.{MAX_TAGS}
use Rattle.song_files.specs.TagSet.{tags_in}
use Rattle.song_files.specs.Tags.{TagText, first_text}
use Rattle.song_files.specs.Text.{text_or_none}
use Rattle.song_files.specs.declared.tag.Tag.{Tag}
use Rattle.wave_pcm.specs.Reading.{wave_reading, id3_chunk}
use Rattle.wave_pcm.specs.declared.info.ChunkPlace.{ChunkPlace}
use Rattle.wave_pcm.specs.declared.info.WaveInfo.{WaveInfo}
use Rattle.wave_pcm.specs.declared.refusal.WaveError.{WaveError}
use Rattle.song_head.specs.FrameValues.{manner_of, texts_told, told_as}
use Rattle.song_head.specs.declared.manner.Manner.{Manner}
use Rattle.song_head.specs.declared.manner.Manner.TheVariants.{First}
use Rattle.song_head.specs.declared.rules.ReadingRules.{ReadingRules}

-- the first of them, or all
abbrev pub kept : Manner → List (List ℕ) → List (List ℕ)
kept First texts = take 1 texts
kept manner texts = texts

-- a text of INFO as it is told, if anything is left of it
abbrev pub own_text : List TagText → Tag → Option (List ℕ)
own_text own tag = option_and_then (λ text. text_or_none (told_as tag text)) (first_text own tag)

-- the text that INFO has of a tag; where it has none, those that frames tell
abbrev pub own_or_told : Manner → List TagText → List FrameText → Tag → List (List ℕ)
own_or_told manner own frames tag =
    option_map_or (λ text. text ∷ []) (own_text own tag) (kept manner (texts_told manner frames tag))

abbrev pub tagged : Tag → List (List ℕ) → List TagText
tagged tag texts = map (λ text. record { tag = tag; text = text }) texts

-- the texts of these tags, one tag after another
abbrev pub texts_of_tags : Manner → List TagText → List FrameText → List Tag → List TagText
texts_of_tags manner own frames tags = flat_map (λ tag. tagged tag (own_or_told manner own frames tag)) tags

-- as many of the texts from the front on as take so many bytes, with three more for each
abbrev pub fitting : ℕ → List TagText → List TagText
fitting left [] = []
fitting left (t ∷ tags) =
    if nat_le (3 + length t.text) left then t ∷ fitting (left - (3 + length t.text)) tags else []

-- how many bytes they take
abbrev pub text_bytes : List TagText → ℕ
text_bytes tags = sum_by (λ (t : TagText). 3 + length t.text) tags

-- how many the texts of a song may take
abbrev pub MAX_TEXT_BYTES : ℕ
MAX_TEXT_BYTES = 30000

-- where several texts of a tag are told, as many as a song may have by their bytes
abbrev pub fewer : Bool → List TagText → List TagText
fewer several tags = if several then fitting MAX_TEXT_BYTES tags else tags

-- those of the tags that are wanted, in the order of their numbers, as many as a song may have
abbrev pub song_texts : ReadingRules → Manner → List TagText → List FrameText → List TagText
song_texts rules manner own frames = fewer rules.several (take MAX_TAGS (texts_of_tags manner own frames (tags_in rules.tags)))

-- what INFO tells without an ID3v2 tag, where several texts are told in the form that they are told in
abbrev pub with_own : ReadingRules → WaveInfo → WaveInfo
with_own rules info = if rules.several then record info { tags = song_texts rules First info.tags [] } else info

-- what INFO tells, and an ID3v2 tag, where there is one
abbrev pub with_id3 : ReadingRules → Option Id3Tag → WaveInfo → WaveInfo
with_id3 rules None info = with_own rules info
with_id3 rules (Some tag) info =
    record info { tags = song_texts rules (manner_of rules.several tag.version tag.texts) info.tags tag.texts }

-- the ID3v2 tag in the data of a chunk
abbrev pub id3_at : List ℕ → Option ChunkPlace → Option Id3Tag
id3_at file None = None
id3_at file (Some place) = tag_in file place.first (place.first + place.len)

abbrev pub reading_with : (WaveInfo → WaveInfo) → Result WaveInfo WaveError → Result WaveInfo WaveError
reading_with change (Ok info) = Ok (change info)
reading_with change (Err e) = Err e

-- The one reading of a song's file. A file that is no WAVE file is refused whatever its ID3v2 tag, and an ID3v2 tag that is broken tells
-- nothing.
abbrev pub song_reading : List ℕ → ReadingRules → Result WaveInfo WaveError
song_reading file rules =
    if rules.id3 then reading_with (with_id3 rules (id3_at file (id3_chunk file))) (wave_reading file rules.tags)
    else wave_reading file rules.tags
