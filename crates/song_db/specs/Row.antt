-- The row of a song: its URI, how to find its frames, its tags, and the stamp of its file.
use Rattle.std.specs.Prelude.{ℕ, ◌+◌, Bool, true, ◌&&◌, nat_le, nat_lt, List, [], ◌∷◌, ◌++◌, Option, Some, None, is_none, if◌then◌else◌}
use Rattle.std.specs.Prelude.{length, sum_by}
use Rattle.std.specs.List.{list_all, find}
use Rattle.std.specs.Option.{option_map_or}
use Rattle.std.specs.Str.{bytes_eq}
use Rattle.profile.specs.declared.profile.Profile.{Profile}
use Rattle.profile.specs.declared.profile.Profile.TheVariants.{Named, Wide}
use Rattle.song_files.specs.Tag.{number_of, tag_at}
use Rattle.song_files.specs.Tags.{TagText, first_text}
use Rattle.song_files.specs.Text.{is_tag_text}
use Rattle.song_files.specs.declared.folder.FileStamp.{FileStamp}
use Rattle.song_files.specs.declared.tag.Tag.TheVariants.{Title, Artist, Album, Date, Genre, Comment}
use Rattle.wave_pcm.specs.Limits.{MAX_RATE}
use Rattle.wave_pcm.specs.declared.info.WaveInfo.{WaveInfo}
use Rattle.song_db.specs.Limits.{MAX_ROW_TAG_BYTES}
use Rattle.song_db.specs.declared.rules.LibraryRules.{LibraryRules}
use Rattle.song_db.specs.Uri.{is_uri}

-- the tags are a list, and a tag may have several texts
pub record Row : Type 0 where
  pub uri : List ℕ
  pub rate : ℕ
  pub channels : ℕ
  pub first_byte : ℕ
  pub frames : ℕ
  pub tags : List TagText
  pub stamp : Option FileStamp

-- the row of a URI whose file has this head and this stamp
abbrev pub row_of : List ℕ → WaveInfo → Option FileStamp → Row
row_of uri info stamp = record {
  uri = uri;
  rate = info.rate;
  channels = info.channels;
  first_byte = info.first_byte;
  frames = info.frames;
  tags = info.tags;
  stamp = stamp;
}

-- a stamp where the rules of the library keep them
abbrev pub kept_stamp : LibraryRules → Option FileStamp → Option FileStamp
kept_stamp rules stamp = if rules.keeps_stamps then stamp else None

-- a text has 1 to 512 bytes of UTF-8 without a control character
abbrev pub is_good_tag : TagText → Bool
is_good_tag tag = is_tag_text tag.text

-- the tags have numbers from this one on and below 6, each higher than that before it
abbrev pub is_plain_from : ℕ → List TagText → Bool
is_plain_from number [] = true
is_plain_from number (t ∷ tags) =
    nat_le number (number_of t.tag) && (nat_lt (number_of t.tag) 6 && is_plain_from (number_of t.tag + 1) tags)

-- of each of the six tags of the named subset there is one text at most, and no text of another tag
abbrev pub is_plain : List TagText → Bool
is_plain tags = is_plain_from 0 tags

-- the first text of each of the six, in the order of their numbers
abbrev pub six_texts : List TagText → List (Option (List ℕ))
six_texts tags =
    first_text tags Title ∷ first_text tags Artist ∷ first_text tags Album ∷ first_text tags Date ∷ first_text tags Genre
    ∷ first_text tags Comment ∷ []

-- a text of the tag with this number
abbrev pub numbered : ℕ → Option (List ℕ) → List TagText
numbered number None = []
numbered number (Some text) = option_map_or (λ tag. record { tag = tag; text = text } ∷ []) (tag_at number) []

-- the texts that there are, the first of the tag with this number, the second of that with the next, and so on
abbrev pub tags_from : ℕ → List (Option (List ℕ)) → List TagText
tags_from number [] = []
tags_from number (text ∷ texts) = numbered number text ++ tags_from (number + 1) texts

-- the tags with these texts of the six
abbrev pub from_six : List (Option (List ℕ)) → List TagText
from_six texts = tags_from 0 texts

-- the limits on all but the URI
abbrev pub is_within_limits : Row → Bool
is_within_limits row = nat_le 1 row.rate && (nat_le row.rate MAX_RATE && (nat_le 1 row.channels && (nat_le row.channels 2 &&
    list_all is_good_tag row.tags)))

-- how many bytes the texts take, with three more for each
abbrev pub tags_size : List TagText → ℕ
tags_size tags = sum_by (λ (t : TagText). 3 + length t.text) tags

-- what is saved under the profile has a place for all that the row says
abbrev pub is_kept_by : Profile → Row → Bool
is_kept_by Named row = is_plain row.tags && is_none row.stamp
is_kept_by Wide row = nat_le (tags_size row.tags) MAX_ROW_TAG_BYTES

abbrev pub is_row : Row → Bool
is_row row = is_uri row.uri && is_within_limits row

abbrev pub row_uri : Row → List ℕ
row_uri row = row.uri

-- the row of a URI
abbrev pub row_at : List Row → List ℕ → Option Row
row_at rows uri = find (λ row. bytes_eq uri row.uri) rows
