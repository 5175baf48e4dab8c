-- The reading of URIs, song rows and the changes of a batch.
use Rattle.std.specs.Prelude.{ℕ, zero, suc, List, [], ◌∷◌, length, Option, Some, None, Err, Ok, ◌==◌, nat_le, if◌then◌else◌}
use Rattle.std.specs.Option.{ok_or}
use Rattle.std.specs.Int.{is_in_range}
use Rattle.wave_pcm.specs.Limits.{MAX_RATE}
use Rattle.profile.specs.declared.profile.Profile.{Profile}
use Rattle.profile.specs.declared.profile.Profile.TheVariants.{Named, Wide}
use Rattle.song_files.specs.Limits.{MAX_TAGS}
use Rattle.song_files.specs.Tag.{number_of, tag_at as tag_numbered}
use Rattle.song_files.specs.Tags.{TagText}
use Rattle.song_files.specs.declared.folder.FileStamp.{FileStamp}
use Rattle.song_files.specs.declared.tag.Tag.{Tag}
use Rattle.song_files.specs.Text.{is_tag_text}
use Rattle.song_db.specs.Limits.{MAX_ROW_TAG_BYTES}
use Rattle.song_db.specs.Row.{Row, from_six, tags_size}
use Rattle.song_db.specs.Uri.{is_uri}
use Rattle.song_db.specs.declared.change.RowChange.{RowChange}
use Rattle.song_db.specs.declared.change.RowChange.TheVariants.{Put, Drop}
use Rattle.state_codec.specs.Changes.{is_count}
use Rattle.state_codec.specs.Fields.{Field, made, such, both, byte_at, u64_at, number_within, text_at}
use Rattle.state_codec.specs.Items.{items_at, counted_at}
use Rattle.state_codec.specs.Steps.{◌>>=◌}

abbrev pub uri_at : List ℕ → Field (List ℕ)
uri_at bytes = such is_uri text_at bytes

-- no text of a tag, or one
unfoldable pub tag_at : List ℕ → Field (Option (List ℕ))
tag_at (zero ∷ rest) = Ok (None, rest)
tag_at (suc zero ∷ rest) = made Some (such is_tag_text text_at rest)
tag_at bytes = Err (length bytes)

-- the tags of six texts, in the order of their numbers
abbrev pub tags_at : List ℕ → Field (List TagText)
tags_at bytes = made from_six (items_at (λ known. tag_at) 6 [] bytes)

-- no stamp of a file, or one: when it was changed, and its length
unfoldable pub stamp_at : List ℕ → Field (Option FileStamp)
stamp_at (zero ∷ rest) = Ok (None, rest)
stamp_at (suc zero ∷ rest) = made (λ x. Some (record { modified = x.0; length = x.1 })) (both u64_at u64_at rest)
stamp_at bytes = Err (length bytes)

-- the least number that the tag of a text may have behind the known ones: that of the last
abbrev pub least_number : List TagText → ℕ
least_number [] = 0
least_number (t ∷ []) = number_of t.tag
least_number (t ∷ next ∷ tags) = least_number (next ∷ tags)

-- the tag of a number from this one on
unfoldable pub next_tag_at : ℕ → List ℕ → Field Tag
next_tag_at least bytes = do
  number ← such (λ n. nat_le least n) byte_at bytes
  tag ← ok_or (tag_numbered number.0) (length bytes)
  Ok (tag, number.1)

abbrev pub tag_text_at : List ℕ → Field (List ℕ)
tag_text_at bytes = such is_tag_text text_at bytes

-- a text behind the known ones: the number of its tag, and the text
abbrev pub next_text_at : List TagText → List ℕ → Field TagText
next_text_at known bytes = made (λ x. record { tag = x.0; text = x.1 }) (both (next_tag_at (least_number known)) tag_text_at bytes)

abbrev pub text_count_at : List ℕ → Field ℕ
text_count_at bytes = such (λ n. nat_le n MAX_TAGS) byte_at bytes

-- all texts of all tags, which take no more than a row may
abbrev pub texts_at : List ℕ → Field (List TagText)
texts_at bytes = such (λ tags. nat_le (tags_size tags) MAX_ROW_TAG_BYTES) (counted_at text_count_at next_text_at) bytes

-- what a row tells beside its frames: its file's stamp, and its tags
abbrev pub Told : Type 0
Told = Option FileStamp × List TagText

-- tags alone under the first profile, stamp and tags under the other
abbrev pub told_at : Profile → List ℕ → Field Told
told_at Named bytes = made (λ tags. (None, tags)) (tags_at bytes)
told_at Wide bytes = both stamp_at texts_at bytes

-- rate, channels, first byte, frames and what is told
abbrev pub RowFields : Type 0
RowFields = ℕ × (ℕ × (ℕ × (ℕ × Told)))

abbrev pub row_with : List ℕ → RowFields → Row
row_with uri x = record {
  uri = uri;
  rate = x.0;
  channels = x.1.0;
  first_byte = x.1.1.0;
  frames = x.1.1.1.0;
  tags = x.1.1.1.1.1;
  stamp = x.1.1.1.1.0;
}

abbrev pub rate_at : List ℕ → Field ℕ
rate_at bytes = number_within 1 MAX_RATE bytes

abbrev pub channels_at : List ℕ → Field ℕ
channels_at bytes = such (is_in_range 1 2) byte_at bytes

abbrev pub row_fields_at : Profile → List ℕ → Field RowFields
row_fields_at profile bytes = both rate_at (both channels_at (both u64_at (both u64_at (told_at profile)))) bytes

-- a row: its URI, and the rest
unfoldable pub row_at : Profile → (List ℕ → Field (List ℕ)) → List ℕ → Field Row
row_at profile uri bytes = do
  name ← uri bytes
  made (row_with name.0) (row_fields_at profile name.1)

-- a row that is put, or the URI of one that goes
unfoldable pub change_at : Profile → List ℕ → Field RowChange
change_at profile bytes = do
  kind ← byte_at bytes
  if kind.0 == 1 then made Put (row_at profile uri_at kind.1)
      else if kind.0 == 0 then made Drop (uri_at kind.1)
      else Err (length bytes)

-- 1 to 64 changes
abbrev pub changes_at : Profile → List ℕ → Field (List RowChange)
changes_at profile bytes = counted_at (such is_count byte_at) (λ known. change_at profile) bytes
