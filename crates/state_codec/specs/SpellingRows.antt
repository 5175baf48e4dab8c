-- The spelling of song rows and of the changes of a batch.
use Rattle.std.specs.Prelude.{ℕ, List, [], ◌∷◌, ◌++◌, length, Option, Some, None}
use Rattle.std.specs.List.{flat_map}
use Rattle.profile.specs.declared.profile.Profile.{Profile}
use Rattle.profile.specs.declared.profile.Profile.TheVariants.{Named, Wide}
use Rattle.song_files.specs.Tag.{number_of}
use Rattle.song_files.specs.Tags.{TagText}
use Rattle.song_files.specs.declared.folder.FileStamp.{FileStamp}
use Rattle.song_db.specs.Row.{Row, six_texts}
use Rattle.song_db.specs.declared.change.RowChange.{RowChange}
use Rattle.song_db.specs.declared.change.RowChange.TheVariants.{Put, Drop}
use Rattle.state_codec.specs.SpellingFields.{byte_bytes, u32_bytes, u64_bytes, text_bytes}

-- no text of a tag, or one
abbrev pub tag_bytes : Option (List ℕ) → List ℕ
tag_bytes None = 0 ∷ []
tag_bytes (Some text) = 1 ∷ text_bytes text

-- the first texts of the six tags, in the order of their numbers
abbrev pub tags_bytes : List TagText → List ℕ
tags_bytes tags = flat_map tag_bytes (six_texts tags)

-- no stamp of a file, or one: when it was changed, and its length
abbrev pub stamp_bytes : Option FileStamp → List ℕ
stamp_bytes None = 0 ∷ []
stamp_bytes (Some stamp) = 1 ∷ (u64_bytes stamp.modified ++ u64_bytes stamp.length)

-- the number of a text's tag, and the text
abbrev pub numbered_bytes : TagText → List ℕ
numbered_bytes t = byte_bytes (number_of t.tag) ++ text_bytes t.text

-- all texts of all tags, behind their number in one byte
abbrev pub texts_bytes : List TagText → List ℕ
texts_bytes tags = byte_bytes (length tags) ++ flat_map numbered_bytes tags

-- what a row tells beside its frames: tags under the first profile, stamp and tags under the other
abbrev pub told_bytes : Profile → Option FileStamp → List TagText → List ℕ
told_bytes Named stamp tags = tags_bytes tags
told_bytes Wide stamp tags = stamp_bytes stamp ++ texts_bytes tags

-- what follows the URI: rate, channels, first byte, frames and what is told
abbrev pub row_fields_bytes : Profile → Row → List ℕ
row_fields_bytes profile row =
    u32_bytes row.rate
    ++ (byte_bytes row.channels ++ (u64_bytes row.first_byte ++ (u64_bytes row.frames ++ told_bytes profile row.stamp row.tags)))

abbrev pub row_bytes : Profile → Row → List ℕ
row_bytes profile row = text_bytes row.uri ++ row_fields_bytes profile row

abbrev pub change_bytes : Profile → RowChange → List ℕ
change_bytes profile (Put row) = 1 ∷ row_bytes profile row
change_bytes profile (Drop uri) = 0 ∷ text_bytes uri

-- their number in one byte, and the changes
abbrev pub changes_bytes : Profile → List RowChange → List ℕ
changes_bytes profile changes = byte_bytes (length changes) ++ flat_map (change_bytes profile) changes
