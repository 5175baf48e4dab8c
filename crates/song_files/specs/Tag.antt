-- The tags of MPD 0.23 (protocol reference, section Tags): their numbers, names, and the ids by which a RIFF file's list INFO names some.
use Rattle.std.specs.Prelude.{ℕ, List, [], ◌∷◌, Option, map, option_map, slice_get, Bool, codes, if◌then◌else◌}
use Rattle.std.specs.Char.{to_ascii_lowercase}
use Rattle.std.specs.List.{position_or_len, list_any, find}
use Rattle.std.specs.Str.{bytes_eq}
use denote.Enum.Bare.{sameb}
use Rattle.song_files.specs.contracts.tag.Tag.{the_type}
use Rattle.song_files.specs.declared.tag.Tag.{Tag}
use Rattle.song_files.specs.declared.tag.Tag.TheVariants as tag

-- a tag, its name as MPD prints it, and the ids of the chunks that have its text
pub record Row : Type 0 where
  pub tag : Tag
  pub name : List ℕ
  pub ids : List (List ℕ)

abbrev pub row : Tag → List ℕ → List (List ℕ) → Row
row tag name ids = record { tag = tag; name = name; ids = ids }

-- the tag whose number is 0, that whose number is 1, and so on
unfoldable pub table : List Row
table =
    row tag.Title (codes "Title") (codes "INAM" ∷ []) ∷
    row tag.Artist (codes "Artist") (codes "IART" ∷ []) ∷
    row tag.Album (codes "Album") (codes "IPRD" ∷ []) ∷
    row tag.Date (codes "Date") (codes "ICRD" ∷ []) ∷
    row tag.Genre (codes "Genre") (codes "IGNR" ∷ []) ∷
    row tag.Comment (codes "Comment") (codes "ICMT" ∷ []) ∷
    row tag.ArtistSort (codes "ArtistSort") [] ∷
    row tag.AlbumSort (codes "AlbumSort") [] ∷
    row tag.AlbumArtist (codes "AlbumArtist") [] ∷
    row tag.AlbumArtistSort (codes "AlbumArtistSort") [] ∷
    row tag.Track (codes "Track") (codes "ITRK" ∷ codes "IPRT" ∷ []) ∷
    row tag.Name (codes "Name") [] ∷
    row tag.OriginalDate (codes "OriginalDate") [] ∷
    row tag.Composer (codes "Composer") (codes "IMUS" ∷ []) ∷
    row tag.ComposerSort (codes "ComposerSort") [] ∷
    row tag.Performer (codes "Performer") [] ∷
    row tag.Conductor (codes "Conductor") [] ∷
    row tag.Work (codes "Work") [] ∷
    row tag.Movement (codes "Movement") [] ∷
    row tag.MovementNumber (codes "MovementNumber") [] ∷
    row tag.Ensemble (codes "Ensemble") [] ∷
    row tag.Location (codes "Location") [] ∷
    row tag.Grouping (codes "Grouping") [] ∷
    row tag.Disc (codes "Disc") [] ∷
    row tag.Label (codes "Label") [] ∷
    row tag.MusicBrainzArtistId (codes "MUSICBRAINZ_ARTISTID") [] ∷
    row tag.MusicBrainzAlbumId (codes "MUSICBRAINZ_ALBUMID") [] ∷
    row tag.MusicBrainzAlbumArtistId (codes "MUSICBRAINZ_ALBUMARTISTID") [] ∷
    row tag.MusicBrainzTrackId (codes "MUSICBRAINZ_TRACKID") [] ∷
    row tag.MusicBrainzReleaseTrackId (codes "MUSICBRAINZ_RELEASETRACKID") [] ∷
    row tag.MusicBrainzWorkId (codes "MUSICBRAINZ_WORKID") [] ∷
    []

abbrev pub is_tag : Tag → Tag → Bool
is_tag tag other = sameb the_type tag other

unfoldable pub all_tags : List Tag
all_tags = map (λ (row : Row). row.tag) table

-- a tag's number is the place of its row, the first one's 0
unfoldable pub number_of : Tag → ℕ
number_of tag = position_or_len (λ (row : Row). is_tag row.tag tag) table

-- the tag with a number
unfoldable pub tag_at : ℕ → Option Tag
tag_at number = slice_get all_tags number

abbrev pub name_in : List Row → Tag → List ℕ
name_in [] tag = []
name_in (row ∷ rows) tag = if is_tag row.tag tag then row.name else name_in rows tag

-- how a tag is printed
unfoldable pub name_of : Tag → List ℕ
name_of tag = name_in table tag

-- two texts are the same but for the case of ASCII letters
abbrev pub same_letters : List ℕ → List ℕ → Bool
same_letters text other = bytes_eq (map to_ascii_lowercase text) (map to_ascii_lowercase other)

-- the tag that a text names
unfoldable pub tag_named : List ℕ → Option Tag
tag_named text = option_map (λ (row : Row). row.tag) (find (λ (row : Row). same_letters row.name text) table)

-- the tag whose text a chunk of this id has
unfoldable pub info_tag : List ℕ → Option Tag
info_tag id = option_map (λ (row : Row). row.tag) (find (λ (row : Row). list_any (λ own. bytes_eq own id) row.ids) table)
