-- The frames of ID3v2.4 in which MPD reads its tags, by the names of the Vorbis comments that tell the same. Some have none, and are
-- described by their names.
use Rattle.std.specs.Prelude.{ℕ, List, [], ◌∷◌, Option, codes}
use Rattle.std.specs.List.{find}
use Rattle.std.specs.Str.{bytes_eq}

-- a comment's name, and the id of its frame, with a description where the frame has one
pub record FrameName : Type 0 where
  pub name : List ℕ
  pub id : List ℕ
  pub description : List ℕ

abbrev pub frame : List ℕ → List ℕ → List ℕ → FrameName
frame name id description = record { name = name; id = id; description = description }

unfoldable pub frame_names : List FrameName
frame_names =
    frame (codes "TITLE") (codes "TIT2") [] ∷
    frame (codes "ARTIST") (codes "TPE1") [] ∷
    frame (codes "ARTISTSORT") (codes "TSOP") [] ∷
    frame (codes "ALBUM") (codes "TALB") [] ∷
    frame (codes "ALBUMSORT") (codes "TSOA") [] ∷
    frame (codes "ALBUMARTIST") (codes "TPE2") [] ∷
    frame (codes "ALBUM ARTIST") (codes "TPE2") [] ∷
    frame (codes "ALBUMARTISTSORT") (codes "TSO2") [] ∷
    frame (codes "TRACKNUMBER") (codes "TRCK") [] ∷
    frame (codes "TRACK") (codes "TRCK") [] ∷
    frame (codes "GENRE") (codes "TCON") [] ∷
    frame (codes "DATE") (codes "TDRC") [] ∷
    frame (codes "ORIGINALDATE") (codes "TDOR") [] ∷
    frame (codes "COMPOSER") (codes "TCOM") [] ∷
    frame (codes "PERFORMER") (codes "TPE4") [] ∷
    frame (codes "CONDUCTOR") (codes "TPE3") [] ∷
    frame (codes "GROUPING") (codes "TIT1") [] ∷
    frame (codes "COMMENT") (codes "COMM") [] ∷
    frame (codes "DESCRIPTION") (codes "COMM") [] ∷
    frame (codes "DISCNUMBER") (codes "TPOS") [] ∷
    frame (codes "DISC") (codes "TPOS") [] ∷
    frame (codes "LABEL") (codes "TPUB") [] ∷
    frame (codes "ORGANIZATION") (codes "TPUB") [] ∷
    frame (codes "MUSICBRAINZ_ARTISTID") (codes "TXXX") (codes "MusicBrainz Artist Id") ∷
    frame (codes "MUSICBRAINZ_ALBUMID") (codes "TXXX") (codes "MusicBrainz Album Id") ∷
    frame (codes "MUSICBRAINZ_ALBUMARTISTID") (codes "TXXX") (codes "MusicBrainz Album Artist Id") ∷
    frame (codes "MUSICBRAINZ_TRACKID") (codes "TXXX") (codes "MusicBrainz Track Id") ∷
    frame (codes "MUSICBRAINZ_RELEASETRACKID") (codes "TXXX") (codes "MusicBrainz Release Track Id") ∷
    frame (codes "MUSICBRAINZ_WORKID") (codes "TXXX") (codes "MusicBrainz Work Id") ∷
    frame (codes "COMPOSERSORT") (codes "TXXX") (codes "COMPOSERSORT") ∷
    frame (codes "NAME") (codes "TXXX") (codes "NAME") ∷
    frame (codes "WORK") (codes "TXXX") (codes "WORK") ∷
    frame (codes "MOVEMENT") (codes "TXXX") (codes "MOVEMENT") ∷
    frame (codes "MOVEMENTNUMBER") (codes "TXXX") (codes "MOVEMENTNUMBER") ∷
    frame (codes "ENSEMBLE") (codes "TXXX") (codes "ENSEMBLE") ∷
    frame (codes "LOCATION") (codes "TXXX") (codes "LOCATION") ∷
    []

-- the frame for the comments of a name, in upper case
unfoldable pub frame_named : List ℕ → Option FrameName
frame_named name = find (λ (f : FrameName). bytes_eq f.name name) frame_names
