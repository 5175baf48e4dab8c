-- The tags that frames of ID3v2 tell, as MPD 0.23 has it.
use Rattle.std.specs.Prelude.{ℕ, Bool, List, [], ◌∷◌, Option, ◌&&◌, codes, option_map}
use Rattle.std.specs.List.{find}
use Rattle.std.specs.Option.{option_or}
use Rattle.std.specs.Str.{bytes_eq}
use Rattle.song_files.specs.declared.tag.Tag.{Tag}
use Rattle.song_files.specs.declared.tag.Tag.TheVariants as tag

-- the id of a frame, and the tag that it tells, whatever its description
pub record Frame : Type 0 where
  pub id : List ℕ
  pub tag : Tag

abbrev pub frame : List ℕ → Tag → Frame
frame id tag = record { id = id; tag = tag }

unfoldable pub frames : List Frame
frames =
    frame (codes "TIT2") tag.Title ∷
    frame (codes "TPE1") tag.Artist ∷
    frame (codes "TALB") tag.Album ∷
    frame (codes "TDRC") tag.Date ∷
    frame (codes "TYER") tag.Date ∷
    frame (codes "TCON") tag.Genre ∷
    frame (codes "COMM") tag.Comment ∷
    frame (codes "TSOP") tag.ArtistSort ∷
    frame (codes "TSOA") tag.AlbumSort ∷
    frame (codes "TPE2") tag.AlbumArtist ∷
    frame (codes "TSO2") tag.AlbumArtistSort ∷
    frame (codes "TRCK") tag.Track ∷
    frame (codes "TDOR") tag.OriginalDate ∷
    frame (codes "TORY") tag.OriginalDate ∷
    frame (codes "TCOM") tag.Composer ∷
    frame (codes "TPE4") tag.Performer ∷
    frame (codes "TPE3") tag.Conductor ∷
    frame (codes "TIT1") tag.Grouping ∷
    frame (codes "TPOS") tag.Disc ∷
    frame (codes "TPUB") tag.Label ∷
    []

-- the id of a frame, its description (of UFID its owner), and the tag that both tell
pub record Described : Type 0 where
  pub id : List ℕ
  pub description : List ℕ
  pub tag : Tag

abbrev pub described : List ℕ → List ℕ → Tag → Described
described id description tag = record { id = id; description = description; tag = tag }

unfoldable pub described_frames : List Described
described_frames =
    described (codes "TXXX") (codes "ALBUMARTISTSORT") tag.AlbumArtistSort ∷
    described (codes "TXXX") (codes "MusicBrainz Artist Id") tag.MusicBrainzArtistId ∷
    described (codes "TXXX") (codes "MusicBrainz Album Id") tag.MusicBrainzAlbumId ∷
    described (codes "TXXX") (codes "MusicBrainz Album Artist Id") tag.MusicBrainzAlbumArtistId ∷
    described (codes "TXXX") (codes "MusicBrainz Track Id") tag.MusicBrainzTrackId ∷
    described (codes "UFID") (codes "http://musicbrainz.org") tag.MusicBrainzTrackId ∷
    described (codes "TXXX") (codes "MusicBrainz Release Track Id") tag.MusicBrainzReleaseTrackId ∷
    described (codes "TXXX") (codes "MusicBrainz Work Id") tag.MusicBrainzWorkId ∷
    []

-- the comments of FLAC files for which no frame stands, by their names
unfoldable pub comments : List Described
comments =
    described (codes "TXXX") (codes "COMPOSERSORT") tag.ComposerSort ∷
    described (codes "TXXX") (codes "NAME") tag.Name ∷
    described (codes "TXXX") (codes "WORK") tag.Work ∷
    described (codes "TXXX") (codes "MOVEMENT") tag.Movement ∷
    described (codes "TXXX") (codes "MOVEMENTNUMBER") tag.MovementNumber ∷
    described (codes "TXXX") (codes "ENSEMBLE") tag.Ensemble ∷
    described (codes "TXXX") (codes "LOCATION") tag.Location ∷
    []

abbrev pub has_id : List ℕ → Frame → Bool
has_id id f = bytes_eq f.id id

abbrev pub is_described : List ℕ → List ℕ → Described → Bool
is_described id description f = bytes_eq f.id id && bytes_eq f.description description

abbrev pub tag_by_id : List ℕ → Option Tag
tag_by_id id = option_map (λ (f : Frame). f.tag) (find (has_id id) frames)

abbrev pub tag_by_description : List ℕ → List ℕ → Option Tag
tag_by_description id description = option_map (λ (f : Described). f.tag) (find (is_described id description) described_frames)

-- the tag that a frame with this id and description tells
unfoldable pub frame_tag : List ℕ → List ℕ → Option Tag
frame_tag id description = option_or (tag_by_id id) (tag_by_description id description)

-- the tag of a comment that is told by its name
abbrev pub comment_tag : List ℕ → List ℕ → Option Tag
comment_tag id description = option_map (λ (f : Described). f.tag) (find (is_described id description) comments)
