-- What the texts of ID3v2 frames tell of tags, as MPD 0.23 has it.
use Rattle.std.specs.Prelude.{ℕ, Bool, false, not, Option, ◌&&◌, ◌||◌, nat_le, List, [], ◌∷◌, map, filter, codes, if◌then◌else◌}
use Rattle.std.specs.List.{flat_map, list_any}
use Rattle.std.specs.Option.{option_map_or, option_or}
use Rattle.std.specs.Str.{bytes_eq}
use Rattle.id3_tags.specs.Texts.{FrameText}
use Rattle.song_files.specs.Tag.{is_tag}
use Rattle.song_files.specs.Text.{is_tag_text}
use Rattle.song_files.specs.declared.tag.Tag.{Tag}
use Rattle.song_files.specs.declared.tag.Tag.TheVariants.{Genre, Track, Disc}
use Rattle.song_head.specs.FrameTags.{comment_tag, frame_tag}
use Rattle.song_head.specs.Genres.{genre_name, genres_in}
use Rattle.song_head.specs.Numbers.{number_text}
use Rattle.song_head.specs.declared.manner.Manner.{Manner}
use Rattle.song_head.specs.declared.manner.Manner.TheVariants.{First, OfComments, OfVersion}

-- bytes up to that of the blank, which are in front
abbrev pub without_front : List ℕ → List ℕ
without_front [] = []
without_front (b ∷ text) = if nat_le b 32 then without_front text else b ∷ text

-- and those at the end
abbrev pub with_byte : ℕ → List ℕ → List ℕ
with_byte b [] = if nat_le b 32 then [] else b ∷ []
with_byte b (c ∷ text) = b ∷ c ∷ text

abbrev pub without_end : List ℕ → List ℕ
without_end [] = []
without_end (b ∷ text) = with_byte b (without_end text)

abbrev pub cut : List ℕ → List ℕ
cut text = without_end (without_front text)

-- the tags that are numbers
abbrev pub is_number : Tag → Bool
is_number tag = is_tag tag Track || is_tag tag Disc

-- a text as it is told: of a number its digits
abbrev pub told_as : Tag → List ℕ → List ℕ
told_as tag text = if is_number tag then number_text text else text

-- the mark of a tag that stands for the comments of a FLAC file
abbrev pub is_mark : FrameText → Bool
is_mark frame = bytes_eq frame.id (codes "TXXX") && bytes_eq frame.description (codes "Vorbis comments")

abbrev pub are_comments : List FrameText → Bool
are_comments frames = list_any is_mark frames

-- how the texts of a tag of this version are taken: all of them as MPD tells them, or the first as it stands
abbrev pub manner_of : Bool → ℕ → List FrameText → Manner
manner_of several version frames =
    if not several then First else (if are_comments frames then OfComments else OfVersion version)

-- the tag that a frame tells: of the comments of a FLAC file some have no frame of ID3v2, and are told by their names
abbrev pub tag_told : Manner → FrameText → Option Tag
tag_told OfComments frame = option_or (comment_tag frame.id frame.description) (frame_tag frame.id frame.description)
tag_told manner frame = frame_tag frame.id frame.description

abbrev pub is_told : Manner → Tag → FrameText → Bool
is_told manner tag frame = option_map_or (λ own. is_tag own tag) (tag_told manner frame) false

-- frames whose texts stand behind a description, but comments, are told as they stand
abbrev pub is_cut : List ℕ → Bool
is_cut id = not (bytes_eq id (codes "TXXX") || bytes_eq id (codes "UFID"))

-- the texts of a frame without the bytes around them, of genres by their names
abbrev pub cut_texts : ℕ → Tag → FrameText → List (List ℕ)
cut_texts version tag frame =
    if not (is_cut frame.id) then frame.value ∷ []
    else if is_tag tag Genre then map (λ text. cut (genre_name text)) (genres_in version frame.value)
    else cut frame.value ∷ []

abbrev pub texts_of : Manner → Tag → FrameText → List (List ℕ)
texts_of (OfVersion version) tag frame = cut_texts version tag frame
texts_of manner tag frame = frame.value ∷ []

-- what a frame tells of a tag
abbrev pub told_by : Manner → Tag → FrameText → List (List ℕ)
told_by manner tag frame =
    if is_told manner tag frame then filter is_tag_text (map (told_as tag) (texts_of manner tag frame)) else []

-- the texts that frames tell of a tag, in their order, which have the form of a tag's
abbrev pub texts_told : Manner → List FrameText → Tag → List (List ℕ)
texts_told manner frames tag = flat_map (told_by manner tag) frames
