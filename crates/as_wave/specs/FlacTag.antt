-- The ID3v2.4 tag of a FLAC file's comments and of one of its pictures.
use Rattle.std.specs.Prelude.{ℕ, ◌+◌, ◌==◌, ◌&&◌, ◌||◌, List, [], ◌∷◌, ◌++◌, length, nat_lt, nat_le, Bool, codes, slice_range}
use Rattle.std.specs.Prelude.{Option, Some, None, option_map, if◌then◌else◌}
use Rattle.std.specs.List.{find, filter_map, list_any}
use Rattle.std.specs.Option.{option_or}
use Rattle.std.specs.Str.{bytes_eq}
use Rattle.song_files.specs.Text.{is_tag_text}
use Rattle.id3_tags.specs.Writing.{WrittenText, WrittenPicture, can_write, written}
use Rattle.flac.specs.Comments.{CommentText}
use Rattle.flac.specs.Pictures.{PicturePlace}
use Rattle.flac.specs.declared.head.FlacHead.{FlacHead}
use Rattle.as_wave.specs.FlacNames.{FrameName, frame_named}

-- the number of tracks
abbrev pub is_total : CommentText → Bool
is_total c = bytes_eq c.name (codes "TRACKTOTAL") || bytes_eq c.name (codes "TOTALTRACKS")

abbrev pub total_in : List CommentText → Option (List ℕ)
total_in comments = option_map (λ (c : CommentText). c.value) (find is_total comments)

abbrev pub has_slash : List ℕ → Bool
has_slash text = list_any (λ b. b == 47) text

-- a number and the total behind a slash, where that is the text of a tag
abbrev pub with_total : List ℕ → List ℕ → List ℕ
with_total number total = if is_tag_text (number ++ 47 ∷ total) then number ++ 47 ∷ total else number

-- the number of a track, with the total if that is told elsewhere
abbrev pub numbered : Option (List ℕ) → List ℕ → List ℕ
numbered None number = number
numbered (Some total) number = if has_slash number then number else with_total number total

abbrev pub value_in : Option (List ℕ) → FrameName → List ℕ → List ℕ
value_in total name value = if bytes_eq name.id (codes "TRCK") then numbered total value else value

-- the frame of a comment
abbrev pub text_with : Option (List ℕ) → List ℕ → FrameName → WrittenText
text_with total value name = record { id = name.id; description = name.description; values = value_in total name value ∷ [] }

abbrev pub text_for : Option (List ℕ) → CommentText → Option WrittenText
text_for total c = option_map (text_with total c.value) (frame_named c.name)

-- the frames of the comments that have one, in their order
abbrev pub comment_texts : List CommentText → List WrittenText
comment_texts comments = filter_map (text_for (total_in comments)) comments

-- what says that the texts are Vorbis comments
abbrev pub mark : WrittenText
mark = record { id = codes "TXXX"; description = codes "Vorbis comments"; values = codes "FLAC" ∷ [] }

abbrev pub texts_for : List CommentText → List WrittenText
texts_for comments = comment_texts comments ++ mark ∷ []

-- a picture that can be told: it has a media type, and its bytes stand in the file
abbrev pub is_cover : ℕ → PicturePlace → Bool
is_cover end picture = nat_lt 0 (length picture.media_type) && nat_le (picture.first + picture.len) end

-- one that shows the front (RFC 9639, section 8.8)
abbrev pub is_front_cover : ℕ → PicturePlace → Bool
is_front_cover end picture = picture.kind == 3 && is_cover end picture

-- the first front cover, else the first picture
abbrev pub cover_in : ℕ → List PicturePlace → Option PicturePlace
cover_in end pictures = option_or (find (is_front_cover end) pictures) (find (is_cover end) pictures)

-- a type of more than a byte is 0, which is any other
abbrev pub front_of : PicturePlace → WrittenPicture
front_of picture = record {
  kind = if nat_lt picture.kind 256 then picture.kind else 0;
  mime = picture.media_type;
  description = [];
  len = picture.len;
}

abbrev pub cover_bytes : List ℕ → Option PicturePlace → List ℕ
cover_bytes file None = []
cover_bytes file (Some picture) = slice_range file picture.first (picture.first + picture.len)

-- the tag, if it can be written
abbrev pub tag_bytes : List ℕ → List WrittenText → Option PicturePlace → Option (List ℕ)
tag_bytes file texts cover =
    if can_write texts (option_map front_of cover) then Some (written texts (option_map front_of cover) ++ cover_bytes file cover) else None

abbrev pub cover_of : List ℕ → FlacHead → Option PicturePlace
cover_of file head = cover_in (length file) head.pictures

-- the tag of a file with this head
unfoldable pub tag_of : List ℕ → FlacHead → Option (List ℕ)
tag_of file head = tag_bytes file (texts_for head.comments) (cover_of file head)
