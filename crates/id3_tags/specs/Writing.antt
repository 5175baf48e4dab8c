-- What is written: a tag of version 2.4 in UTF-8, without unsynchronisation (ID3v2.4.0 structure, sections 3 and 4).
use Rattle.std.specs.Prelude.{◌≡◌, ℕ, ◌+◌, ◌/◌, ◌%◌, ◌==◌, List, [], ◌∷◌, ◌++◌, length, map, take, sum_by, Bool, not, ◌&&◌, ◌||◌, nat_lt}
use Rattle.std.specs.Prelude.{nat_le, codes, Option, Some, option_to_list, slice_range, if◌then◌else◌}
use Rattle.std.specs.List.{flat_map, list_all}
use Rattle.song_files.specs.Text.{is_tag_text}
use Rattle.id3_tags.specs.Limits.{MAX_FRAMES, MAX_TEXTS, MAX_TEXT_LEN, MAX_SIZE}
use Rattle.id3_tags.specs.Texts.{FrameText, is_text, is_comment, is_owned, is_described}
use Rattle.id3_tags.specs.Pictures.{FramePicture}
use Rattle.id3_tags.specs.Frames.{is_id_byte}
use Rattle.id3_tags.specs.Reading.{tag_in}
use Rattle.id3_tags.specs.declared.tag.Id3Tag.{Id3Tag}

-- a text frame, with several values
pub record WrittenText : Type 0 where
  pub id : List ℕ
  pub description : List ℕ
  pub values : List (List ℕ)

-- a picture whose bytes stand elsewhere
pub record WrittenPicture : Type 0 where
  pub kind : ℕ
  pub mime : List ℕ
  pub description : List ℕ
  pub len : ℕ

-- a synchsafe number of 28 bits
abbrev pub safe_bytes : ℕ → List ℕ
safe_bytes n = n / 2097152 % 128 ∷ n / 16384 % 128 ∷ n / 128 % 128 ∷ n % 128 ∷ []

-- a string with the zero at its end
abbrev pub terminated : List ℕ → List ℕ
terminated string = string ++ 0 ∷ []

-- the strings of a frame
abbrev pub strings_for : WrittenText → List (List ℕ)
strings_for frame = if is_described frame.id then frame.description ∷ frame.values else frame.values

-- the language of a comment, which isn't known
abbrev pub language_for : List ℕ → List ℕ
language_for id = if is_comment id then codes "XXX" else []

-- the data of a text frame: the encoding UTF-8 and the strings
abbrev pub text_data : WrittenText → List ℕ
text_data frame = 3 ∷ (language_for frame.id ++ flat_map terminated (strings_for frame))

-- the front of a frame of so many bytes, without flags
abbrev pub frame_front : List ℕ → ℕ → List ℕ
frame_front id size = id ++ safe_bytes size ++ 0 ∷ 0 ∷ []

abbrev pub written_text : WrittenText → List ℕ
written_text frame = frame_front frame.id (length (text_data frame)) ++ text_data frame

-- what stands before the bytes of a picture
abbrev pub picture_data : WrittenPicture → List ℕ
picture_data picture = 3 ∷ (terminated picture.mime ++ picture.kind ∷ terminated picture.description)

abbrev pub written_picture : WrittenPicture → List ℕ
written_picture picture = frame_front (codes "APIC") (length (picture_data picture) + picture.len) ++ picture_data picture

-- the frames up to the bytes of the picture, which stands last
abbrev pub written_frames : List WrittenText → Option WrittenPicture → List ℕ
written_frames frames picture = flat_map written_text frames ++ flat_map written_picture (option_to_list picture)

-- how many bytes the picture has that stands elsewhere
abbrev pub picture_len : Option WrittenPicture → ℕ
picture_len picture = sum_by (λ p. p.len) (option_to_list picture)

-- how many bytes stand behind the head of the tag, those of the picture counted
abbrev pub size_of : List WrittenText → Option WrittenPicture → ℕ
size_of frames picture = length (written_frames frames picture) + picture_len picture

-- the head of a tag of this size
abbrev pub tag_front : ℕ → List ℕ
tag_front size = codes "ID3" ++ 4 ∷ 0 ∷ 0 ∷ [] ++ safe_bytes size

-- the bytes of the tag up to those of the picture
abbrev pub written : List WrittenText → Option WrittenPicture → List ℕ
written frames picture = tag_front (size_of frames picture) ++ written_frames frames picture

abbrev pub has_no_zero : List ℕ → Bool
has_no_zero bytes = list_all (λ b. not (b == 0)) bytes

-- the text of a tag, which has no zero
abbrev pub is_string : List ℕ → Bool
is_string text = is_tag_text text && has_no_zero text

-- the same, or none
abbrev pub is_string_or_none : List ℕ → Bool
is_string_or_none text = length text == 0 || is_string text

abbrev pub has_fit_description : WrittenText → Bool
has_fit_description frame =
    if is_described frame.id then is_string_or_none frame.description else length frame.description == 0

-- a text frame or a comment whose values are texts of tags
abbrev pub has_texts : WrittenText → Bool
has_texts frame = length frame.id == 4 && list_all is_id_byte frame.id && is_text frame.id && not (is_owned frame.id)
    && has_fit_description frame
    && list_all is_string frame.values

-- one that isn't too long to be read
abbrev pub is_writable : WrittenText → Bool
is_writable frame = has_texts frame && nat_le (length (text_data frame)) MAX_TEXT_LEN

abbrev pub is_writable_picture : WrittenPicture → Bool
is_writable_picture picture = is_string picture.mime && is_string_or_none picture.description

-- what can be written: the size of a tag has 28 bits, and a picture's frame is looked at too
abbrev pub can_write : List WrittenText → Option WrittenPicture → Bool
can_write frames picture = nat_lt (length frames) MAX_FRAMES && list_all is_writable frames
    && list_all is_writable_picture (option_to_list picture) && nat_lt (size_of frames picture) MAX_SIZE

-- the texts of a frame, as they are read
abbrev pub texts_given : WrittenText → List FrameText
texts_given frame = map (λ v. record { id = frame.id; language = codes "XXX"; description = frame.description; value = v }) frame.values

-- the picture, as it is read: its bytes stand behind what was written
abbrev pub picture_given : ℕ → WrittenPicture → FramePicture
picture_given first picture = record {
  kind = picture.kind;
  mime = picture.mime;
  description = picture.description;
  first = first;
  len = picture.len;
}

-- the tag, as it is read where it begins at `first`
abbrev pub tag_given : List WrittenText → Option WrittenPicture → ℕ → Id3Tag
tag_given frames picture first = record {
  version = 4;
  texts = take MAX_TEXTS (flat_map texts_given frames);
  pictures = map (picture_given (first + length (written frames picture))) (option_to_list picture);
}

-- these bytes stand in the file from `at` on
abbrev pub Stands : List ℕ → ℕ → List ℕ → Type 0
Stands file at bytes = slice_range file at (at + length bytes) ≡ bytes

-- Wherever these bytes stand in a file with those of the picture behind them, what was written is read.
abbrev pub IsReadBack : List WrittenText → Option WrittenPicture → List ℕ → Type 0
IsReadBack frames picture bytes = (file tail : List ℕ) (first : ℕ) → length tail ≡ picture_len picture → Stands file first (bytes ++ tail)
    → tag_in file first (first + length (bytes ++ tail)) ≡ Some (tag_given frames picture first)
