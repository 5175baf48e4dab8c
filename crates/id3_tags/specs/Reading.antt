-- The one reading of a tag.
use Rattle.std.specs.Prelude.{ℕ, ◌+◌, ◌-◌, List, [], take, length, min, slice_range, nat_lt, nat_le, Bool, not, ◌&&◌, ◌==◌, Option}
use Rattle.std.specs.Prelude.{None, option_map, if◌then◌else◌}
use Rattle.std.specs.List.{flat_map}
use Rattle.id3_tags.specs.Limits.{MAX_FRAMES, MAX_TEXTS, MAX_WHOLE_LEN}
use Rattle.id3_tags.specs.Numbers.{plain_at, synchsafe_at, has_flag}
use Rattle.id3_tags.specs.Unsynchronisation.{resynchronised}
use Rattle.id3_tags.specs.Frames.{heads_in, texts_at, pictures_at}
use Rattle.id3_tags.specs.TagHead.{head_in}
use Rattle.id3_tags.specs.declared.frame_head.Layout.{Layout}
use Rattle.id3_tags.specs.declared.tag_head.TagHead.{TagHead}
use Rattle.id3_tags.specs.declared.tag.Id3Tag.{Id3Tag}

-- the texts and the pictures of the frames from `first` up to `end`, in their order
unfoldable pub tag_of_frames : Layout → List ℕ → ℕ → ℕ → Id3Tag
tag_of_frames layout file first end = record {
  version = layout.version;
  texts = take MAX_TEXTS (flat_map (texts_at file) (heads_in MAX_FRAMES layout file first end));
  pictures = flat_map (pictures_at file) (heads_in MAX_FRAMES layout file first end);
}

abbrev pub empty_tag : ℕ → Id3Tag
empty_tag version = record { version = version; texts = []; pictures = [] }

-- how many bytes an extended head has: the size of 2.3 doesn't count its own four bytes
abbrev pub extended_len : ℕ → List ℕ → ℕ
extended_len version bytes = if version == 3 then 4 + plain_at 0 bytes else synchsafe_at 0 bytes

-- where the frames begin, behind an extended head
abbrev pub frames_start : TagHead → List ℕ → ℕ → ℕ → ℕ
frames_start head file first end =
    if has_flag head.flags 64 && nat_le 4 (end - first)
    then min (first + extended_len head.version (slice_range file first (first + 4))) end
    else first

-- a tag of 2.2 that is compressed, of which nothing is known
abbrev pub is_compressed : TagHead → Bool
is_compressed head = head.version == 2 && has_flag head.flags 64

abbrev pub layout_of : TagHead → Layout
layout_of head = record { version = head.version; unsynchronised = head.version == 4 && has_flag head.flags 128 }

-- what stands from `first` up to `end`, behind the head of the tag
abbrev pub tag_behind : TagHead → List ℕ → ℕ → ℕ → Id3Tag
tag_behind head file first end =
    if is_compressed head then empty_tag head.version
    else tag_of_frames (layout_of head) file (frames_start head file first end) end

-- before version 2.4 a tag is unsynchronised as a whole
abbrev pub is_whole : TagHead → Bool
is_whole head = nat_le head.version 3 && has_flag head.flags 128

-- its pictures stand nowhere in the source as they are
abbrev pub without_pictures : Id3Tag → Id3Tag
without_pictures tag = record { version = tag.version; texts = tag.texts; pictures = [] }

abbrev pub tag_of_whole : TagHead → List ℕ → Id3Tag
tag_of_whole head bytes = without_pictures (tag_behind head (resynchronised bytes) 0 (length (resynchronised bytes)))

abbrev pub tag_by : List ℕ → ℕ → ℕ → TagHead → Id3Tag
tag_by file first end head =
    let stop = min (first + 10 + head.size) end in
    if not (is_whole head) then tag_behind head file (first + 10) stop
    else if nat_lt MAX_WHOLE_LEN (stop - (first + 10)) then empty_tag head.version
    else tag_of_whole head (slice_range file (first + 10) stop)

-- the tag that begins at `first` in the file and ends before `end`, if one begins there
abbrev pub tag_in : List ℕ → ℕ → ℕ → Option Id3Tag
tag_in file first end =
    if nat_lt (end - first) 10 then None else option_map (tag_by file first end) (head_in (slice_range file first (first + 10)))
