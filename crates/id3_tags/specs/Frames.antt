-- The frames of a tag (ID3v2.4.0 structure, section 4; 2.3.0, section 3.3; 2.2.0, section 3.2).
use Rattle.std.specs.Prelude.{ℕ, zero, suc, ◌+◌, ◌-◌, ◌≤◌, List, [], ◌∷◌, ◌++◌, take, min, slice_index, slice_range, nat_lt, nat_le}
use Rattle.std.specs.Prelude.{Bool, false, ◌&&◌, ◌||◌, not, ◌==◌, Option, Some, None, option_to_list, codes, if◌then◌else◌}
use Rattle.std.specs.List.{find, list_all}
use Rattle.std.specs.Option.{option_map_or}
use Rattle.std.specs.Str.{bytes_eq}
use Rattle.id3_tags.specs.Limits.{MAX_TEXT_LEN, MAX_FRONT_LEN}
use Rattle.id3_tags.specs.Numbers.{plain_at, short_at, synchsafe_at, has_flag}
use Rattle.id3_tags.specs.Unsynchronisation.{resynchronised}
use Rattle.id3_tags.specs.Texts.{FrameText, is_text, texts_of}
use Rattle.id3_tags.specs.Pictures.{FramePicture, is_picture, picture_of}
use Rattle.id3_tags.specs.declared.frame_head.FrameHead.{FrameHead}
use Rattle.id3_tags.specs.declared.frame_head.Layout.{Layout}

-- a capital letter or a digit
abbrev pub is_id_byte : ℕ → Bool
is_id_byte b = nat_le 65 b && nat_le b 90 || nat_le 48 b && nat_le b 57

-- the ids of 2.2 and those of 2.4 that took their place
abbrev pub heirs : List (List ℕ × List ℕ)
heirs =
    (codes "TT1", codes "TIT1") ∷ (codes "TT2", codes "TIT2") ∷ (codes "TT3", codes "TIT3") ∷ (codes "TP1", codes "TPE1")
    ∷ (codes "TP2", codes "TPE2") ∷ (codes "TP3", codes "TPE3") ∷ (codes "TP4", codes "TPE4") ∷ (codes "TAL", codes "TALB")
    ∷ (codes "TRK", codes "TRCK") ∷ (codes "TPA", codes "TPOS") ∷ (codes "TYE", codes "TYER") ∷ (codes "TCO", codes "TCON")
    ∷ (codes "TCM", codes "TCOM") ∷ (codes "TPB", codes "TPUB") ∷ (codes "TOR", codes "TORY") ∷ (codes "TSP", codes "TSOP")
    ∷ (codes "TSA", codes "TSOA") ∷ (codes "TST", codes "TSOT") ∷ (codes "TS2", codes "TSO2") ∷ (codes "TSC", codes "TSOC")
    ∷ (codes "TXX", codes "TXXX") ∷ (codes "COM", codes "COMM") ∷ (codes "UFI", codes "UFID") ∷ []

-- the id of four letters for one of three: that of its heir, or its own with a space behind it
abbrev pub long_id : List ℕ → List ℕ
long_id id = option_map_or (λ heir. heir.1) (find (λ heir. bytes_eq heir.0 id) heirs) (id ++ 32 ∷ [])

-- A frame with so many bytes from `first` on, of which the first `added` tell of the frame and belong not to its data.
-- One that goes past the end of the tag is none.
abbrev pub framed : List ℕ → ℕ → ℕ → ℕ → Bool → Bool → ℕ → Option FrameHead
framed id first size added hidden unsynchronised end =
    if nat_le size (end - first) then Some (record {
      id = id;
      first = first + min added size;
      len = size - added;
      next = first + size;
      hidden = hidden;
      unsynchronised = unsynchronised;
    }) else None

-- how many bytes the head of a frame has
abbrev pub head_len : Layout → ℕ
head_len layout = if layout.version == 2 then 6 else 10

-- 2.2: three letters and three bytes of size
abbrev pub head_of_2 : List ℕ → ℕ → ℕ → Option FrameHead
head_of_2 bytes at end =
    if list_all is_id_byte (take 3 bytes) then framed (long_id (take 3 bytes)) (at + 6) (short_at 3 bytes) 0 false false end else None

-- 2.3: four letters, four bytes of size, two of flags. A frame of a group has the group's byte before its data.
abbrev pub head_of_3 : List ℕ → ℕ → ℕ → Option FrameHead
head_of_3 bytes at end =
    let flags = slice_index bytes 9 in
    if list_all is_id_byte (take 4 bytes) then framed (take 4 bytes) (at + 10) (plain_at 4 bytes) (if has_flag flags 32 then 1
    else 0) (has_flag flags 128 || has_flag flags 64) false end else None

-- how many bytes of a frame of 2.4 stand before its data: a group's byte and the length of the data
abbrev pub added_by : ℕ → ℕ
added_by flags = (if has_flag flags 64 then 1 else 0) + (if has_flag flags 1 then 4 else 0)

-- 2.4: the size is synchsafe
abbrev pub head_of_4 : Bool → List ℕ → ℕ → ℕ → Option FrameHead
head_of_4 unsynchronised bytes at end =
    let flags = slice_index bytes 9 in
    if list_all is_id_byte (take 4 bytes)
    then framed (take 4 bytes) (at + 10) (synchsafe_at 4 bytes) (added_by flags) (has_flag flags 8 || has_flag flags 4)
    (unsynchronised || has_flag flags 2)
    end else None

-- the frame at `at`, by the bytes of its head; padding has no id, and so ends the frames
abbrev pub head_of : Layout → List ℕ → ℕ → ℕ → Option FrameHead
head_of layout bytes at end =
    if layout.version == 2 then head_of_2 bytes at end
    else if layout.version == 3 then head_of_3 bytes at end
    else head_of_4 layout.unsynchronised bytes at end

-- the frame's data end with it, and it ends by `end`
pub record IsWithin (end : ℕ) (head : FrameHead) : Type 0 where
  pub data_end : head.first + head.len ≤ head.next
  pub next_end : head.next ≤ end

abbrev pub head_at : Layout → List ℕ → ℕ → ℕ → Option FrameHead
head_at layout file at end =
    if nat_lt (end - at) (head_len layout) then None
    else head_of layout (slice_range file at (at + head_len layout)) at end

-- the heads of the frames that stand one behind the other in the file from `at` up to `end`, at most so many
unfoldable pub heads_in : ℕ → Layout → List ℕ → ℕ → ℕ → List FrameHead
heads_in zero layout file at end = []
heads_in (suc most) layout file at end =
    option_map_or (λ head. head ∷ heads_in most layout file head.next end) (head_at layout file at end) []

-- the bytes of a frame, and its data, which are the bytes without unsynchronisation
abbrev pub bytes_of : List ℕ → FrameHead → List ℕ
bytes_of file head = slice_range file head.first (head.first + head.len)

abbrev pub data_of : List ℕ → FrameHead → List ℕ
data_of file head = if head.unsynchronised then resynchronised (bytes_of file head) else bytes_of file head

-- a text frame that is neither compressed nor encrypted nor too long gives texts
abbrev pub gives_texts : FrameHead → Bool
gives_texts head = is_text head.id && not head.hidden && nat_le head.len MAX_TEXT_LEN

abbrev pub texts_at : List ℕ → FrameHead → List FrameText
texts_at file head = if gives_texts head then texts_of head.id (data_of file head) else []

-- a picture that is neither compressed nor encrypted nor unsynchronised is given if it begins soon enough
abbrev pub gives_picture : FrameHead → Bool
gives_picture head = is_picture head.id && not head.hidden && not head.unsynchronised

abbrev pub picture_at : List ℕ → FrameHead → Option FramePicture
picture_at file head =
    if gives_picture head then picture_of head.id head.first head.len (take MAX_FRONT_LEN (bytes_of file head)) else None

abbrev pub pictures_at : List ℕ → FrameHead → List FramePicture
pictures_at file head = option_to_list (picture_at file head)
