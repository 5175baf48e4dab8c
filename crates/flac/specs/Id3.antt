-- An ID3v2 tag in front of the stream, which is passed by.
use Rattle.std.specs.Prelude.{ℕ, ◌+◌, ◌*◌, ◌/◌, ◌%◌, List, length, take, slice_index, nat_lt, ◌==◌, ◌&&◌, Bool, codes, if◌then◌else◌}
use Rattle.std.specs.Str.{bytes_eq}

-- the four bytes of a size give seven bits each
abbrev pub synchsafe : List ℕ → ℕ
synchsafe front = slice_index front 6 * 0x20_0000 + slice_index front 7 * 0x4000 + slice_index front 8 * 0x80 + slice_index front 9

-- the bytes of a size are below 128
abbrev pub is_synchsafe : List ℕ → Bool
is_synchsafe front = nat_lt (slice_index front 6) 128 && nat_lt (slice_index front 7) 128 && nat_lt (slice_index front 8) 128 &&
    nat_lt (slice_index front 9) 128

-- the head of a tag: `ID3`, two bytes of a version that aren't 255, a byte of flags, a size
abbrev pub is_tag_head : List ℕ → Bool
is_tag_head front =
    length front == 10 && bytes_eq (take 3 front) (codes "ID3") && nat_lt (slice_index front 3) 255 && nat_lt (slice_index front 4)
    255 && is_synchsafe front

-- a flag tells of a footer of ten bytes
abbrev pub footer_len : List ℕ → ℕ
footer_len front = if slice_index front 5 / 16 % 2 == 1 then 10 else 0

-- the length of the tag that has this head, or 0; the size counts neither head nor footer
abbrev pub tag_len : List ℕ → ℕ
tag_len front = if is_tag_head front then 10 + synchsafe front + footer_len front else 0

-- where the stream begins in the file
unfoldable pub stream_start : List ℕ → ℕ
stream_start file = tag_len (take 10 file)
