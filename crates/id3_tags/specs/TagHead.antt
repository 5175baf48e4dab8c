-- The head of a tag (ID3v2.4.0 structure, section 3.1).
use Rattle.std.specs.Prelude.{ℕ, List, take, slice_index, nat_lt, nat_le, Bool, ◌&&◌, Option, Some, None, codes, if◌then◌else◌}
use Rattle.std.specs.Str.{bytes_eq}
use Rattle.id3_tags.specs.Numbers.{synchsafe_at}
use Rattle.id3_tags.specs.declared.tag_head.TagHead.{TagHead}

-- the four bytes of a synchsafe size have no highest bit
abbrev pub has_safe_size : List ℕ → Bool
has_safe_size bytes = nat_lt (slice_index bytes 6) 128 && nat_lt (slice_index bytes 7) 128 && nat_lt (slice_index bytes 8) 128
    && nat_lt (slice_index bytes 9) 128

-- `ID3`, a version that is known, a revision, flags and the size of what follows the ten bytes
abbrev pub is_head : List ℕ → Bool
is_head bytes = bytes_eq (take 3 bytes) (codes "ID3") && nat_le 2 (slice_index bytes 3) && nat_le (slice_index bytes 3) 4
    && nat_lt (slice_index bytes 4) 255 && has_safe_size bytes

abbrev pub head_in : List ℕ → Option TagHead
head_in bytes =
    if is_head bytes then Some (record { version = slice_index bytes 3; flags = slice_index bytes 5; size = synchsafe_at 6 bytes })
    else None
