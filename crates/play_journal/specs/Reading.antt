-- Reading a journal file from its start, with the first fault that is met.
use Rattle.std.specs.Prelude.{ℕ, zero, suc, ◌+◌, ◌-◌, ◌^◌, Bool, not, ◌&&◌, ◌||◌, List, [], ◌∷◌, length, drop, slice_index, slice_range}
use Rattle.std.specs.Prelude.{Result, Ok, Err, nat_lt, nat_le, ◌==◌, if◌then◌else◌, bytes_eq}
use Rattle.std.specs.Int.{Width, w32, w64, byte_len, from_le_bytes}
use Rattle.play_journal.specs.Content.{Content, old_layout, second_layout, third_layout}
use Rattle.play_journal.specs.File.{open_gate, name, longest_body}

-- the number in the bytes at an offset
abbrev pub number_at : Width → ℕ → List ℕ → ℕ
number_at w at bytes = from_le_bytes w (slice_range bytes at (at + byte_len w))

-- how a file begins: closed, open with a fault at this offset of its head, or open with this generation
pub data Front : Type 0 where
  Closed : Front
  Bad : (offset : ℕ) → Front
  Open : (generation : ℕ) → Front

-- a file is open if it has at least 32 bytes and its gate is open
abbrev pub is_open : List ℕ → Bool
is_open bytes = not (nat_lt (length bytes) 32) && (slice_index bytes 0 == open_gate)

abbrev pub is_known_layout : ℕ → Bool
is_known_layout layout = layout == old_layout || layout == second_layout || layout == third_layout

unfoldable pub front : List ℕ → Front
front bytes =
    if not (is_open bytes) then Closed
    else if not (bytes_eq (slice_range bytes 1 8) name) then Bad 1
    else if not (is_known_layout (number_at w32 8 bytes)) then Bad 8
    else Open (number_at w64 12 bytes)

-- after so many records, what stands behind an open gate is none: it passes the end, the longest body or the last number
abbrev pub passes : ℕ → List ℕ → Bool
passes before bytes =
    nat_lt (length bytes) 4 || nat_lt longest_body (number_at w32 0 bytes)
    || nat_lt (length bytes) (4 + number_at w32 0 bytes) || nat_le (2 ^ 64 - 1) before

abbrev pub with_first : List ℕ → Result (List (List ℕ)) ℕ → Result (List (List ℕ)) ℕ
with_first body (Ok bodies) = Ok (body ∷ bodies)
with_first body (Err offset) = Err offset

-- The records from a gate on that stands so many bytes further. The first byte has this offset in the file, and so many
-- records came before. A fault is told by the offset of its gate.
unfoldable pub records_at : ℕ → ℕ → ℕ → List ℕ → Result (List (List ℕ)) ℕ
records_at skip offset before [] = Err offset
records_at (suc skip) offset before (byte ∷ bytes) = records_at skip (suc offset) before bytes
records_at zero offset before (gate ∷ bytes) =
    if not (gate == open_gate) then Ok []
    else if passes before bytes then Err offset
    else with_first (slice_range bytes 4 (4 + number_at w32 0 bytes)) (records_at (4 + number_at w32 0 bytes) (suc offset)
    (suc before) bytes)

abbrev pub with_read : Content → Result (List (List ℕ)) ℕ → Result Content ℕ
with_read content (Ok records) = Ok (record content { records = records })
with_read content (Err offset) = Err offset

-- what a file says before its records, whose snapshot has this length
abbrev pub before_records : List ℕ → ℕ → Content
before_records bytes size = record {
  layout = number_at w32 8 bytes;
  generation = number_at w64 12 bytes;
  base = number_at w64 20 bytes;
  snapshot = slice_range bytes 32 (32 + size);
  records = [];
}

-- the content of a file whose head is right, or the offset of its first fault
unfoldable pub read : List ℕ → Result Content ℕ
read bytes =
    if nat_lt (length bytes) (32 + number_at w32 28 bytes) then Err 28
    else with_read (before_records bytes (number_at w32 28 bytes))
    (records_at 0 (32 + number_at w32 28 bytes) (number_at w64 20 bytes) (drop (32 + number_at w32 28 bytes) bytes))
