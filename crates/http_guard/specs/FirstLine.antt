-- What tells a stream that no client of MPD sends: its first byte, or its first line.
use Rattle.std.specs.Prelude.{◌≡◌, ℕ, ◌-◌, ◌≤◌, ◌==◌, nat_eq, nat_le, Bool, true, false, ◌&&◌, ◌||◌, not, codes, if◌then◌else◌}
use Rattle.std.specs.Prelude.{List, [], ◌∷◌, ◌++◌, length, take, drop, slice_index}
use Rattle.std.specs.Char.{is_ascii_control, is_ascii_digit}
use Rattle.std.specs.List.{starts_with, ends_with}
use Rattle.client_session.specs.Lines.{newline, line_limit}
use Rattle.http_guard.specs.declared.first_line.Verdict.{Verdict}
use Rattle.http_guard.specs.declared.first_line.Verdict.TheVariants.{Unknown, ShutOut, LetIn}

-- a control character but tab, newline and carriage return: no text has it
abbrev pub is_not_text : ℕ → Bool
is_not_text b = is_ascii_control b && not ((b == 9) || (b == newline) || (b == 13))

-- its first byte is one, as that of a record of TLS (RFC 8446, section 5.1) and of a message of STUN (RFC 8489, section 5)
abbrev pub begins_with_control : List ℕ → Bool
begins_with_control [] = false
begins_with_control (b ∷ bytes) = is_not_text b

-- the bytes before the first newline; all where there is none
abbrev pub first_line : List ℕ → List ℕ
first_line [] = []
first_line (b ∷ bytes) = if b == newline then [] else b ∷ first_line bytes

-- there is a newline
abbrev pub has_line : List ℕ → Bool
has_line [] = false
has_line (b ∷ bytes) = (b == newline) || has_line bytes

-- it begins with a method and a space (RFC 9110, section 9; RFC 5789)
abbrev pub begins_with_method : List ℕ → Bool
begins_with_method line =
    starts_with nat_eq line (codes "GET ") || starts_with nat_eq line (codes "POST ") || starts_with nat_eq line (codes "PUT ")
    || starts_with nat_eq line (codes "HEAD ") || starts_with nat_eq line (codes "OPTIONS ") || starts_with nat_eq line (codes "DELETE ")
    || starts_with nat_eq line (codes "PATCH ") || starts_with nat_eq line (codes "CONNECT ") || starts_with nat_eq line (codes "TRACE ")

-- the line without a carriage return at its end
abbrev pub without_return : List ℕ → List ℕ
without_return line = if ends_with nat_eq line (13 ∷ []) then take (length line - 1) line else line

-- ` HTTP/`, a digit, a point and a digit (RFC 9112, section 2.3)
abbrev pub is_version : List ℕ → Bool
is_version text =
    (length text == 9) && starts_with nat_eq text (codes " HTTP/") && is_ascii_digit (slice_index text 6) && (slice_index text 7 == 46)
    && is_ascii_digit (slice_index text 8)

-- the last nine bytes of the line are that
abbrev pub ends_with_version : List ℕ → Bool
ends_with_version line = let text = without_return line in is_version (drop (length text - 9) text)

-- a line of HTTP: it begins with a method, or is within the limit of a line and ends with a version
abbrev pub is_http_line : List ℕ → Bool
is_http_line line = begins_with_method line || (nat_le (length line) line_limit && ends_with_version line)

-- a stream whose first line is one, or begins with a method already
abbrev pub is_http : List ℕ → Bool
is_http stream = if has_line stream then is_http_line (first_line stream) else begins_with_method stream

-- a stream that is shut out: one that begins with a control character, or is one of HTTP
abbrev pub is_shut_out : List ℕ → Bool
is_shut_out stream = begins_with_control stream || is_http stream

-- What the bytes so far tell of the stream, whatever follows. Nothing yet: it is let in so far, and its first line has not ended and may
-- still be within the limit.
abbrev pub IsVerdict : List ℕ → Verdict → Type 0
IsVerdict seen ShutOut = (rest : List ℕ) → is_shut_out (seen ++ rest) ≡ true
IsVerdict seen LetIn = (rest : List ℕ) → is_shut_out (seen ++ rest) ≡ false
IsVerdict seen Unknown = (is_shut_out seen ≡ false) × (has_line seen ≡ false) × (length seen ≤ line_limit)
