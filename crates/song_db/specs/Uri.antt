-- The form of a URI: a path from the root of the music, with slashes between its parts.
use Rattle.std.specs.Prelude.{ℕ, Bool, not, ◌==◌, ◌&&◌, nat_le, List, [], length, codes}
use Rattle.std.specs.List.{slice_split, list_all}
use Rattle.std.specs.Str.{is_utf8, bytes_eq}
use Rattle.song_files.specs.Text.{has_control}
use Rattle.song_db.specs.Limits.{MAX_URI_BYTES}

-- the parts between the slashes
abbrev pub parts : List ℕ → List (List ℕ)
parts path = slice_split (λ b. b == 47) path

-- a part that is neither empty nor `.` nor `..`
abbrev pub is_good_part : List ℕ → Bool
is_good_part part = not (bytes_eq part []) && (not (bytes_eq part (codes ".")) && not (bytes_eq part (codes "..")))

-- at most 1,024 bytes of UTF-8 without a control character, and good parts, of which there is always one
abbrev pub is_uri : List ℕ → Bool
is_uri text = is_utf8 text && (nat_le (length text) MAX_URI_BYTES && (not (has_control text) && list_all is_good_part (parts text)))
