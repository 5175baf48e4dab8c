-- Which names a playlist may have.
use Rattle.std.specs.Prelude.{ℕ, Bool, not, ◌==◌, ◌&&◌, nat_le, List, length, IsTrue}
use Rattle.std.specs.List.{list_any}
use Rattle.std.specs.Str.{is_utf8}
use Rattle.song_files.specs.Text.{has_control}
use Rattle.stored_lists.specs.Limits.{MAX_NAME_BYTES}

-- 1 to 256 bytes, without a slash and without a control character (Unicode's category Cc)
abbrev pub is_good_name : List ℕ → Bool
is_good_name name =
    not (length name == 0) && (nat_le (length name) MAX_NAME_BYTES && (not (list_any (λ b. b == 47) name) && not (has_control name)))

-- a name that a playlist may have, in UTF-8
pub record IsListName (name : List ℕ) : Type 0 where
  pub good : IsTrue (is_good_name name)
  pub text : IsTrue (is_utf8 name)
