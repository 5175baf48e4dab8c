-- Which names a sticker may have.
use Rattle.std.specs.Prelude.{ℕ, Bool, not, ◌==◌, ◌&&◌, nat_le, List, length}
use Rattle.std.specs.List.{list_any}
use Rattle.song_files.specs.Text.{has_control}
use Rattle.stickers.specs.Limits.{MAX_NAME_BYTES}

-- 1 to 256 bytes, without an equals sign and without a control character (Unicode's category Cc)
abbrev pub is_good_name : List ℕ → Bool
is_good_name name =
    not (length name == 0) && (nat_le (length name) MAX_NAME_BYTES && (not (list_any (λ b. b == 61) name) && not (has_control name)))
