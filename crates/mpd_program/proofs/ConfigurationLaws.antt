-- The keys of a table, one after the other.
use Rattle.std.proofs.Common.{◌≡◌, Bool, true, ◌&&◌, List, [], ◌∷◌, Global, String, string_bytes, refl, ap}
use Rattle.std.specs.Map.{keys_of}
use Rattle.toml.specs.View.{members_view}
use Rattle.toml.specs.declared.value.Value.{Value}
use Rattle.mpd_program.specs.Configuration.{is_known, all_known}

-- each of these keys is one that a configuration may have
abbrev pub keys_known : List (String Global) → Bool
keys_known [] = true
keys_known (key ∷ keys) = is_known (string_bytes key) && keys_known keys

pub known_by_keys : (entries : List (String Global × Value)) → all_known (members_view entries) ≡ keys_known (keys_of entries)
known_by_keys [] = refl
known_by_keys (entry ∷ entries) = ap (λ b. is_known (string_bytes entry.0) && b) (known_by_keys entries)
