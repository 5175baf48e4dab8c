-- Numbers at the front of some bytes. Those of FLAC have the highest byte first, those of Vorbis comments the lowest.
use Rattle.std.specs.Prelude.{ℕ, List, ◌∷◌, take}
use Rattle.std.specs.Int.{w16, w32, w64, from_be_bytes, from_le_bytes}

abbrev pub be16 : List ℕ → ℕ
be16 bytes = from_be_bytes w16 bytes

abbrev pub be24 : List ℕ → ℕ
be24 bytes = from_be_bytes w32 (0 ∷ take 3 bytes)

abbrev pub be32 : List ℕ → ℕ
be32 bytes = from_be_bytes w32 bytes

abbrev pub be64 : List ℕ → ℕ
be64 bytes = from_be_bytes w64 bytes

abbrev pub le32 : List ℕ → ℕ
le32 bytes = from_le_bytes w32 bytes
