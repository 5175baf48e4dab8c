-- Unsynchronisation (ID3v2.4.0 structure, section 6.1): a zero byte stands behind each byte 255 before which a false
-- synchronisation would begin.
use Rattle.std.specs.Prelude.{ℕ, List, [], ◌∷◌, ◌==◌, ◌&&◌, if◌then◌else◌}

-- the bytes with the zero behind each 255 taken out
unfoldable pub resynchronised : List ℕ → List ℕ
resynchronised [] = []
resynchronised (a ∷ []) = a ∷ []
resynchronised (a ∷ b ∷ bytes) = if a == 255 && b == 0 then a ∷ resynchronised bytes else a ∷ resynchronised (b ∷ bytes)
