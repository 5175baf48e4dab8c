-- What an honest decoder answers. It may say of any request that it failed.
use Rattle.std.specs.Prelude.{◌≡◌, ℕ, ◌+◌, ◌<◌, ◌≤◌, List, ◌∷◌, length, Option, None, Some, slice_range}
use Rattle.std.specs.Int.{w64, to_le_bytes}
use Rattle.decoded_files.specs.Frames.{frame}

-- the statuses, an answer's first byte
abbrev pub OK : ℕ
OK = 0

abbrev pub NO_SONG : ℕ
NO_SONG = 1

abbrev pub FAILED : ℕ
FAILED = 2

-- how many bytes an answer has behind its status: as many as may be asked for
abbrev pub MAX_BYTES : ℕ
MAX_BYTES = 65536

-- how long a WAVE file is at most: its size field, and the 8 bytes up to behind that
abbrev pub MAX_WAVE : ℕ
MAX_WAVE = 4294967303

-- the length of a WAVE file in eight bytes
pub record IsLengthOf (wave : Option (List ℕ)) (bytes : List ℕ) : Type 0 where
  pub file : List ℕ
  pub is_wave : wave ≡ Some file
  pub length_of : bytes ≡ to_le_bytes w64 (length file)
  pub fits : length file ≤ MAX_WAVE

-- to OPEN: the length of the WAVE file that the file stands for, or that it is no song
pub record IsOpenAnswer (wave : Option (List ℕ)) (body : List ℕ) : Type 0 where
  pub told : (rest : List ℕ) → body ≡ OK ∷ rest → IsLengthOf wave rest
  pub no_song : (text : List ℕ) → body ≡ NO_SONG ∷ text → wave ≡ None
  pub short : length body ≤ MAX_BYTES + 1

-- to READ: bytes from the offset on, at most as many as asked for, and at least one before the end
pub record IsReadAnswer (wave : List ℕ) (at count : ℕ) (body : List ℕ) : Type 0 where
  pub told : (bytes : List ℕ) → body ≡ OK ∷ bytes → bytes ≡ slice_range wave at (at + length bytes)
  pub few : (bytes : List ℕ) → body ≡ OK ∷ bytes → length bytes ≤ count
  pub some : (bytes : List ℕ) → body ≡ OK ∷ bytes → at < length wave → 0 < length bytes
  pub short : length body ≤ MAX_BYTES + 1

-- bytes that are a frame whose content is such an answer
pub record IsAnswer (is_answer : List ℕ → Type 0) (bytes : List ℕ) : Type 0 where
  pub body : List ℕ
  pub framed : bytes ≡ frame body
  pub answers : is_answer body
