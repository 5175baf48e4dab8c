-- Records that are added together.
use Rattle.std.specs.Prelude.{◌≡◌, ℕ, ◌≤◌, List, [], ◌∷◌, ◌++◌, length, All, flat_map, unwrap_or}
use Rattle.std.specs.Result.{result_ok}
use Rattle.play_journal.specs.File.{longest_body, gated, records_len}
use Rattle.play_journal.specs.Reading.{records_at}

-- the most that the records of a group take in a file
abbrev pub group_len : ℕ
group_len = 4194314

-- what a group holds: no record is longer than the longest, and together they take no more than that
pub record FitsGroup (bodies : List (List ℕ)) : Type 0 where
  pub short : All (λ body. length body ≤ longest_body) bodies
  pub within : records_len bodies ≤ group_len

-- how many calls of a disk adding these records takes: as many as one record, or none
abbrev pub calls_of : List (List ℕ) → ℕ
calls_of [] = 0
calls_of (body ∷ bodies) = 4

-- the records that bytes spell from their first gate on, or none
abbrev pub bodies_of : List ℕ → List (List ℕ)
bodies_of bytes = unwrap_or (result_ok (records_at 0 0 0 bytes)) []

-- the bytes of so many records behind open gates, and of a closed gate
pub record IsGroup (bytes : List ℕ) (count : ℕ) : Type 0 where
  pub bodies : List (List ℕ)
  pub spelled : bytes ≡ flat_map gated bodies ++ 0 ∷ []
  pub counted : length bodies ≡ count
  pub fits : FitsGroup bodies
