-- The bytes of a record's body and of a snapshot, with their checksum behind them where the profile asks for one.
use Rattle.std.specs.Prelude.{◌≡◌, ℕ, ◌-◌, List, ◌++◌, length, take, drop, Result, Ok, Err, if◌then◌else◌}
use denote.Ref.{Bor}
use Rattle.std.specs.Str.{bytes_eq}
use Rattle.profile.specs.declared.profile.Profile.{Profile}
use Rattle.profile.specs.declared.profile.Profile.TheVariants.{Named, Wide}
use Rattle.state_codec.specs.Checksum.{checksum_of}
use Rattle.state_codec.specs.SpellingFields.{u32_bytes}

-- how many bytes the checksum takes
abbrev pub checksum_len : Profile → ℕ
checksum_len Named = 0
checksum_len Wide = 4

-- the bytes, and their checksum
abbrev pub sealed : Profile → List ℕ → List ℕ
sealed Named bytes = bytes
sealed Wide bytes = bytes ++ u32_bytes (checksum_of bytes)

-- where the checksum stands: in the last four bytes
abbrev pub checksum_at : List ℕ → ℕ
checksum_at bytes = length bytes - 4

-- the bytes in front of their checksum; a checksum that isn't theirs, or none, is at fault by its offset
abbrev pub unsealed : Profile → List ℕ → Result (List ℕ) ℕ
unsealed Named bytes = Ok bytes
unsealed Wide bytes =
    let front = take (checksum_at bytes) bytes in
    if bytes_eq (drop (checksum_at bytes) bytes) (u32_bytes (checksum_of front)) then Ok front else Err (checksum_at bytes)

-- these bytes, or the fault's offset
abbrev pub GivesFront : Result (Bor (List ℕ)) ℕ → Result (List ℕ) ℕ → Type 0
GivesFront (Ok front) read = read ≡ Ok front.now
GivesFront (Err offset) read = read ≡ Err offset
