-- A journal file.
use Rattle.std.specs.Prelude.{◌≡◌, ◌≢◌, ◌⊎◌, ℕ, ◌+◌, ◌<◌, ◌≤◌, ◌^◌, List, [], ◌∷◌, ◌++◌, length, slice_index, All, flat_map}
use Rattle.std.specs.Int.{w32, w64, to_le_bytes}
use Rattle.play_journal.specs.Content.{Content, IsKnownLayout}

-- an open gate; every other byte is a closed one
abbrev pub open_gate : ℕ
open_gate = 165

-- MPDJRNL
abbrev pub name : List ℕ
name = 77 ∷ 80 ∷ 68 ∷ 74 ∷ 82 ∷ 78 ∷ 76 ∷ []

-- the greatest length of a record's body
abbrev pub longest_body : ℕ
longest_body = 2097152

-- what stands between a file's gate and its snapshot: the name, the layout, the generation, the base and the snapshot's length
unfoldable pub head : ℕ → ℕ → ℕ → ℕ → List ℕ
head layout generation base size = name ++ to_le_bytes w32 layout ++ to_le_bytes w64 generation ++ to_le_bytes w64 base
    ++ to_le_bytes w32 size

-- a record behind an open gate
abbrev pub gated : List ℕ → List ℕ
gated body = open_gate ∷ to_le_bytes w32 (length body) ++ body

-- how many bytes records take in a file, each with its gate and its length
abbrev pub records_len : List (List ℕ) → ℕ
records_len records = length (flat_map gated records)

-- a file up to its closing gate
abbrev pub spelling : Content → List ℕ
spelling file = open_gate ∷ head file.layout file.generation file.base (length file.snapshot) ++ file.snapshot
    ++ flat_map gated file.records

-- Each number has room for its field. Records are counted from 1 behind the base, up to 2^64 - 1.
pub record Fits (file : Content) : Type 0 where
  pub layout : IsKnownLayout file.layout
  pub generation : file.generation < 2 ^ 64
  pub numbers : file.base + length file.records < 2 ^ 64
  pub snapshot : length file.snapshot < 2 ^ 32
  pub records : All (λ body. length body ≤ longest_body) file.records

-- The bytes are this file: they spell it up to a closed gate, and what follows that is free.
pub record IsFile (bytes : List ℕ) (file : Content) : Type 0 where
  pub fits : Fits file
  pub gate : ℕ
  pub free : List ℕ
  pub closed : gate ≢ open_gate
  pub spelled : bytes ≡ spelling file ++ gate ∷ free

-- the gate stands, and is closed
pub record IsClosed (bytes : List ℕ) : Type 0 where
  pub stands : 0 < length bytes
  pub closed : slice_index bytes 0 ≢ open_gate

-- no open file
abbrev pub IsShut : List ℕ → Type 0
IsShut bytes = (length bytes < 32) ⊎ (slice_index bytes 0 ≢ open_gate)

-- The bytes begin as an open file of this generation, at least 32 bytes long, whatever else they are.
pub record IsOpenAt (bytes : List ℕ) (generation : ℕ) : Type 0 where
  pub layout : ℕ
  pub base : ℕ
  pub size : ℕ
  pub rest : List ℕ
  pub known : IsKnownLayout layout
  pub generation_fits : generation < 2 ^ 64
  pub base_fits : base < 2 ^ 64
  pub size_fits : size < 2 ^ 32
  pub spelled : bytes ≡ open_gate ∷ head layout generation base size ++ rest
