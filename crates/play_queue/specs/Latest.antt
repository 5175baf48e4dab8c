-- The latest stamps of blocks of positions: no entry of a block has a later one.
use Rattle.std.specs.Prelude.{◌≡◌, ◌≢◌, ℕ, ◌+◌, ◌/◌, ◌<◌, ◌≤◌, ◌⊎◌, nat_lt, List, length, map, filter, replicate, slice_index_or}
use Rattle.std.specs.List.{enumerate_from}
use Rattle.play_queue.specs.declared.entry.Entry.{Entry}
use Rattle.play_queue.specs.Limits.{BLOCKS, MAX_ENTRIES, MAX_VERSION, SPAN}

-- the latest stamp of a position's block
abbrev pub latest_at : List ℕ → ℕ → ℕ
latest_at latest at = slice_index_or latest (at / SPAN) 0

-- no entry has a later stamp than its block
abbrev pub AreLatest : List ℕ → List Entry → Type 0
AreLatest latest entries = (k : ℕ) (d : Entry) → k < length entries → (slice_index_or entries k d).stamp ≤ latest_at latest k

-- what the entries of a queue and the stamps of their blocks keep
abbrev pub AreKept : List ℕ → List Entry → Type 0
AreKept latest entries = (length entries ≤ MAX_ENTRIES) × AreLatest latest entries

-- a position of a range
abbrev pub Between : ℕ → ℕ → ℕ → Type 0
Between start end at = (start ≤ at) × (at < end)

-- one of two positions
abbrev pub Either : ℕ → ℕ → ℕ → Type 0
Either one other at = (at ≡ one) ⊎ (at ≡ other)

-- no block's stamp has fallen, and those of some positions have come to this stamp
pub record AreRaised (latest later : List ℕ) (Raised : ℕ → Type 0) (stamp : ℕ) : Type 0 where
  pub grown : (k : ℕ) → latest_at latest k ≤ latest_at later k
  pub raised : (k : ℕ) → Raised k → stamp ≤ latest_at later k

-- the same for the stamp that follows a version; past the greatest version all are 1
pub record AreRestamped (latest later : List ℕ) (Raised : ℕ → Type 0) (version : ℕ) : Type 0 where
  pub begun : version ≡ MAX_VERSION → later ≡ replicate BLOCKS 1
  pub raised : version ≢ MAX_VERSION → AreRaised latest later Raised (version + 1)

-- the positions of entries with a stamp later than a version, where the first one's position is this
abbrev pub later_than : ℕ → ℕ → List Entry → List ℕ
later_than version first entries = map (λ at. at.0) (filter (λ at. nat_lt version at.1.stamp) (enumerate_from first entries))
