-- What opening found in a file, as contracts see it, and where it stands in the file's bytes.
use Rattle.std.specs.Prelude.{ℕ, ◌≤◌, List, map, slice_range}
use Rattle.play_journal.specs.declared.stored.Extent.{Extent}

-- the snapshot, and the records behind it in order
pub record StoredParts : Type 0 where
  pub snapshot : List ℕ
  pub records : List (List ℕ)

-- the bytes from one offset to another
abbrev pub bytes_in : List ℕ → Extent → List ℕ
bytes_in bytes extent = slice_range bytes extent.start extent.end

abbrev pub bodies_in : List ℕ → List Extent → List (List ℕ)
bodies_in bytes extents = map (bytes_in bytes) extents

-- both offsets lie in a file of this length, in order
pub record IsWithin (len : ℕ) (extent : Extent) : Type 0 where
  pub ordered : extent.start ≤ extent.end
  pub within : extent.end ≤ len
