-- What a crash may leave of a file.
use Rattle.std.specs.Prelude.{◌≡◌, ◌⊎◌, ℕ, ◌+◌, ◌<◌, ◌≤◌, min, max, List, [], ◌∷◌, length, slice_index, All}
use Rattle.disk_model.specs.History.{Change, Wrote, CutTo, Synced}

-- a range of offsets
pub record Extent : Type 0 where
  pub at : ℕ
  pub count : ℕ

-- Since the last sync: the bytes at that sync, the least and the greatest length, and what was written.
pub record Window : Type 0 where
  pub base : List ℕ
  pub least : ℕ
  pub greatest : ℕ
  pub written : List Extent

-- nothing was done since the sync
abbrev pub settled : List ℕ → Window
settled bytes = record { base = bytes; least = length bytes; greatest = length bytes; written = [] }

-- the window after a change
abbrev pub window_after : Change → Window → Window
window_after (Wrote at count) before =
    record before { greatest = max before.greatest (at + count); written = record { at = at; count = count } ∷ before.written }
window_after (CutTo len) before = record before { least = min before.least len }
window_after (Synced bytes) before = settled bytes

-- the window at the end of a history
abbrev pub window : List Change → Window
window [] = settled []
window (change ∷ earlier) = window_after change (window earlier)

-- the offset lies outside of the range
abbrev pub IsOutside : Extent → ℕ → Type 0
IsOutside extent i = (i < extent.at) ⊎ (extent.at + extent.count ≤ i)

-- the offset lies in none of these ranges
abbrev pub IsUnwritten : List Extent → ℕ → Type 0
IsUnwritten [] i = Unit {0}
IsUnwritten (extent ∷ extents) i = IsOutside extent i × IsUnwritten extents i

-- A crash may leave these bytes: of any length between, unchanged below the least length where nothing was written,
-- and any bytes elsewhere.
pub record IsImage (w : Window) (image : List ℕ) : Type 0 where
  pub bytes : All (λ b. b < 256) image
  pub no_shorter : w.least ≤ length image
  pub no_longer : length image ≤ w.greatest
  pub kept : (i : ℕ) → i < w.least → IsUnwritten w.written i → slice_index image i ≡ slice_index w.base i
