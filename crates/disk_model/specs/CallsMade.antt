-- The record that a disk in memory keeps of its calls, the oldest first.
use Rattle.std.specs.Prelude.{◌≡◌, ◌^◌, ◌<◌, ℕ, List, [], ◌∷◌, length, take}
use Rattle.disk_model.specs.declared.call.Call.{Call}
use Rattle.disk_model.specs.declared.call.Call.TheVariants.{Write, Cut, Sync}
use Rattle.disk_model.specs.Calls.{overwritten}
use Rattle.disk_model.specs.History.{Change, Wrote, CutTo, Synced}
use Rattle.disk_model.specs.Images.{window, IsImage}

-- the bytes after a call
abbrev pub bytes_after : Call → List ℕ → List ℕ
bytes_after (Write at bytes) before = overwritten before at bytes.items
bytes_after (Cut len) before = take len before
bytes_after Sync before = before

-- the bytes after these calls
abbrev pub content_of : List ℕ → List Call → List ℕ
content_of first [] = first
content_of first (call ∷ calls) = content_of (bytes_after call first) calls

-- what a call does to a disk with these bytes
abbrev pub change_of : Call → List ℕ → Change
change_of (Write at bytes) before = Wrote at (length bytes.items)
change_of (Cut len) before = CutTo len
change_of Sync before = Synced before

-- the history after these calls
abbrev pub continued : List Change → List ℕ → List Call → List Change
continued history first [] = history
continued history first (call ∷ calls) = continued (change_of call first ∷ history) (bytes_after call first) calls

-- the history of a disk that held these bytes at first
abbrev pub history_of : List ℕ → List Call → List Change
history_of first calls = continued (Synced first ∷ []) first calls

-- the bytes are those that the record gives, and are one of the images that it allows
pub record IsKept (first : List ℕ) (calls : List Call) (bytes : List ℕ) : Type 0 where
  pub replayed : content_of first calls ≡ bytes
  pub image : IsImage (window (history_of first calls)) bytes
  pub fits : length bytes < 2 ^ 63
