-- A disk in memory, as contracts see it.
use Rattle.std.specs.Prelude.{ℕ, ◌^◌, ◌<◌, List, length}
use Rattle.disk_model.specs.History.{Change}
use Rattle.disk_model.specs.Images.{window, IsImage}

-- the bytes that a read gives, what was done so far, and how often it has failed
pub record DiskState : Type 0 where
  pub content : List ℕ
  pub history : List Change
  pub faults : ℕ

-- a read gives one of the images that a crash may leave, of a length that the disk allows
pub record IsHonest (disk : DiskState) : Type 0 where
  pub image : IsImage (window disk.history) disk.content
  pub fits : length disk.content < 2 ^ 63
