use Rattle.std.proofs.Common.{ℕ, ◌<◌, get_or}
use Rattle.disk_model.specs.Images.{Extent, IsOutside}
use Rattle.disk_model.proofs.window.Window.is_unwritten.Given as goal

abbrev pub invariant-loop-extent : goal.invariant-loop-extent
invariant-loop-extent l = (k : ℕ) → k < l.extent-index → (d : Extent) → IsOutside (get_or l.extent-items k d) l.offset
