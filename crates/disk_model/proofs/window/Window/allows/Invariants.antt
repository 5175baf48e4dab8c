use Rattle.std.proofs.Common.{◌≡◌, ℕ, ◌<◌, get_or}
use Rattle.disk_model.specs.Images.{IsUnwritten}
use Rattle.disk_model.proofs.window.Window.allows.Given as goal

abbrev pub invariant-loop-i : goal.invariant-loop-i
invariant-loop-i l = (k : ℕ) → k < l.i → IsUnwritten l.self.written k → get_or l.image k 0 ≡ get_or l.self.base k 0
