use Rattle.std.proofs.Common.{◌≡◌, drop}
use Rattle.daemon_core.specs.Pictures.{told_for}
use Rattle.daemon_core.proofs.pictures.Pictures.told_for.Given as goal

-- those that are left decide
abbrev pub invariant-loop-picture : goal.invariant-loop-picture
invariant-loop-picture l = told_for (drop l.picture-index l.picture-items) l.client ≡ told_for l.picture-items l.client
