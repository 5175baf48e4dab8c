use Rattle.std.proofs.Common.{◌-◌}
use Rattle.disk_model.proofs.file.FileDisk.put_zeros.Given as goal

abbrev pub decreases-loop-at : goal.decreases-loop-at
decreases-loop-at g l = l.len - l.at
