use Rattle.std.proofs.Common.{arith}
use Rattle.disk_model.proofs.Replay.{length-history_of}
use Rattle.disk_model.proofs.memory.MemDisk.moment.Goals as goal

pub returns : goal.returns
returns c = rw (← c.self.view_is) (omega (arith, length-history_of c.self.inside.first.items c.self.inside.calls.items, c.len.ensures))
