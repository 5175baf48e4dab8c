use Rattle.std.proofs.Common.{drop}
use Rattle.machine_core.specs.Keeping.{time_ops}
use Rattle.machine_core.proofs.KeptSteps.{time_fits}
use Rattle.machine_core.proofs.work.Work.keep_time.Goals as goal

pub invariant_of-self : goal.invariant_of-self
invariant_of-self c =
    record {
      fits = time_fits c.args.profile (time_ops (drop c.args.made c.args.self.now.ops.items) c.args.machine.now) c.args.self.now
          c.time_since-bytes.result c.requires.room (c.time_since-bytes.ensures.bytes c.args.profile) c.time_since-bytes.ensures.within;
    }
