use Rattle.std.proofs.Common.{refl, Err, ap}
use Rattle.live_stage.proofs.StartLaws.{checkpoint_fault}
use Rattle.live_stage.proofs.checkpointing.write_snapshot.Goals as goal

pub returns-in-Err-clause-refuses : goal.returns-in-Err-clause-refuses
returns-in-Err-clause-refuses g c =
    let refused = c.in-Err.ensures in
    record {
      only_a_fault = refl;
      spends = refused.refuses.spends (ap Err (checkpoint_fault c.args.journal.now c.checkpoint.new.self c.in-Err._fault c.of.result.pieces
          c.args.saved.now c.of.ensures.spelled c.of.ensures.in_range c.requires.usable c.requires.generation refused.nothing_else
          refused.refuses));
    }

pub returns-in-Err-clause-disks : goal.returns-in-Err-clause-disks
returns-in-Err-clause-disks g c =
    let refused = c.in-Err.ensures in
    record {
      failed = λ ha hb is. refused.fault ha hb c.requires.usable (ap Err (checkpoint_fault c.args.journal.now c.checkpoint.new.self
          c.in-Err._fault c.of.result.pieces c.args.saved.now c.of.ensures.spelled c.of.ensures.in_range c.requires.usable
          c.requires.generation refused.nothing_else refused.refuses));
      met_none = tt;
      later = refused.later;
    }
