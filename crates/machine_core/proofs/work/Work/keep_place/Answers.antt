use Rattle.std.proofs.Common.{◌+◌, ◌≤◌, arith}
use Rattle.std.specs.Vec.{vec_capacity, vec_len}
use Rattle.machine_core.specs.Keeping.{keep_ops_since}
use Rattle.machine_core.specs.Work.{keep_count}
use Rattle.machine_core.proofs.KeptSteps.{kept_fits, room_if_wide}
use Rattle.machine_core.proofs.work.Work.keep_place.Goals as goal

pub invariant_of-self : goal.invariant_of-self
invariant_of-self c =
    record {
      fits = kept_fits c.args.profile (keep_ops_since c.args.before.now c.args.machine.now) c.args.self.now.size c.keep_since-bytes.result
          c.args.self.now.fits c.requires.room (c.keep_since-bytes.ensures.bytes c.args.profile) c.keep_since-bytes.ensures.within;
    }

-- the place leaves the room for a time
pub returns-clause-leaves : goal.returns-clause-leaves
returns-clause-leaves c = λ wide.
    let old = c.args.self.now in
    let room : vec_len old.ops + keep_count ≤ vec_capacity old.ops = room_if_wide c.args.profile old c.requires.keeps wide in
    record {
      room = omega (arith, room, c.keep_since-bytes.ensures.room, c.keep_since-bytes.ensures.more);
      fits = omega (arith, c.requires.room wide, c.keep_since-bytes.ensures.within);
    }
