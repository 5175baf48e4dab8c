use Rattle.std.proofs.Common.{refl}
use Rattle.machine_core.proofs.Answering.{reads}
use Rattle.machine_core.proofs.machine.Machine.tell_setup.Goals as goal

pub returns : goal.returns
returns c =
    let m = c.args.self.now in
    reads _ _ m m _ c.args.work.now _ c.keep.new.self _ _ refl refl c.len-mark.ensures refl refl c.write_setup-written.ensures c.keep.ensures
