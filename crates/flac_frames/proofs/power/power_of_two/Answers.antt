-- No bit is lost.
use Rattle.std.proofs.lemmas.Nat.{one_shl}
use Rattle.flac_frames.proofs.power.power_of_two.Goals as goal

pub returns : goal.returns
returns c = one_shl c.args.n 64 c.requires
