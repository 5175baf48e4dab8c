-- There are as many coefficients as the order.
use Rattle.std.proofs.lemmas.List.{length-take-le}
use Rattle.flac_frames.proofs.subframe.read_linear_of.Goals as goal

pub returns-clause-reads : goal.returns-clause-reads
returns-clause-reads c = rw (length-take-le c.args.order _ c.requires.few) at c.read_linear.ensures.reads
