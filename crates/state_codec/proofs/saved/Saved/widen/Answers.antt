use Rattle.state_codec.specs.Stored.{state_of}
use Rattle.state_codec.proofs.Kept.{wide_kept}
use Rattle.state_codec.proofs.saved.Saved.widen.Goals as goal

pub invariant_of-self : goal.invariant_of-self
invariant_of-self c = rw (c.in_ok-place-in-Named.ensures, c.in_ok-times-in-Named.ensures)
    (wide_kept (state_of c.self.inside.parts) c.self.invariant)
