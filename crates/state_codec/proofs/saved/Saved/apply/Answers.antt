use Rattle.state_codec.specs.Stored.{state_of}
use Rattle.state_codec.proofs.AppliedLaws.{kept_edit}
use Rattle.state_codec.proofs.saved.Saved.apply.Goals as goal

pub invariant_of-self : goal.invariant_of-self
invariant_of-self c = kept_edit c.args.op.now (state_of c.self.inside.parts) (state_of c.apply_to.new.parts) c.apply_to.result
    c.apply_to.ensures.form c.self.invariant c.apply_to.ensures.edit
