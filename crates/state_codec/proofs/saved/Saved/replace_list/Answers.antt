use Rattle.state_codec.specs.Stored.{state_of}
use Rattle.state_codec.proofs.ReplaceLaws.{kept_replacement}
use Rattle.state_codec.proofs.saved.Saved.replace_list.Goals as goal

pub invariant_of-self : goal.invariant_of-self
invariant_of-self c = kept_replacement c.args.name.now (state_of c.self.inside.parts) (state_of c.replace_list.new.self) c.replace_list.result
    c.self.invariant c.replace_list.ensures
