use Rattle.std.proofs.Common.{◌≡◌}
use Rattle.std.specs.Prelude.{option_map}
use Rattle.stored_lists.specs.Times.{timed}
use Rattle.state_codec.specs.SavedState.{SavedState}
use Rattle.state_codec.specs.Stored.{state_of}
use Rattle.state_codec.proofs.KeptOps.{with_times}
use Rattle.state_codec.proofs.TimeLaws.{kept_timed}
use Rattle.state_codec.proofs.saved.Saved.time_lists.Goals as goal

pub invariant_of-self : goal.invariant_of-self
invariant_of-self c =
    let s : SavedState = state_of c.self.inside.parts in
    let times : c.tell_times.new.times ≡ option_map (timed c.args.seconds) s.changed = c.tell_times.ensures.times in
    rw times (with_times s (option_map (timed c.args.seconds) s.changed) c.self.invariant
    (kept_timed c.args.seconds s.profile s.changed c.tell_times.ensures.form c.self.invariant.changed))
