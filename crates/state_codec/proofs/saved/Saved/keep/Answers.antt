use Rattle.std.proofs.Common.{◌≡◌}
use Rattle.std.specs.Prelude.{option_map}
use Rattle.state_codec.specs.OpsPlace.{place_after}
use Rattle.state_codec.specs.SavedState.{SavedState}
use Rattle.state_codec.specs.Stored.{state_of}
use Rattle.state_codec.proofs.KeptOps.{with_place}
use Rattle.state_codec.proofs.PlaceLaws.{kept_saved_place}
use Rattle.state_codec.proofs.saved.Saved.keep.Goals as goal

pub invariant_of-self : goal.invariant_of-self
invariant_of-self c =
    let s : SavedState = state_of c.self.inside.parts in
    let place : c.change_place.new.place ≡ option_map (place_after c.args.op) s.place = c.change_place.ensures.place in
    rw place (with_place s (option_map (place_after c.args.op) s.place) c.self.invariant
    (kept_saved_place c.args.op s.profile s.place c.change_place.ensures.form c.self.invariant.place))
