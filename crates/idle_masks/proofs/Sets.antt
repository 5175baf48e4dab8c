-- Laws of sets of subsystems.
use Rattle.std.proofs.Common.{◌≡◌}
use Rattle.std.proofs.Math.Bool.{and-false}
use Rattle.idle_masks.specs.declared.subsystem.Subsystems.{Subsystems}
use Rattle.idle_masks.specs.Subsystems.{none, intersection}

-- a set has nothing of the empty set
pub nothing_of_none : (s : Subsystems) → intersection s none ≡ none
nothing_of_none s = λ i. record {
  database = and-false s.database i;
  update = and-false s.update i;
  stored_playlist = and-false s.stored_playlist i;
  playlist = and-false s.playlist i;
  player = and-false s.player i;
  mixer = and-false s.mixer i;
  options = and-false s.options i;
  sticker = and-false s.sticker i;
  subscription = and-false s.subscription i;
  message = and-false s.message i;
}
