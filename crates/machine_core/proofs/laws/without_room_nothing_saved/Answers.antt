use Rattle.std.proofs.Common.{◌≡◌, Bool, List, [], ◌∷◌, cond, Ok, Err, refl, ap, ◌∙◌, ◌≢◌}
use Rattle.command_text.specs.declared.refusal.CommandRefusal.TheVariants.{DiskFull}
use Rattle.state_codec.specs.declared.op.Op.{Op}
use Rattle.machine_core.specs.Command.{meaning}
use Rattle.machine_core.specs.Meaning.{Meaning}
use Rattle.machine_core.specs.Room.{saves_nothing, without_room}
use Rattle.machine_core.specs.State.{lacks_under}
use Rattle.machine_core.proofs.FullLaws.{at_saves_nothing, broken_saves_nothing, command_makes_none, ended_saves_nothing, found_saves_nothing, kept_under}
use Rattle.machine_core.proofs.KeptLaws.{command_same}
use Rattle.machine_core.proofs.laws.without_room_nothing_saved.Goals as goal

refused_by : (x : Meaning) (ops : List Op) → ops ≢ [] → saves_nothing x ops ≡ Err DiskFull
refused_by x [] some = absurd (some refl)
refused_by x (op ∷ ops) some = refl

pub returns : goal.returns
returns c = record {
  command = λ mask command m x lacks under.
      let none = command_makes_none m (meaning mask command m) x lacks under in
      (none, command_same mask command m x (kept_under m (meaning mask command m) x under) none);
  refused = λ m x lacks some.
      ap (λ (b : Bool). cond b (without_room (Ok x)) (Ok x)) lacks ∙ refused_by x x.ops some;
  same = λ m meant room. ap (λ (b : Bool). cond b (without_room meant) meant) room;
  ended = ended_saves_nothing;
  broken = broken_saves_nothing;
  found = found_saves_nothing;
  kept_at = at_saves_nothing;
  gone = λ m. record { ops = refl; same = refl };
  never_named = λ m named. ap (λ p. lacks_under p m.has_room) named;
}
