-- From the parts of what happened to what a report means.
use Rattle.std.proofs.Common.{◌≡◌, ◌≤◌, List, [], length, Ok}
use Rattle.std.proofs.Common.{ap, ◌∙◌}
use Rattle.player_core.specs.Player.{PlayerState}
use Rattle.state_codec.specs.SavedState.{IsSavedState}
use Rattle.state_codec.specs.Spelling.{body_bytes}
use Rattle.state_codec.specs.declared.op.Op.{Op}
use Rattle.machine_core.specs.Before.{before_of, changed_since}
use Rattle.machine_core.specs.Happening.{HasHappened}
use Rattle.machine_core.specs.Meaning.{Meaning, Meant}
use Rattle.machine_core.specs.Reports.{happens, player_happens}
use Rattle.machine_core.specs.Size.{max_request_bytes}
use Rattle.machine_core.specs.State.{MachineState}
use Rattle.machine_core.specs.declared.changed.Before.{Before}
use Rattle.machine_core.specs.declared.happened.Happened.{Happened}
use Rattle.machine_core.proofs.ChangedLaws.{since_is_changed}
use Rattle.machine_core.proofs.FormLaws.{IsLawful, turns_lawful}
use Rattle.machine_core.proofs.Sizes.{none_short}

-- what was meant has happened, and was told by comparing
pub meant_happened : (x : Meaning) (m n : MachineState) (happened : Happened) (before : Before) (made : List Op) → IsLawful m x →
    IsSavedState m.saved → length (body_bytes m.saved.profile x.ops) ≤ max_request_bytes → n ≡ x.after → happened.ops.items ≡ x.ops → made ≡ x.ops →
    before ≡ before_of m → happened.changed ≡ changed_since before made n → HasHappened (happens x m) m n happened
meant_happened x m n happened before made lawful kept fits stands ops gained is told = record {
  state = stands;
  ops = ops;
  changed =
      told
      ∙ ap (λ (b : Before). changed_since b made n) is
      ∙ ap (λ (ops : List Op). changed_since (before_of m) ops n) gained
      ∙ ap (changed_since (before_of m) x.ops) stands
      ∙ since_is_changed m x lawful kept;
  rebuilt = lawful.rebuilt;
  fits = fits;
}

-- the player alone has changed
pub player_happened : (player : PlayerState) (m n : MachineState) (happened : Happened) (before : Before) (made : List Op) →
    IsSavedState m.saved → n ≡ record m { player = player } → happened.ops.items ≡ [] → made ≡ [] → before ≡ before_of m →
    happened.changed ≡ changed_since before made n → HasHappened (player_happens player m) m n happened
player_happened player m n happened before made kept stands ops gained is told =
    meant_happened (record { text = []; ops = []; after = record m { player = player } }) m n happened before made (turns_lawful player m)
    kept (none_short m.saved.profile) stands ops gained is told

abbrev the_meaning : Meaning → Meant
the_meaning x = Ok x

ok_is : (x y : Meaning) → the_meaning x ≡ the_meaning y → x ≡ y
ok_is x y e = cc
