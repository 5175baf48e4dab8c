use Rattle.std.proofs.Common.{◌≡◌, ◌↔◌, Bool, true, false, not, IsTrue, refl, ap}
use Rattle.profile.specs.declared.profile.Profile.{Profile}
use Rattle.profile.specs.declared.profile.Profile.TheVariants.{Named, Wide}
use Rattle.stage_workers.proofs.under_lock.lacks_room_for.Goals as goal

not_false : (b : Bool) → not b ≡ false → b ≡ true
not_false true is = cc
not_false false is = cc

waits_not : {Has : Type 0} (profile : Profile) (b : Bool) → (profile ≡ Named → b ≡ true) → (profile ≡ Wide → IsTrue b ↔ Has) → Has
    → not b ≡ false
waits_not Named b named wide has = ap not (named refl)
waits_not Wide b named wide has = ap not ((wide refl).1 has)

-- behind the tests its room is what the stage says
pub returns-clause-room : goal.returns-clause-room
returns-clause-room g c =
    rw (← c.locked.view_is)
    (λ ha hb waits records unclosed usable wide room.
    (c.has_enough_room.ensures.room ha hb usable wide).0 (not_false c.has_enough_room.result waits))

pub returns-clause-enough : goal.returns-clause-enough
returns-clause-enough g c =
    rw (← c.locked.view_is)
    (λ ha hb usable room has. waits_not c.locked.inside.live.state.machine.saved.profile c.has_enough_room.result
    c.has_enough_room.ensures.named (c.has_enough_room.ensures.room ha hb usable) has)
