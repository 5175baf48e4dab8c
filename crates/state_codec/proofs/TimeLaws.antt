-- What ops keep of the times of the playlists' last change, and which of them change nothing.
use Rattle.std.proofs.Common.{◌≡◌, ℕ, ◌<◌, ◌^◌, Bool, true, false, ◌==◌, ◌||◌, Option, Some, None, refl, ap, arith}
use Rattle.std.specs.Option.{option_map}
use Rattle.profile.specs.declared.profile.Profile.{Profile}
use Rattle.profile.specs.declared.profile.Profile.TheVariants.{Named, Wide}
use Rattle.std.proofs.lemmas.Bool.{eqb-true}
use Rattle.stored_lists.specs.Name.{IsListName}
use Rattle.stored_lists.specs.Times.{Times, AreTimes, are_timed, timed}
use Rattle.stored_lists.proofs.Timed.{kept_renamed, kept_timed as kept_told, kept_with, kept_without, timed_by_zero, timed_only, timed_stays}
use Rattle.state_codec.specs.OpsTimes.{leaves_times, list_times, named_by, times_after}
use Rattle.state_codec.specs.SavedState.{AreSavedTimes}
use Rattle.state_codec.specs.declared.op.list_op.ListOp.{ListOp}
use Rattle.state_codec.specs.declared.op.list_op.ListOp.TheVariants.{Save, Add, Remove, Move, Clear, Rename, Drop}

op_kept : (op : ListOp) (times : Times) → IsListName (named_by op) → AreTimes times → AreTimes (times_after op times)
op_kept (Save name) times good are = kept_with name 0 times good (omega arith) are
op_kept (Add name rows) times good are = kept_with name 0 times good (omega arith) are
op_kept (Remove name start end) times good are = kept_with name 0 times good (omega arith) are
op_kept (Move name from to) times good are = kept_with name 0 times good (omega arith) are
op_kept (Clear name) times good are = kept_with name 0 times good (omega arith) are
op_kept (Rename from to) times good are = kept_renamed from to times good are
op_kept (Drop name) times good are = kept_without name times are

pub kept_list_times : (leaves : Bool) (op : ListOp) (profile : Profile) (times : Option Times) → IsListName (named_by op)
    → AreSavedTimes profile times → AreSavedTimes profile (list_times leaves op times)
kept_list_times true op profile times good are = are
kept_list_times false op Named None good are = tt
kept_list_times false op Named (Some times) good are = absurd are
kept_list_times false op Wide None good are = absurd are
kept_list_times false op Wide (Some times) good are = op_kept op times good are

pub kept_timed : (seconds : ℕ) (profile : Profile) (times : Option Times) → seconds < 2 ^ 64 → AreSavedTimes profile times
    → AreSavedTimes profile (option_map (timed seconds) times)
kept_timed seconds Named None low are = tt
kept_timed seconds Named (Some times) low are = absurd are
kept_timed seconds Wide None low are = absurd are
kept_timed seconds Wide (Some times) low are = kept_told seconds times low are

stays : (seconds : ℕ) (times : Times) → (seconds == 0 || are_timed times) ≡ true → timed seconds times ≡ times
stays seconds times leaves = of (seconds == 0) refl leaves
  where
    of : (b : Bool) → (seconds == 0) ≡ b → (b || are_timed times) ≡ true → timed seconds times ≡ times
    of true none leaves = rw (eqb-true seconds 0 none) (timed_by_zero times)
    of false some leaves = timed_stays seconds times leaves

pub times_stay : (seconds : ℕ) (times : Option Times) → leaves_times seconds times ≡ true → option_map (timed seconds) times ≡ times
times_stay seconds None leaves = refl
times_stay seconds (Some times) leaves = ap Some (stays seconds times leaves)

only : (seconds : ℕ) (times : Times) → timed seconds times ≡ times → (seconds == 0 || are_timed times) ≡ true
only seconds times same = of (seconds == 0) refl
  where
    of : (b : Bool) → (seconds == 0) ≡ b → (b || are_timed times) ≡ true
    of true none = refl
    of false some = timed_only seconds times some same

pub times_only : (seconds : ℕ) (times : Option Times) → option_map (timed seconds) times ≡ times → leaves_times seconds times ≡ true
times_only seconds None same = refl
times_only seconds (Some times) same = only seconds times (let is : Some (timed seconds times) ≡ Some times = same in cc)
