-- What recovering gives.
use Rattle.std.specs.Prelude.{◌≡◌, ℕ, List, Option, None, Result, Ok, Err}
use Rattle.state_codec.specs.declared.op.Op.{Op}
use Rattle.state_codec.specs.SavedState.{SavedState}
use Rattle.state_codec.specs.Applied.{applied_from}
use Rattle.daemon_core.specs.State.{State, start}
use Rattle.daemon_core.specs.declared.recover.RecoverError.{RecoverError}
use Rattle.daemon_core.specs.declared.recover.RecoverError.TheVariants.{BadOp, NoMemory}

abbrev pub number_of : RecoverError → ℕ
number_of (BadOp place) = 9
number_of NoMemory = 7

-- the state that begins with the ops applied, or the place of the first that does not apply, unless memory ran out
abbrev pub Recovers : Result State RecoverError → List Op → SavedState → Type 0
Recovers (Ok s) ops saved = (s ≡ start s.machine.saved) × (applied_from 0 ops saved ≡ Ok s.machine.saved)
Recovers (Err (BadOp place)) ops saved = applied_from 0 ops saved ≡ Err place
Recovers (Err NoMemory) ops saved = Unit {0}

-- recovering stops at the op in this place, since it doesn't apply, or for want of memory
abbrev pub IsStopAt : ℕ → Option SavedState → RecoverError → Type 0
IsStopAt place after (BadOp at) = (at ≡ place) × (after ≡ None)
IsStopAt place after NoMemory = Unit {0}
