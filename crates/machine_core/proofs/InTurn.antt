-- Ops that are applied one after the other.
use Rattle.std.proofs.Common.{◌≡◌, ℕ, suc, List, [], ◌∷◌, Option, Some, None, Ok, refl, ap, ◌∙◌}
use Rattle.std.specs.Option.{ok_or, option_or}
use Rattle.state_codec.specs.Applied.{refusal_of, after, after_all, applied_from}
use Rattle.state_codec.specs.Applied.{unless_refused as unless_op_refused}
use Rattle.state_codec.specs.SavedState.{SavedState}
use Rattle.state_codec.specs.Steps.{◌>>=◌}
use Rattle.state_codec.specs.declared.op.Op.{Op}
use Rattle.state_codec.specs.declared.refusal.OpRefusal.{OpRefusal}
use Rattle.machine_core.specs.Meaning.{refusal_of_all}

-- no op is refused at its turn
abbrev pub AreFree : List Op → SavedState → Type 0
AreFree [] s = Unit {0}
AreFree (op ∷ ops) s = (refusal_of op s ≡ None) × AreFree ops (after op s)

pub all_apply : (i : ℕ) (ops : List Op) (s : SavedState) → AreFree ops s → applied_from i ops s ≡ Ok (after_all ops s)
all_apply i [] s free = refl
all_apply i (op ∷ ops) s free =
    ap (λ r. ok_or (unless_op_refused r (after op s)) i >>= λ t. applied_from (suc i) ops t) free.0
    ∙ all_apply (suc i) ops (after op s) free.1

neither : (one other : Option OpRefusal) → option_or one other ≡ None → (one ≡ None) × (other ≡ None)
neither None other none = (refl, none)
neither (Some refusal) other none = absurd (cc)

-- that is, none of them is the first that is refused
pub none_refused : (ops : List Op) (s : SavedState) → refusal_of_all ops s ≡ None → AreFree ops s
none_refused [] s none = tt
none_refused (op ∷ ops) s none =
    let both = neither (refusal_of op s) (refusal_of_all ops (after op s)) none in
    (both.0, none_refused ops (after op s) both.1)
