-- An edit that isn't refused and changes something grows what a request has made.
use Rattle.std.proofs.Common.{◌≡◌, ℕ, true, [], ◌∷◌, ◌++◌, Option, Some, None, refl}
use Rattle.state_codec.specs.declared.op.Op.{Op}
use Rattle.machine_core.specs.Meaning.{order_ops}
use Rattle.machine_core.specs.Memory.{has_any}

any_op : (order : Option ℕ) (op : Op) → has_any (order_ops order ++ op ∷ []) ≡ true
any_op None op = refl
any_op (Some g) op = refl
