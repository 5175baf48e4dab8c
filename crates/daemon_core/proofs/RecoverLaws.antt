-- Ops that are applied one after the other.
use Rattle.std.proofs.Common.{◌≡◌, ℕ, ◌+◌, List, length}
use Rattle.state_codec.specs.Applied.{applied_from}
use Rattle.state_codec.specs.SavedState.{SavedState}
use Rattle.state_codec.specs.declared.op.Op.{Op}

-- what is left of the ops, applied from here, gives what all of them give
pub record SoFarApplied (ops rest : List Op) (place : ℕ) (first now : SavedState) : Type 0 where
  pub same : applied_from 0 ops first ≡ applied_from place rest now
  pub left : place + length rest ≡ length ops
