-- A new random order before an op.
use Rattle.std.proofs.Common.{◌≡◌, ℕ, false, Option, Some, refl, ap}
use Rattle.state_codec.specs.Applied.{after}
use Rattle.state_codec.specs.Laws.{uses_order}
use Rattle.state_codec.specs.SavedState.{SavedState}
use Rattle.state_codec.specs.declared.op.Op.{Op}
use Rattle.state_codec.specs.declared.op.Op.TheVariants.{SetOption, SetVolume, SetOrder, Queue, List as Lists, Sticker, Batch, Place, Timed}
use Rattle.state_codec.specs.declared.op.queue_op.QueueOp.{QueueOp}
use Rattle.state_codec.specs.declared.op.queue_op.QueueOp.TheVariants as queue
use Rattle.state_codec.proofs.OpsUnchanged.{op_first}
use Rattle.machine_core.specs.Followed.{followed}
use Rattle.machine_core.specs.State.{MachineState}

-- a new order begins before an op only where the op has nothing to do with the order
abbrev pub IsApart : Op → Option ℕ → Type 0
IsApart op order = (g : ℕ) → order ≡ Some g → uses_order op ≡ false

queue_apart : (op : QueueOp) (m : MachineState) → IsApart (Queue op) (followed (Queue op) m).order
queue_apart (queue.Add at rows) m = λ g begins. refl
queue_apart (queue.Delete start end) m = λ g begins. refl
queue_apart (queue.Move start end to) m = λ g begins. refl
queue_apart (queue.Swap one other) m = λ g begins. refl
queue_apart (queue.Shuffle start end) m = λ g begins. absurd (cc)
queue_apart (queue.Prio priority ranges) m = λ g begins. refl

pub followed_apart : (op : Op) (m : MachineState) → IsApart op (followed op m).order
followed_apart (SetOption setting) m = λ g begins. refl
followed_apart (SetVolume volume) m = λ g begins. refl
followed_apart (SetOrder order) m = λ g begins. absurd (cc)
followed_apart (Queue op) m = queue_apart op m
followed_apart (Lists op) m = λ g begins. refl
followed_apart (Sticker op) m = λ g begins. refl
followed_apart (Batch changes) m = λ g begins. refl
followed_apart (Place op) m = λ g begins. refl
followed_apart (Timed seconds) m = λ g begins. refl

-- an op that has nothing to do with the order leaves it
pub order_stays : (op : Op) (s : SavedState) → uses_order op ≡ false → (after op s).order ≡ s.order
order_stays op s apart = ap (λ (t : SavedState). t.order) (op_first op s.order s apart)
