-- From what was done to what the commands of the queue mean.
use Rattle.std.proofs.Common.{◌≡◌, ℕ, [], length, sym, subst}
use Rattle.std.specs.Prelude.{Result}
use Rattle.command_text.specs.declared.command.queue.QueueCommand.TheVariants as queue
use Rattle.state_codec.specs.declared.op.Op.TheVariants.{Queue as OfQueue}
use Rattle.state_codec.specs.declared.op.queue_op.QueueOp.TheVariants.{Delete}
use Rattle.machine_core.specs.Meaning.{Meant, edits}
use Rattle.machine_core.specs.Queue.{queue_meaning}
use Rattle.machine_core.specs.State.{MachineState}
use Rattle.machine_core.specs.Work.{Performs}
use Rattle.machine_core.specs.declared.work.Failure.{Failure}
use Rattle.machine_core.specs.declared.work.Work.{Work}

-- the same of other names for what there is
pub performs_as : (meant named : Meant) (m n a : MachineState) (work done b : Work) (r e : Result (Unit {0}) Failure) →
    meant ≡ named → n ≡ a → done ≡ b → r ≡ e → Performs named m a work b e → Performs meant m n work done r
performs_as meant named m n a work done b r e is_meant is_machine is_work is_result h =
    subst (λ x. Performs x m n work done r) (sym is_meant)
    (subst (λ x. Performs named m x work done r) (sym is_machine)
    (subst (λ x. Performs named m a work x r) (sym is_work)
    (subst (λ x. Performs named m a work b x) (sym is_result) h)))
