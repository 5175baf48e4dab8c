use Rattle.std.proofs.Common.{◌≡◌, not, None, ap}
use Rattle.state_codec.specs.OpsQueue.{queue_refusal}
use Rattle.state_codec.specs.Stored.{state_of}
use Rattle.state_codec.specs.declared.op.queue_op.QueueOp.TheVariants.{Delete}
use Rattle.state_codec.proofs.Told.{checked_none, deletion_told}
use Rattle.state_codec.proofs.saved.checking.check_queue.Goals as goal

pub returns-in_ok-of_queue-in-Delete-clause-changes : goal.returns-in_ok-of_queue-in-Delete-clause-changes
returns-in_ok-of_queue-in-Delete-clause-changes c =
    let s = state_of c.args.parts.now in
    let none : queue_refusal (Delete c.in-Delete.start c.in-Delete.end) s ≡ None =
    checked_none _ c.in_ok-of_queue-in-Delete.field-0 (c.in_ok-of_queue-in-Delete.ensures _ c.check_range.ensures.answer) in
    ap not (deletion_told c.args.op.now s c.in-Delete.start c.in-Delete.end c.in-Delete.is none)
