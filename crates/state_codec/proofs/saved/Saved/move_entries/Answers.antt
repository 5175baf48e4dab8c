use Rattle.std.proofs.Common.{◌≡◌, [], None, arith}
use Rattle.play_queue.specs.Entries.{moved}
use Rattle.play_queue.specs.Queue.{ruled}
use Rattle.state_codec.specs.OpsQueue.{queue_refusal}
use Rattle.state_codec.specs.SavedState.{SavedState}
use Rattle.state_codec.specs.Stored.{state_of}
use Rattle.state_codec.specs.declared.op.queue_op.QueueOp.TheVariants.{Move}
use Rattle.state_codec.proofs.KeptOps.{map_none, kept_queue}
use Rattle.state_codec.proofs.Told.{edit_made}
use Rattle.state_codec.proofs.saved.Saved.move_entries.Goals as goal

pub invariant_of-self : goal.invariant_of-self
invariant_of-self c =
    let s : SavedState = state_of c.self.inside.parts in
    let none : queue_refusal (Move c.args.start c.args.end c.args.to) s ≡ None = rw (← c.self.view_is) at c.requires in
    let made : c.move_range.new.self ≡ ruled s.queue (moved s.queue.entries c.args.start c.args.end c.args.to) [] =
    edit_made _ _ _ _ (map_none _ _ none) c.move_range.ensures.answer c.move_range.ensures.ok in
    rw made (kept_queue (Move c.args.start c.args.end c.args.to) s ((omega arith, omega arith), omega arith) c.self.invariant none)
