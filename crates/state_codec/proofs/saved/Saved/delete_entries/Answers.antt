use Rattle.std.proofs.Common.{◌≡◌, [], None, arith}
use Rattle.std.specs.Prelude.{option_map}
use Rattle.play_queue.specs.Entries.{deleted}
use Rattle.play_queue.specs.Queue.{ruled}
use Rattle.player_core.specs.Place.{place_left}
use Rattle.state_codec.specs.OpsQueue.{queue_refusal, range}
use Rattle.state_codec.specs.SavedState.{SavedState}
use Rattle.state_codec.specs.Stored.{state_of}
use Rattle.state_codec.specs.declared.op.queue_op.QueueOp.TheVariants.{Delete}
use Rattle.state_codec.proofs.KeptOps.{map_none, kept_queue}
use Rattle.state_codec.proofs.Told.{edit_made}
use Rattle.state_codec.proofs.saved.Saved.delete_entries.Goals as goal

pub invariant_of-self : goal.invariant_of-self
invariant_of-self c =
    let s : SavedState = state_of c.self.inside.parts in
    let none : queue_refusal (Delete c.args.start c.args.end) s ≡ None = rw (← c.self.view_is) at c.requires in
    let made : c.delete_range.new.self ≡ ruled s.queue (deleted s.queue.entries c.args.start c.args.end) [] =
    edit_made _ _ _ _ (map_none _ _ none) c.delete_range.ensures.answer c.delete_range.ensures.ok in
    let place : c.leave_place.new.place ≡ option_map (place_left (range c.args.start c.args.end) [] s.queue.entries) s.place =
    rw c.entries.ensures.entries at c.leave_place.ensures in
    rw (made, place) (kept_queue (Delete c.args.start c.args.end) s (omega arith, omega arith) c.self.invariant none)
