use Rattle.std.proofs.Common.{◌≡◌, [], None}
use Rattle.std.specs.Prelude.{option_map}
use Rattle.play_queue.specs.Entries.{deleted}
use Rattle.play_queue.specs.Queue.{ruled}
use Rattle.play_queue.specs.Refused.{range_refusal}
use Rattle.player_core.specs.Place.{place_left}
use Rattle.state_codec.specs.OpsQueue.{range}
use Rattle.state_codec.specs.SavedState.{SavedState}
use Rattle.state_codec.specs.Stored.{state_of}
use Rattle.state_codec.proofs.Edits.{queue_none, told_made}
use Rattle.state_codec.proofs.Told.{edit_made}
use Rattle.state_codec.proofs.saved.parts.SavedParts.delete_songs.Goals as goal

pub returns : goal.returns
returns c =
    let s : SavedState = state_of c.args.self.now in
    let none : range_refusal s.queue.entries c.args.start c.args.end ≡ None = queue_none _ _ c.in_ok-check_range.ensures.answer in
    let queue : c.delete_range.new.self ≡ ruled s.queue (deleted s.queue.entries c.args.start c.args.end) [] =
    edit_made _ _ _ _ none c.delete_range.ensures.answer c.delete_range.ensures.ok in
    let place : c.leave_place.new.place ≡ option_map (place_left (range c.args.start c.args.end) [] s.queue.entries) s.place =
    rw c.entries.ensures.entries at c.leave_place.ensures in
    told_made (range_refusal s.queue.entries c.args.start c.args.end) c.delete_range.result c.told.result _ _ _ none
    c.delete_range.ensures.answer c.told.ensures (λ i. record s { queue = queue i; place = place i })
