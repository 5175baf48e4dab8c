use Rattle.std.proofs.Common.{◌≡◌, None, [], refl, ap, ◌∙◌}
use Rattle.play_queue.specs.Queue.{ruled}
use Rattle.play_queue.specs.Refused.{range_refusal}
use Rattle.play_queue.specs.Shuffle.{shuffled}
use Rattle.player_core.specs.Words.{next_order}
use Rattle.state_codec.specs.OpsQueue.{words_for, with_shuffled}
use Rattle.state_codec.specs.SavedState.{SavedState}
use Rattle.state_codec.specs.Stored.{state_of}
use Rattle.state_codec.proofs.Edits.{queue_none}
use Rattle.state_codec.proofs.saved.parts.SavedParts.shuffle_songs.Goals as goal

pub returns : goal.returns
returns c =
    let s : SavedState = state_of c.args.self.now in
    let none : range_refusal s.queue.entries c.args.start c.args.end ≡ None = queue_none _ _ c.in_ok-check_range.ensures.answer in
    let words : c.in_ok-words.words.items ≡ words_for s.key (next_order s.order) s.queue.entries c.args.start c.args.end =
    rw (c.next_order-order.ensures, c.entries.ensures.entries) at c.in_ok-words.ensures in
    let queue : c.shuffle.new.self ≡ with_shuffled s c.args.start c.args.end =
    c.in_ok-shuffle.ensures.ok ∙ ap (λ drawn. ruled s.queue (shuffled s.queue.entries c.args.start c.args.end drawn) [])
    (c.deref.ensures.value ∙ words) in
    rw none (record { ok = rw (queue, c.next_order-order.ensures) refl; err = tt; answer = tt })
