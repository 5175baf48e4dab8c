use Rattle.std.proofs.Common.{[], sym, ap, subst}
use Rattle.play_queue.specs.Queue.{QueueState, IsQueue}
use Rattle.play_queue.specs.Shuffle.{shuffled}
use Rattle.play_queue.proofs.Kept.{sound-ruled}
use Rattle.play_queue.proofs.Moved.{fit-shuffled, ids-ruled, shuffled-permutes}
use Rattle.play_queue.proofs.queue.Queue.shuffle.Goals as goal

pub invariant_of-self-2 : goal.invariant_of-self-2
invariant_of-self-2 c =
    let q : QueueState = record {
      entries = c.self.inside.entries;
      version = c.self.inside.version;
      next_id =
          c.self.inside.next_id;
    } in
    let range = c.in_ok-check_range.ensures.fits in
    let within = rw (← c.self.view_is) at range in
    let fit = fit-shuffled q c.args.start c.args.end c.args.words.now c.self.invariant within.forward within.within
    (c.requires range.forward range.within) in
    subst IsQueue (sym (c.in_ok-self-inside.ensures.ok q.next_id)) (sound-ruled q _ [] c.self.invariant fit)

pub returns-clause-none_lost : goal.returns-clause-none_lost
returns-clause-none_lost c =
    let q : QueueState = record {
      entries = c.self.inside.entries;
      version = c.self.inside.version;
      next_id =
          c.self.inside.next_id;
    } in
    let range = c.in_ok-check_range.ensures.fits in
    let within = rw (← c.self.view_is) at range in
    let kept = ids-ruled q (shuffled q.entries c.args.start c.args.end c.args.words.now)
    (shuffled-permutes q.entries c.args.start c.args.end c.args.words.now within.forward within.within
    (c.requires range.forward range.within)) in
    rw (← c.self.view_is, ap (λ (s : QueueState). s.entries) (c.in_ok-self-inside.ensures.ok q.next_id)) kept
