use Rattle.play_queue.specs.Queue.{QueueState}
use Rattle.play_queue.proofs.Versions.{swap_fits, would-swap}
use Rattle.play_queue.proofs.queue.Queue.would_swap.Goals as goal

pub returns : goal.returns
returns c none =
    let q : QueueState = record {
      entries = c.self.inside.entries;
      version = c.self.inside.version;
      next_id =
          c.self.inside.next_id;
    } in
    let fits = swap_fits c.args.self.now.entries c.args.one c.args.other none in
    let within = rw (← c.self.view_is) at fits in
    rw (← c.self.view_is) (would-swap q c.self.invariant.own_ids c.args.one c.args.other within.0 within.1)
