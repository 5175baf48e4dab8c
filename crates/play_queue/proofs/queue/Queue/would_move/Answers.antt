use Rattle.std.proofs.Common.{◌∙◌}
use Rattle.std.proofs.lemmas.Bool.{lt-ltb, le-ltb}
use Rattle.play_queue.specs.Queue.{QueueState}
use Rattle.play_queue.proofs.Versions.{move_fits, would-move}
use Rattle.play_queue.proofs.queue.Queue.would_move.Goals as goal

pub returns-then-start-end : goal.returns-then-start-end
returns-then-start-end c none =
    let q : QueueState = record {
      entries = c.self.inside.entries;
      version = c.self.inside.version;
      next_id =
          c.self.inside.next_id;
    } in
    let fits = move_fits c.args.self.now.entries c.args.start c.args.end c.args.to none in
    let within = rw (← c.self.view_is) at fits in
    rw (← c.self.view_is) (rw (lt-ltb c.args.start c.args.end c.if-start-end.true)
    at (would-move q c.self.invariant.own_ids c.args.start c.args.end c.args.to within.0 within.1 within.2))

pub returns-else-start-end : goal.returns-else-start-end
returns-else-start-end c none =
    let q : QueueState = record {
      entries = c.self.inside.entries;
      version = c.self.inside.version;
      next_id =
          c.self.inside.next_id;
    } in
    let fits = move_fits c.args.self.now.entries c.args.start c.args.end c.args.to none in
    let within = rw (← c.self.view_is) at fits in
    rw (← c.self.view_is) (le-ltb c.args.start c.args.end c.if-start-end.false
    ∙ rw (le-ltb c.args.start c.args.end c.if-start-end.false)
    at (would-move q c.self.invariant.own_ids c.args.start c.args.end c.args.to within.0 within.1 within.2))
