use Rattle.std.proofs.Common.{◌<◌, [], length, refl, arith}
use Rattle.play_queue.proofs.Ruling.{ruled-tail}
use Rattle.play_queue.proofs.queue.Queue.clear.Goals as goal

pub returns-then-not-is_empty : goal.returns-then-not-is_empty
returns-then-not-is_empty c =
    let some : 0 < length c.self.inside.entries = grind (arith, c.is_empty.ensures) in
    rw (← c.self.view_is, c.clear-self-inside.ensures.entries, c.clear-self-inside.ensures.version)
    (ruled-tail (record { entries = c.self.inside.entries; version = c.self.inside.version; next_id = c.self.inside.next_id }) []
    c.self.inside.entries [] refl (λ k in_befores in_afters. absurd (omega arith)) (omega arith))
