use Rattle.std.proofs.Common.{◌≤◌, length, arith}
use Rattle.play_queue.proofs.Exchanged.{ruled-exchanged, sound-exchanged}
use Rattle.play_queue.proofs.queue.Queue.exchange.Goals as goal

pub returns : goal.returns
returns c =
    let within : c.args.high ≤ length c.self.inside.entries = rw (← c.self.view_is) at c.requires.in_range in
    rw (← c.self.view_is, c.exchange-self-inside.ensures.entries, c.exchange-self-inside.ensures.version)
    (ruled-exchanged (record { entries = c.self.inside.entries; version = c.self.inside.version; next_id = c.self.inside.next_id })
    c.args.low c.args.middle c.args.high c.self.invariant.own_ids c.requires.low_block c.requires.high_block within)

pub invariant_of-self : goal.invariant_of-self
invariant_of-self c =
    rw (c.exchange-self-inside.ensures.entries, c.exchange-self-inside.ensures.version)
    (sound-exchanged (record { entries = c.self.inside.entries; version = c.self.inside.version; next_id = c.self.inside.next_id })
    c.self.invariant c.args.low c.args.middle c.args.high (omega arith) (omega arith))
