use Rattle.std.proofs.Common.{◌-◌, vec_len, vec_capacity}
use Rattle.mio_clients.proofs.LaterLaws.{are_same}
use Rattle.mio_clients.proofs.GroupLaws.{pop_known, pop_none_later}
use Rattle.mio_clients.proofs.connections.Connections.pop.Goals as goal

pub invariant_of-self : goal.invariant_of-self
invariant_of-self g c =
    are_same g.S.Stream.remaining g.S.Stream.contents c.self.inside.clients c.self.inside.queue c.pop.new.self c.self.inside.last_id
    (vec_capacity c.self.inside.left - vec_len c.self.inside.left) c.self.invariant c.pop.ensures.spare
    (λ n later. pop_none_later c.pop.result c.self.inside.queue.events c.pop.new.self.events n c.pop.ensures.event
    (c.self.invariant.none_later n later))

pub returns-clause-known : goal.returns-clause-known
returns-clause-known g c =
    pop_known c.pop.result c.self.inside.queue.events c.pop.new.self.events c.self.inside.last_id c.pop.ensures.event
    c.self.invariant.none_later
