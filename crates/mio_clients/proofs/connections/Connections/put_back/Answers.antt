use Rattle.std.proofs.Common.{◌-◌, ◌<◌, ◌++◌, ◌∙◌, ap, subst, vec_len, vec_capacity}
use Rattle.mio_clients.specs.Connections.{ConnectionsState}
use Rattle.mio_clients.specs.Events.{asked_in}
use Rattle.mio_clients.proofs.LaterLaws.{are_same}
use Rattle.mio_clients.proofs.connections.Connections.put_back.Goals as goal

pub invariant_of-self : goal.invariant_of-self
invariant_of-self g c =
    let inv = c.self.invariant in
    are_same g.S.Stream.remaining g.S.Stream.contents c.self.inside.clients c.self.inside.queue c.put_back.new.self c.self.inside.last_id
    (vec_capacity c.self.inside.left - vec_len c.self.inside.left) inv c.put_back.ensures.spare
    (λ n later. ap (asked_in n) c.put_back.ensures.events ∙ (ap (λ t. t ++ asked_in n c.self.inside.queue.events) (c.requires.known n (subst (λ (s : ConnectionsState g.row.S.Denot). s.last_id < n) c.self.view_is later)) ∙ inv.none_later n later))
