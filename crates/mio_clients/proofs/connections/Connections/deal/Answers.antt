use Rattle.std.proofs.Common.{◌-◌, ◌∙◌, sym, vec_len, vec_capacity}
use Rattle.mio_clients.proofs.LaterLaws.{are_same}
use Rattle.mio_clients.proofs.RoundLaws.{dealt_asked}
use Rattle.mio_clients.proofs.connections.Connections.deal.Goals as goal

pub invariant_of-self : goal.invariant_of-self
invariant_of-self g c =
    let inv = c.self.invariant in
    are_same g.S.Stream.remaining g.S.Stream.contents c.self.inside.clients c.self.inside.queue c.deal.new.self c.self.inside.last_id
    (vec_capacity c.self.inside.left - vec_len c.self.inside.left) inv c.deal.ensures.spare
    (λ n later. sym (dealt_asked n c.self.inside.queue.events c.deal.new.self.events c.deal.ensures.dealt) ∙ inv.none_later n later)
