use Rattle.std.proofs.Common.{◌-◌, ◌∙◌, vec_len, vec_capacity}
use Rattle.mio_clients.proofs.LaterLaws.{are_same}
use Rattle.mio_clients.proofs.connections.Connections.sort_out.Goals as goal

pub invariant_of-self : goal.invariant_of-self
invariant_of-self g c =
    let inv = c.self.invariant in
    are_same g.S.Stream.remaining g.S.Stream.contents c.self.inside.clients c.self.inside.queue c.sort_out.new.self c.self.inside.last_id
    (vec_capacity c.self.inside.left - vec_len c.self.inside.left) inv c.sort_out.ensures.spare
    (λ n later. c.sort_out.ensures.asked n ∙ inv.none_later n later)
