use Rattle.std.proofs.Common.{◌-◌, ◌∙◌, ap, vec_len, vec_capacity}
use Rattle.mio_clients.specs.Events.{asked_in}
use Rattle.mio_clients.proofs.ForgetLaws.{none_without}
use Rattle.mio_clients.proofs.LaterLaws.{are_same}
use Rattle.mio_clients.proofs.connections.Connections.forget.Goals as goal

pub invariant_of-self : goal.invariant_of-self
invariant_of-self g c =
    let inv = c.self.invariant in
    are_same g.S.Stream.remaining g.S.Stream.contents c.self.inside.clients c.self.inside.queue c.forget.new.self c.self.inside.last_id
    (vec_capacity c.self.inside.left - vec_len c.self.inside.left) inv c.forget.ensures.spare
    (λ n later. ap (asked_in n) c.forget.ensures.events ∙ none_without c.args.id n c.self.inside.queue.events (inv.none_later n later))
