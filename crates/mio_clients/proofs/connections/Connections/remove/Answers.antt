use Rattle.std.proofs.Common.{◌-◌, refl, subst, ◌∙◌, arith, vec_len, vec_capacity}
use Rattle.slab.specs.Slab.{get}
use Rattle.mio_clients.specs.Connections.{ConnectionsState}
use Rattle.mio_clients.specs.Waiting.{StaysQuiet}
use Rattle.mio_clients.specs.Later.{no_bytes, no_requests}
use Rattle.mio_clients.specs.Leaving.{AllFollow}
use Rattle.mio_clients.proofs.LaterLaws.{are_after, told_quiet}
use Rattle.mio_clients.proofs.FollowLaws.{all_dropped}
use Rattle.mio_clients.proofs.WaitingLaws.{quiet_told}
use Rattle.mio_clients.proofs.connections.Connections.remove.Goals as goal

pub returns-clause-later : goal.returns-clause-later
returns-clause-later g c =
    let rem = g.S.Stream.remaining in
    let con = g.S.Stream.contents in
    let a : ConnectionsState g.row.S.Denot = record { clients = c.self.inside.clients; events = c.self.inside.queue.events; last_id = c.self.inside.last_id; room = c.self.inside.queue.room; left = c.self.inside.left.items; places = vec_capacity c.self.inside.left - vec_len c.self.inside.left; gone = c.self.inside.gone.value.items; time = c.self.inside.time; clock_second = c.self.inside.clock_second } in
    let b : ConnectionsState g.row.S.Denot = record { clients = c.drop_slot.new.clients; events = c.drop_slot.new.queue.events; last_id = c.self.inside.last_id; room = c.drop_slot.new.queue.room; left = c.drop_slot.new.left.items; places = vec_capacity c.drop_slot.new.left - vec_len c.drop_slot.new.left; gone = c.self.inside.gone.value.items; time = c.self.inside.time; clock_second = c.self.inside.clock_second } in
    let inv = c.self.invariant in
    let e = c.drop_slot.ensures in
    subst (λ (s : ConnectionsState g.row.S.Denot). AllFollow rem con no_bytes no_requests s b) c.self.view_is
    (all_dropped rem con a b c.args.key e.gone e.others refl e.told inv.distinct inv.known e.left)

pub invariant_of-self : goal.invariant_of-self
invariant_of-self g c =
    let rem = g.S.Stream.remaining in
    let con = g.S.Stream.contents in
    let a : ConnectionsState g.row.S.Denot = record { clients = c.self.inside.clients; events = c.self.inside.queue.events; last_id = c.self.inside.last_id; room = c.self.inside.queue.room; left = c.self.inside.left.items; places = vec_capacity c.self.inside.left - vec_len c.self.inside.left; gone = c.self.inside.gone.value.items; time = c.self.inside.time; clock_second = c.self.inside.clock_second } in
    let b : ConnectionsState g.row.S.Denot = record { clients = c.drop_slot.new.clients; events = c.drop_slot.new.queue.events; last_id = c.self.inside.last_id; room = c.drop_slot.new.queue.room; left = c.drop_slot.new.left.items; places = vec_capacity c.drop_slot.new.left - vec_len c.drop_slot.new.left; gone = c.self.inside.gone.value.items; time = c.self.inside.time; clock_second = c.self.inside.clock_second } in
    let inv = c.self.invariant in
    let e = c.drop_slot.ensures in
    let on = all_dropped rem con a b c.args.key e.gone e.others refl e.told inv.distinct inv.known e.left in
    are_after rem con a b c.self.inside.queue c.drop_slot.new.queue no_bytes no_requests inv on.later e.spare e.places
    (omega (arith, e.capacity, inv.slots)) (omega (arith, e.fewer, inv.few))
    (λ n later. told_quiet rem con (get a.clients c.args.key) a.events b.events e.told n ∙ inv.none_later n later)

pub returns-clause-quiet : goal.returns-clause-quiet
returns-clause-quiet g c =
    let q = quiet_told (get c.self.inside.clients c.args.key) c.self.inside.queue.events c.drop_slot.new.queue.events c.drop_slot.ensures.told in
    subst (λ (s : ConnectionsState g.row.S.Denot). StaysQuiet s.events c.drop_slot.new.queue.events) c.self.view_is q
