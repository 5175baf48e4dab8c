use Rattle.std.proofs.Common.{◌-◌, refl, subst, arith, vec_len, vec_capacity}
use Rattle.mio_clients.specs.Connections.{ConnectionsState}
use Rattle.mio_clients.specs.Later.{no_bytes, no_requests}
use Rattle.mio_clients.specs.Leaving.{AllFollow}
use Rattle.mio_clients.proofs.GivenLaws.{reads_none, moves_put_off}
use Rattle.mio_clients.proofs.LaterLaws.{are_after}
use Rattle.mio_clients.proofs.FollowLaws.{all_moved}
use Rattle.mio_clients.proofs.connections.Connections.put_off.Goals as goal

pub returns-clause-later : goal.returns-clause-later
returns-clause-later g c =
    let rem = g.S.Stream.remaining in
    let con = g.S.Stream.contents in
    let a : ConnectionsState g.row.S.Denot = record { clients = c.self.inside.clients; events = c.self.inside.queue.events; last_id = c.self.inside.last_id; room = c.self.inside.queue.room; left = c.self.inside.left.items; places = vec_capacity c.self.inside.left - vec_len c.self.inside.left; gone = c.self.inside.gone.value.items; time = c.self.inside.time; clock_second = c.self.inside.clock_second } in
    let b : ConnectionsState g.row.S.Denot = record { clients = c.put_off_slot.new.clients; events = c.self.inside.queue.events; last_id = c.self.inside.last_id; room = c.self.inside.queue.room; left = c.self.inside.left.items; places = vec_capacity c.self.inside.left - vec_len c.self.inside.left; gone = c.self.inside.gone.value.items; time = c.self.inside.time; clock_second = c.self.inside.clock_second } in
    let inv = c.self.invariant in
    let e = c.put_off_slot.ensures in
    let on = all_moved rem con _ a b c.args.key e.moved (λ x y is. reads_none rem con x y a.events (moves_put_off rem con x y is)) inv.distinct e.elsewhere.others refl (λ h. refl) refl in
    subst (λ (s : ConnectionsState g.row.S.Denot). AllFollow rem con no_bytes no_requests s b) c.self.view_is on

pub invariant_of-self : goal.invariant_of-self
invariant_of-self g c =
    let rem = g.S.Stream.remaining in
    let con = g.S.Stream.contents in
    let a : ConnectionsState g.row.S.Denot = record { clients = c.self.inside.clients; events = c.self.inside.queue.events; last_id = c.self.inside.last_id; room = c.self.inside.queue.room; left = c.self.inside.left.items; places = vec_capacity c.self.inside.left - vec_len c.self.inside.left; gone = c.self.inside.gone.value.items; time = c.self.inside.time; clock_second = c.self.inside.clock_second } in
    let b : ConnectionsState g.row.S.Denot = record { clients = c.put_off_slot.new.clients; events = c.self.inside.queue.events; last_id = c.self.inside.last_id; room = c.self.inside.queue.room; left = c.self.inside.left.items; places = vec_capacity c.self.inside.left - vec_len c.self.inside.left; gone = c.self.inside.gone.value.items; time = c.self.inside.time; clock_second = c.self.inside.clock_second } in
    let inv = c.self.invariant in
    let e = c.put_off_slot.ensures in
    let on = all_moved rem con _ a b c.args.key e.moved (λ x y is. reads_none rem con x y a.events (moves_put_off rem con x y is)) inv.distinct e.elsewhere.others refl (λ h. refl) refl in
    are_after rem con a b c.self.inside.queue c.self.inside.queue no_bytes no_requests inv on.later (omega (arith, inv.spare, e.elsewhere.len))
    (omega (arith, inv.places, e.elsewhere.len)) (omega (arith, e.elsewhere.capacity, inv.slots)) (omega (arith, e.elsewhere.len, inv.few)) inv.none_later
