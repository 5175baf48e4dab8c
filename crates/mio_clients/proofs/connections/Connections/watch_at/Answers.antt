use Rattle.std.proofs.Common.{◌-◌, [], refl, subst, arith, vec_len, vec_capacity}
use Rattle.mio_clients.specs.declared.client.Client.{Client}
use Rattle.mio_clients.specs.Given.{Moves}
use Rattle.mio_clients.specs.Connections.{ConnectionsState}
use Rattle.mio_clients.specs.Later.{no_bytes, no_requests}
use Rattle.mio_clients.specs.Leaving.{AllFollow}
use Rattle.mio_clients.proofs.GivenLaws.{reads_none}
use Rattle.mio_clients.proofs.LaterLaws.{are_after}
use Rattle.mio_clients.proofs.FollowLaws.{all_moved}
use Rattle.mio_clients.proofs.connections.Connections.watch_at.Goals as goal

pub invariant_of-self : goal.invariant_of-self
invariant_of-self g c =
    let S = g.row.S.Denot in
    let rem = g.S.Stream.remaining in
    let con = g.S.Stream.contents in
    let a : ConnectionsState g.row.S.Denot = record { clients = c.self.inside.clients; events = c.self.inside.queue.events; last_id = c.self.inside.last_id; room = c.self.inside.queue.room; left = c.self.inside.left.items; places = vec_capacity c.self.inside.left - vec_len c.self.inside.left; gone = c.self.inside.gone.value.items; time = c.self.inside.time; clock_second = c.self.inside.clock_second } in
    let b : ConnectionsState g.row.S.Denot = record { clients = c.watch_slot.new.clients; events = c.self.inside.queue.events; last_id = c.self.inside.last_id; room = c.self.inside.queue.room; left = c.self.inside.left.items; places = vec_capacity c.self.inside.left - vec_len c.self.inside.left; gone = c.self.inside.gone.value.items; time = c.self.inside.time; clock_second = c.self.inside.clock_second } in
    let inv = c.self.invariant in
    let e = c.watch_slot.ensures in
    let on = all_moved rem con (λ (x y : Client g.row.S.Denot). Moves rem con [] [] x y) a b c.args.key e.moved (λ x y m. reads_none rem con x y a.events m) inv.distinct e.elsewhere.others refl (λ h. refl) refl in
    are_after rem con a b c.self.inside.queue c.self.inside.queue no_bytes no_requests inv on.later (omega (arith, inv.spare, e.elsewhere.len))
    (omega (arith, inv.places, e.elsewhere.len))
    (omega (arith, e.elsewhere.capacity, inv.slots)) (omega (arith, e.elsewhere.len, inv.few)) inv.none_later

pub returns-clause-later : goal.returns-clause-later
returns-clause-later g c =
    let S = g.row.S.Denot in
    let rem = g.S.Stream.remaining in
    let con = g.S.Stream.contents in
    let a : ConnectionsState g.row.S.Denot = record { clients = c.self.inside.clients; events = c.self.inside.queue.events; last_id = c.self.inside.last_id; room = c.self.inside.queue.room; left = c.self.inside.left.items; places = vec_capacity c.self.inside.left - vec_len c.self.inside.left; gone = c.self.inside.gone.value.items; time = c.self.inside.time; clock_second = c.self.inside.clock_second } in
    let b : ConnectionsState g.row.S.Denot = record { clients = c.watch_slot.new.clients; events = c.self.inside.queue.events; last_id = c.self.inside.last_id; room = c.self.inside.queue.room; left = c.self.inside.left.items; places = vec_capacity c.self.inside.left - vec_len c.self.inside.left; gone = c.self.inside.gone.value.items; time = c.self.inside.time; clock_second = c.self.inside.clock_second } in
    let inv = c.self.invariant in
    let e = c.watch_slot.ensures in
    let on = all_moved rem con (λ (x y : Client g.row.S.Denot). Moves rem con [] [] x y) a b c.args.key e.moved (λ x y m. reads_none rem con x y a.events m) inv.distinct e.elsewhere.others refl (λ h. refl) refl in
    subst (λ (s : ConnectionsState g.row.S.Denot). AllFollow rem con no_bytes no_requests s b) c.self.view_is on
