use Rattle.std.proofs.Common.{◌≡◌, ◌≢◌, ◌-◌, ℕ, true, refl, subst, arith, vec_len, vec_capacity}
use Rattle.slab.specs.Slab.{get}
use Rattle.mio_clients.specs.Connections.{ConnectionsState, IsMovedAt}
use Rattle.mio_clients.specs.Later.{no_bytes, no_requests}
use Rattle.mio_clients.specs.Leaving.{AllFollow}
use Rattle.mio_clients.proofs.GivenLaws.{reads_none, moves_waiting}
use Rattle.mio_clients.proofs.LaterLaws.{are_after}
use Rattle.mio_clients.proofs.FollowLaws.{all_itself, all_moved}
use Rattle.mio_clients.proofs.YieldLaws.{now_waits, nobody_waits}
use Rattle.mio_clients.proofs.connections.Connections.await_answer.Goals as goal

pub returns-in-Some-clause-later : goal.returns-in-Some-clause-later
returns-in-Some-clause-later g c =
    let rem = g.S.Stream.remaining in
    let con = g.S.Stream.contents in
    let a : ConnectionsState g.row.S.Denot = record { clients = c.self.inside.clients; events = c.self.inside.queue.events; last_id = c.self.inside.last_id; room = c.self.inside.queue.room; left = c.self.inside.left.items; places = vec_capacity c.self.inside.left - vec_len c.self.inside.left; gone = c.self.inside.gone.value.items; time = c.self.inside.time; clock_second = c.self.inside.clock_second } in
    let b : ConnectionsState g.row.S.Denot = record { clients = c.wait_slot.new.clients; events = c.self.inside.queue.events; last_id = c.self.inside.last_id; room = c.self.inside.queue.room; left = c.self.inside.left.items; places = vec_capacity c.self.inside.left - vec_len c.self.inside.left; gone = c.self.inside.gone.value.items; time = c.self.inside.time; clock_second = c.self.inside.clock_second } in
    let inv = c.self.invariant in
    let e = c.wait_slot.ensures in
    let on = all_moved rem con _ a b c.in-Some.key e.moved (λ x y is. reads_none rem con x y a.events (moves_waiting rem con x y is)) inv.distinct e.elsewhere.others refl (λ h. refl) refl in
    subst (λ (s : ConnectionsState g.row.S.Denot). AllFollow rem con no_bytes no_requests s b) c.self.view_is on

pub invariant_of-self : goal.invariant_of-self
invariant_of-self g c =
    let rem = g.S.Stream.remaining in
    let con = g.S.Stream.contents in
    let a : ConnectionsState g.row.S.Denot = record { clients = c.self.inside.clients; events = c.self.inside.queue.events; last_id = c.self.inside.last_id; room = c.self.inside.queue.room; left = c.self.inside.left.items; places = vec_capacity c.self.inside.left - vec_len c.self.inside.left; gone = c.self.inside.gone.value.items; time = c.self.inside.time; clock_second = c.self.inside.clock_second } in
    let b : ConnectionsState g.row.S.Denot = record { clients = c.wait_slot.new.clients; events = c.self.inside.queue.events; last_id = c.self.inside.last_id; room = c.self.inside.queue.room; left = c.self.inside.left.items; places = vec_capacity c.self.inside.left - vec_len c.self.inside.left; gone = c.self.inside.gone.value.items; time = c.self.inside.time; clock_second = c.self.inside.clock_second } in
    let inv = c.self.invariant in
    let e = c.wait_slot.ensures in
    let on = all_moved rem con _ a b c.in-Some.key e.moved (λ x y is. reads_none rem con x y a.events (moves_waiting rem con x y is)) inv.distinct e.elsewhere.others refl (λ h. refl) refl in
    are_after rem con a b c.self.inside.queue c.self.inside.queue no_bytes no_requests inv on.later (omega (arith, inv.spare, e.elsewhere.len))
    (omega (arith, inv.places, e.elsewhere.len)) (omega (arith, e.elsewhere.capacity, inv.slots)) (omega (arith, e.elsewhere.len, inv.few)) inv.none_later

pub returns-in_default-clause-later : goal.returns-in_default-clause-later
returns-in_default-clause-later g c = all_itself g.S.Stream.remaining g.S.Stream.contents c.args.self.now

pub returns-in-Some-clause-waits : goal.returns-in-Some-clause-waits
returns-in-Some-clause-waits g c =
    let b : ConnectionsState g.row.S.Denot = record { clients = c.wait_slot.new.clients; events = c.self.inside.queue.events; last_id = c.self.inside.last_id; room = c.self.inside.queue.room; left = c.self.inside.left.items; places = vec_capacity c.self.inside.left - vec_len c.self.inside.left; gone = c.self.inside.gone.value.items; time = c.self.inside.time; clock_second = c.self.inside.clock_second } in
    let e = c.wait_slot.ensures in
    now_waits c.args.self.now b c.args.id c.in-Some.key
    (subst (λ (s : ConnectionsState g.row.S.Denot). b ≡ record s { clients = b.clients }) c.self.view_is refl)
    c.in-Some.ensures.found c.in-Some.ensures.alone
    (subst (λ (s : ConnectionsState g.row.S.Denot). IsMovedAt (λ x y. y ≡ record x { is_waiting = true; was_served = true }) c.in-Some.key s.clients b.clients) c.self.view_is e.moved)
    (subst (λ (s : ConnectionsState g.row.S.Denot). (other : ℕ) → other ≢ c.in-Some.key → get b.clients other ≡ get s.clients other) c.self.view_is e.elsewhere.others)

pub returns-in_default-clause-waits : goal.returns-in_default-clause-waits
returns-in_default-clause-waits g c = nobody_waits c.args.self.now c.args.id c.in_default.ensures.found
