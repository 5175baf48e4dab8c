use Rattle.std.proofs.Common.{◌≡◌, ◌≢◌, ◌-◌, [], Some, refl, sym, subst, ap, ◌∙◌, arith, IsSomeAnd, vec_len, vec_capacity}
use Rattle.slab.specs.Slab.{get}
use Rattle.mio_clients.specs.declared.client.Client.{Client}
use Rattle.mio_clients.specs.Given.{Moves}
use Rattle.mio_clients.specs.Connections.{ConnectionsState, IsAt, IsAlone}
use Rattle.mio_clients.specs.Yielding.{WasGiven}
use Rattle.mio_clients.specs.Waiting.{StaysQuiet}
use Rattle.mio_clients.specs.Later.{no_requests, bytes_for}
use Rattle.mio_clients.specs.Leaving.{AllFollow}
use Rattle.mio_clients.proofs.GivenLaws.{moves_queued}
use Rattle.mio_clients.proofs.LaterLaws.{are_after, told_quiet, moved_as}
use Rattle.mio_clients.proofs.NumberLaws.{number_kept, number_there}
use Rattle.mio_clients.proofs.FollowLaws.{all_vacant, all_given, all_refused}
use Rattle.mio_clients.proofs.WaitingLaws.{quiet_itself, quiet_told}
use Rattle.mio_clients.proofs.YieldLaws.{given_at, given_lost, nobody_given}
use Rattle.mio_clients.proofs.connections.Connections.give.Goals as goal

pub returns-in_default-clause-later : goal.returns-in_default-clause-later
returns-in_default-clause-later g c = all_vacant g.S.Stream.remaining g.S.Stream.contents c.args.self.now c.args.id c.args.bytes.now c.in_default.ensures.found

pub invariant_of-self : goal.invariant_of-self
invariant_of-self g c =
    let rem = g.S.Stream.remaining in
    let con = g.S.Stream.contents in
    let a : ConnectionsState g.row.S.Denot = record { clients = c.self.inside.clients; events = c.self.inside.queue.events; last_id = c.self.inside.last_id; room = c.self.inside.queue.room; left = c.self.inside.left.items; places = vec_capacity c.self.inside.left - vec_len c.self.inside.left; gone = c.self.inside.gone.value.items; time = c.self.inside.time; clock_second = c.self.inside.clock_second } in
    let b : ConnectionsState g.row.S.Denot = record { clients = c.drop_slot.new.clients; events = c.drop_slot.new.queue.events; last_id = c.self.inside.last_id; room = c.drop_slot.new.queue.room; left = c.drop_slot.new.left.items; places = vec_capacity c.drop_slot.new.left - vec_len c.drop_slot.new.left; gone = c.self.inside.gone.value.items; time = c.self.inside.time; clock_second = c.self.inside.clock_second } in
    let inv = c.self.invariant in
    let at : IsSomeAnd (get a.clients c.in-Some.key) (λ (x : Client g.row.S.Denot). x.id ≡ c.args.id) =
    subst (λ (s : ConnectionsState g.row.S.Denot). IsSomeAnd (get s.clients c.in-Some.key) (λ (x : Client g.row.S.Denot). x.id ≡ c.args.id)) (sym c.self.view_is) c.in-Some.ensures.found in
    let q = c.queue_slot-is_queued.ensures in
    let e = c.drop_slot.ensures in
    let quiet = told_quiet rem con (get c.queue_slot-is_queued.new.clients c.in-Some.key) a.events b.events e.told in
    let on = all_refused rem con a b c.queue_slot-is_queued.new.clients c.in-Some.key c.args.id c.args.bytes.now _ _ at q.session e.gone inv.distinct
    (λ other ne. e.others other ne ∙ q.elsewhere.others other ne) refl inv.known quiet e.left in
    are_after rem con a b c.self.inside.queue c.drop_slot.new.queue (bytes_for c.args.id c.args.bytes.now) no_requests inv on.later e.spare e.places
    (omega (arith, e.capacity, q.elsewhere.capacity, inv.slots)) (omega (arith, e.fewer, q.elsewhere.len, inv.few)) (λ n later. quiet n ∙ inv.none_later n later)

pub returns-then-not-is_queued-clause-later : goal.returns-then-not-is_queued-clause-later
returns-then-not-is_queued-clause-later g c =
    let rem = g.S.Stream.remaining in
    let con = g.S.Stream.contents in
    let a : ConnectionsState g.row.S.Denot = record { clients = c.self.inside.clients; events = c.self.inside.queue.events; last_id = c.self.inside.last_id; room = c.self.inside.queue.room; left = c.self.inside.left.items; places = vec_capacity c.self.inside.left - vec_len c.self.inside.left; gone = c.self.inside.gone.value.items; time = c.self.inside.time; clock_second = c.self.inside.clock_second } in
    let b : ConnectionsState g.row.S.Denot = record { clients = c.drop_slot.new.clients; events = c.drop_slot.new.queue.events; last_id = c.self.inside.last_id; room = c.drop_slot.new.queue.room; left = c.drop_slot.new.left.items; places = vec_capacity c.drop_slot.new.left - vec_len c.drop_slot.new.left; gone = c.self.inside.gone.value.items; time = c.self.inside.time; clock_second = c.self.inside.clock_second } in
    let inv = c.self.invariant in
    let at : IsSomeAnd (get a.clients c.in-Some.key) (λ (x : Client g.row.S.Denot). x.id ≡ c.args.id) =
    subst (λ (s : ConnectionsState g.row.S.Denot). IsSomeAnd (get s.clients c.in-Some.key) (λ (x : Client g.row.S.Denot). x.id ≡ c.args.id)) (sym c.self.view_is) c.in-Some.ensures.found in
    let q = c.queue_slot-is_queued.ensures in
    let e = c.drop_slot.ensures in
    let quiet = told_quiet rem con (get c.queue_slot-is_queued.new.clients c.in-Some.key) a.events b.events e.told in
    let on = all_refused rem con a b c.queue_slot-is_queued.new.clients c.in-Some.key c.args.id c.args.bytes.now _ _ at q.session e.gone inv.distinct
    (λ other ne. e.others other ne ∙ q.elsewhere.others other ne) refl inv.known quiet e.left in
    subst (λ (s : ConnectionsState g.row.S.Denot). AllFollow rem con (bytes_for c.args.id c.args.bytes.now) no_requests s b) c.self.view_is on

pub invariant_of-self-else-not-is_queued : goal.invariant_of-self-else-not-is_queued
invariant_of-self-else-not-is_queued g c =
    let rem = g.S.Stream.remaining in
    let con = g.S.Stream.contents in
    let a : ConnectionsState g.row.S.Denot = record { clients = c.self.inside.clients; events = c.self.inside.queue.events; last_id = c.self.inside.last_id; room = c.self.inside.queue.room; left = c.self.inside.left.items; places = vec_capacity c.self.inside.left - vec_len c.self.inside.left; gone = c.self.inside.gone.value.items; time = c.self.inside.time; clock_second = c.self.inside.clock_second } in
    let b : ConnectionsState g.row.S.Denot = record { clients = c.queue_slot-is_queued.new.clients; events = c.self.inside.queue.events; last_id = c.self.inside.last_id; room = c.self.inside.queue.room; left = c.self.inside.left.items; places = vec_capacity c.self.inside.left - vec_len c.self.inside.left; gone = c.self.inside.gone.value.items; time = c.self.inside.time; clock_second = c.self.inside.clock_second } in
    let inv = c.self.invariant in
    let at : IsSomeAnd (get a.clients c.in-Some.key) (λ (x : Client g.row.S.Denot). x.id ≡ c.args.id) =
    subst (λ (s : ConnectionsState g.row.S.Denot). IsSomeAnd (get s.clients c.in-Some.key) (λ (x : Client g.row.S.Denot). x.id ≡ c.args.id)) (sym c.self.view_is) c.in-Some.ensures.found in
    let q = c.queue_slot-is_queued.ensures in
    let moved = moved_as rem con _ (λ (x y : Client g.row.S.Denot). Moves rem con c.args.bytes.now [] x y) c.in-Some.key a.clients b.clients
    (λ x y is. moves_queued rem con x y c.args.bytes.now _ _ is) (q.queued c.if-not-is_queued.false) in
    let on = all_given rem con a b c.in-Some.key c.args.id c.args.bytes.now at moved inv.distinct q.elsewhere.others refl refl refl in
    are_after rem con a b c.self.inside.queue c.self.inside.queue (bytes_for c.args.id c.args.bytes.now) no_requests inv on.later
    (omega (arith, inv.spare, q.elsewhere.len)) (omega (arith, inv.places, q.elsewhere.len)) (omega (arith, q.elsewhere.capacity, inv.slots))
    (omega (arith, q.elsewhere.len, inv.few)) inv.none_later

pub returns-else-not-is_queued-clause-later : goal.returns-else-not-is_queued-clause-later
returns-else-not-is_queued-clause-later g c =
    let rem = g.S.Stream.remaining in
    let con = g.S.Stream.contents in
    let a : ConnectionsState g.row.S.Denot = record { clients = c.self.inside.clients; events = c.self.inside.queue.events; last_id = c.self.inside.last_id; room = c.self.inside.queue.room; left = c.self.inside.left.items; places = vec_capacity c.self.inside.left - vec_len c.self.inside.left; gone = c.self.inside.gone.value.items; time = c.self.inside.time; clock_second = c.self.inside.clock_second } in
    let b : ConnectionsState g.row.S.Denot = record { clients = c.queue_slot-is_queued.new.clients; events = c.self.inside.queue.events; last_id = c.self.inside.last_id; room = c.self.inside.queue.room; left = c.self.inside.left.items; places = vec_capacity c.self.inside.left - vec_len c.self.inside.left; gone = c.self.inside.gone.value.items; time = c.self.inside.time; clock_second = c.self.inside.clock_second } in
    let inv = c.self.invariant in
    let at : IsSomeAnd (get a.clients c.in-Some.key) (λ (x : Client g.row.S.Denot). x.id ≡ c.args.id) =
    subst (λ (s : ConnectionsState g.row.S.Denot). IsSomeAnd (get s.clients c.in-Some.key) (λ (x : Client g.row.S.Denot). x.id ≡ c.args.id)) (sym c.self.view_is) c.in-Some.ensures.found in
    let q = c.queue_slot-is_queued.ensures in
    let moved = moved_as rem con _ (λ (x y : Client g.row.S.Denot). Moves rem con c.args.bytes.now [] x y) c.in-Some.key a.clients b.clients
    (λ x y is. moves_queued rem con x y c.args.bytes.now _ _ is) (q.queued c.if-not-is_queued.false) in
    let on = all_given rem con a b c.in-Some.key c.args.id c.args.bytes.now at moved inv.distinct q.elsewhere.others refl refl refl in
    subst (λ (s : ConnectionsState g.row.S.Denot). AllFollow rem con (bytes_for c.args.id c.args.bytes.now) no_requests s b) c.self.view_is on

pub returns-in_default-clause-quiet : goal.returns-in_default-clause-quiet
returns-in_default-clause-quiet g c = quiet_itself c.args.self.now.events

pub returns-then-not-is_queued-clause-quiet : goal.returns-then-not-is_queued-clause-quiet
returns-then-not-is_queued-clause-quiet g c =
    let q = quiet_told (get c.queue_slot-is_queued.new.clients c.in-Some.key) c.self.inside.queue.events c.drop_slot.new.queue.events c.drop_slot.ensures.told in
    subst (λ (s : ConnectionsState g.row.S.Denot). StaysQuiet s.events c.drop_slot.new.queue.events) c.self.view_is q

pub returns-else-not-is_queued-clause-quiet : goal.returns-else-not-is_queued-clause-quiet
returns-else-not-is_queued-clause-quiet g c =
    subst (λ (s : ConnectionsState g.row.S.Denot). StaysQuiet s.events c.self.inside.queue.events) c.self.view_is (quiet_itself c.self.inside.queue.events)

pub returns-in_default-clause-active : goal.returns-in_default-clause-active
returns-in_default-clause-active g c = nobody_given c.args.self.now c.args.id c.args.bytes.now c.in_default.ensures.found

pub returns-then-not-is_queued-clause-active : goal.returns-then-not-is_queued-clause-active
returns-then-not-is_queued-clause-active g c =
    let a : ConnectionsState g.row.S.Denot = record { clients = c.self.inside.clients; events = c.self.inside.queue.events; last_id = c.self.inside.last_id; room = c.self.inside.queue.room; left = c.self.inside.left.items; places = vec_capacity c.self.inside.left - vec_len c.self.inside.left; gone = c.self.inside.gone.value.items; time = c.self.inside.time; clock_second = c.self.inside.clock_second } in
    let b : ConnectionsState g.row.S.Denot = record { clients = c.drop_slot.new.clients; events = c.drop_slot.new.queue.events; last_id = c.self.inside.last_id; room = c.drop_slot.new.queue.room; left = c.drop_slot.new.left.items; places = vec_capacity c.drop_slot.new.left - vec_len c.drop_slot.new.left; gone = c.self.inside.gone.value.items; time = c.self.inside.time; clock_second = c.self.inside.clock_second } in
    subst (λ (s : ConnectionsState g.row.S.Denot). WasGiven c.args.id c.args.bytes.now s b) c.self.view_is
    (given_lost a b c.args.id c.in-Some.key c.args.bytes.now
    (subst (λ (s : ConnectionsState g.row.S.Denot). IsAt s c.args.id c.in-Some.key) (sym c.self.view_is) c.in-Some.ensures.found)
    (subst (λ (s : ConnectionsState g.row.S.Denot). IsAlone s c.args.id c.in-Some.key) (sym c.self.view_is) c.in-Some.ensures.alone)
    c.drop_slot.ensures.gone (λ other ne. c.drop_slot.ensures.others other ne ∙ c.queue_slot-is_queued.ensures.elsewhere.others other ne))

pub returns-else-not-is_queued-clause-active : goal.returns-else-not-is_queued-clause-active
returns-else-not-is_queued-clause-active g c =
    let a : ConnectionsState g.row.S.Denot = record { clients = c.self.inside.clients; events = c.self.inside.queue.events; last_id = c.self.inside.last_id; room = c.self.inside.queue.room; left = c.self.inside.left.items; places = vec_capacity c.self.inside.left - vec_len c.self.inside.left; gone = c.self.inside.gone.value.items; time = c.self.inside.time; clock_second = c.self.inside.clock_second } in
    let b : ConnectionsState g.row.S.Denot = record { clients = c.queue_slot-is_queued.new.clients; events = c.self.inside.queue.events; last_id = c.self.inside.last_id; room = c.self.inside.queue.room; left = c.self.inside.left.items; places = vec_capacity c.self.inside.left - vec_len c.self.inside.left; gone = c.self.inside.gone.value.items; time = c.self.inside.time; clock_second = c.self.inside.clock_second } in
    subst (λ (s : ConnectionsState g.row.S.Denot). WasGiven c.args.id c.args.bytes.now s b) c.self.view_is
    (given_at a b c.args.id c.in-Some.key c.args.bytes.now
    (subst (λ (s : ConnectionsState g.row.S.Denot). IsAt s c.args.id c.in-Some.key) (sym c.self.view_is) c.in-Some.ensures.found)
    (subst (λ (s : ConnectionsState g.row.S.Denot). IsAlone s c.args.id c.in-Some.key) (sym c.self.view_is) c.in-Some.ensures.alone)
    c.queue_slot-is_queued.ensures.session c.queue_slot-is_queued.ensures.elsewhere.others)

pub returns-then-not-is_queued-clause-vacant : goal.returns-then-not-is_queued-clause-vacant
returns-then-not-is_queued-clause-vacant g c =
    let q = c.queue_slot-is_queued.ensures in
    let e = c.drop_slot.ensures in
    λ no key client there same.
    let apart : key ≢ c.in-Some.key = λ at. cc (there, ap (get c.drop_slot.new.clients) at, e.gone) in
    let was = sym (e.others key apart ∙ q.elsewhere.others key apart) ∙ there in
    apart (c.in-Some.ensures.alone key client
    (subst (λ (s : ConnectionsState g.row.S.Denot). get s.clients key ≡ Some client) c.self.view_is was) same)

pub returns-in_default-clause-stays : goal.returns-in_default-clause-stays
returns-in_default-clause-stays g c = λ yes vacant. c.in_default.ensures.found

pub returns-then-not-is_queued-clause-stays : goal.returns-then-not-is_queued-clause-stays
returns-then-not-is_queued-clause-stays g c = λ yes. absurd (cc (yes, c.if-not-is_queued.true))

pub returns-else-not-is_queued-clause-stays : goal.returns-else-not-is_queued-clause-stays
returns-else-not-is_queued-clause-stays g c =
    let a : ConnectionsState g.row.S.Denot = record { clients = c.self.inside.clients; events = c.self.inside.queue.events; last_id = c.self.inside.last_id; room = c.self.inside.queue.room; left = c.self.inside.left.items; places = vec_capacity c.self.inside.left - vec_len c.self.inside.left; gone = c.self.inside.gone.value.items; time = c.self.inside.time; clock_second = c.self.inside.clock_second } in
    let b : ConnectionsState g.row.S.Denot = record { clients = c.queue_slot-is_queued.new.clients; events = c.self.inside.queue.events; last_id = c.self.inside.last_id; room = c.self.inside.queue.room; left = c.self.inside.left.items; places = vec_capacity c.self.inside.left - vec_len c.self.inside.left; gone = c.self.inside.gone.value.items; time = c.self.inside.time; clock_second = c.self.inside.clock_second } in
    let at : IsSomeAnd (get a.clients c.in-Some.key) (λ (x : Client g.row.S.Denot). x.id ≡ c.args.id) =
    subst (λ (s : ConnectionsState g.row.S.Denot). IsSomeAnd (get s.clients c.in-Some.key) (λ (x : Client g.row.S.Denot). x.id ≡ c.args.id)) (sym c.self.view_is) c.in-Some.ensures.found in
    let q = c.queue_slot-is_queued.ensures in
    let moved = moved_as g.S.Stream.remaining g.S.Stream.contents _ (λ (x y : Client g.row.S.Denot). y.id ≡ x.id) c.in-Some.key a.clients b.clients
    (λ x y is. ap (λ (t : Client g.row.S.Denot). t.id) is) q.session in
    λ yes vacant. absurd (number_there b c.args.id c.in-Some.key (get b.clients c.in-Some.key) refl
    (number_kept c.args.id (get a.clients c.in-Some.key) (get b.clients c.in-Some.key) at moved) vacant)

pub returns-in_default-clause-nobody : goal.returns-in_default-clause-nobody
returns-in_default-clause-nobody g c = λ vacant. (refl, refl)

pub returns-then-not-is_queued-clause-nobody : goal.returns-then-not-is_queued-clause-nobody
returns-then-not-is_queued-clause-nobody g c =
    λ vacant. absurd (number_there c.args.self.now c.args.id c.in-Some.key (get c.args.self.now.clients c.in-Some.key) refl c.in-Some.ensures.found vacant)

pub returns-else-not-is_queued-clause-nobody : goal.returns-else-not-is_queued-clause-nobody
returns-else-not-is_queued-clause-nobody g c =
    λ vacant. absurd (number_there c.args.self.now c.args.id c.in-Some.key (get c.args.self.now.clients c.in-Some.key) refl c.in-Some.ensures.found vacant)
