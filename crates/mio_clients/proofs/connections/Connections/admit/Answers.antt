use Rattle.std.proofs.Common.{◌≡◌, ℕ, ◌≤◌, ◌+◌, ◌-◌, refl, sym, subst, ap, arith, inl, vec_len, vec_capacity}
use Rattle.slab.specs.Slab.{slab_len}
use Rattle.client_session.specs.Session.{SessionState}
use Rattle.mio_clients.specs.Connections.{ConnectionsState, IsAdmitted, client_limit}
use Rattle.mio_clients.specs.Later.{no_bytes, no_requests}
use Rattle.mio_clients.specs.Leaving.{IsFollowed}
use Rattle.mio_clients.proofs.LaterLaws.{are_admitted, not_full}
use Rattle.mio_clients.proofs.FollowLaws.{later_admitted}
use Rattle.mio_clients.proofs.connections.Connections.admit.Goals as goal

pub invariant_of-self : goal.invariant_of-self
invariant_of-self g c =
    let inv = c.self.invariant in
    let e = c.insert_reserved-key.ensures in
    let same : slab_len c.self.inside.clients ≡ slab_len c.args.self.now.clients = ap (λ (s : ConnectionsState g.row.S.Denot). slab_len s.clients) c.self.view_is in
    let few : slab_len c.args.self.now.clients + 1 ≤ client_limit = not_full (slab_len c.args.self.now.clients) (λ h. c.requires.not_full (inl h)) in
    let there : c.args.self.now.places ≡ vec_capacity c.self.inside.left - vec_len c.self.inside.left = sym (ap (λ (s : ConnectionsState g.row.S.Denot). s.places) c.self.view_is) in
    let roomy : slab_len c.args.self.now.clients + 1 ≤ vec_capacity c.self.inside.left - vec_len c.self.inside.left =
    subst (λ (n : ℕ). slab_len c.args.self.now.clients + 1 ≤ n) there c.requires.places in
    let unrefused = ap (λ (s : SessionState). s.closed) c.new-client.ensures.session in
    are_admitted g.S.Stream.remaining g.S.Stream.contents c.self.inside.clients c.insert_reserved-key.new.self c.self.inside.queue c.connect.new.self
    c.self.inside.last_id (vec_capacity c.self.inside.left - vec_len c.self.inside.left) c.insert_reserved-key.result c.new-client.result inv e.updates c.new-client.ensures.id unrefused
    (omega (arith, c.connect.ensures.spare, inv.spare, e.len)) (omega (arith, e.len, same, roomy)) (omega (arith, e.capacity, inv.slots)) (omega (arith, e.len, same, few)) c.connect.ensures.events

pub returns-clause-admitted : goal.returns-clause-admitted
returns-clause-admitted g c =
    let e = c.insert_reserved-key.ensures in
    let b : ConnectionsState g.row.S.Denot = record { clients = c.insert_reserved-key.new.self; events = c.connect.new.self.events; last_id = c.self.inside.last_id + 1; room = c.connect.new.self.room; left = c.self.inside.left.items; places = vec_capacity c.self.inside.left - vec_len c.self.inside.left; gone = c.self.inside.gone.value.items; time = c.self.inside.time; clock_second = c.self.inside.clock_second } in
    subst (λ (s : ConnectionsState g.row.S.Denot). IsAdmitted c.args.stream s b) c.self.view_is (record {
      key = c.insert_reserved-key.result;
      client = c.new-client.result;
      vacant = e.was_vacant;
      there = e.updates;
      number = c.new-client.ensures.id;
      last_id = refl;
      time = refl;
      accepted = c.new-client.ensures.stream;
      session = c.new-client.ensures.session;
      active = c.new-client.ensures.last_active;
      begins = c.new-client.ensures.begins;
      gathered = c.connect.ensures.events;
    })

pub returns-clause-later : goal.returns-clause-later
returns-clause-later g c =
    let rem = g.S.Stream.remaining in
    let con = g.S.Stream.contents in
    let e = c.insert_reserved-key.ensures in
    let a : ConnectionsState g.row.S.Denot = record { clients = c.self.inside.clients; events = c.self.inside.queue.events; last_id = c.self.inside.last_id; room = c.self.inside.queue.room; left = c.self.inside.left.items; places = vec_capacity c.self.inside.left - vec_len c.self.inside.left; gone = c.self.inside.gone.value.items; time = c.self.inside.time; clock_second = c.self.inside.clock_second } in
    let b : ConnectionsState g.row.S.Denot = record { clients = c.insert_reserved-key.new.self; events = c.connect.new.self.events; last_id = c.self.inside.last_id + 1; room = c.connect.new.self.room; left = c.self.inside.left.items; places = vec_capacity c.self.inside.left - vec_len c.self.inside.left; gone = c.self.inside.gone.value.items; time = c.self.inside.time; clock_second = c.self.inside.clock_second } in
    let admitted : IsAdmitted c.args.stream a b = (record {
      key = c.insert_reserved-key.result;
      client = c.new-client.result;
      vacant = e.was_vacant;
      there = e.updates;
      number = c.new-client.ensures.id;
      last_id = refl;
      time = refl;
      accepted = c.new-client.ensures.stream;
      session = c.new-client.ensures.session;
      active = c.new-client.ensures.last_active;
      begins = c.new-client.ensures.begins;
      gathered = c.connect.ensures.events;
    }) in
    subst (λ (s : ConnectionsState g.row.S.Denot). IsFollowed rem con no_bytes no_requests s b) c.self.view_is (later_admitted rem con c.args.stream a b admitted c.self.invariant.none_later refl)
