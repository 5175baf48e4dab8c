use Rattle.std.proofs.Common.{◌-◌, ◌++◌, Option, refl, subst, ◌∙◌, ap, arith, vec_len, vec_capacity}
use Rattle.std.specs.Option.{option_to_list}
use Rattle.slab.specs.Slab.{get}
use Rattle.mio_clients.specs.declared.client.Client.{Client}
use Rattle.mio_clients.specs.declared.client.Reading.TheVariants.{Refused}
use Rattle.mio_clients.specs.Connections.{ConnectionsState, ReadsInPart, IsFailedAt}
use Rattle.mio_clients.specs.Later.{no_bytes, no_requests}
use Rattle.mio_clients.specs.Leaving.{AllFollow}
use Rattle.mio_clients.proofs.LaterLaws.{are_after, none_moved, none_added, told_quiet, some_is, read_some, read_quiet, failed_at}
use Rattle.mio_clients.proofs.FollowLaws.{all_moved, all_lost, moved_there}
use Rattle.mio_clients.specs.Yielding.{IsHeardAt}
use Rattle.mio_clients.proofs.YieldLaws.{heard_moved, served_moved}
use Rattle.mio_clients.proofs.connections.Connections.read_at.Goals as goal

pub invariant_of-self : goal.invariant_of-self
invariant_of-self g c =
    let rem = g.S.Stream.remaining in
    let con = g.S.Stream.contents in
    let a : ConnectionsState g.row.S.Denot = record { clients = c.self.inside.clients; events = c.self.inside.queue.events; last_id = c.self.inside.last_id; room = c.self.inside.queue.room; left = c.self.inside.left.items; places = vec_capacity c.self.inside.left - vec_len c.self.inside.left; gone = c.self.inside.gone.value.items; time = c.self.inside.time; clock_second = c.self.inside.clock_second } in
    let b : ConnectionsState g.row.S.Denot = record { clients = c.drop_slot.new.clients; events = c.drop_slot.new.queue.events; last_id = c.self.inside.last_id; room = c.drop_slot.new.queue.room; left = c.drop_slot.new.left.items; places = vec_capacity c.drop_slot.new.left - vec_len c.drop_slot.new.left; gone = c.self.inside.gone.value.items; time = c.self.inside.time; clock_second = c.self.inside.clock_second } in
    let inv = c.self.invariant in
    let r = c.read_slot-reading.ensures in
    let e = c.drop_slot.ensures in
    let mid = c.read_slot-reading.new.queue.events in
    let refused = c.is_refused.ensures.0 c.if-is_refused.true in
    let quiet = told_quiet rem con (get c.read_slot-reading.new.clients c.args.key) mid b.events e.told in
    let at = moved_there rem con (λ (x y : Client g.row.S.Denot). ReadsInPart rem con x y a.events mid) c.args.key a.clients c.read_slot-reading.new.clients
    (some_is rem con c.read_slot-reading.result Refused refused r.there) (r.refused refused) in
    let on = all_lost rem con a b c.args.key at.0 at.1 mid at.2 at.4 e.gone inv.distinct (λ other ne. e.others other ne ∙ r.elsewhere.others other ne)
    refl inv.known quiet (e.left ∙ ap (λ (o : Option (Client g.row.S.Denot)). a.left ++ option_to_list o) at.3) in
    are_after rem con a b c.self.inside.queue c.drop_slot.new.queue no_bytes no_requests inv on.later e.spare e.places
    (omega (arith, e.capacity, r.elsewhere.capacity, inv.slots)) (omega (arith, e.fewer, r.elsewhere.len, inv.few))
    (λ n later. quiet n ∙ none_added rem con a.events mid at.0.id c.self.inside.last_id at.4.requests at.4.added (inv.known c.args.key at.0 at.2) inv.none_later n later)

pub invariant_of-self-else-is_refused : goal.invariant_of-self-else-is_refused
invariant_of-self-else-is_refused g c =
    let rem = g.S.Stream.remaining in
    let con = g.S.Stream.contents in
    let a : ConnectionsState g.row.S.Denot = record { clients = c.self.inside.clients; events = c.self.inside.queue.events; last_id = c.self.inside.last_id; room = c.self.inside.queue.room; left = c.self.inside.left.items; places = vec_capacity c.self.inside.left - vec_len c.self.inside.left; gone = c.self.inside.gone.value.items; time = c.self.inside.time; clock_second = c.self.inside.clock_second } in
    let b : ConnectionsState g.row.S.Denot = record { clients = c.read_slot-reading.new.clients; events = c.read_slot-reading.new.queue.events; last_id = c.self.inside.last_id; room = c.read_slot-reading.new.queue.room; left = c.self.inside.left.items; places = vec_capacity c.self.inside.left - vec_len c.self.inside.left; gone = c.self.inside.gone.value.items; time = c.self.inside.time; clock_second = c.self.inside.clock_second } in
    let inv = c.self.invariant in
    let r = c.read_slot-reading.ensures in
    let moved = read_some rem con c.read_slot-reading.result c.args.key a.clients b.clients a.events b.events r.idle r.read (λ h. absurd (cc (c.is_refused.ensures.1 h, c.if-is_refused.false))) in
    let still = read_quiet rem con c.read_slot-reading.result a.clients b.clients c.args.key a.events b.events r.idle r.there in
    let on = all_moved rem con _ a b c.args.key moved (λ x y reads. reads) inv.distinct r.elsewhere.others refl still refl in
    are_after rem con a b c.self.inside.queue c.read_slot-reading.new.queue no_bytes no_requests inv on.later (omega (arith, r.spare, inv.spare, r.elsewhere.len))
    (omega (arith, inv.places, r.elsewhere.len)) (omega (arith, r.elsewhere.capacity, inv.slots)) (omega (arith, r.elsewhere.len, inv.few))
    (none_moved rem con _ c.self.inside.clients c.read_slot-reading.new.clients c.args.key c.self.inside.last_id a.events b.events moved (λ x y reads. reads) inv.known inv.none_later still)

pub returns-then-is_refused : goal.returns-then-is_refused
returns-then-is_refused g c =
    let rem = g.S.Stream.remaining in
    let con = g.S.Stream.contents in
    let a : ConnectionsState g.row.S.Denot = record { clients = c.self.inside.clients; events = c.self.inside.queue.events; last_id = c.self.inside.last_id; room = c.self.inside.queue.room; left = c.self.inside.left.items; places = vec_capacity c.self.inside.left - vec_len c.self.inside.left; gone = c.self.inside.gone.value.items; time = c.self.inside.time; clock_second = c.self.inside.clock_second } in
    let b : ConnectionsState g.row.S.Denot = record { clients = c.drop_slot.new.clients; events = c.drop_slot.new.queue.events; last_id = c.self.inside.last_id; room = c.drop_slot.new.queue.room; left = c.drop_slot.new.left.items; places = vec_capacity c.drop_slot.new.left - vec_len c.drop_slot.new.left; gone = c.self.inside.gone.value.items; time = c.self.inside.time; clock_second = c.self.inside.clock_second } in
    let inv = c.self.invariant in
    let r = c.read_slot-reading.ensures in
    let e = c.drop_slot.ensures in
    let mid = c.read_slot-reading.new.queue.events in
    let refused = c.is_refused.ensures.0 c.if-is_refused.true in
    let quiet = told_quiet rem con (get c.read_slot-reading.new.clients c.args.key) mid b.events e.told in
    let at = moved_there rem con (λ (x y : Client g.row.S.Denot). ReadsInPart rem con x y a.events mid) c.args.key a.clients c.read_slot-reading.new.clients
    (some_is rem con c.read_slot-reading.result Refused refused r.there) (r.refused refused) in
    let on = all_lost rem con a b c.args.key at.0 at.1 mid at.2 at.4 e.gone inv.distinct (λ other ne. e.others other ne ∙ r.elsewhere.others other ne)
    refl inv.known quiet (e.left ∙ ap (λ (o : Option (Client g.row.S.Denot)). a.left ++ option_to_list o) at.3) in
    record {
      later = subst (λ (s : ConnectionsState g.row.S.Denot). AllFollow rem con no_bytes no_requests s b) c.self.view_is on;
      heard = subst (λ (s : ConnectionsState g.row.S.Denot). IsHeardAt rem c.args.key s b) c.self.view_is
          (record {
            heard = λ x y was is. absurd (cc (e.gone, is));
            served = λ x y was is. absurd (cc (e.gone, is));
            others = λ other ne. e.others other ne ∙ r.elsewhere.others other ne;
          });
      failed = λ is. absurd (cc (is, refused));
    }

pub returns-else-is_refused : goal.returns-else-is_refused
returns-else-is_refused g c =
    let rem = g.S.Stream.remaining in
    let con = g.S.Stream.contents in
    let a : ConnectionsState g.row.S.Denot = record { clients = c.self.inside.clients; events = c.self.inside.queue.events; last_id = c.self.inside.last_id; room = c.self.inside.queue.room; left = c.self.inside.left.items; places = vec_capacity c.self.inside.left - vec_len c.self.inside.left; gone = c.self.inside.gone.value.items; time = c.self.inside.time; clock_second = c.self.inside.clock_second } in
    let b : ConnectionsState g.row.S.Denot = record { clients = c.read_slot-reading.new.clients; events = c.read_slot-reading.new.queue.events; last_id = c.self.inside.last_id; room = c.read_slot-reading.new.queue.room; left = c.self.inside.left.items; places = vec_capacity c.self.inside.left - vec_len c.self.inside.left; gone = c.self.inside.gone.value.items; time = c.self.inside.time; clock_second = c.self.inside.clock_second } in
    let inv = c.self.invariant in
    let r = c.read_slot-reading.ensures in
    let moved = read_some rem con c.read_slot-reading.result c.args.key a.clients b.clients a.events b.events r.idle r.read (λ h. absurd (cc (c.is_refused.ensures.1 h, c.if-is_refused.false))) in
    let still = read_quiet rem con c.read_slot-reading.result a.clients b.clients c.args.key a.events b.events r.idle r.there in
    let on = all_moved rem con _ a b c.args.key moved (λ x y reads. reads) inv.distinct r.elsewhere.others refl still refl in
    record {
      later = subst (λ (s : ConnectionsState g.row.S.Denot). AllFollow rem con no_bytes no_requests s b) c.self.view_is on;
      heard = subst (λ (s : ConnectionsState g.row.S.Denot). IsHeardAt rem c.args.key s b) c.self.view_is
          (record {
            heard = λ x y was is. heard_moved rem c.self.inside.time (get a.clients c.args.key) (get b.clients c.args.key) x y r.heard was is;
            served = λ x y was is. served_moved (get a.clients c.args.key) (get b.clients c.args.key) x y r.served was is;
            others = r.elsewhere.others;
          });
      failed = λ is. subst (λ (s : ConnectionsState g.row.S.Denot). IsFailedAt rem con g.S.Stream.failed c.args.key s b) c.self.view_is
          (failed_at rem con g.S.Stream.failed _ c.args.key a b moved (λ x y reads. reads) (r.failed is) r.elsewhere.others);
    }
