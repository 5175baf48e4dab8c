use Rattle.std.proofs.Common.{◌≡◌, ◌∷◌, [], length, length-append, ap, arith, rules}
use Rattle.mio_clients.proofs.GroupLaws.{asked_none_one, putting_begins, putting_ends, putting_more}
use Rattle.mio_clients.proofs.clients.Clients.put_back_all.Goals as goal

pub loop-event-init : goal.loop-event-init
loop-event-init g c = putting_begins c.args.self.now c.args.events.items c.requires.known c.requires.room

pub put_back_one-requires-clause-known : goal.put_back_one-requires-clause-known
put_back_one-requires-clause-known g c =
    λ n later. asked_none_one n c.loop-event.rest.items c.pop.new.self.items c.in-Some.event c.in-Some.ensures.items
    (c.loop-event.invariant.known n later)

pub put_back_one-requires-clause-room : goal.put_back_one-requires-clause-room
put_back_one-requires-clause-room g c =
    omega (
      arith,
      c.loop-event.invariant.room,
      ap length c.in-Some.ensures.items,
      length-append c.pop.new.self.items (c.in-Some.event ∷ []),
    )

pub loop-event-preserved : goal.loop-event-preserved
loop-event-preserved g c =
    putting_more c.args.self.now c.loop-event.self c.put_back_one.new.self c.args.events.items c.loop-event.rest.items c.pop.new.self.items
    c.in-Some.event c.in-Some.ensures.items c.loop-event.invariant c.put_back_one.ensures

pub returns : goal.returns
returns g c =
    let none : length c.loop-event.rest.items ≡ 0 = search rules in
    putting_ends c.args.self.now c.loop-event.self c.args.events.items c.loop-event.rest.items none c.loop-event.invariant
