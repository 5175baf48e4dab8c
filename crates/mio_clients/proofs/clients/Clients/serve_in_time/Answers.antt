use Rattle.std.proofs.Common.{arith, false, true}
use Rattle.mio_clients.proofs.TurnLaws.{first_within, serves_as, serves_twice}
use Rattle.mio_clients.proofs.clients.Clients.serve_in_time.Goals as goal

pub returns-then-not-goes_on-clause-serves : goal.returns-then-not-goes_on-clause-serves
returns-then-not-goes_on-clause-serves g c =
    serves_as g.S.Stream.remaining g.S.Stream.contents c.serve_room-goes_on.result.0 false c.args.self.now c.serve_room-goes_on.new.self
    c.args.parts.now.items c.serve_room-goes_on.new.parts.items c.args.pass c.serve_room-goes_on.result.1 c.if-not-goes_on.true
    c.serve_room-goes_on.ensures.serves

pub returns-then-not-goes_on-clause-bounded : goal.returns-then-not-goes_on-clause-bounded
returns-then-not-goes_on-clause-bounded g c =
    let room = c.serve_room-goes_on.ensures.looks in
    first_within c.args.bound c.args.parts.now.items c.serve_room-goes_on.new.parts.items c.requires.empty (omega (arith, room))

pub returns-then-not-is_told-clause-serves : goal.returns-then-not-is_told-clause-serves
returns-then-not-is_told-clause-serves g c =
    serves_twice g.S.Stream.remaining g.S.Stream.contents false c.args.self.now c.serve_room-goes_on.new.self
    c.serve_clock-is_told.new.self c.args.parts.now.items c.serve_room-goes_on.new.parts.items c.serve_clock-is_told.new.parts.items
    c.args.pass c.serve_room-goes_on.result.1 c.serve_clock-is_told.result.1
    (serves_as g.S.Stream.remaining g.S.Stream.contents c.serve_room-goes_on.result.0 true c.args.self.now c.serve_room-goes_on.new.self
    c.args.parts.now.items c.serve_room-goes_on.new.parts.items c.args.pass c.serve_room-goes_on.result.1 c.if-not-goes_on.false
    c.serve_room-goes_on.ensures.serves)
    (serves_as g.S.Stream.remaining g.S.Stream.contents c.serve_clock-is_told.result.0 false c.serve_room-goes_on.new.self
    c.serve_clock-is_told.new.self c.serve_room-goes_on.new.parts.items c.serve_clock-is_told.new.parts.items
    c.serve_room-goes_on.result.1 c.serve_clock-is_told.result.1 c.if-not-is_told.true c.serve_clock-is_told.ensures.serves)

pub returns-then-not-is_told-clause-bounded : goal.returns-then-not-is_told-clause-bounded
returns-then-not-is_told-clause-bounded g c =
    let room = c.serve_room-goes_on.ensures.looks in
    let clock = c.serve_clock-is_told.ensures.looks in
    first_within c.args.bound c.args.parts.now.items c.serve_clock-is_told.new.parts.items c.requires.empty (omega (arith, room, clock))

pub returns-clause-serves : goal.returns-clause-serves
returns-clause-serves g c =
    serves_twice g.S.Stream.remaining g.S.Stream.contents c.serve_each.result.0 c.args.self.now c.serve_clock-is_told.new.self
    c.serve_each.new.self c.args.parts.now.items c.serve_clock-is_told.new.parts.items c.serve_each.new.parts.items c.args.pass
    c.serve_clock-is_told.result.1 c.serve_each.result.1
    (serves_twice g.S.Stream.remaining g.S.Stream.contents true c.args.self.now c.serve_room-goes_on.new.self
    c.serve_clock-is_told.new.self c.args.parts.now.items c.serve_room-goes_on.new.parts.items c.serve_clock-is_told.new.parts.items
    c.args.pass c.serve_room-goes_on.result.1 c.serve_clock-is_told.result.1
    (serves_as g.S.Stream.remaining g.S.Stream.contents c.serve_room-goes_on.result.0 true c.args.self.now c.serve_room-goes_on.new.self
    c.args.parts.now.items c.serve_room-goes_on.new.parts.items c.args.pass c.serve_room-goes_on.result.1 c.if-not-goes_on.false
    c.serve_room-goes_on.ensures.serves)
    (serves_as g.S.Stream.remaining g.S.Stream.contents c.serve_clock-is_told.result.0 true c.serve_room-goes_on.new.self
    c.serve_clock-is_told.new.self c.serve_room-goes_on.new.parts.items c.serve_clock-is_told.new.parts.items
    c.serve_room-goes_on.result.1 c.serve_clock-is_told.result.1 c.if-not-is_told.false c.serve_clock-is_told.ensures.serves))
    c.serve_each.ensures.serves

pub returns-clause-bounded : goal.returns-clause-bounded
returns-clause-bounded g c =
    let room = c.serve_room-goes_on.ensures.looks in
    let clock = c.serve_clock-is_told.ensures.looks in
    c.serve_each.ensures.bounded
    (first_within c.args.bound c.args.parts.now.items c.serve_clock-is_told.new.parts.items c.requires.empty (omega (arith, room, clock)))
