use Rattle.std.proofs.Common.{Option, false, is_some, true, arith}
use Rattle.std.specs.Prelude.{IfSome}
use Rattle.mio_clients.proofs.TurnLaws.{serves_as, serves_twice, takes_behind}
use Rattle.mio_clients.proofs.clients.Clients.serve_some.Goals as goal

pub returns-then-not-goes_on-clause-serves : goal.returns-then-not-goes_on-clause-serves
returns-then-not-goes_on-clause-serves g c =
    serves_as g.S.Stream.remaining g.S.Stream.contents c.serve_room-goes_on.result.0 false c.args.self.now c.serve_room-goes_on.new.self
    c.args.parts.now.items c.serve_room-goes_on.new.parts.items c.args.pass c.serve_room-goes_on.result.1 c.if-not-goes_on.true
    c.serve_room-goes_on.ensures.serves

pub returns-then-not-goes_on-clause-looks : goal.returns-then-not-goes_on-clause-looks
returns-then-not-goes_on-clause-looks g c = omega (arith, c.serve_room-goes_on.ensures.looks)

pub returns-clause-serves : goal.returns-clause-serves
returns-clause-serves g c =
    serves_twice g.S.Stream.remaining g.S.Stream.contents (is_some c.serve_front.result.0) c.args.self.now c.serve_room-goes_on.new.self
    c.serve_front.new.self c.args.parts.now.items c.serve_room-goes_on.new.parts.items c.serve_front.new.parts.items c.args.pass
    c.serve_room-goes_on.result.1 c.serve_front.result.1
    (serves_as g.S.Stream.remaining g.S.Stream.contents c.serve_room-goes_on.result.0 true c.args.self.now c.serve_room-goes_on.new.self
    c.args.parts.now.items c.serve_room-goes_on.new.parts.items c.args.pass c.serve_room-goes_on.result.1 c.if-not-goes_on.false
    c.serve_room-goes_on.ensures.serves)
    c.serve_front.ensures.serves

pub returns-clause-quiet : goal.returns-clause-quiet
returns-clause-quiet g c =
    takes_behind c.serve_front.result.0 c.args.self.now.events c.serve_room-goes_on.new.self.events c.serve_front.new.self.events
    c.serve_room-goes_on.ensures.quiet c.serve_front.ensures.quiet

pub returns-clause-looks : goal.returns-clause-looks
returns-clause-looks g c = omega (arith, c.serve_room-goes_on.ensures.looks, c.serve_front.ensures.looks)
