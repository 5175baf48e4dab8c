use Rattle.std.proofs.Common.{subst}
use Rattle.mio_clients.specs.Connections.{ConnectionsState}
use Rattle.mio_clients.specs.Later.{no_bytes, no_requests}
use Rattle.mio_clients.specs.Leaving.{AllFollow}
use Rattle.mio_clients.proofs.FollowLaws.{all_itself, all_then_none}
use Rattle.mio_clients.specs.Waiting.{StaysQuiet}
use Rattle.mio_clients.proofs.WaitingLaws.{quiet_itself, quiet_same, quiet_twice}
use Rattle.mio_clients.proofs.TurnLaws.{vacant_lost}
use Rattle.mio_clients.proofs.clients.Clients.let_go_of.Goals as goal

pub returns-in-Some-clause-later : goal.returns-in-Some-clause-later
returns-in-Some-clause-later g c =
    let rem = g.S.Stream.remaining in
    let con = g.S.Stream.contents in
    all_then_none rem con c.args.self.now c.write_at-writing.new.self c.remove.new.self no_bytes no_requests (subst (λ (s : ConnectionsState g.row.S.Denot). AllFollow rem con no_bytes no_requests s c.write_at-writing.new.self) c.self.view_is c.write_at-writing.ensures.later) c.remove.ensures.later

pub returns-in_default-clause-later : goal.returns-in_default-clause-later
returns-in_default-clause-later g c = all_itself g.S.Stream.remaining g.S.Stream.contents c.args.self.now

pub returns-in-Some-clause-gone : goal.returns-in-Some-clause-gone
returns-in-Some-clause-gone g c =
    let rem = g.S.Stream.remaining in
    let con = g.S.Stream.contents in
    vacant_lost rem con c.self.inside.connections c.write_at-writing.new.self c.remove.new.self c.args.client c.in-Some.key c.in-Some.ensures.alone
    c.write_at-writing.ensures.later c.remove.ensures.loses

pub returns-in-Some-clause-quiet : goal.returns-in-Some-clause-quiet
returns-in-Some-clause-quiet g c =
    let q = quiet_twice c.self.inside.connections.events c.write_at-writing.new.self.events c.remove.new.self.events
    (quiet_same c.self.inside.connections.events c.write_at-writing.new.self.events c.write_at-writing.ensures.events) c.remove.ensures.quiet in
    subst (λ (s : ConnectionsState g.row.S.Denot). StaysQuiet s.events c.remove.new.self.events) c.self.view_is q

pub returns-in_default-clause-quiet : goal.returns-in_default-clause-quiet
returns-in_default-clause-quiet g c = quiet_itself c.args.self.now.events
