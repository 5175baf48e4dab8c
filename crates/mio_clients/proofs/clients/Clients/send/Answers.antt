use Rattle.std.proofs.Common.{subst}
use Rattle.mio_clients.specs.Connections.{ConnectionsState}
use Rattle.mio_clients.specs.Later.{no_bytes, no_requests}
use Rattle.mio_clients.specs.Leaving.{AllFollow}
use Rattle.mio_clients.proofs.FollowLaws.{all_then_none}
use Rattle.mio_clients.proofs.clients.Clients.send.Goals as goal

pub returns-then-is_over-clause-later : goal.returns-then-is_over-clause-later
returns-then-is_over-clause-later g c =
    let rem = g.S.Stream.remaining in
    let con = g.S.Stream.contents in
    all_then_none rem con c.args.self.now c.send_queued.new.self c.remove.new.self no_bytes no_requests c.send_queued.ensures.later (subst (λ (s : ConnectionsState g.row.S.Denot). AllFollow rem con no_bytes no_requests s c.remove.new.self) c.self.view_is c.remove.ensures.later)

pub returns-then-not-watch_at-clause-later : goal.returns-then-not-watch_at-clause-later
returns-then-not-watch_at-clause-later g c =
    let rem = g.S.Stream.remaining in
    let con = g.S.Stream.contents in
    all_then_none rem con c.args.self.now c.watch_at.new.self c.remove-then-not-watch_at.new.self no_bytes no_requests
    (all_then_none rem con c.args.self.now c.send_queued.new.self c.watch_at.new.self no_bytes no_requests c.send_queued.ensures.later (subst (λ (s : ConnectionsState g.row.S.Denot). AllFollow rem con no_bytes no_requests s c.watch_at.new.self) c.self.view_is c.watch_at.ensures.later)) c.remove-then-not-watch_at.ensures.later

pub returns-else-not-watch_at-clause-later : goal.returns-else-not-watch_at-clause-later
returns-else-not-watch_at-clause-later g c =
    let rem = g.S.Stream.remaining in
    let con = g.S.Stream.contents in
    all_then_none rem con c.args.self.now c.send_queued.new.self c.watch_at.new.self no_bytes no_requests c.send_queued.ensures.later (subst (λ (s : ConnectionsState g.row.S.Denot). AllFollow rem con no_bytes no_requests s c.watch_at.new.self) c.self.view_is c.watch_at.ensures.later)
