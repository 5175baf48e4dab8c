use Rattle.std.proofs.Common.{◌≡◌, length, ap, arith}
use Rattle.mio_clients.specs.Connections.{ConnectionsState}
use Rattle.mio_clients.proofs.YieldLaws.{found_all}
use Rattle.mio_clients.proofs.connections.Connections.first_to_yield.Goals as goal

pub returns : goal.returns
returns g c =
    let same : length c.self.inside.clients.slots ≡ length c.args.self.now.clients.slots =
    ap (λ (s : ConnectionsState g.row.S.Denot). length s.clients.slots) c.self.view_is in
    found_all g.S.Stream.remote c.args.to_remote c.args.self.now c.loop-key.key c.loop-key.found
    (omega (arith, same, c.capacity-key-end.ensures.slots, c.loop-key-test.false)) c.loop-key.invariant
