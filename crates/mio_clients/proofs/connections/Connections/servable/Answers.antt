use Rattle.std.proofs.Common.{subst, arith}
use Rattle.mio_clients.specs.Connections.{ConnectionsState}
use Rattle.mio_clients.specs.Waiting.{QuietBehind}
use Rattle.mio_clients.proofs.SeekLaws.{quiet_past}
use Rattle.mio_clients.proofs.connections.Connections.servable.Goals as goal

pub returns-else-is_bounded : goal.returns-else-is_bounded
returns-else-is_bounded g c =
    subst (λ (s : ConnectionsState g.row.S.Denot). QuietBehind c.args.is_bounded c.len.result s.events) c.self.view_is
    (quiet_past c.args.is_bounded c.len.result c.self.inside.queue.events (omega (arith, c.len.ensures)))
