use Rattle.mio_clients.specs.Later.{no_bytes, no_requests}
use Rattle.mio_clients.proofs.FollowLaws.{all_then_none}
use Rattle.mio_clients.proofs.clients.Clients.visit.Goals as goal

pub returns : goal.returns
returns g c =
    let rem = g.S.Stream.remaining in
    let con = g.S.Stream.contents in
    record {
      later = all_then_none rem con c.args.self.now c.write_ready-written.new.self c.read_or_put_off.new.self no_bytes no_requests
          c.write_ready-written.ensures.later c.read_or_put_off.ensures.later;
    }
