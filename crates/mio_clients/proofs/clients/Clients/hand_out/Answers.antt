use Rattle.mio_clients.specs.Later.{bytes_for, no_requests}
use Rattle.mio_clients.proofs.FollowLaws.{all_then_none}
use Rattle.mio_clients.proofs.clients.Clients.hand_out.Goals as goal

pub returns-then-not-is_next-clause-later : goal.returns-then-not-is_next-clause-later
returns-then-not-is_next-clause-later g c =
    let rem = g.S.Stream.remaining in
    let con = g.S.Stream.contents in
    all_then_none rem con c.args.self.now c.give.new.self c.send_to.new.self (bytes_for c.args.client c.args.bytes.now) no_requests
    c.give.ensures.later c.send_to.ensures.later
