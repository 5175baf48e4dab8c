use Rattle.std.proofs.Common.{refl}
use Rattle.mio_clients.specs.Later.{no_requests}
use Rattle.mio_clients.specs.Parts.{sent_by_all}
use Rattle.mio_clients.proofs.FollowLaws.{all_then_none}
use Rattle.mio_clients.proofs.TurnLaws.{sent_served}
use Rattle.mio_clients.proofs.clients.Clients.give_served.Goals as goal

pub returns-clause-later : goal.returns-clause-later
returns-clause-later g c =
    let rem = g.S.Stream.remaining in
    let con = g.S.Stream.contents in
    let before = c.args.served.now.before in
    sent_served rem con c.args.self.now c.await_asker.new.self c.give_outputs.new.self c.release_each.new.self c.args.served.now before
    c.outputs.result.now refl c.outputs.ensures.value
    (all_then_none rem con c.args.self.now c.give_outbox.new.self c.await_asker.new.self (sent_by_all before) no_requests
    c.give_outbox.ensures.later c.await_asker.ensures.later)
    c.give_outputs.ensures.later c.release_each.ensures.later
