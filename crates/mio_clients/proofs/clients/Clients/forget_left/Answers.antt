use Rattle.mio_clients.proofs.FollowLaws.{all_itself}
use Rattle.mio_clients.proofs.clients.Clients.forget_left.Goals as goal

pub returns-else-is_bounded-clause-later : goal.returns-else-is_bounded-clause-later
returns-else-is_bounded-clause-later g c = all_itself g.S.Stream.remaining g.S.Stream.contents c.args.self.now
