use Rattle.mio_clients.proofs.FollowLaws.{all_itself}
use Rattle.mio_clients.proofs.clients.Clients.await_asker.Goals as goal

pub returns-in_default-clause-later : goal.returns-in_default-clause-later
returns-in_default-clause-later g c = all_itself g.S.Stream.remaining g.S.Stream.contents c.args.self.now
