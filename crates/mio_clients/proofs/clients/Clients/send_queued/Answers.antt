use Rattle.mio_clients.proofs.FollowLaws.{all_itself}
use Rattle.mio_clients.proofs.clients.Clients.send_queued.Goals as goal

pub returns-else-may_write-clause-later : goal.returns-else-may_write-clause-later
returns-else-may_write-clause-later g c = all_itself g.S.Stream.remaining g.S.Stream.contents c.args.self.now
