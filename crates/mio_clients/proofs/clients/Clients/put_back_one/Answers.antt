use Rattle.mio_clients.proofs.GroupLaws.{puts_nothing}
use Rattle.mio_clients.proofs.clients.Clients.put_back_one.Goals as goal

pub returns-in_default : goal.returns-in_default
returns-in_default g c = puts_nothing c.args.self.now c.args.event c.in_default.ensures.asked
