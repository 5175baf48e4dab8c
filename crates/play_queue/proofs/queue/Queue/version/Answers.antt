use Rattle.play_queue.proofs.Versions.{tells_changes}
use Rattle.play_queue.proofs.queue.Queue.version.Goals as goal

pub returns-clause-stays : goal.returns-clause-stays
returns-clause-stays c = tells_changes c.args.self.now
