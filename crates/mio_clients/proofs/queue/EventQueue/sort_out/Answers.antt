use Rattle.std.proofs.Common.{◌∙◌, ap}
use Rattle.mio_clients.specs.Connections.{QueueState}
use Rattle.mio_clients.specs.Events.{asked_in}
use Rattle.mio_clients.proofs.LaterLaws.{asked_in-append}
use Rattle.mio_clients.proofs.queue.EventQueue.sort_out.Goals as goal

pub returns-clause-asked : goal.returns-clause-asked
returns-clause-asked c =
    λ k. ap (asked_in k) c.put_behind.ensures.events
    ∙ asked_in-append k c.take_seeking.new.self.events c.take_seeking.new.behind.items ∙ c.take_seeking.ensures.asked k
    ∙ c.take_pictures.ensures.asked k ∙ ap (λ (q : QueueState). asked_in k q.events) c.self.view_is
