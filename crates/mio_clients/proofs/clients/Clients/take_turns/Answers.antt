use Rattle.std.proofs.Common.{[], sym}
use Rattle.mio_clients.proofs.FollowLaws.{all_itself}
use Rattle.mio_clients.proofs.GroupLaws.{all_of_refused}
use Rattle.mio_clients.proofs.RoundLaws.{dealt_asked}
use Rattle.mio_clients.proofs.clients.Clients.take_turns.Goals as goal

pub returns-then-is_left-clause-later : goal.returns-then-is_left-clause-later
returns-then-is_left-clause-later g c =
    let rem = g.S.Stream.remaining in
    let con = g.S.Stream.contents in
    all_of_refused rem con c.args.self.now c.deal.new.self c.deal.new.self [] [] c.deal.ensures.same
    (λ n. dealt_asked n c.args.self.now.events c.deal.new.self.events c.deal.ensures.dealt) tt tt (all_itself rem con c.deal.new.self)

pub returns-else-is_left-clause-later : goal.returns-else-is_left-clause-later
returns-else-is_left-clause-later g c = all_itself g.S.Stream.remaining g.S.Stream.contents c.args.self.now
