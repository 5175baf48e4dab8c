use Rattle.std.proofs.Common.{[], sym}
use Rattle.mio_clients.proofs.FollowLaws.{all_itself}
use Rattle.mio_clients.proofs.GroupLaws.{all_of_refused}
use Rattle.mio_clients.proofs.clients.Clients.seek.Goals as goal

pub returns-then-is_bounded-clause-later : goal.returns-then-is_bounded-clause-later
returns-then-is_bounded-clause-later g c =
    let rem = g.S.Stream.remaining in
    let con = g.S.Stream.contents in
    all_of_refused rem con c.args.self.now c.sort_out.new.self c.sort_out.new.self [] [] c.sort_out.ensures.same
    (λ n. sym (c.sort_out.ensures.asked n)) tt tt (all_itself rem con c.sort_out.new.self)

pub returns-else-is_bounded-clause-later : goal.returns-else-is_bounded-clause-later
returns-else-is_bounded-clause-later g c = all_itself g.S.Stream.remaining g.S.Stream.contents c.args.self.now
