use Rattle.std.proofs.Common.{arith}
use Rattle.mio_clients.proofs.GroupLaws.{group_most}
use Rattle.mio_clients.proofs.clients.Clients.serve_front.Goals as goal

pub new-requires-clause-few : goal.new-requires-clause-few
new-requires-clause-few g c =
    let n = c.group_len-count.ensures in
    let most = group_most n.0 c.args.self.now.events in
    omega (arith, most, n.1, n.2)

pub serve_group-requires-clause-count : goal.serve_group-requires-clause-count
serve_group-requires-clause-count g c = (let n = c.group_len-count.ensures in ((n.0, n.2), omega arith))
