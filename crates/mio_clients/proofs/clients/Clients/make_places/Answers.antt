use Rattle.mio_clients.specs.Later.{no_bytes, no_requests}
use Rattle.mio_clients.proofs.FollowLaws.{all_itself, all_then_none}
use Rattle.mio_clients.proofs.clients.Clients.make_places.Goals as goal

pub returns-then-len : goal.returns-then-len
returns-then-len g c = record { later = all_itself g.S.Stream.remaining g.S.Stream.contents c.args.self.now }

pub loop-key-init : goal.loop-key-init
loop-key-init g c = all_itself g.S.Stream.remaining g.S.Stream.contents c.args.self.now

pub loop-key-preserved : goal.loop-key-preserved
loop-key-preserved g c =
    all_then_none g.S.Stream.remaining g.S.Stream.contents c.args.self.now c.loop-key.self c.drop_over.new.self no_bytes no_requests
    c.loop-key.invariant c.drop_over.ensures.later
