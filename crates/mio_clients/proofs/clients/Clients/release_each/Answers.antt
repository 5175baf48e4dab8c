use Rattle.std.proofs.Common.{refl, ◌∙◌}
use Rattle.mio_clients.specs.Later.{no_bytes, no_requests}
use Rattle.mio_clients.proofs.FollowLaws.{all_itself, all_then_none}
use Rattle.mio_clients.proofs.clients.Clients.release_each.Goals as goal

pub loop-client-init : goal.loop-client-init
loop-client-init g c = record { later = all_itself g.S.Stream.remaining g.S.Stream.contents c.args.self.now; events = refl }

pub loop-client-preserved : goal.loop-client-preserved
loop-client-preserved g c = record {
  later = all_then_none g.S.Stream.remaining g.S.Stream.contents c.args.self.now c.loop-client.self c.release.new.self no_bytes no_requests
      c.loop-client.invariant.later c.release.ensures.later;
  events = c.release.ensures.events ∙ c.loop-client.invariant.events;
}
