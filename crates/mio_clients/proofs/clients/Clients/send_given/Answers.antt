use Rattle.mio_clients.specs.Later.{no_bytes, no_requests}
use Rattle.mio_clients.proofs.FollowLaws.{all_itself, all_then_none}
use Rattle.mio_clients.proofs.clients.Clients.send_given.Goals as goal

pub loop-key-init : goal.loop-key-init
loop-key-init g c = record {
  later = all_itself g.S.Stream.remaining g.S.Stream.contents c.args.self.now;
  quiet = λ waits n h. h;
}

pub loop-key-preserved : goal.loop-key-preserved
loop-key-preserved g c = record {
  later = all_then_none g.S.Stream.remaining g.S.Stream.contents c.args.self.now c.loop-key.self c.send_queued.new.self no_bytes no_requests c.loop-key.invariant.later c.send_queued.ensures.later;
  quiet = λ waits n h. c.send_queued.ensures.quiet waits n (c.loop-key.invariant.quiet waits n h);
}
