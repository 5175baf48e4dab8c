use Rattle.mio_clients.specs.Later.{no_bytes, no_requests}
use Rattle.mio_clients.proofs.FollowLaws.{all_itself, all_then_none}
use Rattle.mio_clients.proofs.GroupLaws.{gone_more, gone_none}
use Rattle.mio_clients.proofs.clients.Clients.drop_each.Goals as goal

pub loop-client-init : goal.loop-client-init
loop-client-init g c = record {
  later = all_itself g.S.Stream.remaining g.S.Stream.contents c.args.self.now;
  gone = λ d h k. k;
  quiet = λ waits n h. h;
}

pub loop-client-preserved : goal.loop-client-preserved
loop-client-preserved g c =
    let rem = g.S.Stream.remaining in
    let con = g.S.Stream.contents in
    let now = c.loop-client.self in
    let next = c.drop_client.new.self in
    record {
      later = all_then_none rem con c.args.self.now now next no_bytes no_requests c.loop-client.invariant.later c.drop_client.ensures.later;
      gone = λ d h k. c.loop-client.invariant.gone d (all_then_none rem con now next d no_bytes no_requests c.drop_client.ensures.later h)
          (gone_more rem con next d c.loop-client.rest.now c.in-Some.after.now c.in-Some.client.now c.in-Some.ensures.cases.0
          c.drop_client.ensures.gone c.drop_client.ensures.forgotten h k);
      quiet = λ waits n h. c.drop_client.ensures.quiet waits n (c.loop-client.invariant.quiet waits n h);
    }

pub returns-clause-gone : goal.returns-clause-gone
returns-clause-gone g c =
    c.loop-client.invariant.gone c.loop-client.self (all_itself g.S.Stream.remaining g.S.Stream.contents c.loop-client.self)
    (gone_none g.S.Stream.remaining g.S.Stream.contents c.loop-client.self c.loop-client.rest.now c.in_default.ensures.cases)
