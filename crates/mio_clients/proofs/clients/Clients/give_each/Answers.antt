use Rattle.mio_clients.proofs.TurnLaws.{sent_all_first, sent_all_none}
use Rattle.mio_clients.proofs.clients.Clients.give_each.Goals as goal

pub loop-outputs-preserved : goal.loop-outputs-preserved
loop-outputs-preserved g c = record {
  later = λ d h. c.loop-outputs.invariant.later d (sent_all_first g.S.Stream.remaining g.S.Stream.contents c.loop-outputs.self
      c.give_outputs.new.self d c.in-Some.outputs.now c.as_slice.result.now c.loop-outputs.rest.now c.in-Some.after.now
      c.in-Some.ensures.cases.0 c.as_slice.ensures c.give_outputs.ensures.later h);
  quiet = λ waits n h. c.give_outputs.ensures.quiet waits n (c.loop-outputs.invariant.quiet waits n h);
}

pub returns-clause-later : goal.returns-clause-later
returns-clause-later g c =
    c.loop-outputs.invariant.later c.loop-outputs.self
    (sent_all_none g.S.Stream.remaining g.S.Stream.contents c.loop-outputs.self c.loop-outputs.rest.now c.in_default.ensures.cases)
