use Rattle.mio_clients.proofs.TurnLaws.{sent_first, sent_none}
use Rattle.mio_clients.proofs.clients.Clients.give_outputs.Goals as goal

pub loop-output-preserved : goal.loop-output-preserved
loop-output-preserved g c = record {
  later = λ d h. c.loop-output.invariant.later d (sent_first g.S.Stream.remaining g.S.Stream.contents c.loop-output.self c.hand_out.new.self d
      c.in-Some.output.now c.loop-output.rest.now c.in-Some.after.now c.as_slice.result.now c.in-Some.ensures.cases.0 c.as_slice.ensures
      c.hand_out.ensures.later h);
  quiet = λ waits n h. c.hand_out.ensures.quiet waits n (c.loop-output.invariant.quiet waits n h);
}

pub returns-clause-later : goal.returns-clause-later
returns-clause-later g c =
    c.loop-output.invariant.later c.loop-output.self
    (sent_none g.S.Stream.remaining g.S.Stream.contents c.loop-output.self c.loop-output.rest.now c.in_default.ensures.cases)
