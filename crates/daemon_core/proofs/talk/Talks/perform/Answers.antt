use Rattle.std.proofs.Common.{refl, arith}
use Rattle.daemon_core.proofs.TalkLaws.{subscribe_fails}
use Rattle.daemon_core.proofs.talk.Talks.perform.Goals as goal

pub returns-in-Err-clause-talked : goal.returns-in-Err-clause-talked
returns-in-Err-clause-talked c = record {
  same = record { messages = c.in-Err.ensures.err; notified = refl };
  nothing = record { text = refl; room = omega arith; ops = refl; size = refl };
  refusal = subscribe_fails c.args.client c.args.self.now.messages c.args.command c.in-Subscribe.channel c.as_str-in-Subscribe.result.now
      c.in-Err.error c.failure_of.result c.in-Subscribe.is c.as_str-in-Subscribe.ensures c.in-Err.ensures.answer c.failure_of.ensures;
}
