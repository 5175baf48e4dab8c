use Rattle.std.proofs.Common.{Option, subst}
use Rattle.std.proofs.lemmas.Result.{on_ok_weaker}
use Rattle.client_messages.specs.Refusal.{AnswersIfMemory}
use Rattle.client_messages.specs.declared.refusal.MessagesError.{MessagesError}
use Rattle.client_messages.proofs.Calls.{subscribed_from, subscribe_refusal_from}
use Rattle.client_messages.proofs.client_messages.ClientMessages.subscribe.Goals as goal

pub returns-in-Ok-clause-ok : goal.returns-in-Ok-clause-ok
returns-in-Ok-clause-ok c =
    let found = rw c.deref.ensures.value at c.in-Ok.ensures.found in
    rw (← c.self.view_is) (on_ok_weaker c.add.result
    (subscribed_from c.self.inside.listeners.items c.self.invariant c.args.client c.in-Ok.at found c.index_mut.result.now
    c.index_mut.ensures.value c.add.new.self c.args.channel.now) c.add.ensures.ok)

pub returns-in-Ok-clause-answer : goal.returns-in-Ok-clause-answer
returns-in-Ok-clause-answer c =
    let found = rw c.deref.ensures.value at c.in-Ok.ensures.found in
    rw (← c.self.view_is) (subst (λ (o : Option MessagesError). AnswersIfMemory o c.add.result)
    (subscribe_refusal_from c.self.inside.listeners.items c.self.invariant c.args.client c.in-Ok.at found c.index_mut.result.now
    c.index_mut.ensures.value c.args.channel.now) c.add.ensures.answer)
