use Rattle.std.proofs.Common.{Option, Err, refl, subst}
use Rattle.std.proofs.lemmas.Result.{on_ok_weaker}
use Rattle.client_messages.specs.Refusal.{Answers}
use Rattle.client_messages.specs.declared.refusal.MessagesError.{MessagesError}
use Rattle.client_messages.specs.declared.refusal.MessagesError.TheVariants.{NotSubscribed}
use Rattle.client_messages.proofs.Calls.{unsubscribed_from, unsubscribe_refusal_from, unsubscribe_refusal_gap}
use Rattle.client_messages.proofs.client_messages.ClientMessages.unsubscribe.Goals as goal

pub returns-in-Ok-clause-ok : goal.returns-in-Ok-clause-ok
returns-in-Ok-clause-ok c =
    let found = rw c.deref.ensures.value at c.in-Ok.ensures.found in
    rw (← c.self.view_is) (on_ok_weaker c.remove.result
    (unsubscribed_from c.self.inside.listeners.items c.self.invariant c.args.client c.in-Ok.at found c.index_mut.result.now
    c.index_mut.ensures.value c.remove.new.self c.args.channel.now) c.remove.ensures.ok)

pub returns-in-Ok-clause-answer : goal.returns-in-Ok-clause-answer
returns-in-Ok-clause-answer c =
    let found = rw c.deref.ensures.value at c.in-Ok.ensures.found in
    rw (← c.self.view_is) (subst (λ (o : Option MessagesError). Answers o c.remove.result)
    (unsubscribe_refusal_from c.self.inside.listeners.items c.self.invariant c.args.client c.in-Ok.at found c.index_mut.result.now
    c.index_mut.ensures.value c.args.channel.now) c.remove.ensures.answer)

pub returns-in-Err-clause-answer : goal.returns-in-Err-clause-answer
returns-in-Err-clause-answer c =
    let gap = rw c.deref.ensures.value at c.in-Err.ensures.absent in
    rw (← c.self.view_is) (subst (λ (o : Option MessagesError). Answers {T = Unit {0}} o (Err NotSubscribed))
    (unsubscribe_refusal_gap c.self.inside.listeners.items c.args.client _ gap c.args.channel.now) refl)
