use Rattle.std.proofs.Common.{◌≡◌, ◌∙◌, [], Option, Err, sym, ap, subst}
use Rattle.std.specs.List.{insert}
use Rattle.client_messages.specs.Listeners.{newcomer, IsRising, IsGapFor, with_channel, subscribed}
use Rattle.client_messages.specs.Refusal.{AnswersIfMemory, add_refusal, subscribe_refusal}
use Rattle.client_messages.specs.declared.listener.Listener.{Listener}
use Rattle.client_messages.specs.declared.refusal.MessagesError.{MessagesError}
use Rattle.client_messages.proofs.Calls.{inserted, subscribed_gap, rising_subscribed, subscribe_refusal_gap, not_refused, same_refusal}
use Rattle.client_messages.proofs.Calls.{memory_answer, ok_answer}
use Rattle.client_messages.proofs.client_messages.ClientMessages.insert.Goals as goal

pub returns-in-Err-clause-answer : goal.returns-in-Err-clause-answer
returns-in-Err-clause-answer c =
    subst (λ (o : Option MessagesError). AnswersIfMemory {T = Unit {0}} o (Err c.in-Err.error))
    (subscribe_refusal_gap c.args.self.now c.args.client c.args.at c.requires c.args.channel.now)
    (same_refusal Listener (Unit {0}) (add_refusal [] c.args.channel.now) c.in-Err.error c.in-Err.ensures.answer)

pub returns-then-is_err-clause-answer : goal.returns-then-is_err-clause-answer
returns-then-is_err-clause-answer c =
    memory_answer (Unit {0}) (subscribe_refusal c.args.self.now c.args.client c.args.channel.now)
    (sym (subscribe_refusal_gap c.args.self.now c.args.client c.args.at c.requires c.args.channel.now)
    ∙ not_refused (add_refusal [] c.args.channel.now) c.in-Ok.listener c.in-Ok.ensures.answer)

pub returns-clause-answer : goal.returns-clause-answer
returns-clause-answer c =
    ok_answer (subscribe_refusal c.args.self.now c.args.client c.args.channel.now) tt
    (sym (subscribe_refusal_gap c.args.self.now c.args.client c.args.at c.requires c.args.channel.now)
    ∙ not_refused (add_refusal [] c.args.channel.now) c.in-Ok.listener c.in-Ok.ensures.answer)

-- the client goes into the gap
pub invariant_of-self-2 : goal.invariant_of-self-2
invariant_of-self-2 c =
    let ls = c.self.inside.listeners.items in
    let gap = subst (λ ls. IsGapFor ls c.args.client c.args.at) (sym c.self.view_is) c.requires in
    let made : c.insert.new.self.items ≡ insert ls c.args.at (with_channel c.args.channel.now (newcomer c.args.client)) =
    inserted ls _ c.args.at c.in-Ok.listener _ _ c.is_err.result c.insert.ensures.items c.is_err.ensures.negation c.if-is_err.false
    c.in-Ok.ensures.ok in
    subst IsRising (sym made) (rising_subscribed ls c.args.client c.args.at gap c.args.channel.now c.self.invariant)

pub returns-clause-ok : goal.returns-clause-ok
returns-clause-ok c =
    let ls = c.self.inside.listeners.items in
    let gap = subst (λ ls. IsGapFor ls c.args.client c.args.at) (sym c.self.view_is) c.requires in
    let made : c.insert.new.self.items ≡ insert ls c.args.at (with_channel c.args.channel.now (newcomer c.args.client)) =
    inserted ls _ c.args.at c.in-Ok.listener _ _ c.is_err.result c.insert.ensures.items c.is_err.ensures.negation c.if-is_err.false
    c.in-Ok.ensures.ok in
    made ∙ subscribed_gap ls c.args.client c.args.at gap c.args.channel.now
    ∙ ap (λ ls. subscribed ls c.args.client c.args.channel.now) c.self.view_is
