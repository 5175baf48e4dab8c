use Rattle.std.proofs.Common.{refl, ◌∙◌, ap, inl, inr, List, ◌∷◌, [], ◌++◌}
use Rattle.mio_clients.specs.Parts.{is_of_clock}
use Rattle.mio_clients.specs.declared.part.Part.{Part}
use Rattle.mio_clients.specs.declared.part.Part.TheVariants.{Served, Refused}
use Rattle.daemon_core.specs.declared.event.Event.TheVariants as stage_events
use Rattle.stage_workers.specs.declared.refusal.StageError.TheVariants as errors
use Rattle.mio_clients.proofs.TurnLaws.{all_asked, all_unasked, looks_nothing, looks_one, looks_refused, serves_nothing, serves_own, serves_refusal}
use Rattle.mio_clients.proofs.clients.Clients.serve_clock.Goals as goal

pub returns-in_default-clause-serves : goal.returns-in_default-clause-serves
returns-in_default-clause-serves g c =
    serves_nothing g.S.Stream.remaining g.S.Stream.contents c.args.self.now c.next_clock.new.self c.args.parts.now.items c.args.parts.now.items
    c.args.pass c.args.pass
    (all_asked g.S.Stream.remaining g.S.Stream.contents c.args.self.now c.next_clock.new.self c.next_clock.ensures.asked) refl refl

pub returns-in-Ok-clause-serves : goal.returns-in-Ok-clause-serves
returns-in-Ok-clause-serves g c =
    serves_own g.S.Stream.remaining g.S.Stream.contents c.args.self.now c.next_clock.new.self c.give_served.new.self
    (stage_events.Clock c.in-Some.time) c.in-Ok.served c.args.parts.now.items c.push_reserved-in-Ok.new.self.items c.args.pass c.in-Ok.pass
    c.next_clock.ensures.asked (λ i. refl) c.in-Ok.ensures.asked c.give_served.ensures.later
    (c.push_reserved-in-Ok.ensures.items ∙ ap (λ (t : List (Part g.row.D.Denot)). t ++ Served c.in-Ok.served ∷ []) c.reserve.ensures.items)
    c.in-Ok.ensures.passed c.in-Ok.ensures.later

pub returns-in-Ok-clause-looks : goal.returns-in-Ok-clause-looks
returns-in-Ok-clause-looks g c =
    looks_one c.args.parts.now.items c.push_reserved-in-Ok.new.self.items c.in-Ok.served
    (c.push_reserved-in-Ok.ensures.items ∙ ap (λ (t : List (Part g.row.D.Denot)). t ++ Served c.in-Ok.served ∷ []) c.reserve.ensures.items)

pub returns-then-is_err-clause-serves : goal.returns-then-is_err-clause-serves
returns-then-is_err-clause-serves g c =
    serves_refusal g.S.Stream.remaining g.S.Stream.contents c.args.self.now c.ask_again.new.self errors.NoMemory c.args.parts.now.items
    c.push_reserved.new.self.items c.args.pass c.args.pass
    (all_unasked g.S.Stream.remaining g.S.Stream.contents c.args.self.now c.next_clock.new.self c.ask_again.new.self
    c.next_clock.ensures.asked c.ask_again.ensures)
    (c.push_reserved.ensures.items ∙ ap (λ (t : List (Part g.row.D.Denot)). t ++ Refused errors.NoMemory ∷ []) c.reserve.ensures.items) refl

pub returns-in-Err-clause-serves : goal.returns-in-Err-clause-serves
returns-in-Err-clause-serves g c =
    serves_refusal g.S.Stream.remaining g.S.Stream.contents c.args.self.now c.ask_again-in-Err.new.self c.in-Err.error
    c.args.parts.now.items c.push_reserved-in-Err.new.self.items c.args.pass c.in-Err.pass
    (all_unasked g.S.Stream.remaining g.S.Stream.contents c.args.self.now c.next_clock.new.self c.ask_again-in-Err.new.self
    c.next_clock.ensures.asked c.ask_again-in-Err.ensures)
    (c.push_reserved-in-Err.ensures.items
    ∙ ap (λ (t : List (Part g.row.D.Denot)). t ++ Refused c.in-Err.error ∷ []) c.reserve.ensures.items)
    c.in-Err.ensures.refused

pub returns-then-is_err-clause-looks : goal.returns-then-is_err-clause-looks
returns-then-is_err-clause-looks g c =
    looks_refused c.args.parts.now.items c.push_reserved.new.self.items errors.NoMemory
    (c.push_reserved.ensures.items ∙ ap (λ (t : List (Part g.row.D.Denot)). t ++ Refused errors.NoMemory ∷ []) c.reserve.ensures.items)

pub returns-in_default-clause-looks : goal.returns-in_default-clause-looks
returns-in_default-clause-looks g c = looks_nothing c.args.parts.now.items c.args.parts.now.items refl

pub returns-in-Err-clause-looks : goal.returns-in-Err-clause-looks
returns-in-Err-clause-looks g c =
    looks_refused c.args.parts.now.items c.push_reserved-in-Err.new.self.items c.in-Err.error
    (c.push_reserved-in-Err.ensures.items
    ∙ ap (λ (t : List (Part g.row.D.Denot)). t ++ Refused c.in-Err.error ∷ []) c.reserve.ensures.items)

pub returns-in_default-clause-told : goal.returns-in_default-clause-told
returns-in_default-clause-told g c = inl refl

pub returns-in-Ok-clause-told : goal.returns-in-Ok-clause-told
returns-in-Ok-clause-told g c = inr (
  Served c.in-Ok.served,
  c.push_reserved-in-Ok.ensures.items ∙ ap (λ (t : List (Part g.row.D.Denot)). t ++ Served c.in-Ok.served ∷ []) c.reserve.ensures.items,
  ap is_of_clock c.in-Ok.ensures.asked,
)

pub returns-then-is_err-clause-told : goal.returns-then-is_err-clause-told
returns-then-is_err-clause-told g c = inr (
  Refused errors.NoMemory,
  c.push_reserved.ensures.items ∙ ap (λ (t : List (Part g.row.D.Denot)). t ++ Refused errors.NoMemory ∷ []) c.reserve.ensures.items,
  tt,
)

pub returns-in-Err-clause-told : goal.returns-in-Err-clause-told
returns-in-Err-clause-told g c = inr (
  Refused c.in-Err.error,
  c.push_reserved-in-Err.ensures.items ∙ ap (λ (t : List (Part g.row.D.Denot)). t ++ Refused c.in-Err.error ∷ []) c.reserve.ensures.items,
  tt,
)
