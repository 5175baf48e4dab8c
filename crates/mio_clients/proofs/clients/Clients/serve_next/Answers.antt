use Rattle.std.proofs.Common.{refl, sym, ◌∙◌, ap, List, ◌∷◌, [], ◌++◌}
use Rattle.mio_clients.specs.declared.part.Part.{Part}
use Rattle.mio_clients.specs.declared.part.Part.TheVariants.{Served, Refused}
use Rattle.stage_workers.specs.declared.refusal.StageError.TheVariants as errors
use Rattle.mio_clients.proofs.FollowLaws.{all_itself}
use Rattle.mio_clients.proofs.TurnLaws.{looks_nothing, looks_one, looks_refused, serves_refusal, serves_nothing, serves_one, all_as, all_kept}
use Rattle.mio_clients.proofs.clients.Clients.serve_next.Goals as goal

pub returns-then-is_err-clause-serves : goal.returns-then-is_err-clause-serves
returns-then-is_err-clause-serves g c =
    serves_refusal g.S.Stream.remaining g.S.Stream.contents c.args.self.now c.args.self.now errors.NoMemory c.args.parts.now.items
    c.push_reserved.new.self.items c.args.pass c.args.pass
    (all_itself g.S.Stream.remaining g.S.Stream.contents c.args.self.now)
    (c.push_reserved.ensures.items ∙ ap (λ (t : List (Part g.row.D.Denot)). t ++ Refused errors.NoMemory ∷ []) c.reserve.ensures.items) refl

pub returns-in_default-clause-serves : goal.returns-in_default-clause-serves
returns-in_default-clause-serves g c =
    serves_nothing g.S.Stream.remaining g.S.Stream.contents c.args.self.now c.pop.new.self c.args.parts.now.items c.reserve.new.self.items
    c.args.pass c.args.pass
    (all_as g.S.Stream.remaining g.S.Stream.contents c.args.self.now c.pop.new.self c.in_default.ensures.same
    (c.in_default.ensures.event.1 ∙ sym c.in_default.ensures.event.0)) c.reserve.ensures.items refl

pub returns-in-Ok-clause-serves : goal.returns-in-Ok-clause-serves
returns-in-Ok-clause-serves g c =
    serves_one g.S.Stream.remaining g.S.Stream.contents c.args.self.now c.pop.new.self c.give_served.new.self c.in-Some.event
    c.handed_over-event.result.0 c.in-Ok.served c.args.parts.now.items c.push_reserved-in-Ok.new.self.items c.args.pass c.in-Ok.pass
    c.in-Some.ensures.same c.in-Some.ensures.event c.handed_over-event.ensures.asked c.in-Ok.ensures.asked c.give_served.ensures.later
    (c.push_reserved-in-Ok.ensures.items ∙ ap (λ (t : List (Part g.row.D.Denot)). t ++ Served c.in-Ok.served ∷ []) c.reserve.ensures.items)
    c.in-Ok.ensures.passed c.in-Ok.ensures.later

pub returns-then-keep-clause-serves : goal.returns-then-keep-clause-serves
returns-then-keep-clause-serves g c =
    serves_nothing g.S.Stream.remaining g.S.Stream.contents c.args.self.now c.keep.new.self c.args.parts.now.items c.reserve.new.self.items
    c.args.pass c.in-Err.pass
    (all_kept g.S.Stream.remaining g.S.Stream.contents c.args.self.now c.pop.new.self c.keep.new.self c.in-Some.event
    c.handed_over-event.result.1 c.in-Some.ensures.same c.in-Some.ensures.event c.handed_over-event.ensures.kept c.keep.ensures.kept)
    c.reserve.ensures.items c.in-Err.ensures.refused

pub returns-else-keep-clause-serves : goal.returns-else-keep-clause-serves
returns-else-keep-clause-serves g c =
    serves_refusal g.S.Stream.remaining g.S.Stream.contents c.args.self.now c.keep.new.self c.in-Err.error c.args.parts.now.items
    c.push_reserved-in-Err.new.self.items c.args.pass c.in-Err.pass
    (all_kept g.S.Stream.remaining g.S.Stream.contents c.args.self.now c.pop.new.self c.keep.new.self c.in-Some.event
    c.handed_over-event.result.1 c.in-Some.ensures.same c.in-Some.ensures.event c.handed_over-event.ensures.kept c.keep.ensures.kept)
    (c.push_reserved-in-Err.ensures.items
    ∙ ap (λ (t : List (Part g.row.D.Denot)). t ++ Refused c.in-Err.error ∷ []) c.reserve.ensures.items)
    c.in-Err.ensures.refused

pub returns-then-is_err-clause-looks : goal.returns-then-is_err-clause-looks
returns-then-is_err-clause-looks g c =
    looks_refused c.args.parts.now.items c.push_reserved.new.self.items errors.NoMemory
    (c.push_reserved.ensures.items ∙ ap (λ (t : List (Part g.row.D.Denot)). t ++ Refused errors.NoMemory ∷ []) c.reserve.ensures.items)

pub returns-in_default-clause-looks : goal.returns-in_default-clause-looks
returns-in_default-clause-looks g c = looks_nothing c.args.parts.now.items c.reserve.new.self.items c.reserve.ensures.items

pub returns-in-Ok-clause-looks : goal.returns-in-Ok-clause-looks
returns-in-Ok-clause-looks g c =
    looks_one c.args.parts.now.items c.push_reserved-in-Ok.new.self.items c.in-Ok.served
    (c.push_reserved-in-Ok.ensures.items ∙ ap (λ (t : List (Part g.row.D.Denot)). t ++ Served c.in-Ok.served ∷ []) c.reserve.ensures.items)

pub returns-then-keep-clause-looks : goal.returns-then-keep-clause-looks
returns-then-keep-clause-looks g c = looks_nothing c.args.parts.now.items c.reserve.new.self.items c.reserve.ensures.items

pub returns-else-keep-clause-looks : goal.returns-else-keep-clause-looks
returns-else-keep-clause-looks g c =
    looks_refused c.args.parts.now.items c.push_reserved-in-Err.new.self.items c.in-Err.error
    (c.push_reserved-in-Err.ensures.items
    ∙ ap (λ (t : List (Part g.row.D.Denot)). t ++ Refused c.in-Err.error ∷ []) c.reserve.ensures.items)
