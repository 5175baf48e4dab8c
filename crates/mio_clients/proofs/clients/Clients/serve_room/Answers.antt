use Rattle.std.proofs.Common.{refl, ◌∙◌, ap, inl, inr, List, ◌∷◌, [], ◌++◌}
use Rattle.daemon_core.specs.declared.event.Event.TheVariants as stage_events
use Rattle.stage_workers.specs.declared.refusal.StageError.TheVariants as errors
use Rattle.mio_clients.specs.Parts.{is_of_room}
use Rattle.mio_clients.specs.declared.part.Part.{Part}
use Rattle.mio_clients.specs.declared.part.Part.TheVariants.{Served, Refused}
use Rattle.mio_clients.proofs.FollowLaws.{all_itself}
use Rattle.mio_clients.proofs.TurnLaws.{looks_free, serves_nothing, serves_refusal, serves_room}
use Rattle.mio_clients.proofs.clients.Clients.serve_room.Goals as goal

pub returns-then-not-is_bounded-clause-serves : goal.returns-then-not-is_bounded-clause-serves
returns-then-not-is_bounded-clause-serves g c =
    serves_nothing g.S.Stream.remaining g.S.Stream.contents c.args.self.now c.args.self.now c.args.parts.now.items c.args.parts.now.items
    c.args.pass c.args.pass (all_itself g.S.Stream.remaining g.S.Stream.contents c.args.self.now) refl refl

pub returns-then-not-is_bounded-clause-told : goal.returns-then-not-is_bounded-clause-told
returns-then-not-is_bounded-clause-told g c = inl refl

pub returns-then-is_err-clause-serves : goal.returns-then-is_err-clause-serves
returns-then-is_err-clause-serves g c =
    serves_refusal g.S.Stream.remaining g.S.Stream.contents c.args.self.now c.args.self.now errors.NoMemory c.args.parts.now.items
    c.push_reserved.new.self.items c.args.pass c.args.pass (all_itself g.S.Stream.remaining g.S.Stream.contents c.args.self.now)
    (c.push_reserved.ensures.items ∙ ap (λ (t : List (Part g.row.D.Denot)). t ++ Refused errors.NoMemory ∷ []) c.reserve.ensures.items) refl

pub returns-then-is_err-clause-looks : goal.returns-then-is_err-clause-looks
returns-then-is_err-clause-looks g c =
    looks_free c.args.parts.now.items c.push_reserved.new.self.items (Refused errors.NoMemory)
    (c.push_reserved.ensures.items ∙ ap (λ (t : List (Part g.row.D.Denot)). t ++ Refused errors.NoMemory ∷ []) c.reserve.ensures.items) refl

pub returns-then-is_err-clause-told : goal.returns-then-is_err-clause-told
returns-then-is_err-clause-told g c = inr (
  Refused errors.NoMemory,
  c.push_reserved.ensures.items ∙ ap (λ (t : List (Part g.row.D.Denot)). t ++ Refused errors.NoMemory ∷ []) c.reserve.ensures.items,
  tt,
)

pub returns-in-Some-clause-serves : goal.returns-in-Some-clause-serves
returns-in-Some-clause-serves g c =
    let is_there = rw c.in-Some.is at c.in-Ok.ensures.room in
    let told = rw c.in-Some.is at c.in-Ok.ensures.told in
    serves_room g.S.Stream.remaining g.S.Stream.contents c.args.self.now c.give_served.new.self is_there.0 c.in-Some.served
    c.args.parts.now.items c.push_reserved-in-Ok.new.self.items c.args.pass c.in-Ok.pass is_there.1
    c.give_served.ensures.later
    (c.push_reserved-in-Ok.ensures.items
    ∙ ap (λ (t : List (Part g.row.D.Denot)). t ++ Served c.in-Some.served ∷ []) c.reserve.ensures.items)
    told.1 c.in-Ok.ensures.later

pub returns-in-Some-clause-looks : goal.returns-in-Some-clause-looks
returns-in-Some-clause-looks g c =
    let told = rw c.in-Some.is at c.in-Ok.ensures.told in
    looks_free c.args.parts.now.items c.push_reserved-in-Ok.new.self.items (Served c.in-Some.served)
    (c.push_reserved-in-Ok.ensures.items
    ∙ ap (λ (t : List (Part g.row.D.Denot)). t ++ Served c.in-Some.served ∷ []) c.reserve.ensures.items)
    told.0

pub returns-in-Some-clause-told : goal.returns-in-Some-clause-told
returns-in-Some-clause-told g c =
    let is_there = rw c.in-Some.is at c.in-Ok.ensures.room in
    inr (
      Served c.in-Some.served,
      c.push_reserved-in-Ok.ensures.items
          ∙ ap (λ (t : List (Part g.row.D.Denot)). t ++ Served c.in-Some.served ∷ []) c.reserve.ensures.items,
      ap is_of_room is_there.1,
    )

pub returns-in_default-clause-serves : goal.returns-in_default-clause-serves
returns-in_default-clause-serves g c =
    serves_nothing g.S.Stream.remaining g.S.Stream.contents c.args.self.now c.args.self.now c.args.parts.now.items c.reserve.new.self.items
    c.args.pass c.in-Ok.pass (all_itself g.S.Stream.remaining g.S.Stream.contents c.args.self.now) c.reserve.ensures.items
    (c.in-Ok.ensures.none c.in_default.is)

pub returns-in_default-clause-told : goal.returns-in_default-clause-told
returns-in_default-clause-told g c = inl c.reserve.ensures.items

pub returns-in-Err-clause-serves : goal.returns-in-Err-clause-serves
returns-in-Err-clause-serves g c =
    serves_refusal g.S.Stream.remaining g.S.Stream.contents c.args.self.now c.args.self.now c.in-Err.error c.args.parts.now.items
    c.push_reserved-in-Err.new.self.items c.args.pass c.in-Err.pass
    (all_itself g.S.Stream.remaining g.S.Stream.contents c.args.self.now)
    (c.push_reserved-in-Err.ensures.items
    ∙ ap (λ (t : List (Part g.row.D.Denot)). t ++ Refused c.in-Err.error ∷ []) c.reserve.ensures.items)
    c.in-Err.ensures.refused

pub returns-in-Err-clause-looks : goal.returns-in-Err-clause-looks
returns-in-Err-clause-looks g c =
    looks_free c.args.parts.now.items c.push_reserved-in-Err.new.self.items (Refused c.in-Err.error)
    (c.push_reserved-in-Err.ensures.items
    ∙ ap (λ (t : List (Part g.row.D.Denot)). t ++ Refused c.in-Err.error ∷ []) c.reserve.ensures.items) refl

pub returns-in-Err-clause-told : goal.returns-in-Err-clause-told
returns-in-Err-clause-told g c = inr (
  Refused c.in-Err.error,
  c.push_reserved-in-Err.ensures.items ∙ ap (λ (t : List (Part g.row.D.Denot)). t ++ Refused c.in-Err.error ∷ []) c.reserve.ensures.items,
  tt,
)
