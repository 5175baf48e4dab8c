use Rattle.std.proofs.Common.{Ok, Err, refl, ◌∙◌}
use Rattle.mpd_program.specs.declared.console.Ending.TheVariants.{Whole, Cut}
use Rattle.mpd_program.proofs.ServingLaws.{none_where, some_where, one_answered, one_closed, one_cut, one_refused}
use Rattle.mpd_program.proofs.ServingLaws.{fares_refused, fares_on_event, serves_by}
use Rattle.mpd_program.proofs.console.serving.Service.serve_event.Goals as goal

pub returns-in-Err-clause-served : goal.returns-in-Err-clause-served
returns-in-Err-clause-served g c =
    let turn = c.in-Err.ensures in
    let live = c.args.self.now.live in
    rw c.ending_of.ensures (serves_by
    (one_refused _ c.args.self.now.client c.args.event live c.turn.new.self c.in-Err.error
    (g.D.Disk.history c.turn.new.self.a) (g.D.Disk.history c.turn.new.self.b) _ _ (g.W.Write.contents c.args.self.now.writer.now)
    (λ honest. let found = turn.any_moment honest.0 honest.1 c.requires.usable.stage in (found.0, found.2))
    c.requires.turn (λ other. turn.refuses.stays (λ is. other (cc))))
    (fares_refused live c.turn.new.self c.in-Err.error c.requires.usable.stage (λ other. turn.refuses.stays (λ is. other (cc)))
    turn.fault turn.later)
    tt refl refl)

pub returns-in-Err-send_outputs-clause-served : goal.returns-in-Err-send_outputs-clause-served
returns-in-Err-send_outputs-clause-served g c =
    let turn = c.in-Ok.ensures in
    let live = c.args.self.now.live in
    serves_by
    (one_cut _ c.args.self.now.client c.args.event c.in-Ok.turn.refused_at live.state c.turn.new.self.state c.deref.result.now
    c.closes.result.now _ _ (g.W.Write.contents c.args.self.now.writer.now) (g.W.Write.contents c.send_outputs.new.writer)
    turn.step.state (c.deref.ensures.value ∙ c.into_outputs-outputs.ensures ∙ turn.step.outputs) (c.closes.ensures ∙ turn.step.closes)
    c.requires.turn c.in-Err-send_outputs.ensures.front)
    (fares_on_event live c.turn.new.self (Err Cut) (λ is. cc) turn.refuses.usable (turn.fault.met_none (λ is. cc)) turn.later)
    tt refl refl

pub returns-then-is_open-clause-served : goal.returns-then-is_open-clause-served
returns-then-is_open-clause-served g c =
    let turn = c.in-Ok.ensures in
    let live = c.args.self.now.live in
    let sent = c.in-Ok-send_outputs.ensures in
    serves_by
    (one_answered _ c.args.self.now.client c.args.event c.in-Ok.turn.refused_at live.state c.turn.new.self.state c.deref.result.now
    c.closes.result.now _ _ (g.W.Write.contents c.args.self.now.writer.now) (g.W.Write.contents c.send_outputs.new.writer)
    turn.step.state (c.deref.ensures.value ∙ c.into_outputs-outputs.ensures ∙ turn.step.outputs) (c.closes.ensures ∙ turn.step.closes)
    c.requires.turn (none_where c.closes.result.now c.if-is_open.ensures) sent.written)
    (fares_on_event live c.turn.new.self (Ok tt) (λ is. cc) turn.refuses.usable (turn.fault.met_none (λ is. cc)) turn.later)
    sent.session refl refl

pub returns-clause-served : goal.returns-clause-served
returns-clause-served g c =
    let turn = c.in-Ok.ensures in
    let live = c.args.self.now.live in
    serves_by
    (one_closed _ c.args.self.now.client c.args.event c.in-Ok.turn.refused_at live.state c.turn.new.self.state c.deref.result.now
    c.closes.result.now _ _ (g.W.Write.contents c.args.self.now.writer.now) (g.W.Write.contents c.send_outputs.new.writer)
    turn.step.state (c.deref.ensures.value ∙ c.into_outputs-outputs.ensures ∙ turn.step.outputs) (c.closes.ensures ∙ turn.step.closes)
    c.requires.turn (some_where c.closes.result.now c.if-is_open.ensures) c.in-Ok-send_outputs.ensures.written)
    (fares_on_event live c.turn.new.self (Err Whole) (λ is. cc) turn.refuses.usable (turn.fault.met_none (λ is. cc)) turn.later)
    tt refl refl
