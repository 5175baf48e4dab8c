use Rattle.std.proofs.Common.{ap, ◌∙◌}
use Rattle.std.proofs.lemmas.Result.{err_from_is_err_and}
use Rattle.daemon_core.specs.State.{State}
use Rattle.mpd_program.proofs.JobLaws.{room_keeps_job, room_keeps_waiting}
use Rattle.mpd_program.proofs.ServingLaws.{ok_under, serves_none, serves_on, usable_on}
use Rattle.mpd_program.proofs.console.serving.Service.tell_room.Goals as goal

pub returns-in-Named-clause-served : goal.returns-in-Named-clause-served
returns-in-Named-clause-served g c = serves_none c.args.self.now c.requires.stage

pub returns-in_err-give_room-clause-served : goal.returns-in_err-give_room-clause-served
returns-in_err-give_room-clause-served g c =
    let p = err_from_is_err_and c.from_residual.result c.from_residual.ensures.1 in
    rw (p.1, p.2) c.in_err-give_room.ensures.served

pub look_for_room-requires : goal.look_for_room-requires
look_for_room-requires g c = usable_on c.in_ok-give_room.ensures.served c.requires

pub returns-in_err-is_there-clause-served : goal.returns-in_err-is_there-clause-served
returns-in_err-is_there-clause-served g c =
    let p = err_from_is_err_and c.from_residual-in_err-is_there.result c.from_residual-in_err-is_there.ensures.1 in
    rw (p.1, p.2) (serves_on c.in_ok-give_room.ensures.served c.in_err-is_there.ensures.served)

pub returns-then-is_there-lacks-clause-served : goal.returns-then-is_there-lacks-clause-served
returns-then-is_there-lacks-clause-served g c = serves_on c.in_ok-give_room.ensures.served c.in_ok-is_there.ensures.served

pub serve_event-requires-clause-usable : goal.serve_event-requires-clause-usable
serve_event-requires-clause-usable g c =
    usable_on c.in_ok-is_there.ensures.served (usable_on c.in_ok-give_room.ensures.served c.requires)

pub serve_event-requires-clause-turn : goal.serve_event-requires-clause-turn
serve_event-requires-clause-turn g c = tt

pub returns-clause-served : goal.returns-clause-served
returns-clause-served g c =
    serves_on c.in_ok-give_room.ensures.served (serves_on c.in_ok-is_there.ensures.served c.serve_event.ensures.served)

pub returns-clause-job : goal.returns-clause-job
returns-clause-job g c =
    ok_under _ _ c.serve_event.result
    (λ step. room_keeps_job c.in_ok-is_there.is_there c.look_for_room.new.self.live.state c.serve_event.new.self.live.state step
    ∙ ap (λ (s : State). s.machine.job) (c.in_ok-is_there.ensures.state ∙ c.in_ok-give_room.ensures.state)) c.serve_event.ensures.step

pub returns-clause-waiting : goal.returns-clause-waiting
returns-clause-waiting g c =
    ok_under _ _ c.serve_event.result
    (λ step. room_keeps_waiting c.in_ok-is_there.is_there c.look_for_room.new.self.live.state c.serve_event.new.self.live.state step
    ∙ ap (λ (s : State). s.machine.waiting) (c.in_ok-is_there.ensures.state ∙ c.in_ok-give_room.ensures.state)) c.serve_event.ensures.step
