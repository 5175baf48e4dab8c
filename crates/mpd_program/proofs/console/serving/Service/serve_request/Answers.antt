use Rattle.std.proofs.Common.{ap, ◌∙◌}
use Rattle.std.proofs.lemmas.Result.{err_from_is_err_and}
use Rattle.machine_core.specs.declared.job.Job.{Job}
use Rattle.mpd_program.proofs.ServingLaws.{serves_before, serves_on, usable_on}
use Rattle.mpd_program.proofs.console.serving.Service.serve_request.Goals as goal

pub tell_room-requires : goal.tell_room-requires
tell_room-requires g c = c.requires.usable

pub tell_time-requires : goal.tell_time-requires
tell_time-requires g c = record {
  usable = usable_on c.in_ok-tell_room.ensures.served c.requires.usable;
  idle = ap (λ (j : Job). j.runs) c.in_ok-tell_room.ensures.job ∙ c.requires.idle;
}

pub read_picture-requires : goal.read_picture-requires
read_picture-requires g c =
    record {
      usable = usable_on c.in_ok-tell_time.ensures.served (usable_on c.in_ok-tell_room.ensures.served c.requires.usable);
      idle = c.in_ok-tell_time.ensures.idle;
    }

pub serve_event-requires-clause-usable : goal.serve_event-requires-clause-usable
serve_event-requires-clause-usable g c =
    usable_on c.in_ok-read_picture.ensures.served (usable_on c.in_ok-tell_time.ensures.served
    (usable_on c.in_ok-tell_room.ensures.served c.requires.usable))

pub serve_event-requires-clause-turn : goal.serve_event-requires-clause-turn
serve_event-requires-clause-turn g c = c.in_ok-read_picture.ensures.idle

pub serve_jobs-requires : goal.serve_jobs-requires
serve_jobs-requires g c =
    usable_on c.in_ok-serve_event.ensures.served
    (usable_on c.in_ok-read_picture.ensures.served (usable_on c.in_ok-tell_time.ensures.served
    (usable_on c.in_ok-tell_room.ensures.served c.requires.usable)))

pub returns-in_err-read_picture-clause-served : goal.returns-in_err-read_picture-clause-served
returns-in_err-read_picture-clause-served g c =
    let p = err_from_is_err_and c.from_residual-in_err-read_picture.result c.from_residual-in_err-read_picture.ensures.1 in
    rw (p.1, p.2) (serves_on c.in_ok-tell_room.ensures.served
    (serves_on c.in_ok-tell_time.ensures.served (serves_before _ c.in_err-read_picture.ensures.served)))

pub returns-in_err-tell_time-clause-served : goal.returns-in_err-tell_time-clause-served
returns-in_err-tell_time-clause-served g c =
    let p = err_from_is_err_and c.from_residual-in_err-tell_time.result c.from_residual-in_err-tell_time.ensures.1 in
    rw (p.1, p.2) (serves_on c.in_ok-tell_room.ensures.served (serves_before _ c.in_err-tell_time.ensures.served))

pub returns-in_err-tell_room-clause-served : goal.returns-in_err-tell_room-clause-served
returns-in_err-tell_room-clause-served g c =
    let p = err_from_is_err_and c.from_residual.result c.from_residual.ensures.1 in
    rw (p.1, p.2) (serves_before _ c.in_err-tell_room.ensures.served)

pub returns-in_err-serve_event-clause-served : goal.returns-in_err-serve_event-clause-served
returns-in_err-serve_event-clause-served g c =
    let p = err_from_is_err_and c.from_residual-in_err-serve_event.result c.from_residual-in_err-serve_event.ensures.1 in
    rw (p.1, p.2) (serves_on c.in_ok-tell_room.ensures.served
    (serves_on c.in_ok-tell_time.ensures.served (serves_on c.in_ok-read_picture.ensures.served c.in_err-serve_event.ensures.served)))

pub returns-clause-served : goal.returns-clause-served
returns-clause-served g c =
    serves_on c.in_ok-tell_room.ensures.served
    (serves_on c.in_ok-tell_time.ensures.served
    (serves_on c.in_ok-read_picture.ensures.served (serves_on c.in_ok-serve_event.ensures.served c.serve_jobs.ensures.served)))
