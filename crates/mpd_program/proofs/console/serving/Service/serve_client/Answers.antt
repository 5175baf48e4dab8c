use Rattle.std.proofs.Common.{ap, ◌∙◌}
use Rattle.std.proofs.lemmas.Result.{err_from_is_err_and}
use Rattle.client_session.specs.Session.{SessionState}
use Rattle.machine_core.specs.declared.job.Job.{Job}
use Rattle.mpd_program.proofs.InputLaws.{stops_at_connect, input_on}
use Rattle.mpd_program.proofs.JobLaws.{connect_leaves}
use Rattle.mpd_program.proofs.ServingLaws.{serves_before, serves_on, usable_on}
use Rattle.mpd_program.proofs.console.serving.Service.serve_client.Goals as goal

pub tell_room-requires : goal.tell_room-requires
tell_room-requires g c = c.requires.ready.usable

pub serve_event-requires-clause-usable : goal.serve_event-requires-clause-usable
serve_event-requires-clause-usable g c = usable_on c.in_ok-tell_room.ensures.served c.requires.ready.usable

pub serve_event-requires-clause-turn : goal.serve_event-requires-clause-turn
serve_event-requires-clause-turn g c = ap (λ (j : Job). j.runs) c.in_ok-tell_room.ensures.job ∙ c.requires.ready.idle

pub serve_input-requires-clause-ready : goal.serve_input-requires-clause-ready
serve_input-requires-clause-ready g c = record {
  usable = usable_on c.in_ok-serve_event.ensures.served (usable_on c.in_ok-tell_room.ensures.served c.requires.ready.usable);
  idle = connect_leaves c.args.self.now.client c.tell_room.new.self.live.state c.serve_event.new.self.live.state
      c.in_ok-serve_event.ensures.step (ap (λ (j : Job). j.runs) c.in_ok-tell_room.ensures.job ∙ c.requires.ready.idle);
}

pub serve_input-requires-clause-fresh : goal.serve_input-requires-clause-fresh
serve_input-requires-clause-fresh g c =
    let connected = c.in_ok-serve_event.ensures.served in
    ap (λ (s : SessionState). s.left) (connected.session ∙ c.in_ok-tell_room.ensures.served.session) ∙ c.requires.fresh

pub returns-in_err-tell_room : goal.returns-in_err-tell_room
returns-in_err-tell_room g c =
    let p = err_from_is_err_and c.from_residual.result c.from_residual.ensures.1 in
    rw (p.1, p.2) (stops_at_connect (g.R.Read.remaining c.args.reader.now) (serves_before _ c.in_err-tell_room.ensures.served))

pub returns-in_err-serve_event : goal.returns-in_err-serve_event
returns-in_err-serve_event g c =
    let p = err_from_is_err_and c.from_residual-in_err-serve_event.result c.from_residual-in_err-serve_event.ensures.1 in
    rw (p.1, p.2) (stops_at_connect (g.R.Read.remaining c.args.reader.now)
    (serves_on c.in_ok-tell_room.ensures.served c.in_err-serve_event.ensures.served))

pub returns : goal.returns
returns g c = input_on (serves_on c.in_ok-tell_room.ensures.served c.in_ok-serve_event.ensures.served) c.serve_input.ensures
