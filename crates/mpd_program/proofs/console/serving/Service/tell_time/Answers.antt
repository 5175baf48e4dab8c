use Rattle.mpd_program.proofs.JobLaws.{clock_idles}
use Rattle.mpd_program.proofs.ServingLaws.{ok_under, serves_none}
use Rattle.mpd_program.proofs.console.serving.Service.tell_time.Goals as goal

pub returns-in-None-clause-served : goal.returns-in-None-clause-served
returns-in-None-clause-served g c = serves_none c.args.self.now c.requires.usable.stage

pub returns-in-None-clause-idle : goal.returns-in-None-clause-idle
returns-in-None-clause-idle g c = c.requires.idle

pub serve_event-requires-clause-usable : goal.serve_event-requires-clause-usable
serve_event-requires-clause-usable g c = c.requires.usable

pub serve_event-requires-clause-turn : goal.serve_event-requires-clause-turn
serve_event-requires-clause-turn g c = tt

pub returns-in-Some-clause-served : goal.returns-in-Some-clause-served
returns-in-Some-clause-served g c = c.serve_event.ensures.served

pub returns-in-Some-clause-idle : goal.returns-in-Some-clause-idle
returns-in-Some-clause-idle g c =
    ok_under _ _ c.serve_event.result
    (λ step. clock_idles c.time.result c.args.self.now.live.state c.serve_event.new.self.live.state step c.requires.idle)
    c.serve_event.ensures.step
