use Rattle.mpd_program.proofs.JobLaws.{picture_idles}
use Rattle.mpd_program.proofs.ServingLaws.{ok_under, over_folder, serves_none, serves_on}
use Rattle.mpd_program.proofs.console.serving.Service.read_picture.Goals as goal

pub returns-in-Named-clause-served : goal.returns-in-Named-clause-served
returns-in-Named-clause-served g c = serves_none c.args.self.now c.requires.usable.stage

pub returns-in-Named-clause-idle : goal.returns-in-Named-clause-idle
returns-in-Named-clause-idle g c = c.requires.idle

pub returns-in_default-clause-served : goal.returns-in_default-clause-served
returns-in_default-clause-served g c = over_folder _ (serves_none c.args.self.now c.requires.usable.stage)

pub returns-in_default-clause-idle : goal.returns-in_default-clause-idle
returns-in_default-clause-idle g c = c.requires.idle

pub serve_event-requires-clause-usable : goal.serve_event-requires-clause-usable
serve_event-requires-clause-usable g c = record { stage = c.requires.usable.stage; sent = c.requires.usable.sent }

pub serve_event-requires-clause-turn : goal.serve_event-requires-clause-turn
serve_event-requires-clause-turn g c = tt

pub returns-in-Some-clause-served : goal.returns-in-Some-clause-served
returns-in-Some-clause-served g c =
    serves_on (over_folder _ (serves_none c.args.self.now c.requires.usable.stage)) c.serve_event.ensures.served

pub returns-in-Some-clause-idle : goal.returns-in-Some-clause-idle
returns-in-Some-clause-idle g c =
    ok_under _ _ c.serve_event.result
    (λ step. picture_idles c.args.self.now.client c.in-Some.told c.args.self.now.live.state c.serve_event.new.self.live.state step
    c.requires.idle) c.serve_event.ensures.step
