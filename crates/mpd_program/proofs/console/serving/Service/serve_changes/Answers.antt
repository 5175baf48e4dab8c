use Rattle.std.proofs.lemmas.Result.{err_from_is_err_and}
use Rattle.std.proofs.Common.{◌∙◌}
use Rattle.mpd_program.proofs.JobLaws.{batch_runs, batch_waits, runs_on}
use Rattle.mpd_program.proofs.ServingLaws.{serves_cut, serves_none, serves_on, over_folder, usable_on}
use Rattle.mpd_program.proofs.console.serving.Service.serve_changes.Goals as goal

pub returns-in-Err-clause-served : goal.returns-in-Err-clause-served
returns-in-Err-clause-served g c = serves_none c.args.self.now c.requires.usable.stage

pub tell_room-requires : goal.tell_room-requires
tell_room-requires g c = usable_on (over_folder _ c.loop-batches.invariant.so_far) c.requires.usable

pub returns-in_err-tell_room-clause-served : goal.returns-in_err-tell_room-clause-served
returns-in_err-tell_room-clause-served g c =
    let p = err_from_is_err_and c.from_residual.result c.from_residual.ensures.1 in
    rw (p.1, p.2) (serves_on (over_folder _ c.loop-batches.invariant.so_far) c.in_err-tell_room.ensures.served)

-- the rest is left off
pub returns-then-lacks_room-clause-served : goal.returns-then-lacks_room-clause-served
returns-then-lacks_room-clause-served g c =
    serves_cut (serves_on (over_folder _ c.loop-batches.invariant.so_far) c.in_ok-tell_room.ensures.served)

pub serve_event-requires-clause-usable : goal.serve_event-requires-clause-usable
serve_event-requires-clause-usable g c =
    usable_on c.in_ok-tell_room.ensures.served (usable_on (over_folder _ c.loop-batches.invariant.so_far) c.requires.usable)

pub serve_event-requires-clause-turn : goal.serve_event-requires-clause-turn
serve_event-requires-clause-turn g c =
    runs_on c.job-job.result c.loop-batches.self.live.state c.tell_room.new.self.live.state c.in_ok-tell_room.ensures.job
    c.loop-batches.invariant.running

pub returns-in_err-serve_event-clause-served : goal.returns-in_err-serve_event-clause-served
returns-in_err-serve_event-clause-served g c =
    let p = err_from_is_err_and c.from_residual-in_err-serve_event.result c.from_residual-in_err-serve_event.ensures.1 in
    rw (p.1, p.2) (serves_on (over_folder _ c.loop-batches.invariant.so_far)
    (serves_on c.in_ok-tell_room.ensures.served c.in_err-serve_event.ensures.served))

pub loop-batches-preserved : goal.loop-batches-preserved
loop-batches-preserved g c =
    let told = c.in_ok-tell_room.ensures in
    let done = c.in_ok-serve_event.ensures in
    let running = runs_on c.job-job.result c.loop-batches.self.live.state c.tell_room.new.self.live.state told.job
    c.loop-batches.invariant.running in
    record {
      so_far = serves_on (over_folder _ c.loop-batches.invariant.so_far) (serves_on told.served done.served);
      running = batch_runs c.job-job.result c.in-Some.changes c.tell_room.new.self.live.state c.serve_event.new.self.live.state done.step
          running;
      waiting = batch_waits c.job-job.result c.in-Some.changes c.tell_room.new.self.live.state c.serve_event.new.self.live.state done.step
          ∙ told.waiting ∙ c.loop-batches.invariant.waiting;
    }
