use Rattle.std.proofs.Common.{◌≡◌, ◌<◌, ℕ, suc, length, if◌then◌else◌, Bool, true, sym, subst, ap, ◌∙◌, arith}
use Rattle.std.proofs.lemmas.Result.{err_from_is_err_and}
use Rattle.mpd_program.specs.Console.{IsRunning, jobs_left}
use Rattle.mpd_program.proofs.JobLaws.{end_fewer, left_is, runs_on}
use Rattle.mpd_program.proofs.ServingLaws.{ok_under, serves_on, usable_on}
use Rattle.mpd_program.proofs.console.serving.Service.serve_job.Goals as goal

pub tell_room-requires : goal.tell_room-requires
tell_room-requires g c = usable_on c.in_ok-serve_changes.ensures.served c.requires.usable

pub returns-in_err-tell_room-clause-served : goal.returns-in_err-tell_room-clause-served
returns-in_err-tell_room-clause-served g c =
    let p = err_from_is_err_and c.from_residual-in_err-tell_room.result c.from_residual-in_err-tell_room.ensures.1 in
    rw (p.1, p.2) (serves_on c.in_ok-serve_changes.ensures.served c.in_err-tell_room.ensures.served)

pub serve_event-requires-clause-usable : goal.serve_event-requires-clause-usable
serve_event-requires-clause-usable g c =
    usable_on c.in_ok-tell_room.ensures.served (usable_on c.in_ok-serve_changes.ensures.served c.requires.usable)

pub serve_event-requires-clause-turn : goal.serve_event-requires-clause-turn
serve_event-requires-clause-turn g c =
    runs_on c.job-job.result c.serve_changes.new.self.live.state c.tell_room.new.self.live.state c.in_ok-tell_room.ensures.job
    (subst (λ (n : ℕ). IsRunning n c.serve_changes.new.self.live.state.machine.job) (sym c.job-job.ensures)
    c.in_ok-serve_changes.ensures.running)

pub returns-in_err-serve_changes-clause-served : goal.returns-in_err-serve_changes-clause-served
returns-in_err-serve_changes-clause-served g c =
    let p = err_from_is_err_and c.from_residual.result c.from_residual.ensures.1 in
    rw (p.1, p.2) c.in_err-serve_changes.ensures.served

pub returns-clause-served : goal.returns-clause-served
returns-clause-served g c =
    serves_on c.in_ok-serve_changes.ensures.served (serves_on c.in_ok-tell_room.ensures.served c.serve_event.ensures.served)

pub returns-clause-fewer : goal.returns-clause-fewer
returns-clause-fewer g c =
    let told = c.in_ok-tell_room.ensures in
    let running = runs_on c.args.order.job c.serve_changes.new.self.live.state c.tell_room.new.self.live.state told.job
    c.in_ok-serve_changes.ensures.running in
    let same =
    left_is c.args.order.job c.args.order.job c.tell_room.new.self.live.state.machine c.args.self.now.live.state.machine running
    c.requires.running (told.waiting ∙ c.in_ok-serve_changes.ensures.waiting) in
    ok_under _ _ c.serve_event.result
    (λ step. let less = end_fewer c.job-job.result c.tell_room.new.self.live.state c.serve_event.new.self.live.state step
    (subst (λ (n : ℕ). IsRunning n c.tell_room.new.self.live.state.machine.job) (sym c.job-job.ensures) running) in
    omega (arith, less, same))
    c.serve_event.ensures.step
