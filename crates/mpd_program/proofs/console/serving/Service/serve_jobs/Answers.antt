use Rattle.std.proofs.Common.{Err, ap}
use Rattle.std.proofs.lemmas.Result.{err_from_is_err_and}
use Rattle.mpd_program.proofs.ScanLaws.{not_told}
use Rattle.mpd_program.proofs.ServingLaws.{serves_none, serves_on, usable_on}
use Rattle.mpd_program.proofs.console.serving.Service.serve_jobs.Goals as goal

pub jobs-init : goal.jobs-init
jobs-init g c = serves_none c.args.self.now c.requires.stage

pub returns-in-Err-clause-served : goal.returns-in-Err-clause-served
returns-in-Err-clause-served g c =
    let usable = usable_on c.jobs.invariant c.requires in
    serves_on c.jobs.invariant (rw c.ending_of.ensures (not_told c.jobs.self c.in-Err.error usable.stage
    (λ is. c.in-Err.ensures.refuses.broken.0 (ap Err is))))

pub serve_job-requires-clause-usable : goal.serve_job-requires-clause-usable
serve_job-requires-clause-usable g c = usable_on c.jobs.invariant c.requires

pub returns-in_err-serve_job-clause-served : goal.returns-in_err-serve_job-clause-served
returns-in_err-serve_job-clause-served g c =
    let p = err_from_is_err_and c.from_residual.result c.from_residual.ensures.1 in
    rw (p.1, p.2) (serves_on c.jobs.invariant c.in_err-serve_job.ensures.served)

pub jobs-preserved : goal.jobs-preserved
jobs-preserved g c = serves_on c.jobs.invariant c.in_ok-serve_job.ensures.served
