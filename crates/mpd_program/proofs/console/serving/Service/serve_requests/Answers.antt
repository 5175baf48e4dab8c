use Rattle.std.proofs.lemmas.Result.{err_from_is_err_and}
use Rattle.mpd_program.proofs.ServingLaws.{requests_begin, requests_on, requests_stop, requests_all, usable_on}
use Rattle.mpd_program.proofs.console.serving.Service.serve_requests.Goals as goal

pub loop-request-init : goal.loop-request-init
loop-request-init g c = record {
  requests = requests_begin c.args.self.now c.into_iter-request-iterator.ensures.into_iter_gives c.requires.usable.stage;
  idle = c.requires.idle;
}

pub serve_request-requires : goal.serve_request-requires
serve_request-requires g c = record {
  usable = (let requests = c.loop-request.invariant.requests in usable_on requests.so_far c.requires.usable);
  idle = c.loop-request.invariant.idle;
}

pub loop-request-preserved : goal.loop-request-preserved
loop-request-preserved g c =
    let done = c.in_ok-serve_request.ensures in
    record { requests = requests_on c.in-Some.ensures.steps c.loop-request.invariant.requests done.served; idle = done.idle }

pub returns-in_err-serve_request-clause-served : goal.returns-in_err-serve_request-clause-served
returns-in_err-serve_request-clause-served g c =
    let p = err_from_is_err_and c.from_residual.result c.from_residual.ensures.1 in
    rw (p.1, p.2) (requests_stop c.in-Some.ensures.steps c.loop-request.invariant.requests c.in_err-serve_request.ensures.served)

pub returns-clause-served : goal.returns-clause-served
returns-clause-served g c = requests_all c.in-None.ensures.steps.0 c.loop-request.invariant.requests
