use Rattle.disk_model.proofs.LaterLaws.{pair_on}
use Rattle.std.proofs.Common.{◌≡◌, ◌∙◌, ap, rules}
use Rattle.client_session.specs.Session.{SessionState}
use Rattle.daemon_core.specs.State.{State}
use Rattle.mpd_program.specs.Lives.{moment_of}
use Rattle.client_session.proofs.ByteLaws.{keeps_itself}
use Rattle.mpd_program.specs.Serving.{ending_with}
use Rattle.mpd_program.proofs.ServingLaws.{events_under, written_as, failed_since, not_faulted}
use Rattle.mpd_program.proofs.LifeLaws.{opened_life, refused_life}
use Rattle.mpd_program.proofs.console.serve_life.Goals as goal

pub returns-in-Err-clause-life : goal.returns-in-Err-clause-life
returns-in-Err-clause-life g c =
    let was = c.in-Err.ensures in
    let input = g.R.Read.remaining c.args.reader.now in
    let output = g.W.Write.contents c.args.writer.now in
    rw (c.refused_life.ensures.came_to, c.refused_life.ensures.a, c.refused_life.ensures.b)
    (refused_life c.args.profile _ c.args.client
    (moment_of g.D.Disk.content g.D.Disk.history g.D.Disk.faults c.args.a c.args.b input output)
    (moment_of g.D.Disk.content g.D.Disk.history g.D.Disk.faults c.in-Err.refused.a c.in-Err.refused.b input output)
    c.in-Err.refused.error was.nothing_else (λ h. was.cause h.0 h.1) (λ h. was.opens h.0 h.1) (keeps_itself input) (keeps_itself output)
    (λ h. was.any_moment h.0 h.1) (λ h. was.fault h.0 h.1))

pub serve_client-served-requires-clause-ready : goal.serve_client-served-requires-clause-ready
serve_client-served-requires-clause-ready g c =
    let begun = c.in-Ok.ensures.begun.0 in
    record {
      usable = record { stage = begun.usable; sent = ap (λ (s : SessionState). s.queued) c.new.ensures.fresh };
      idle = ap (λ (s : State). s.machine.job.runs) begun.state;
    }

pub serve_client-served-requires-clause-fresh : goal.serve_client-served-requires-clause-fresh
serve_client-served-requires-clause-fresh g c = ap (λ (s : SessionState). s.left) c.new.ensures.fresh

pub returns-clause-life : goal.returns-clause-life
returns-clause-life g c =
    let was = c.in-Ok.ensures in
    let client = c.serve_client-served.ensures in
    let served = client.served in
    let live = c.serve_client-served.new.self.live in
    let input = g.R.Read.remaining c.args.reader.now in
    let output = g.W.Write.contents c.args.writer.now in
    rw (c.into_disks-a.ensures, c.ending_with.ensures)
    (opened_life c.args.profile _ c.args.client
    (moment_of g.D.Disk.content g.D.Disk.history g.D.Disk.faults c.args.a c.args.b input output)
    (moment_of g.D.Disk.content g.D.Disk.history g.D.Disk.faults live.a live.b (g.R.Read.remaining c.serve_client-served.new.reader) _)
    c.in-Ok.live.state live.state client.read c.serve_client-served.result was.begun.0.state (λ h. was.found h.0 h.1) was.begun.1 client.consumed
    (written_as (search rules) (events_under (λ h. (was.later.a.honesty.0 h.0, was.later.b.honesty.0 h.1)) served.served)) client.at_end
    (λ other h. c.is_broken-broken.ensures.kept (served.stage.later.a.honesty.0 (was.later.a.honesty.0 h.0))
    (served.stage.later.b.honesty.0 (was.later.b.honesty.0 h.1)) (let unfailed = served.stage.usable other in unfailed.usable))
    (λ is h. failed_since _ _ _ _ _ _ was.later.a.counted was.later.b.counted
    (served.stage.failed (was.later.a.honesty.0 h.0) (was.later.b.honesty.0 h.1) is)))

pub returns-clause-unfailed : goal.returns-clause-unfailed
returns-clause-unfailed g c =
    let was = c.in-Ok.ensures in
    let client = c.serve_client-served.ensures in
    rw (c.into_disks-a.ensures, c.ending_with.ensures) (λ ending is other.
    let same : ending_with c.serve_client-served.result ≡ ending = (cc) in
    let unfailed = client.served.stage.usable (not_faulted c.serve_client-served.result ending same other) in
    record { a = unfailed.met_none.a ∙ was.fault.a; b = unfailed.met_none.b ∙ was.fault.b })

pub returns-clause-later : goal.returns-clause-later
returns-clause-later g c =
    let client = c.serve_client-served.ensures in
    rw c.into_disks-a.ensures (pair_on c.in-Ok.ensures.later client.served.stage.later)
