use Rattle.std.proofs.Common.{Err, refl, ap, ◌∙◌}
use Rattle.client_session.specs.Session.{SessionState}
use Rattle.mpd_program.specs.declared.console.Ending.TheVariants.{Cut}
use Rattle.client_session.proofs.ByteLaws.{keeps_itself}
use Rattle.mpd_program.proofs.InputLaws.{piece_served}
use Rattle.mpd_program.proofs.ServingLaws.{fares_still, none_served, serves_by}
use Rattle.mpd_program.proofs.console.serving.Service.serve_piece.Goals as goal

pub returns-in-Err-clause-served : goal.returns-in-Err-clause-served
returns-in-Err-clause-served g c =
    serves_by (none_served _ _ _ _ _ _ _ _ _ refl (keeps_itself (g.W.Write.contents c.args.self.now.writer.now)))
    (fares_still c.args.self.now.live (Err Cut) (λ is. cc) c.requires.usable.stage) tt refl refl

pub serve_requests-requires : goal.serve_requests-requires
serve_requests-requires g c = record {
  usable = record {
    stage = c.requires.usable.stage;
    sent = ap (λ (s : SessionState). s.queued) c.in-Ok.ensures.left ∙ c.requires.usable.sent;
  };
  idle = c.requires.idle;
}

pub returns-clause-served : goal.returns-clause-served
returns-clause-served g c =
    piece_served c.args.self.now c.args.piece.now c.in-Ok.ensures.left c.in-Ok.ensures.requests c.serve_requests.ensures.served
