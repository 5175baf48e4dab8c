use Rattle.std.proofs.Common.{◌≡◌, List, ℕ, drop, sym, subst, ap}
use Rattle.client_session.specs.Session.{SessionState}
use Rattle.mpd_program.proofs.ByteLaws.{SentSoFar, sent_more, same_but_queued}
use Rattle.mpd_program.proofs.console.sending.send_queued.Goals as goal

pub loop-session-preserved : goal.loop-session-preserved
loop-session-preserved g c =
    let before = g.W.Write.contents c.args.writer.now in
    let after = g.W.Write.contents c.send_some.new.stream in
    let sent = c.in-Ok.ensures.sent in
    let left : c.send_some.new.self.queued ≡ drop c.in-Ok.field-0 c.loop-session.session.queued =
    ap (λ (s : SessionState). s.queued) sent.1 in
    record {
      sent = subst (λ (v : List ℕ). SentSoFar c.args.session.now.queued v before after) (sym left)
          (sent_more c.args.session.now.queued c.loop-session.session.queued c.in-Ok.field-0 before
          (g.W.Write.contents c.loop-session.writer) after c.loop-session.invariant.sent sent.2);
      same = same_but_queued c.args.session.now c.loop-session.session c.send_some.new.self
          (drop c.in-Ok.field-0 c.loop-session.session.queued) c.loop-session.invariant.same sent.1;
    }
