use Rattle.std.proofs.Common.{◌≡◌, length}
use Rattle.mpd_program.proofs.ByteLaws.{SentSoFar}
use Rattle.mpd_program.proofs.console.sending.send_queued.Given as goal

abbrev pub invariant-loop-session : goal.invariant-loop-session
invariant-loop-session g l = record {
  sent : SentSoFar l.initial.session.queued l.session.queued (g.W.Write.contents l.fn.writer) (g.W.Write.contents l.writer);
  same : l.session ≡ record l.initial.session { queued = l.session.queued };
}

abbrev pub decreases-loop-session : goal.decreases-loop-session
decreases-loop-session g l = length l.session.queued
