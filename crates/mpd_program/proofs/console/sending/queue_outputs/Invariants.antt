use Rattle.std.proofs.Common.{◌≡◌, ◌++◌, length}
use Rattle.mpd_program.specs.Console.{bytes_to}
use Rattle.mpd_program.proofs.console.sending.queue_outputs.Given as goal

-- what is queued, and what is left, make the whole
abbrev pub invariant-loop-output : goal.invariant-loop-output
invariant-loop-output l = record {
  whole : l.session.queued ++ bytes_to l.client l.rest ≡ l.initial.session.queued ++ bytes_to l.client l.outputs;
  same : l.session ≡ record l.initial.session { queued = l.session.queued };
}

abbrev pub decreases-loop-output : goal.decreases-loop-output
decreases-loop-output l = length l.rest
