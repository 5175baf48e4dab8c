use Rattle.std.proofs.Common.{◌≡◌, ◌-◌, ◌^◌, vec_len}
use Rattle.mpd_program.specs.Console.{RunsNone}
use Rattle.mpd_program.proofs.InputLaws.{ReadsSoFar}
use Rattle.mpd_program.proofs.console.serving.Service.serve_input.Given as goal

abbrev pub invariant-loop-reads : goal.invariant-loop-reads
invariant-loop-reads g l = record {
  reads : ReadsSoFar g.D.Disk.honest g.D.Disk.history g.D.Disk.faults g.W.Write.contents (g.R.Read.remaining l.fn.reader)
      (g.R.Read.remaining l.reader) l.fn.self l.self l.reads;
  room : vec_len l.buffer ≡ 8192;
  idle : RunsNone l.self.live.state.machine.job;
}

abbrev pub decreases-loop-reads : goal.decreases-loop-reads
decreases-loop-reads g l = 2 ^ 64 - 1 - l.reads
