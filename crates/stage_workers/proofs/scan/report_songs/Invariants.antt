use Rattle.std.proofs.Common.{◌≡◌}
use Rattle.stage_workers.specs.Working.{GoesOn}
use Rattle.stage_workers.proofs.scan.report_songs.Given as goal

abbrev pub invariant-loop : goal.invariant-loop
invariant-loop g l = record {
  goes_on : GoesOn l.initial.pass l.pass;
  honest : g.F.Folder.honest l.initial.folder → g.F.Folder.honest l.folder × (g.F.Folder.files l.folder ≡ g.F.Folder.files l.initial.folder);
}
