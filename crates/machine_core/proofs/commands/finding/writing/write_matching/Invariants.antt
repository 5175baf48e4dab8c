use Rattle.std.proofs.Common.{drop}
use Rattle.std.specs.List.{flat_map}
use Rattle.command_text.specs.AnswerSongs.{song_lines}
use Rattle.machine_core.specs.Finding.{matching, part_of}
use Rattle.machine_core.proofs.Finding.Writers.{Remains}
use Rattle.machine_core.proofs.commands.finding.writing.write_matching.Given as goal

abbrev pub invariant-loop-row : goal.invariant-loop-row
invariant-loop-row l =
    Remains (flat_map (song_lines l.mask) (part_of l.fn.part (matching l.case l.filter l.rows)))
    (flat_map (song_lines l.mask) (part_of l.part (matching l.case l.filter (drop l.row-index l.rows)))) l.fn.out l.out
