use Rattle.std.proofs.Common.{map, drop}
use Rattle.command_text.specs.AnswerSongs.{file_line}
use Rattle.command_text.proofs.LineLoops.{Leaves}
use Rattle.song_db.specs.Row.{Row}
use Rattle.machine_core.proofs.commands.finding.writing.write_found_files.Given as goal

abbrev pub invariant-loop-row : goal.invariant-loop-row
invariant-loop-row l =
    Leaves (λ (row : Row). file_line row.uri) (map (λ row. row.now) l.rows) (map (λ row. row.now) (drop l.row-index l.rows)) l.fn.out l.out
