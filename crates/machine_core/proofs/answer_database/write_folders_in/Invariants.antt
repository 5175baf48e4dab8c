use Rattle.std.proofs.Common.{drop}
use Rattle.std.specs.Option.{option_copied}
use Rattle.command_text.specs.AnswerNames.{directory_line}
use Rattle.command_text.proofs.LineLoops.{Leaves}
use Rattle.song_db.specs.ToldWalk.{told_folders_in}
use Rattle.machine_core.proofs.Database.ToldLines.{folders_left}
use Rattle.machine_core.proofs.answer_database.write_folders_in.Given as goal

-- the folders that are left behind the one before
abbrev pub invariant-loop-row : goal.invariant-loop-row
invariant-loop-row l =
    Leaves directory_line (told_folders_in l.place l.rows) (folders_left l.place (option_copied l.before) (drop l.row-index l.rows))
    l.fn.out l.out
