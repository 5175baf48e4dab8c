use Rattle.std.proofs.Common.{ℕ, List, drop}
use Rattle.std.specs.Option.{option_copied}
use Rattle.command_text.specs.AnswerNames.{directory_line}
use Rattle.command_text.proofs.LineLoops.{Leaves}
use Rattle.song_db.specs.ToldWalk.{told_folders_in}
use Rattle.machine_core.specs.Database.{name_in}
use Rattle.machine_core.proofs.Database.ToldLines.{folders_left}
use Rattle.machine_core.proofs.answer_database.write_folder_names.Given as goal

-- the folders that are left behind the one before
abbrev pub invariant-loop-row : goal.invariant-loop-row
invariant-loop-row l =
    Leaves (λ (folder : List ℕ). directory_line (name_in l.place folder)) (told_folders_in l.place l.rows) (folders_left l.place (option_copied l.last) (drop l.row-index l.rows))
    l.fn.out l.out
