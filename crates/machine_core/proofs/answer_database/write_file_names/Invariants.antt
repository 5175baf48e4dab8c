use Rattle.std.proofs.Common.{drop}
use Rattle.command_text.specs.AnswerSongs.{named_file_lines}
use Rattle.command_text.proofs.LineLoops.{Leaves}
use Rattle.song_db.specs.Row.{Row}
use Rattle.song_db.specs.ToldWalk.{told_songs_in}
use Rattle.machine_core.specs.Database.{name_in}
use Rattle.machine_core.proofs.answer_database.write_file_names.Given as goal

abbrev pub invariant-loop-row : goal.invariant-loop-row
invariant-loop-row l = Leaves (λ (row : Row). named_file_lines (name_in l.place row.uri) row) (told_songs_in l.place l.rows) (told_songs_in l.place
    (drop l.row-index l.rows)) l.fn.out l.out
