use Rattle.std.proofs.Common.{drop}
use Rattle.command_text.specs.AnswerSongs.{song_lines}
use Rattle.command_text.proofs.LineLoops.{Leaves}
use Rattle.song_db.specs.ToldWalk.{told_songs_in}
use Rattle.machine_core.proofs.answer_database.write_songs_in.Given as goal

abbrev pub invariant-loop-row : goal.invariant-loop-row
invariant-loop-row l = Leaves (song_lines l.mask) (told_songs_in l.place l.rows) (told_songs_in l.place
    (drop l.row-index l.rows)) l.fn.out l.out
