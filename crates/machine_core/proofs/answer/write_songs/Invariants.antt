use Rattle.std.proofs.Common.{map, drop}
use Rattle.command_text.specs.AnswerSongs.{song_lines}
use Rattle.command_text.proofs.LineLoops.{Leaves}
use Rattle.machine_core.proofs.answer.write_songs.Given as goal

abbrev pub invariant-loop-song : goal.invariant-loop-song
invariant-loop-song l =
    Leaves (song_lines l.mask) (map (λ song. song.now) l.songs) (map (λ song. song.now) (drop l.song-index l.songs)) l.fn.out l.out
