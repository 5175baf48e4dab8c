use Rattle.std.proofs.Common.{map, drop, ◌+◌, arith}
use Rattle.command_text.specs.AnswerSongs.{song_lines}
use Rattle.command_text.proofs.LineLoops.{leaves_fewer, leaves_none, leaves_off, next_left, none_left}
use Rattle.machine_core.proofs.answer.write_songs.Goals as goal

pub loop-song-preserved : goal.loop-song-preserved
loop-song-preserved c =
    let songs = c.args.songs.now in
    let at = c.loop-song in
    leaves_fewer (song_lines c.args.mask) (map (λ song. song.now) songs) c.song-item.result.now (map (λ song. song.now) (drop
    (at.song-index + 1) songs)) _ _ _ _
    (rw (next_left (λ song. song.now) songs at.song-index c.song-item.result
    (omega arith) c.song-item.is) at at.invariant) c.in_ok-write_song.ensures

pub returns-in_err-write_song : goal.returns-in_err-write_song
returns-in_err-write_song c =
    let songs = c.args.songs.now in
    let at = c.loop-song in
    leaves_off (song_lines c.args.mask) (map (λ song. song.now) songs) c.song-item.result.now (map (λ song. song.now) (drop
    (at.song-index + 1) songs)) _ _ _ _ _
    (rw (next_left (λ song. song.now) songs at.song-index c.song-item.result (omega arith) c.song-item.is) at at.invariant)
    c.in_err-write_song.ensures c.from_residual.ensures.0

pub returns : goal.returns
returns c =
    let songs = c.args.songs.now in
    leaves_none (song_lines c.args.mask) (map (λ song. song.now) songs) _ _ _
    (rw (none_left (λ song. song.now) songs c.loop-song.song-index (omega arith)) at c.loop-song.invariant)
