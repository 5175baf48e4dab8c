use Rattle.std.proofs.Common.{drop, ◌+◌, arith}
use Rattle.machine_core.specs.Lists.{song_info}
use Rattle.command_text.proofs.LineLoops.{leaves_fewer, leaves_none, leaves_off}
use Rattle.machine_core.proofs.Lists.Lines.{next_song, none_left}
use Rattle.machine_core.proofs.answer_lists.write_song_infos.Goals as goal

pub loop-uri-preserved : goal.loop-uri-preserved
loop-uri-preserved c =
    let songs = c.args.songs.now in
    let at = c.loop-uri in
    leaves_fewer (song_info c.args.mask c.args.database.now) songs c.uri-item.result (drop (at.uri-index + 1) songs) _ _ _ _
    (rw (next_song songs at.uri-index c.uri-item.result (omega arith) c.uri-item.is) at at.invariant)
    (rw c.as_str.ensures.text at c.in_ok-write_song_info.ensures)

pub returns-in_err-write_song_info : goal.returns-in_err-write_song_info
returns-in_err-write_song_info c =
    let songs = c.args.songs.now in
    let at = c.loop-uri in
    leaves_off (song_info c.args.mask c.args.database.now) songs c.uri-item.result (drop (at.uri-index + 1) songs) _ _ _ _ _
    (rw (next_song songs at.uri-index c.uri-item.result (omega arith) c.uri-item.is) at at.invariant)
    (rw c.as_str.ensures.text at c.in_err-write_song_info.ensures) c.from_residual.ensures.0

pub returns : goal.returns
returns c =
    let songs = c.args.songs.now in
    leaves_none (song_info c.args.mask c.args.database.now) songs _ _ _
    (rw (none_left songs c.loop-uri.uri-index (omega arith)) at c.loop-uri.invariant)
