use Rattle.std.proofs.Common.{drop, ◌+◌, arith}
use Rattle.command_text.specs.AnswerSongs.{file_line}
use Rattle.command_text.proofs.LineLoops.{leaves_fewer, leaves_none, leaves_off}
use Rattle.machine_core.proofs.Lists.Lines.{next_song, none_left}
use Rattle.machine_core.proofs.answer_lists.write_uris.Goals as goal

pub loop-uri-preserved : goal.loop-uri-preserved
loop-uri-preserved c =
    let songs = c.args.songs.now in
    let at = c.loop-uri in
    leaves_fewer file_line songs c.uri-item.result (drop (at.uri-index + 1) songs) _ _ _ _
    (rw (next_song songs at.uri-index c.uri-item.result (omega arith) c.uri-item.is) at at.invariant)
    (rw c.as_str.ensures.text at c.in_ok-write_file.ensures)

pub returns-in_err-write_file : goal.returns-in_err-write_file
returns-in_err-write_file c =
    let songs = c.args.songs.now in
    let at = c.loop-uri in
    leaves_off file_line songs c.uri-item.result (drop (at.uri-index + 1) songs) _ _ _ _ _
    (rw (next_song songs at.uri-index c.uri-item.result (omega arith) c.uri-item.is) at at.invariant)
    (rw c.as_str.ensures.text at c.in_err-write_file.ensures) c.from_residual.ensures.0

pub returns : goal.returns
returns c =
    let songs = c.args.songs.now in
    leaves_none file_line songs _ _ _ (rw (none_left songs c.loop-uri.uri-index (omega arith)) at c.loop-uri.invariant)
