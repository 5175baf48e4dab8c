use Rattle.std.proofs.Common.{◌≡◌, true, false, ◌∷◌, drop, ◌+◌, sym, ◌∙◌, arith}
use Rattle.command_text.specs.AnswerSongs.{named_file_lines}
use Rattle.command_text.proofs.LineLoops.{leaves_fewer, leaves_none, leaves_off}
use Rattle.song_db.specs.Query.{is_right_in}
use Rattle.song_db.specs.Row.{Row}
use Rattle.song_db.specs.ToldWalk.{told_songs_in}
use Rattle.machine_core.specs.Database.{name_in}
use Rattle.machine_core.proofs.Database.ToldLines.{further_down, leaves_same, no_songs, right_in, song_met, song_passed}
use Rattle.machine_core.proofs.answer_database.write_file_names.Goals as goal

pub loop-row-preserved-then-is_some : goal.loop-row-preserved-then-is_some
loop-row-preserved-then-is_some c =
    let place = c.args.place in
    let rows = c.args.rows.now in
    let at = c.loop-row in
    let row = c.row-item.result in
    let other : is_right_in place row.uri ≡ false =
    further_down place c.uri-uri.result.now row.uri c.folder_of.result c.folder_of.ensures c.uri-uri.ensures.text
    (sym c.is_some.ensures ∙ c.if-is_some.true) in
    leaves_same (λ (row : Row). named_file_lines (name_in place row.uri) row) (told_songs_in place rows)
    (told_songs_in place (drop at.row-index rows))
    (told_songs_in place (drop (at.row-index + 1) rows)) _ _
    (song_passed place rows at.row-index row (omega arith) c.row-item.is other) at.invariant

pub loop-row-preserved : goal.loop-row-preserved
loop-row-preserved c =
    let place = c.args.place in
    let rows = c.args.rows.now in
    let at = c.loop-row in
    let row = c.row-item.result in
    let here : is_right_in place row.uri ≡ true =
    right_in place c.uri-uri.result.now row.uri c.folder_of.result c.folder_of.ensures c.uri-uri.ensures.text
    (sym c.is_some.ensures ∙ c.if-is_some.false) in
    leaves_fewer (λ (row : Row). named_file_lines (name_in place row.uri) row) (told_songs_in place rows) row
    (told_songs_in place (drop (at.row-index + 1) rows)) _ _ _ _
    (leaves_same (λ (row : Row). named_file_lines (name_in place row.uri) row) (told_songs_in place rows)
    (told_songs_in place (drop at.row-index rows))
    (row ∷ told_songs_in place (drop (at.row-index + 1) rows)) _ _
    (song_met place rows at.row-index row (omega arith) c.row-item.is here) at.invariant) (rw (c.name_in.ensures, c.uri-uri.ensures.text) at c.in_ok-write_named_file.ensures)

pub returns-in_err-write_named_file : goal.returns-in_err-write_named_file
returns-in_err-write_named_file c =
    let place = c.args.place in
    let rows = c.args.rows.now in
    let at = c.loop-row in
    let row = c.row-item.result in
    let here : is_right_in place row.uri ≡ true =
    right_in place c.uri-uri.result.now row.uri c.folder_of.result c.folder_of.ensures c.uri-uri.ensures.text
    (sym c.is_some.ensures ∙ c.if-is_some.false) in
    leaves_off (λ (row : Row). named_file_lines (name_in place row.uri) row) (told_songs_in place rows) row
    (told_songs_in place (drop (at.row-index + 1) rows)) _ _ _ _ _
    (leaves_same (λ (row : Row). named_file_lines (name_in place row.uri) row) (told_songs_in place rows)
    (told_songs_in place (drop at.row-index rows))
    (row ∷ told_songs_in place (drop (at.row-index + 1) rows)) _ _
    (song_met place rows at.row-index row (omega arith) c.row-item.is here) at.invariant)
    (rw (c.name_in.ensures, c.uri-uri.ensures.text) at c.in_err-write_named_file.ensures) c.from_residual.ensures.0

pub returns : goal.returns
returns c =
    let place = c.args.place in
    let rows = c.args.rows.now in
    leaves_none (λ (row : Row). named_file_lines (name_in place row.uri) row) (told_songs_in place rows) _ _ _
    (leaves_same (λ (row : Row). named_file_lines (name_in place row.uri) row) (told_songs_in place rows) (told_songs_in place (drop c.loop-row.row-index rows)) _ _ _
    (no_songs place rows c.loop-row.row-index (omega arith)) c.loop-row.invariant)
