use Rattle.std.proofs.Common.{ap, ◌∙◌}
use Rattle.command_text.specs.AnswerSongs.{file_line, modified_line}
use Rattle.filter_expr.specs.Times.{known_time}
use Rattle.command_text.proofs.Adding.{adds_same, adds_stop, adds_then}
use Rattle.command_text.proofs.answer.songs.write_head.Goals as goal

pub returns-in_err-write_file : goal.returns-in_err-write_file
returns-in_err-write_file c =
    adds_stop (file_line c.args.row.now.uri) (modified_line (known_time c.args.row.now.stamp)) _ _ _ _
    (adds_same _ _ _ _ _ c.in_err-write_file.ensures (ap (λ t. file_line t) c.uri.ensures.text)) c.from_residual.ensures.0

pub returns : goal.returns
returns c =
    adds_then (file_line c.args.row.now.uri) (modified_line (known_time c.args.row.now.stamp)) _ _ _ _ _
    (adds_same _ _ _ _ _ c.in_ok-write_file.ensures (ap (λ t. file_line t) c.uri.ensures.text))
    (adds_same _ _ _ _ _ c.write_modified.ensures
    (ap (λ t. modified_line t) (c.known_time.ensures ∙ ap (λ s. known_time s) c.stamp.ensures)))
