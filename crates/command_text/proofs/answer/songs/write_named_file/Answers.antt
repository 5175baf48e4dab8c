use Rattle.std.proofs.Common.{ap, ◌∙◌, ◌++◌}
use Rattle.command_text.specs.AnswerSongs.{file_line, modified_line, size_line}
use Rattle.filter_expr.specs.Times.{known_time}
use Rattle.command_text.proofs.Adding.{adds_same, adds_stop, adds_then}
use Rattle.command_text.proofs.answer.songs.write_named_file.Goals as goal

pub returns-in_err-write_pair : goal.returns-in_err-write_pair
returns-in_err-write_pair c =
    adds_stop (file_line c.args.name.now) (size_line c.args.row.now.stamp ++ modified_line (known_time c.args.row.now.stamp)) _ _ _ _
    c.in_err-write_pair.ensures c.from_residual.ensures.0

pub returns-in_err-write_size : goal.returns-in_err-write_size
returns-in_err-write_size c =
    adds_then (file_line c.args.name.now) (size_line c.args.row.now.stamp ++ modified_line (known_time c.args.row.now.stamp)) _ _ _ _ _
    c.in_ok-write_pair.ensures
    (adds_stop (size_line c.args.row.now.stamp) (modified_line (known_time c.args.row.now.stamp)) _ _ _ _
    (adds_same _ _ _ _ _ c.in_err-write_size.ensures (ap (λ s. size_line s) c.stamp-stamp.ensures))
    c.from_residual-in_err-write_size.ensures.0)

pub returns : goal.returns
returns c =
    adds_then (file_line c.args.name.now) (size_line c.args.row.now.stamp ++ modified_line (known_time c.args.row.now.stamp)) _ _ _ _ _
    c.in_ok-write_pair.ensures
    (adds_then (size_line c.args.row.now.stamp) (modified_line (known_time c.args.row.now.stamp)) _ _ _ _ _
    (adds_same _ _ _ _ _ c.in_ok-write_size.ensures (ap (λ s. size_line s) c.stamp-stamp.ensures))
    (adds_same _ _ _ _ _ c.write_modified.ensures
    (ap (λ t. modified_line t) (c.known_time.ensures ∙ ap (λ s. known_time s) c.stamp-stamp.ensures))))
