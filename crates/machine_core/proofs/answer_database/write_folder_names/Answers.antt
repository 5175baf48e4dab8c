use Rattle.std.proofs.Common.{ℕ, List, true, false, Some, ◌∷◌, drop, ◌+◌, sym, ◌∙◌, arith}
use Rattle.std.specs.Option.{option_copied}
use Rattle.command_text.specs.AnswerNames.{directory_line}
use Rattle.command_text.proofs.LineLoops.{leaves_fewer, leaves_none, leaves_off}
use Rattle.song_db.specs.ToldWalk.{told_folders_in}
use Rattle.machine_core.specs.Database.{name_in}
use Rattle.machine_core.proofs.Database.ToldLines.{folder_is, folder_none, folders_left, leaves_same, new_folder, no_folder, no_folders}
use Rattle.machine_core.proofs.Database.ToldLines.{same_folder}
use Rattle.machine_core.proofs.answer_database.write_folder_names.Goals as goal

pub loop-row-preserved-in_default : goal.loop-row-preserved-in_default
loop-row-preserved-in_default c =
    let place = c.args.place in
    let rows = c.args.rows.now in
    let at = c.loop-row in
    let row = c.row-item.result in
    leaves_same (λ (folder : List ℕ). directory_line (name_in place folder)) (told_folders_in place rows)
    (folders_left place (option_copied at.last) (drop at.row-index rows))
    (folders_left place (option_copied at.last) (drop (at.row-index + 1) rows)) _ _
    (no_folder place (option_copied at.last) rows at.row-index row (omega arith) c.row-item.is
    (folder_none place c.uri.result.now row.uri c.folder_of.result c.folder_of.ensures c.uri.ensures.text c.in_default.is)) at.invariant

pub loop-row-preserved-then-is_text : goal.loop-row-preserved-then-is_text
loop-row-preserved-then-is_text c =
    let place = c.args.place in
    let rows = c.args.rows.now in
    let at = c.loop-row in
    let row = c.row-item.result in
    let folder = c.in-Some.folder in
    leaves_same (λ (folder : List ℕ). directory_line (name_in place folder)) (told_folders_in place rows)
    (folders_left place (option_copied at.last) (drop at.row-index rows))
    (folders_left place (option_copied at.last) (drop (at.row-index + 1) rows)) _ _
    (same_folder place (option_copied at.last) rows at.row-index row folder.now (omega arith) c.row-item.is
    (folder_is place c.uri.result.now row.uri c.folder_of.result folder c.folder_of.ensures c.uri.ensures.text c.in-Some.is)
    (sym c.is_text.ensures ∙ c.if-is_text.true)) at.invariant

pub loop-row-preserved : goal.loop-row-preserved
loop-row-preserved c =
    let place = c.args.place in
    let rows = c.args.rows.now in
    let at = c.loop-row in
    let row = c.row-item.result in
    let folder = c.in-Some.folder in
    leaves_fewer (λ (folder : List ℕ). directory_line (name_in place folder)) (told_folders_in place rows) folder.now
    (folders_left place (Some folder.now) (drop (at.row-index + 1) rows)) _ _ _ _
    (leaves_same (λ (folder : List ℕ). directory_line (name_in place folder)) (told_folders_in place rows)
    (folders_left place (option_copied at.last) (drop at.row-index rows))
    (folder.now ∷ folders_left place (Some folder.now) (drop (at.row-index + 1) rows)) _ _
    (new_folder place (option_copied at.last) rows at.row-index row folder.now (omega arith) c.row-item.is
    (folder_is place c.uri.result.now row.uri c.folder_of.result folder c.folder_of.ensures c.uri.ensures.text c.in-Some.is)
    (sym c.is_text.ensures ∙ c.if-is_text.false)) at.invariant) (rw c.name_in.ensures at c.in_ok-write_pair.ensures)

pub returns-in_err-write_pair : goal.returns-in_err-write_pair
returns-in_err-write_pair c =
    let place = c.args.place in
    let rows = c.args.rows.now in
    let at = c.loop-row in
    let row = c.row-item.result in
    let folder = c.in-Some.folder in
    leaves_off (λ (folder : List ℕ). directory_line (name_in place folder)) (told_folders_in place rows) folder.now
    (folders_left place (Some folder.now) (drop (at.row-index + 1) rows)) _ _ _ _ _
    (leaves_same (λ (folder : List ℕ). directory_line (name_in place folder)) (told_folders_in place rows)
    (folders_left place (option_copied at.last) (drop at.row-index rows))
    (folder.now ∷ folders_left place (Some folder.now) (drop (at.row-index + 1) rows)) _ _
    (new_folder place (option_copied at.last) rows at.row-index row folder.now (omega arith) c.row-item.is
    (folder_is place c.uri.result.now row.uri c.folder_of.result folder c.folder_of.ensures c.uri.ensures.text c.in-Some.is)
    (sym c.is_text.ensures ∙ c.if-is_text.false)) at.invariant) (rw c.name_in.ensures at c.in_err-write_pair.ensures) c.from_residual.ensures.0

pub returns : goal.returns
returns c =
    let place = c.args.place in
    let rows = c.args.rows.now in
    leaves_none (λ (folder : List ℕ). directory_line (name_in place folder)) (told_folders_in place rows) _ _ _
    (leaves_same (λ (folder : List ℕ). directory_line (name_in place folder)) (told_folders_in place rows)
    (folders_left place (option_copied c.loop-row.last) (drop c.loop-row.row-index rows)) _ _ _
    (no_folders place (option_copied c.loop-row.last) rows c.loop-row.row-index (omega arith)) c.loop-row.invariant)
