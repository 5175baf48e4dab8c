use Rattle.std.proofs.Common.{[], ◌∷◌, codes}
use Rattle.std.specs.List.{concat}
use Rattle.command_text.specs.Answer.{number_pair}
use Rattle.command_text.specs.AnswerSongs.{song_lines, priority_line}
use Rattle.command_text.proofs.Adding.{adds_last, adds_stop, adds_then}
use Rattle.command_text.proofs.answer.songs.write_entry.Goals as goal

pub returns-in_err-write_song : goal.returns-in_err-write_song
returns-in_err-write_song c =
    adds_stop (song_lines c.args.mask c.args.row.now)
    (concat ((number_pair (codes "Pos") c.args.position) ∷ (number_pair (codes "Id") c.args.entry.now.id)
    ∷ (priority_line c.args.entry.now.priority) ∷ [])) _ _ _ _ c.in_err-write_song.ensures c.from_residual.ensures.0

pub returns-in_err-write_number : goal.returns-in_err-write_number
returns-in_err-write_number c =
    adds_then (song_lines c.args.mask c.args.row.now)
    (concat ((number_pair (codes "Pos") c.args.position) ∷ (number_pair (codes "Id") c.args.entry.now.id)
    ∷ (priority_line c.args.entry.now.priority) ∷ [])) _ _ _ _ _ c.in_ok-write_song.ensures
    (adds_stop (number_pair (codes "Pos") c.args.position)
    (concat ((number_pair (codes "Id") c.args.entry.now.id) ∷ (priority_line c.args.entry.now.priority) ∷ [])) _ _ _ _
    c.in_err-write_number.ensures c.from_residual-in_err-write_number.ensures.0)

pub returns-in_err-write_number-2 : goal.returns-in_err-write_number-2
returns-in_err-write_number-2 c =
    adds_then (song_lines c.args.mask c.args.row.now)
    (concat ((number_pair (codes "Pos") c.args.position) ∷ (number_pair (codes "Id") c.args.entry.now.id)
    ∷ (priority_line c.args.entry.now.priority) ∷ [])) _ _ _ _ _ c.in_ok-write_song.ensures
    (adds_then (number_pair (codes "Pos") c.args.position)
    (concat ((number_pair (codes "Id") c.args.entry.now.id) ∷ (priority_line c.args.entry.now.priority) ∷ [])) _ _ _ _ _
    c.in_ok-write_number.ensures
    (adds_stop (number_pair (codes "Id") c.args.entry.now.id) (concat ((priority_line c.args.entry.now.priority) ∷ [])) _ _ _ _
    c.in_err-write_number-2.ensures c.from_residual-in_err-write_number-2.ensures.0))

pub returns : goal.returns
returns c =
    adds_then (song_lines c.args.mask c.args.row.now)
    (concat ((number_pair (codes "Pos") c.args.position) ∷ (number_pair (codes "Id") c.args.entry.now.id)
    ∷ (priority_line c.args.entry.now.priority) ∷ [])) _ _ _ _ _ c.in_ok-write_song.ensures
    (adds_then (number_pair (codes "Pos") c.args.position)
    (concat ((number_pair (codes "Id") c.args.entry.now.id) ∷ (priority_line c.args.entry.now.priority) ∷ [])) _ _ _ _ _
    c.in_ok-write_number.ensures
    (adds_then (number_pair (codes "Id") c.args.entry.now.id) (concat ((priority_line c.args.entry.now.priority) ∷ [])) _ _ _ _ _
    c.in_ok-write_number-2.ensures
    (adds_last (priority_line c.args.entry.now.priority) _ _ _ c.write_priority.ensures)))
