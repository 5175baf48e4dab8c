use Rattle.std.proofs.Common.{[], ◌∷◌, codes}
use Rattle.std.specs.List.{concat}
use Rattle.command_text.specs.Answer.{pair, number_pair}
use Rattle.command_text.specs.AnswerTimes.{whole_seconds}
use Rattle.command_text.proofs.Adding.{adds_last, adds_stop, adds_then}
use Rattle.command_text.proofs.answer.names.write_statistics.Goals as goal

pub returns-in_err-write_number : goal.returns-in_err-write_number
returns-in_err-write_number c =
    adds_stop (number_pair (codes "artists") c.args.artists)
    (concat ((number_pair (codes "albums") c.args.albums) ∷ (number_pair (codes "songs") c.args.songs)
    ∷ (pair (codes "db_playtime") (whole_seconds c.args.milliseconds)) ∷ [])) _ _ _ _ c.in_err-write_number.ensures
    c.from_residual.ensures.0

pub returns-in_err-write_number-2 : goal.returns-in_err-write_number-2
returns-in_err-write_number-2 c =
    adds_then (number_pair (codes "artists") c.args.artists)
    (concat ((number_pair (codes "albums") c.args.albums) ∷ (number_pair (codes "songs") c.args.songs)
    ∷ (pair (codes "db_playtime") (whole_seconds c.args.milliseconds)) ∷ [])) _ _ _ _ _ c.in_ok-write_number.ensures
    (adds_stop (number_pair (codes "albums") c.args.albums)
    (concat ((number_pair (codes "songs") c.args.songs) ∷ (pair (codes "db_playtime") (whole_seconds c.args.milliseconds)) ∷ [])) _ _ _
    _ c.in_err-write_number-2.ensures c.from_residual-in_err-write_number-2.ensures.0)

pub returns-in_err-write_number-3 : goal.returns-in_err-write_number-3
returns-in_err-write_number-3 c =
    adds_then (number_pair (codes "artists") c.args.artists)
    (concat ((number_pair (codes "albums") c.args.albums) ∷ (number_pair (codes "songs") c.args.songs)
    ∷ (pair (codes "db_playtime") (whole_seconds c.args.milliseconds)) ∷ [])) _ _ _ _ _ c.in_ok-write_number.ensures
    (adds_then (number_pair (codes "albums") c.args.albums)
    (concat ((number_pair (codes "songs") c.args.songs) ∷ (pair (codes "db_playtime") (whole_seconds c.args.milliseconds)) ∷ [])) _ _ _
    _ _ c.in_ok-write_number-2.ensures
    (adds_stop (number_pair (codes "songs") c.args.songs) (concat ((pair (codes "db_playtime") (whole_seconds c.args.milliseconds)) ∷ [])) _
    _ _ _ c.in_err-write_number-3.ensures c.from_residual-in_err-write_number-3.ensures.0))

pub returns : goal.returns
returns c =
    adds_then (number_pair (codes "artists") c.args.artists)
    (concat ((number_pair (codes "albums") c.args.albums) ∷ (number_pair (codes "songs") c.args.songs)
    ∷ (pair (codes "db_playtime") (whole_seconds c.args.milliseconds)) ∷ [])) _ _ _ _ _ c.in_ok-write_number.ensures
    (adds_then (number_pair (codes "albums") c.args.albums)
    (concat ((number_pair (codes "songs") c.args.songs) ∷ (pair (codes "db_playtime") (whole_seconds c.args.milliseconds)) ∷ [])) _ _ _
    _ _ c.in_ok-write_number-2.ensures
    (adds_then (number_pair (codes "songs") c.args.songs) (concat ((pair (codes "db_playtime") (whole_seconds c.args.milliseconds)) ∷ [])) _
    _ _ _ _ c.in_ok-write_number-3.ensures
    (adds_last (pair (codes "db_playtime") (whole_seconds c.args.milliseconds)) _ _ _ c.write_whole_seconds.ensures)))
