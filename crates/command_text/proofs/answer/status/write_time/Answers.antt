use Rattle.std.proofs.Common.{[], ◌∷◌, ◌++◌, ap, codes}
use Rattle.std.specs.List.{concat}
use Rattle.command_text.specs.Answer.{pair}
use Rattle.command_text.specs.AnswerTimes.{whole_seconds, exact_seconds}
use Rattle.command_text.specs.AnswerSongs.{format_text}
use Rattle.song_db.specs.Duration.{milliseconds}
use Rattle.command_text.proofs.Adding.{adds_last, adds_same, adds_stop, adds_then}
use Rattle.command_text.proofs.answer.status.write_time.Goals as goal

pub returns-in_err-write_elapsed_of_total : goal.returns-in_err-write_elapsed_of_total
returns-in_err-write_elapsed_of_total c =
    adds_stop (pair (codes "time") (whole_seconds c.args.elapsed ++ (codes ":" ++ whole_seconds (milliseconds c.args.row.now))))
    (concat ((pair (codes "elapsed") (exact_seconds c.args.elapsed))
    ∷ (pair (codes "duration") (exact_seconds (milliseconds c.args.row.now)))
    ∷ (pair (codes "audio") (format_text c.args.row.now.rate c.args.row.now.channels)) ∷ [])) _ _ _ _
    (adds_same _ _ _ _ _ c.in_err-write_elapsed_of_total.ensures
    (ap (λ m. pair (codes "time") (whole_seconds c.args.elapsed ++ (codes ":" ++ whole_seconds m))) c.milliseconds-total.ensures.value))
    c.from_residual.ensures.0

pub returns-in_err-write_exact_seconds : goal.returns-in_err-write_exact_seconds
returns-in_err-write_exact_seconds c =
    adds_then (pair (codes "time") (whole_seconds c.args.elapsed ++ (codes ":" ++ whole_seconds (milliseconds c.args.row.now))))
    (concat ((pair (codes "elapsed") (exact_seconds c.args.elapsed))
    ∷ (pair (codes "duration") (exact_seconds (milliseconds c.args.row.now)))
    ∷ (pair (codes "audio") (format_text c.args.row.now.rate c.args.row.now.channels)) ∷ [])) _ _ _ _ _
    (adds_same _ _ _ _ _ c.in_ok-write_elapsed_of_total.ensures
    (ap (λ m. pair (codes "time") (whole_seconds c.args.elapsed ++ (codes ":" ++ whole_seconds m))) c.milliseconds-total.ensures.value))
    (adds_stop (pair (codes "elapsed") (exact_seconds c.args.elapsed))
    (concat ((pair (codes "duration") (exact_seconds (milliseconds c.args.row.now)))
    ∷ (pair (codes "audio") (format_text c.args.row.now.rate c.args.row.now.channels)) ∷ [])) _ _ _ _
    c.in_err-write_exact_seconds.ensures c.from_residual-in_err-write_exact_seconds.ensures.0)

pub returns-in_err-write_exact_seconds-2 : goal.returns-in_err-write_exact_seconds-2
returns-in_err-write_exact_seconds-2 c =
    adds_then (pair (codes "time") (whole_seconds c.args.elapsed ++ (codes ":" ++ whole_seconds (milliseconds c.args.row.now))))
    (concat ((pair (codes "elapsed") (exact_seconds c.args.elapsed))
    ∷ (pair (codes "duration") (exact_seconds (milliseconds c.args.row.now)))
    ∷ (pair (codes "audio") (format_text c.args.row.now.rate c.args.row.now.channels)) ∷ [])) _ _ _ _ _
    (adds_same _ _ _ _ _ c.in_ok-write_elapsed_of_total.ensures
    (ap (λ m. pair (codes "time") (whole_seconds c.args.elapsed ++ (codes ":" ++ whole_seconds m))) c.milliseconds-total.ensures.value))
    (adds_then (pair (codes "elapsed") (exact_seconds c.args.elapsed))
    (concat ((pair (codes "duration") (exact_seconds (milliseconds c.args.row.now)))
    ∷ (pair (codes "audio") (format_text c.args.row.now.rate c.args.row.now.channels)) ∷ [])) _ _ _ _ _
    c.in_ok-write_exact_seconds.ensures
    (adds_stop (pair (codes "duration") (exact_seconds (milliseconds c.args.row.now)))
    (concat ((pair (codes "audio") (format_text c.args.row.now.rate c.args.row.now.channels)) ∷ [])) _ _ _ _
    (adds_same _ _ _ _ _ c.in_err-write_exact_seconds-2.ensures
    (ap (λ m. pair (codes "duration") (exact_seconds m)) c.milliseconds-total.ensures.value))
    c.from_residual-in_err-write_exact_seconds-2.ensures.0))

pub returns : goal.returns
returns c =
    adds_then (pair (codes "time") (whole_seconds c.args.elapsed ++ (codes ":" ++ whole_seconds (milliseconds c.args.row.now))))
    (concat ((pair (codes "elapsed") (exact_seconds c.args.elapsed))
    ∷ (pair (codes "duration") (exact_seconds (milliseconds c.args.row.now)))
    ∷ (pair (codes "audio") (format_text c.args.row.now.rate c.args.row.now.channels)) ∷ [])) _ _ _ _ _
    (adds_same _ _ _ _ _ c.in_ok-write_elapsed_of_total.ensures
    (ap (λ m. pair (codes "time") (whole_seconds c.args.elapsed ++ (codes ":" ++ whole_seconds m))) c.milliseconds-total.ensures.value))
    (adds_then (pair (codes "elapsed") (exact_seconds c.args.elapsed))
    (concat ((pair (codes "duration") (exact_seconds (milliseconds c.args.row.now)))
    ∷ (pair (codes "audio") (format_text c.args.row.now.rate c.args.row.now.channels)) ∷ [])) _ _ _ _ _
    c.in_ok-write_exact_seconds.ensures
    (adds_then (pair (codes "duration") (exact_seconds (milliseconds c.args.row.now)))
    (concat ((pair (codes "audio") (format_text c.args.row.now.rate c.args.row.now.channels)) ∷ [])) _ _ _ _ _
    (adds_same _ _ _ _ _ c.in_ok-write_exact_seconds-2.ensures
    (ap (λ m. pair (codes "duration") (exact_seconds m)) c.milliseconds-total.ensures.value))
    (adds_last (pair (codes "audio") (format_text c.args.row.now.rate c.args.row.now.channels)) _ _ _
    (adds_same _ _ _ _ _ c.write_format.ensures (ap (λ r. pair (codes "audio") (format_text r.rate r.channels)) c.info.ensures)))))
