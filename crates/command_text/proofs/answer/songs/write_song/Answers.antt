use Rattle.std.proofs.Common.{[], ◌∷◌, ap, codes}
use Rattle.std.specs.List.{concat}
use Rattle.command_text.specs.Answer.{pair}
use Rattle.command_text.specs.AnswerTimes.{whole_seconds, exact_seconds}
use Rattle.command_text.specs.AnswerSongs.{head_lines, format_text, tag_lines}
use Rattle.song_db.specs.Duration.{milliseconds}
use Rattle.command_text.proofs.Adding.{adds_last, adds_same, adds_stop, adds_then}
use Rattle.command_text.proofs.answer.songs.write_song.Goals as goal

pub returns-in_err-write_head : goal.returns-in_err-write_head
returns-in_err-write_head c =
    adds_stop (head_lines c.args.row.now)
    (concat ((pair (codes "Format") (format_text c.args.row.now.rate c.args.row.now.channels)) ∷ (tag_lines c.args.mask c.args.row.now.tags)
    ∷ (pair (codes "Time") (whole_seconds (milliseconds c.args.row.now)))
    ∷ (pair (codes "duration") (exact_seconds (milliseconds c.args.row.now))) ∷ [])) _ _ _ _
    c.in_err-write_head.ensures c.from_residual.ensures.0

pub returns-in_err-write_format : goal.returns-in_err-write_format
returns-in_err-write_format c =
    adds_then (head_lines c.args.row.now)
    (concat ((pair (codes "Format") (format_text c.args.row.now.rate c.args.row.now.channels)) ∷ (tag_lines c.args.mask c.args.row.now.tags)
    ∷ (pair (codes "Time") (whole_seconds (milliseconds c.args.row.now)))
    ∷ (pair (codes "duration") (exact_seconds (milliseconds c.args.row.now))) ∷ [])) _ _ _ _ _
    c.in_ok-write_head.ensures
    (adds_stop (pair (codes "Format") (format_text c.args.row.now.rate c.args.row.now.channels))
    (concat ((tag_lines c.args.mask c.args.row.now.tags) ∷ (pair (codes "Time") (whole_seconds (milliseconds c.args.row.now)))
    ∷ (pair (codes "duration") (exact_seconds (milliseconds c.args.row.now))) ∷ [])) _ _ _ _
    (adds_same _ _ _ _ _ c.in_err-write_format.ensures (ap (λ r. pair (codes "Format") (format_text r.rate r.channels)) c.info.ensures))
    c.from_residual-in_err-write_format.ensures.0)

pub returns-in_err-write_tags : goal.returns-in_err-write_tags
returns-in_err-write_tags c =
    adds_then (head_lines c.args.row.now)
    (concat ((pair (codes "Format") (format_text c.args.row.now.rate c.args.row.now.channels)) ∷ (tag_lines c.args.mask c.args.row.now.tags)
    ∷ (pair (codes "Time") (whole_seconds (milliseconds c.args.row.now)))
    ∷ (pair (codes "duration") (exact_seconds (milliseconds c.args.row.now))) ∷ [])) _ _ _ _ _
    c.in_ok-write_head.ensures
    (adds_then (pair (codes "Format") (format_text c.args.row.now.rate c.args.row.now.channels))
    (concat ((tag_lines c.args.mask c.args.row.now.tags) ∷ (pair (codes "Time") (whole_seconds (milliseconds c.args.row.now)))
    ∷ (pair (codes "duration") (exact_seconds (milliseconds c.args.row.now))) ∷ [])) _ _ _ _ _
    (adds_same _ _ _ _ _ c.in_ok-write_format.ensures (ap (λ r. pair (codes "Format") (format_text r.rate r.channels)) c.info.ensures))
    (adds_stop (tag_lines c.args.mask c.args.row.now.tags)
    (concat ((pair (codes "Time") (whole_seconds (milliseconds c.args.row.now)))
    ∷ (pair (codes "duration") (exact_seconds (milliseconds c.args.row.now))) ∷ [])) _ _ _ _
    (adds_same _ _ _ _ _ c.in_err-write_tags.ensures (ap (λ t. tag_lines c.args.mask t) c.tags.ensures))
    c.from_residual-in_err-write_tags.ensures.0))

pub returns-in_err-write_whole_seconds : goal.returns-in_err-write_whole_seconds
returns-in_err-write_whole_seconds c =
    adds_then (head_lines c.args.row.now)
    (concat ((pair (codes "Format") (format_text c.args.row.now.rate c.args.row.now.channels)) ∷ (tag_lines c.args.mask c.args.row.now.tags)
    ∷ (pair (codes "Time") (whole_seconds (milliseconds c.args.row.now)))
    ∷ (pair (codes "duration") (exact_seconds (milliseconds c.args.row.now))) ∷ [])) _ _ _ _ _
    c.in_ok-write_head.ensures
    (adds_then (pair (codes "Format") (format_text c.args.row.now.rate c.args.row.now.channels))
    (concat ((tag_lines c.args.mask c.args.row.now.tags) ∷ (pair (codes "Time") (whole_seconds (milliseconds c.args.row.now)))
    ∷ (pair (codes "duration") (exact_seconds (milliseconds c.args.row.now))) ∷ [])) _ _ _ _ _
    (adds_same _ _ _ _ _ c.in_ok-write_format.ensures (ap (λ r. pair (codes "Format") (format_text r.rate r.channels)) c.info.ensures))
    (adds_then (tag_lines c.args.mask c.args.row.now.tags)
    (concat ((pair (codes "Time") (whole_seconds (milliseconds c.args.row.now)))
    ∷ (pair (codes "duration") (exact_seconds (milliseconds c.args.row.now))) ∷ [])) _ _ _ _ _
    (adds_same _ _ _ _ _ c.in_ok-write_tags.ensures (ap (λ t. tag_lines c.args.mask t) c.tags.ensures))
    (adds_stop (pair (codes "Time") (whole_seconds (milliseconds c.args.row.now)))
    (concat ((pair (codes "duration") (exact_seconds (milliseconds c.args.row.now))) ∷ [])) _ _ _ _
    (adds_same _ _ _ _ _ c.in_err-write_whole_seconds.ensures
    (ap (λ m. pair (codes "Time") (whole_seconds m)) c.milliseconds-milliseconds.ensures.value))
    c.from_residual-in_err-write_whole_seconds.ensures.0)))

pub returns : goal.returns
returns c =
    adds_then (head_lines c.args.row.now)
    (concat ((pair (codes "Format") (format_text c.args.row.now.rate c.args.row.now.channels)) ∷ (tag_lines c.args.mask c.args.row.now.tags)
    ∷ (pair (codes "Time") (whole_seconds (milliseconds c.args.row.now)))
    ∷ (pair (codes "duration") (exact_seconds (milliseconds c.args.row.now))) ∷ [])) _ _ _ _ _
    c.in_ok-write_head.ensures
    (adds_then (pair (codes "Format") (format_text c.args.row.now.rate c.args.row.now.channels))
    (concat ((tag_lines c.args.mask c.args.row.now.tags) ∷ (pair (codes "Time") (whole_seconds (milliseconds c.args.row.now)))
    ∷ (pair (codes "duration") (exact_seconds (milliseconds c.args.row.now))) ∷ [])) _ _ _ _ _
    (adds_same _ _ _ _ _ c.in_ok-write_format.ensures (ap (λ r. pair (codes "Format") (format_text r.rate r.channels)) c.info.ensures))
    (adds_then (tag_lines c.args.mask c.args.row.now.tags)
    (concat ((pair (codes "Time") (whole_seconds (milliseconds c.args.row.now)))
    ∷ (pair (codes "duration") (exact_seconds (milliseconds c.args.row.now))) ∷ [])) _ _ _ _ _
    (adds_same _ _ _ _ _ c.in_ok-write_tags.ensures (ap (λ t. tag_lines c.args.mask t) c.tags.ensures))
    (adds_then (pair (codes "Time") (whole_seconds (milliseconds c.args.row.now)))
    (concat ((pair (codes "duration") (exact_seconds (milliseconds c.args.row.now))) ∷ [])) _ _ _ _ _
    (adds_same _ _ _ _ _ c.in_ok-write_whole_seconds.ensures
    (ap (λ m. pair (codes "Time") (whole_seconds m)) c.milliseconds-milliseconds.ensures.value))
    (adds_last (pair (codes "duration") (exact_seconds (milliseconds c.args.row.now))) _ _ _
    (adds_same _ _ _ _ _ c.write_exact_seconds.ensures
    (ap (λ m. pair (codes "duration") (exact_seconds m)) c.milliseconds-milliseconds.ensures.value))))))
