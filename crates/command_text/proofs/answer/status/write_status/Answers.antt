use Rattle.std.proofs.Common.{[], ◌∷◌, ap, codes}
use Rattle.std.specs.List.{concat}
use Rattle.command_text.specs.Answer.{pair, number_pair}
use Rattle.command_text.specs.AnswerStatus.{setting_lines, state_text, current_lines, next_lines, playing_lines, job_lines, told_errors}
use Rattle.std.specs.Prelude.{option_copied}
use Rattle.command_text.proofs.Adding.{adds_last, adds_same, adds_stop, adds_then}
use Rattle.command_text.proofs.answer.status.write_status.Goals as goal

pub returns-in_err-write_settings : goal.returns-in_err-write_settings
returns-in_err-write_settings c =
    adds_stop (setting_lines c.args.status.now.volume c.args.status.now.options)
    (concat ((number_pair (codes "playlist") c.args.status.now.version)
    ∷ (number_pair (codes "playlistlength") c.args.status.now.length) ∷ (pair (codes "state") (state_text c.args.status.now.state))
    ∷ (current_lines c.args.status.now.current) ∷ (next_lines c.args.status.now.next)
    ∷ (playing_lines c.args.status.now.state c.args.status.now.current) ∷ (job_lines c.args.status.now.job)
    ∷ (told_errors (option_copied c.args.status.now.error) c.args.status.now.is_unread) ∷ [])) _ _ _ _ c.in_err-write_settings.ensures c.from_residual.ensures.0

pub returns-in_err-write_number : goal.returns-in_err-write_number
returns-in_err-write_number c =
    adds_then (setting_lines c.args.status.now.volume c.args.status.now.options)
    (concat ((number_pair (codes "playlist") c.args.status.now.version)
    ∷ (number_pair (codes "playlistlength") c.args.status.now.length) ∷ (pair (codes "state") (state_text c.args.status.now.state))
    ∷ (current_lines c.args.status.now.current) ∷ (next_lines c.args.status.now.next)
    ∷ (playing_lines c.args.status.now.state c.args.status.now.current) ∷ (job_lines c.args.status.now.job)
    ∷ (told_errors (option_copied c.args.status.now.error) c.args.status.now.is_unread) ∷ [])) _ _ _ _ _ c.in_ok-write_settings.ensures
    (adds_stop (number_pair (codes "playlist") c.args.status.now.version)
    (concat ((number_pair (codes "playlistlength") c.args.status.now.length)
    ∷ (pair (codes "state") (state_text c.args.status.now.state)) ∷ (current_lines c.args.status.now.current)
    ∷ (next_lines c.args.status.now.next) ∷ (playing_lines c.args.status.now.state c.args.status.now.current)
    ∷ (job_lines c.args.status.now.job) ∷ (told_errors (option_copied c.args.status.now.error) c.args.status.now.is_unread) ∷ [])) _ _ _ _
    c.in_err-write_number.ensures c.from_residual-in_err-write_number.ensures.0)

pub returns-in_err-write_number-2 : goal.returns-in_err-write_number-2
returns-in_err-write_number-2 c =
    adds_then (setting_lines c.args.status.now.volume c.args.status.now.options)
    (concat ((number_pair (codes "playlist") c.args.status.now.version)
    ∷ (number_pair (codes "playlistlength") c.args.status.now.length) ∷ (pair (codes "state") (state_text c.args.status.now.state))
    ∷ (current_lines c.args.status.now.current) ∷ (next_lines c.args.status.now.next)
    ∷ (playing_lines c.args.status.now.state c.args.status.now.current) ∷ (job_lines c.args.status.now.job)
    ∷ (told_errors (option_copied c.args.status.now.error) c.args.status.now.is_unread) ∷ [])) _ _ _ _ _ c.in_ok-write_settings.ensures
    (adds_then (number_pair (codes "playlist") c.args.status.now.version)
    (concat ((number_pair (codes "playlistlength") c.args.status.now.length)
    ∷ (pair (codes "state") (state_text c.args.status.now.state)) ∷ (current_lines c.args.status.now.current)
    ∷ (next_lines c.args.status.now.next) ∷ (playing_lines c.args.status.now.state c.args.status.now.current)
    ∷ (job_lines c.args.status.now.job) ∷ (told_errors (option_copied c.args.status.now.error) c.args.status.now.is_unread) ∷ [])) _ _ _ _ _
    c.in_ok-write_number.ensures
    (adds_stop (number_pair (codes "playlistlength") c.args.status.now.length)
    (concat ((pair (codes "state") (state_text c.args.status.now.state)) ∷ (current_lines c.args.status.now.current)
    ∷ (next_lines c.args.status.now.next) ∷ (playing_lines c.args.status.now.state c.args.status.now.current)
    ∷ (job_lines c.args.status.now.job) ∷ (told_errors (option_copied c.args.status.now.error) c.args.status.now.is_unread) ∷ [])) _ _ _ _
    c.in_err-write_number-2.ensures c.from_residual-in_err-write_number-2.ensures.0))

pub returns-in_err-write_pair : goal.returns-in_err-write_pair
returns-in_err-write_pair c =
    adds_then (setting_lines c.args.status.now.volume c.args.status.now.options)
    (concat ((number_pair (codes "playlist") c.args.status.now.version)
    ∷ (number_pair (codes "playlistlength") c.args.status.now.length) ∷ (pair (codes "state") (state_text c.args.status.now.state))
    ∷ (current_lines c.args.status.now.current) ∷ (next_lines c.args.status.now.next)
    ∷ (playing_lines c.args.status.now.state c.args.status.now.current) ∷ (job_lines c.args.status.now.job)
    ∷ (told_errors (option_copied c.args.status.now.error) c.args.status.now.is_unread) ∷ [])) _ _ _ _ _ c.in_ok-write_settings.ensures
    (adds_then (number_pair (codes "playlist") c.args.status.now.version)
    (concat ((number_pair (codes "playlistlength") c.args.status.now.length)
    ∷ (pair (codes "state") (state_text c.args.status.now.state)) ∷ (current_lines c.args.status.now.current)
    ∷ (next_lines c.args.status.now.next) ∷ (playing_lines c.args.status.now.state c.args.status.now.current)
    ∷ (job_lines c.args.status.now.job) ∷ (told_errors (option_copied c.args.status.now.error) c.args.status.now.is_unread) ∷ [])) _ _ _ _ _
    c.in_ok-write_number.ensures
    (adds_then (number_pair (codes "playlistlength") c.args.status.now.length)
    (concat ((pair (codes "state") (state_text c.args.status.now.state)) ∷ (current_lines c.args.status.now.current)
    ∷ (next_lines c.args.status.now.next) ∷ (playing_lines c.args.status.now.state c.args.status.now.current)
    ∷ (job_lines c.args.status.now.job) ∷ (told_errors (option_copied c.args.status.now.error) c.args.status.now.is_unread) ∷ [])) _ _ _ _ _
    c.in_ok-write_number-2.ensures
    (adds_stop (pair (codes "state") (state_text c.args.status.now.state))
    (concat ((current_lines c.args.status.now.current) ∷ (next_lines c.args.status.now.next)
    ∷ (playing_lines c.args.status.now.state c.args.status.now.current) ∷ (job_lines c.args.status.now.job)
    ∷ (told_errors (option_copied c.args.status.now.error) c.args.status.now.is_unread) ∷ [])) _ _ _ _
    (adds_same _ _ _ _ _ c.in_err-write_pair.ensures (ap (λ t. pair (codes "state") t) c.state_text.ensures))
    c.from_residual-in_err-write_pair.ensures.0)))

pub returns-in_err-write_current : goal.returns-in_err-write_current
returns-in_err-write_current c =
    adds_then (setting_lines c.args.status.now.volume c.args.status.now.options)
    (concat ((number_pair (codes "playlist") c.args.status.now.version)
    ∷ (number_pair (codes "playlistlength") c.args.status.now.length) ∷ (pair (codes "state") (state_text c.args.status.now.state))
    ∷ (current_lines c.args.status.now.current) ∷ (next_lines c.args.status.now.next)
    ∷ (playing_lines c.args.status.now.state c.args.status.now.current) ∷ (job_lines c.args.status.now.job)
    ∷ (told_errors (option_copied c.args.status.now.error) c.args.status.now.is_unread) ∷ [])) _ _ _ _ _ c.in_ok-write_settings.ensures
    (adds_then (number_pair (codes "playlist") c.args.status.now.version)
    (concat ((number_pair (codes "playlistlength") c.args.status.now.length)
    ∷ (pair (codes "state") (state_text c.args.status.now.state)) ∷ (current_lines c.args.status.now.current)
    ∷ (next_lines c.args.status.now.next) ∷ (playing_lines c.args.status.now.state c.args.status.now.current)
    ∷ (job_lines c.args.status.now.job) ∷ (told_errors (option_copied c.args.status.now.error) c.args.status.now.is_unread) ∷ [])) _ _ _ _ _
    c.in_ok-write_number.ensures
    (adds_then (number_pair (codes "playlistlength") c.args.status.now.length)
    (concat ((pair (codes "state") (state_text c.args.status.now.state)) ∷ (current_lines c.args.status.now.current)
    ∷ (next_lines c.args.status.now.next) ∷ (playing_lines c.args.status.now.state c.args.status.now.current)
    ∷ (job_lines c.args.status.now.job) ∷ (told_errors (option_copied c.args.status.now.error) c.args.status.now.is_unread) ∷ [])) _ _ _ _ _
    c.in_ok-write_number-2.ensures
    (adds_then (pair (codes "state") (state_text c.args.status.now.state))
    (concat ((current_lines c.args.status.now.current) ∷ (next_lines c.args.status.now.next)
    ∷ (playing_lines c.args.status.now.state c.args.status.now.current) ∷ (job_lines c.args.status.now.job)
    ∷ (told_errors (option_copied c.args.status.now.error) c.args.status.now.is_unread) ∷ [])) _ _ _ _ _
    (adds_same _ _ _ _ _ c.in_ok-write_pair.ensures (ap (λ t. pair (codes "state") t) c.state_text.ensures))
    (adds_stop (current_lines c.args.status.now.current)
    (concat ((next_lines c.args.status.now.next) ∷ (playing_lines c.args.status.now.state c.args.status.now.current)
    ∷ (job_lines c.args.status.now.job) ∷ (told_errors (option_copied c.args.status.now.error) c.args.status.now.is_unread) ∷ [])) _ _ _ _
    c.in_err-write_current.ensures c.from_residual-in_err-write_current.ensures.0))))

pub returns-in_err-write_next : goal.returns-in_err-write_next
returns-in_err-write_next c =
    adds_then (setting_lines c.args.status.now.volume c.args.status.now.options)
    (concat ((number_pair (codes "playlist") c.args.status.now.version)
    ∷ (number_pair (codes "playlistlength") c.args.status.now.length) ∷ (pair (codes "state") (state_text c.args.status.now.state))
    ∷ (current_lines c.args.status.now.current) ∷ (next_lines c.args.status.now.next)
    ∷ (playing_lines c.args.status.now.state c.args.status.now.current) ∷ (job_lines c.args.status.now.job)
    ∷ (told_errors (option_copied c.args.status.now.error) c.args.status.now.is_unread) ∷ [])) _ _ _ _ _ c.in_ok-write_settings.ensures
    (adds_then (number_pair (codes "playlist") c.args.status.now.version)
    (concat ((number_pair (codes "playlistlength") c.args.status.now.length)
    ∷ (pair (codes "state") (state_text c.args.status.now.state)) ∷ (current_lines c.args.status.now.current)
    ∷ (next_lines c.args.status.now.next) ∷ (playing_lines c.args.status.now.state c.args.status.now.current)
    ∷ (job_lines c.args.status.now.job) ∷ (told_errors (option_copied c.args.status.now.error) c.args.status.now.is_unread) ∷ [])) _ _ _ _ _
    c.in_ok-write_number.ensures
    (adds_then (number_pair (codes "playlistlength") c.args.status.now.length)
    (concat ((pair (codes "state") (state_text c.args.status.now.state)) ∷ (current_lines c.args.status.now.current)
    ∷ (next_lines c.args.status.now.next) ∷ (playing_lines c.args.status.now.state c.args.status.now.current)
    ∷ (job_lines c.args.status.now.job) ∷ (told_errors (option_copied c.args.status.now.error) c.args.status.now.is_unread) ∷ [])) _ _ _ _ _
    c.in_ok-write_number-2.ensures
    (adds_then (pair (codes "state") (state_text c.args.status.now.state))
    (concat ((current_lines c.args.status.now.current) ∷ (next_lines c.args.status.now.next)
    ∷ (playing_lines c.args.status.now.state c.args.status.now.current) ∷ (job_lines c.args.status.now.job)
    ∷ (told_errors (option_copied c.args.status.now.error) c.args.status.now.is_unread) ∷ [])) _ _ _ _ _
    (adds_same _ _ _ _ _ c.in_ok-write_pair.ensures (ap (λ t. pair (codes "state") t) c.state_text.ensures))
    (adds_then (current_lines c.args.status.now.current)
    (concat ((next_lines c.args.status.now.next) ∷ (playing_lines c.args.status.now.state c.args.status.now.current)
    ∷ (job_lines c.args.status.now.job) ∷ (told_errors (option_copied c.args.status.now.error) c.args.status.now.is_unread) ∷ [])) _ _ _ _ _
    c.in_ok-write_current.ensures
    (adds_stop (next_lines c.args.status.now.next)
    (concat ((playing_lines c.args.status.now.state c.args.status.now.current) ∷ (job_lines c.args.status.now.job)
    ∷ (told_errors (option_copied c.args.status.now.error) c.args.status.now.is_unread) ∷ [])) _ _ _ _ c.in_err-write_next.ensures
    c.from_residual-in_err-write_next.ensures.0)))))

pub returns-in_err-write_playing : goal.returns-in_err-write_playing
returns-in_err-write_playing c =
    adds_then (setting_lines c.args.status.now.volume c.args.status.now.options)
    (concat ((number_pair (codes "playlist") c.args.status.now.version)
    ∷ (number_pair (codes "playlistlength") c.args.status.now.length) ∷ (pair (codes "state") (state_text c.args.status.now.state))
    ∷ (current_lines c.args.status.now.current) ∷ (next_lines c.args.status.now.next)
    ∷ (playing_lines c.args.status.now.state c.args.status.now.current) ∷ (job_lines c.args.status.now.job)
    ∷ (told_errors (option_copied c.args.status.now.error) c.args.status.now.is_unread) ∷ [])) _ _ _ _ _ c.in_ok-write_settings.ensures
    (adds_then (number_pair (codes "playlist") c.args.status.now.version)
    (concat ((number_pair (codes "playlistlength") c.args.status.now.length)
    ∷ (pair (codes "state") (state_text c.args.status.now.state)) ∷ (current_lines c.args.status.now.current)
    ∷ (next_lines c.args.status.now.next) ∷ (playing_lines c.args.status.now.state c.args.status.now.current)
    ∷ (job_lines c.args.status.now.job) ∷ (told_errors (option_copied c.args.status.now.error) c.args.status.now.is_unread) ∷ [])) _ _ _ _ _
    c.in_ok-write_number.ensures
    (adds_then (number_pair (codes "playlistlength") c.args.status.now.length)
    (concat ((pair (codes "state") (state_text c.args.status.now.state)) ∷ (current_lines c.args.status.now.current)
    ∷ (next_lines c.args.status.now.next) ∷ (playing_lines c.args.status.now.state c.args.status.now.current)
    ∷ (job_lines c.args.status.now.job) ∷ (told_errors (option_copied c.args.status.now.error) c.args.status.now.is_unread) ∷ [])) _ _ _ _ _
    c.in_ok-write_number-2.ensures
    (adds_then (pair (codes "state") (state_text c.args.status.now.state))
    (concat ((current_lines c.args.status.now.current) ∷ (next_lines c.args.status.now.next)
    ∷ (playing_lines c.args.status.now.state c.args.status.now.current) ∷ (job_lines c.args.status.now.job)
    ∷ (told_errors (option_copied c.args.status.now.error) c.args.status.now.is_unread) ∷ [])) _ _ _ _ _
    (adds_same _ _ _ _ _ c.in_ok-write_pair.ensures (ap (λ t. pair (codes "state") t) c.state_text.ensures))
    (adds_then (current_lines c.args.status.now.current)
    (concat ((next_lines c.args.status.now.next) ∷ (playing_lines c.args.status.now.state c.args.status.now.current)
    ∷ (job_lines c.args.status.now.job) ∷ (told_errors (option_copied c.args.status.now.error) c.args.status.now.is_unread) ∷ [])) _ _ _ _ _
    c.in_ok-write_current.ensures
    (adds_then (next_lines c.args.status.now.next)
    (concat ((playing_lines c.args.status.now.state c.args.status.now.current) ∷ (job_lines c.args.status.now.job)
    ∷ (told_errors (option_copied c.args.status.now.error) c.args.status.now.is_unread) ∷ [])) _ _ _ _ _ c.in_ok-write_next.ensures
    (adds_stop (playing_lines c.args.status.now.state c.args.status.now.current)
    (concat ((job_lines c.args.status.now.job) ∷ (told_errors (option_copied c.args.status.now.error) c.args.status.now.is_unread) ∷ [])) _ _ _ _
    c.in_err-write_playing.ensures c.from_residual-in_err-write_playing.ensures.0))))))

pub returns-in_err-write_running_job : goal.returns-in_err-write_running_job
returns-in_err-write_running_job c =
    adds_then (setting_lines c.args.status.now.volume c.args.status.now.options)
    (concat ((number_pair (codes "playlist") c.args.status.now.version)
    ∷ (number_pair (codes "playlistlength") c.args.status.now.length) ∷ (pair (codes "state") (state_text c.args.status.now.state))
    ∷ (current_lines c.args.status.now.current) ∷ (next_lines c.args.status.now.next)
    ∷ (playing_lines c.args.status.now.state c.args.status.now.current) ∷ (job_lines c.args.status.now.job)
    ∷ (told_errors (option_copied c.args.status.now.error) c.args.status.now.is_unread) ∷ [])) _ _ _ _ _ c.in_ok-write_settings.ensures
    (adds_then (number_pair (codes "playlist") c.args.status.now.version)
    (concat ((number_pair (codes "playlistlength") c.args.status.now.length)
    ∷ (pair (codes "state") (state_text c.args.status.now.state)) ∷ (current_lines c.args.status.now.current)
    ∷ (next_lines c.args.status.now.next) ∷ (playing_lines c.args.status.now.state c.args.status.now.current)
    ∷ (job_lines c.args.status.now.job) ∷ (told_errors (option_copied c.args.status.now.error) c.args.status.now.is_unread) ∷ [])) _ _ _ _ _
    c.in_ok-write_number.ensures
    (adds_then (number_pair (codes "playlistlength") c.args.status.now.length)
    (concat ((pair (codes "state") (state_text c.args.status.now.state)) ∷ (current_lines c.args.status.now.current)
    ∷ (next_lines c.args.status.now.next) ∷ (playing_lines c.args.status.now.state c.args.status.now.current)
    ∷ (job_lines c.args.status.now.job) ∷ (told_errors (option_copied c.args.status.now.error) c.args.status.now.is_unread) ∷ [])) _ _ _ _ _
    c.in_ok-write_number-2.ensures
    (adds_then (pair (codes "state") (state_text c.args.status.now.state))
    (concat ((current_lines c.args.status.now.current) ∷ (next_lines c.args.status.now.next)
    ∷ (playing_lines c.args.status.now.state c.args.status.now.current) ∷ (job_lines c.args.status.now.job)
    ∷ (told_errors (option_copied c.args.status.now.error) c.args.status.now.is_unread) ∷ [])) _ _ _ _ _
    (adds_same _ _ _ _ _ c.in_ok-write_pair.ensures (ap (λ t. pair (codes "state") t) c.state_text.ensures))
    (adds_then (current_lines c.args.status.now.current)
    (concat ((next_lines c.args.status.now.next) ∷ (playing_lines c.args.status.now.state c.args.status.now.current)
    ∷ (job_lines c.args.status.now.job) ∷ (told_errors (option_copied c.args.status.now.error) c.args.status.now.is_unread) ∷ [])) _ _ _ _ _
    c.in_ok-write_current.ensures
    (adds_then (next_lines c.args.status.now.next)
    (concat ((playing_lines c.args.status.now.state c.args.status.now.current) ∷ (job_lines c.args.status.now.job)
    ∷ (told_errors (option_copied c.args.status.now.error) c.args.status.now.is_unread) ∷ [])) _ _ _ _ _ c.in_ok-write_next.ensures
    (adds_then (playing_lines c.args.status.now.state c.args.status.now.current)
    (concat ((job_lines c.args.status.now.job) ∷ (told_errors (option_copied c.args.status.now.error) c.args.status.now.is_unread) ∷ [])) _ _ _ _ _
    c.in_ok-write_playing.ensures
    (adds_stop (job_lines c.args.status.now.job) (concat ((told_errors (option_copied c.args.status.now.error) c.args.status.now.is_unread) ∷ [])) _ _ _ _
    c.in_err-write_running_job.ensures c.from_residual-in_err-write_running_job.ensures.0)))))))

pub returns : goal.returns
returns c =
    adds_then (setting_lines c.args.status.now.volume c.args.status.now.options)
    (concat ((number_pair (codes "playlist") c.args.status.now.version)
    ∷ (number_pair (codes "playlistlength") c.args.status.now.length) ∷ (pair (codes "state") (state_text c.args.status.now.state))
    ∷ (current_lines c.args.status.now.current) ∷ (next_lines c.args.status.now.next)
    ∷ (playing_lines c.args.status.now.state c.args.status.now.current) ∷ (job_lines c.args.status.now.job)
    ∷ (told_errors (option_copied c.args.status.now.error) c.args.status.now.is_unread) ∷ [])) _ _ _ _ _ c.in_ok-write_settings.ensures
    (adds_then (number_pair (codes "playlist") c.args.status.now.version)
    (concat ((number_pair (codes "playlistlength") c.args.status.now.length)
    ∷ (pair (codes "state") (state_text c.args.status.now.state)) ∷ (current_lines c.args.status.now.current)
    ∷ (next_lines c.args.status.now.next) ∷ (playing_lines c.args.status.now.state c.args.status.now.current)
    ∷ (job_lines c.args.status.now.job) ∷ (told_errors (option_copied c.args.status.now.error) c.args.status.now.is_unread) ∷ [])) _ _ _ _ _
    c.in_ok-write_number.ensures
    (adds_then (number_pair (codes "playlistlength") c.args.status.now.length)
    (concat ((pair (codes "state") (state_text c.args.status.now.state)) ∷ (current_lines c.args.status.now.current)
    ∷ (next_lines c.args.status.now.next) ∷ (playing_lines c.args.status.now.state c.args.status.now.current)
    ∷ (job_lines c.args.status.now.job) ∷ (told_errors (option_copied c.args.status.now.error) c.args.status.now.is_unread) ∷ [])) _ _ _ _ _
    c.in_ok-write_number-2.ensures
    (adds_then (pair (codes "state") (state_text c.args.status.now.state))
    (concat ((current_lines c.args.status.now.current) ∷ (next_lines c.args.status.now.next)
    ∷ (playing_lines c.args.status.now.state c.args.status.now.current) ∷ (job_lines c.args.status.now.job)
    ∷ (told_errors (option_copied c.args.status.now.error) c.args.status.now.is_unread) ∷ [])) _ _ _ _ _
    (adds_same _ _ _ _ _ c.in_ok-write_pair.ensures (ap (λ t. pair (codes "state") t) c.state_text.ensures))
    (adds_then (current_lines c.args.status.now.current)
    (concat ((next_lines c.args.status.now.next) ∷ (playing_lines c.args.status.now.state c.args.status.now.current)
    ∷ (job_lines c.args.status.now.job) ∷ (told_errors (option_copied c.args.status.now.error) c.args.status.now.is_unread) ∷ [])) _ _ _ _ _
    c.in_ok-write_current.ensures
    (adds_then (next_lines c.args.status.now.next)
    (concat ((playing_lines c.args.status.now.state c.args.status.now.current) ∷ (job_lines c.args.status.now.job)
    ∷ (told_errors (option_copied c.args.status.now.error) c.args.status.now.is_unread) ∷ [])) _ _ _ _ _ c.in_ok-write_next.ensures
    (adds_then (playing_lines c.args.status.now.state c.args.status.now.current)
    (concat ((job_lines c.args.status.now.job) ∷ (told_errors (option_copied c.args.status.now.error) c.args.status.now.is_unread) ∷ [])) _ _ _ _ _
    c.in_ok-write_playing.ensures
    (adds_then (job_lines c.args.status.now.job) (concat ((told_errors (option_copied c.args.status.now.error) c.args.status.now.is_unread) ∷ [])) _ _ _ _ _
    c.in_ok-write_running_job.ensures
    (adds_last (told_errors (option_copied c.args.status.now.error) c.args.status.now.is_unread) _ _ _ c.write_told_error.ensures))))))))
