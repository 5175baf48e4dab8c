use Rattle.std.proofs.Common.{ap, codes}
use Rattle.command_text.specs.Answer.{pair}
use Rattle.command_text.specs.AnswerNames.{list_time}
use Rattle.command_text.proofs.Adding.{adds_same, adds_stop, adds_then}
use Rattle.command_text.proofs.answer.names.write_playlist.Goals as goal

pub returns-in_err-write_pair : goal.returns-in_err-write_pair
returns-in_err-write_pair c =
    adds_stop (pair (codes "playlist") c.args.name.now) (list_time c.args.profile c.args.seconds) _ _ _ _
    (adds_same _ _ _ _ _ c.in_err-write_pair.ensures (ap (λ t. pair (codes "playlist") t) c.as_bytes.ensures.value))
    c.from_residual.ensures.0

pub returns : goal.returns
returns c =
    adds_then (pair (codes "playlist") c.args.name.now) (list_time c.args.profile c.args.seconds) _ _ _ _ _
    (adds_same _ _ _ _ _ c.in_ok-write_pair.ensures (ap (λ t. pair (codes "playlist") t) c.as_bytes.ensures.value))
    c.write_list_time.ensures
