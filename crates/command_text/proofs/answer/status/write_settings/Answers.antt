use Rattle.std.proofs.Common.{[], ◌∷◌, ap, codes}
use Rattle.std.specs.List.{concat}
use Rattle.command_text.specs.Answer.{pair}
use Rattle.command_text.specs.AnswerStatus.{switch_text, single_text, volume_line}
use Rattle.command_text.proofs.Adding.{adds_last, adds_same, adds_stop, adds_then}
use Rattle.command_text.proofs.answer.status.write_settings.Goals as goal

pub returns-in_err-write_volume : goal.returns-in_err-write_volume
returns-in_err-write_volume c =
    adds_stop (volume_line c.args.volume)
    (concat ((pair (codes "repeat") (switch_text c.args.options.repeat)) ∷ (pair (codes "random") (switch_text c.args.options.random))
    ∷ (pair (codes "single") (single_text c.args.options.single)) ∷ (pair (codes "consume") (single_text c.args.options.consume)) ∷ []))
    _ _ _ _ c.in_err-write_volume.ensures
    c.from_residual.ensures.0

pub returns-in_err-write_pair : goal.returns-in_err-write_pair
returns-in_err-write_pair c =
    adds_then (volume_line c.args.volume)
    (concat ((pair (codes "repeat") (switch_text c.args.options.repeat)) ∷ (pair (codes "random") (switch_text c.args.options.random))
    ∷ (pair (codes "single") (single_text c.args.options.single)) ∷ (pair (codes "consume") (single_text c.args.options.consume)) ∷ []))
    _ _ _ _ _ c.in_ok-write_volume.ensures
    (adds_stop (pair (codes "repeat") (switch_text c.args.options.repeat))
    (concat ((pair (codes "random") (switch_text c.args.options.random)) ∷ (pair (codes "single") (single_text c.args.options.single))
    ∷ (pair (codes "consume") (single_text c.args.options.consume)) ∷ [])) _ _ _ _
    (adds_same _ _ _ _ _ c.in_err-write_pair.ensures (ap (λ t. pair (codes "repeat") t) c.switch_text.ensures))
    c.from_residual-in_err-write_pair.ensures.0)

pub returns-in_err-write_pair-2 : goal.returns-in_err-write_pair-2
returns-in_err-write_pair-2 c =
    adds_then (volume_line c.args.volume)
    (concat ((pair (codes "repeat") (switch_text c.args.options.repeat)) ∷ (pair (codes "random") (switch_text c.args.options.random))
    ∷ (pair (codes "single") (single_text c.args.options.single)) ∷ (pair (codes "consume") (single_text c.args.options.consume)) ∷ []))
    _ _ _ _ _ c.in_ok-write_volume.ensures
    (adds_then (pair (codes "repeat") (switch_text c.args.options.repeat))
    (concat ((pair (codes "random") (switch_text c.args.options.random)) ∷ (pair (codes "single") (single_text c.args.options.single))
    ∷ (pair (codes "consume") (single_text c.args.options.consume)) ∷ [])) _ _ _ _ _
    (adds_same _ _ _ _ _ c.in_ok-write_pair.ensures (ap (λ t. pair (codes "repeat") t) c.switch_text.ensures))
    (adds_stop (pair (codes "random") (switch_text c.args.options.random))
    (concat ((pair (codes "single") (single_text c.args.options.single)) ∷ (pair (codes "consume") (single_text c.args.options.consume))
    ∷ [])) _ _ _ _ (adds_same _ _ _ _ _ c.in_err-write_pair-2.ensures (ap (λ t. pair (codes "random") t) c.switch_text-2.ensures))
    c.from_residual-in_err-write_pair-2.ensures.0))

pub returns-in_err-write_pair-3 : goal.returns-in_err-write_pair-3
returns-in_err-write_pair-3 c =
    adds_then (volume_line c.args.volume)
    (concat ((pair (codes "repeat") (switch_text c.args.options.repeat)) ∷ (pair (codes "random") (switch_text c.args.options.random))
    ∷ (pair (codes "single") (single_text c.args.options.single)) ∷ (pair (codes "consume") (single_text c.args.options.consume)) ∷ []))
    _ _ _ _ _ c.in_ok-write_volume.ensures
    (adds_then (pair (codes "repeat") (switch_text c.args.options.repeat))
    (concat ((pair (codes "random") (switch_text c.args.options.random)) ∷ (pair (codes "single") (single_text c.args.options.single))
    ∷ (pair (codes "consume") (single_text c.args.options.consume)) ∷ [])) _ _ _ _ _
    (adds_same _ _ _ _ _ c.in_ok-write_pair.ensures (ap (λ t. pair (codes "repeat") t) c.switch_text.ensures))
    (adds_then (pair (codes "random") (switch_text c.args.options.random))
    (concat ((pair (codes "single") (single_text c.args.options.single)) ∷ (pair (codes "consume") (single_text c.args.options.consume))
    ∷ [])) _ _ _ _ _ (adds_same _ _ _ _ _ c.in_ok-write_pair-2.ensures (ap (λ t. pair (codes "random") t) c.switch_text-2.ensures))
    (adds_stop (pair (codes "single") (single_text c.args.options.single))
    (concat ((pair (codes "consume") (single_text c.args.options.consume)) ∷ [])) _ _ _ _
    (adds_same _ _ _ _ _ c.in_err-write_pair-3.ensures (ap (λ t. pair (codes "single") t) c.single_text.ensures))
    c.from_residual-in_err-write_pair-3.ensures.0)))

pub returns : goal.returns
returns c =
    adds_then (volume_line c.args.volume)
    (concat ((pair (codes "repeat") (switch_text c.args.options.repeat)) ∷ (pair (codes "random") (switch_text c.args.options.random))
    ∷ (pair (codes "single") (single_text c.args.options.single)) ∷ (pair (codes "consume") (single_text c.args.options.consume)) ∷ []))
    _ _ _ _ _ c.in_ok-write_volume.ensures
    (adds_then (pair (codes "repeat") (switch_text c.args.options.repeat))
    (concat ((pair (codes "random") (switch_text c.args.options.random)) ∷ (pair (codes "single") (single_text c.args.options.single))
    ∷ (pair (codes "consume") (single_text c.args.options.consume)) ∷ [])) _ _ _ _ _
    (adds_same _ _ _ _ _ c.in_ok-write_pair.ensures (ap (λ t. pair (codes "repeat") t) c.switch_text.ensures))
    (adds_then (pair (codes "random") (switch_text c.args.options.random))
    (concat ((pair (codes "single") (single_text c.args.options.single)) ∷ (pair (codes "consume") (single_text c.args.options.consume))
    ∷ [])) _ _ _ _ _ (adds_same _ _ _ _ _ c.in_ok-write_pair-2.ensures (ap (λ t. pair (codes "random") t) c.switch_text-2.ensures))
    (adds_then (pair (codes "single") (single_text c.args.options.single))
    (concat ((pair (codes "consume") (single_text c.args.options.consume)) ∷ [])) _ _ _ _ _
    (adds_same _ _ _ _ _ c.in_ok-write_pair-3.ensures (ap (λ t. pair (codes "single") t) c.single_text.ensures))
    (adds_last (pair (codes "consume") (single_text c.args.options.consume)) _ _ _
    (adds_same _ _ _ _ _ c.write_pair-4.ensures (ap (λ t. pair (codes "consume") t) c.single_text-2.ensures))))))
