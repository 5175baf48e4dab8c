use Rattle.std.proofs.Common.{[], ◌∷◌, codes}
use Rattle.std.specs.List.{concat}
use Rattle.command_text.specs.Answer.{pair}
use Rattle.command_text.proofs.Adding.{adds_last, adds_stop, adds_then}
use Rattle.command_text.proofs.answer.setup.write_outputs.Goals as goal

pub returns-in_err-write_pair : goal.returns-in_err-write_pair
returns-in_err-write_pair c =
    adds_stop (pair (codes "outputid") (codes "0"))
    (concat (pair (codes "outputname") (codes "output") ∷ pair (codes "plugin") (codes "raw")
    ∷ pair (codes "outputenabled") (codes "1") ∷ []))
    _ _ _ _ c.in_err-write_pair.ensures c.from_residual.ensures.0

pub returns-in_err-write_pair-2 : goal.returns-in_err-write_pair-2
returns-in_err-write_pair-2 c =
    adds_then (pair (codes "outputid") (codes "0"))
    (concat (pair (codes "outputname") (codes "output") ∷ pair (codes "plugin") (codes "raw")
    ∷ pair (codes "outputenabled") (codes "1") ∷ []))
    _ _ _ _ _ c.in_ok-write_pair.ensures
    (adds_stop (pair (codes "outputname") (codes "output"))
    (concat (pair (codes "plugin") (codes "raw") ∷ pair (codes "outputenabled") (codes "1") ∷ []))
    _ _ _ _ c.in_err-write_pair-2.ensures c.from_residual-in_err-write_pair-2.ensures.0)

pub returns-in_err-write_pair-3 : goal.returns-in_err-write_pair-3
returns-in_err-write_pair-3 c =
    adds_then (pair (codes "outputid") (codes "0"))
    (concat (pair (codes "outputname") (codes "output") ∷ pair (codes "plugin") (codes "raw")
    ∷ pair (codes "outputenabled") (codes "1") ∷ []))
    _ _ _ _ _ c.in_ok-write_pair.ensures
    (adds_then (pair (codes "outputname") (codes "output"))
    (concat (pair (codes "plugin") (codes "raw") ∷ pair (codes "outputenabled") (codes "1") ∷ []))
    _ _ _ _ _ c.in_ok-write_pair-2.ensures
    (adds_stop (pair (codes "plugin") (codes "raw"))
    (concat (pair (codes "outputenabled") (codes "1") ∷ []))
    _ _ _ _ c.in_err-write_pair-3.ensures c.from_residual-in_err-write_pair-3.ensures.0))

pub returns : goal.returns
returns c =
    adds_then (pair (codes "outputid") (codes "0"))
    (concat (pair (codes "outputname") (codes "output") ∷ pair (codes "plugin") (codes "raw")
    ∷ pair (codes "outputenabled") (codes "1") ∷ []))
    _ _ _ _ _ c.in_ok-write_pair.ensures
    (adds_then (pair (codes "outputname") (codes "output"))
    (concat (pair (codes "plugin") (codes "raw") ∷ pair (codes "outputenabled") (codes "1") ∷ []))
    _ _ _ _ _ c.in_ok-write_pair-2.ensures
    (adds_then (pair (codes "plugin") (codes "raw"))
    (concat (pair (codes "outputenabled") (codes "1") ∷ []))
    _ _ _ _ _ c.in_ok-write_pair-3.ensures
    (adds_last (pair (codes "outputenabled") (codes "1")) _ _ _ c.write_pair-4.ensures)))
