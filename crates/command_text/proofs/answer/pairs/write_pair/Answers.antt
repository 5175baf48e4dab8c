use Rattle.std.proofs.Common.{◌≡◌, ℕ, List, [], ◌∷◌, ◌++◌, ◌∙◌, ap, sym, append_assoc, codes}
use Rattle.command_text.specs.Answer.{pair}
use Rattle.command_text.proofs.Adding.{adds_same, adds_stop, adds_then}
use Rattle.command_text.proofs.answer.pairs.write_pair.Goals as goal

-- the four parts of a line
in_parts : (key value : List ℕ) → key ++ (codes ": " ++ (value ++ 10 ∷ [])) ≡ pair key value
in_parts key value = sym (append_assoc key (codes ": " ++ value) (10 ∷ []) ∙ ap (λ (l : List ℕ). key ++ l) (append_assoc (codes ": ")
    value (10 ∷ [])))

pub returns-in_err-add : goal.returns-in_err-add
returns-in_err-add c =
    adds_same _ _ _ _ _ (adds_stop c.args.key.now (codes ": " ++ (c.args.value.now ++ 10 ∷ [])) _ _ _ _
    (adds_same _ _ _ _ _ c.in_err-add.ensures c.as_bytes.ensures.value) c.from_residual.ensures.0)
    (in_parts c.args.key.now c.args.value.now)

pub returns-in_err-add-2 : goal.returns-in_err-add-2
returns-in_err-add-2 c =
    adds_same _ _ _ _ _ (adds_then c.args.key.now (codes ": " ++ (c.args.value.now ++ 10 ∷ [])) _ _ _ _ _
    (adds_same _ _ _ _ _ c.in_ok-add.ensures c.as_bytes.ensures.value)
    (adds_stop (codes ": ") (c.args.value.now ++ 10 ∷ []) _ _ _ _ c.in_err-add-2.ensures c.from_residual-in_err-add-2.ensures.0))
    (in_parts c.args.key.now c.args.value.now)

pub returns-in_err-add-3 : goal.returns-in_err-add-3
returns-in_err-add-3 c =
    adds_same _ _ _ _ _ (adds_then c.args.key.now (codes ": " ++ (c.args.value.now ++ 10 ∷ [])) _ _ _ _ _
    (adds_same _ _ _ _ _ c.in_ok-add.ensures c.as_bytes.ensures.value)
    (adds_then (codes ": ") (c.args.value.now ++ 10 ∷ []) _ _ _ _ _ c.in_ok-add-2.ensures
    (adds_stop c.args.value.now (10 ∷ []) _ _ _ _ c.in_err-add-3.ensures c.from_residual-in_err-add-3.ensures.0)))
    (in_parts c.args.key.now c.args.value.now)

pub returns : goal.returns
returns c =
    adds_same _ _ _ _ _ (adds_then c.args.key.now (codes ": " ++ (c.args.value.now ++ 10 ∷ [])) _ _ _ _ _
    (adds_same _ _ _ _ _ c.in_ok-add.ensures c.as_bytes.ensures.value)
    (adds_then (codes ": ") (c.args.value.now ++ 10 ∷ []) _ _ _ _ _ c.in_ok-add-2.ensures
    (adds_then c.args.value.now (10 ∷ []) _ _ _ _ _ c.in_ok-add-3.ensures c.add-4.ensures)))
    (in_parts c.args.key.now c.args.value.now)
