use Rattle.std.proofs.Common.{◌≡◌, ℕ, List, [], ◌∷◌, ◌++◌, ◌∙◌, ap, sym, append_assoc, codes}
use Rattle.command_text.specs.Answer.{pair}
use Rattle.command_text.proofs.Adding.{adds_same, adds_stop, adds_then}
use Rattle.command_text.proofs.answer.pairs.write_joined.Goals as goal

-- the parts of a line
in_parts : (key first second third : List ℕ)
    → (key ++ (codes ": " ++ first)) ++ (second ++ (third ++ 10 ∷ [])) ≡ pair key (first ++ (second ++ third))
in_parts key first second third =
    let rest : List ℕ = second ++ (third ++ 10 ∷ []) in
    let value : List ℕ = first ++ (second ++ third) in
    let all : value ++ 10 ∷ [] ≡ first ++ rest =
    append_assoc first (second ++ third) (10 ∷ []) ∙ ap (λ (l : List ℕ). first ++ l) (append_assoc second third (10 ∷ [])) in
    append_assoc key (codes ": " ++ first) rest ∙ ap (λ (l : List ℕ). key ++ l) (append_assoc (codes ": ") first rest
    ∙ ap (λ (l : List ℕ). codes ": " ++ l) (sym all) ∙ sym (append_assoc (codes ": ") value (10 ∷ [])))
    ∙ sym (append_assoc key (codes ": " ++ value) (10 ∷ []))

pub returns-in_err-add_three : goal.returns-in_err-add_three
returns-in_err-add_three c =
    adds_same _ _ _ _ _ (adds_stop (c.args.key.now ++ (codes ": " ++ c.args.first.now)) (c.args.second.now ++ (c.args.third.now ++ 10 ∷ [])) _ _
    _ _ (adds_same _ _ _ _ _ c.in_err-add_three.ensures (ap (λ (k : List ℕ). k ++ (codes ": " ++ c.args.first.now)) c.as_bytes.ensures.value))
    c.from_residual.ensures.0) (in_parts c.args.key.now c.args.first.now c.args.second.now c.args.third.now)

pub returns : goal.returns
returns c =
    adds_same _ _ _ _ _ (adds_then (c.args.key.now ++ (codes ": " ++ c.args.first.now)) (c.args.second.now ++ (c.args.third.now ++ 10 ∷ [])) _ _
    _ _ _ (adds_same _ _ _ _ _ c.in_ok-add_three.ensures (ap (λ (k : List ℕ). k ++ (codes ": " ++ c.args.first.now)) c.as_bytes.ensures.value))
    c.add_three-2.ensures) (in_parts c.args.key.now c.args.first.now c.args.second.now c.args.third.now)
