use Rattle.std.proofs.Common.{◌≡◌, ℕ, List, [], ◌∷◌, ◌++◌, Option, ◌∙◌, ap, sym, append_assoc}
use Rattle.command_text.specs.declared.name.CommandName.{CommandName}
use Rattle.command_text.specs.declared.refusal.AckCode.{AckCode}
use Rattle.command_text.specs.Answer.{ack_start}
use Rattle.command_text.specs.Refusals.{code_number, braces, text_of}
use Rattle.command_text.proofs.Adding.{adds_same, adds_then, adds_stop}
use Rattle.command_text.proofs.answer.ack.write_ack.Goals as goal

-- the parts that were added are the line
same_line : (code code' : AckCode) (index : ℕ) (name name' : Option CommandName) (text : List ℕ) → code ≡ code' → name ≡ name'
    → ack_start (code_number code) index (braces name) ++ (text ++ 10 ∷ []) ≡ (ack_start (code_number code') index (braces name') ++ text)
    ++ 10 ∷ []
same_line code code' index name name' text e f =
    let start : ack_start (code_number code) index (braces name) ≡ ack_start (code_number code') index (braces name') = cc in
    ap (λ (l : List ℕ). l ++ (text ++ 10 ∷ [])) start
    ∙ sym (append_assoc (ack_start (code_number code') index (braces name')) text (10 ∷ []))

pub returns-in_err-append_start : goal.returns-in_err-append_start
returns-in_err-append_start c =
    adds_same _ _ _ _ _ (adds_stop _ (text_of c.args.refusal.now ++ 10 ∷ []) _ _ _ _ c.in_err-append_start.ensures
    c.from_residual.ensures.0)
    (same_line _ _ c.args.index _ _ (text_of c.args.refusal.now) c.code.ensures c.name.ensures)

pub returns-in_err-append_text : goal.returns-in_err-append_text
returns-in_err-append_text c =
    adds_same _ _ _ _ _ (adds_then _ _ _ _ _ _ _ c.in_ok-append_start.ensures
    (adds_stop _ (10 ∷ []) _ _ _ _ c.in_err-append_text.ensures c.from_residual-in_err-append_text.ensures.0))
    (same_line _ _ c.args.index _ _ (text_of c.args.refusal.now) c.code.ensures c.name.ensures)

pub returns : goal.returns
returns c =
    adds_same _ _ _ _ _ (adds_then _ _ _ _ _ _ _ c.in_ok-append_start.ensures
    (adds_then _ _ _ _ _ _ _ c.in_ok-append_text.ensures c.append.ensures))
    (same_line _ _ c.args.index _ _ (text_of c.args.refusal.now) c.code.ensures c.name.ensures)
