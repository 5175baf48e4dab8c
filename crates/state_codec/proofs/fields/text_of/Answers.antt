use Rattle.std.proofs.Common.{◌≡◌, Bool, true, false, refl, sym}
use Rattle.std.proofs.lemmas.Str.{is_utf8-from_IsUtf8, IsUtf8-from_is_utf8}
use Rattle.state_codec.proofs.fields.text_of.Goals as goal

never : (b : Bool) → (b ≡ true → ⊥) → false ≡ b
never true h = absurd (h refl)
never false h = refl

pub returns-in-Ok-clause-utf8 : goal.returns-in-Ok-clause-utf8
returns-in-Ok-clause-utf8 c = sym (is_utf8-from_IsUtf8 _ c.in-Ok.ensures.cases.1)

pub returns-in-Err-clause-utf8 : goal.returns-in-Err-clause-utf8
returns-in-Err-clause-utf8 c = never _ (λ e. c.in-Err.ensures.cases.0 (IsUtf8-from_is_utf8 _ e))
