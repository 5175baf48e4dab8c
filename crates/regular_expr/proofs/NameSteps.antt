-- Names within brackets.
use Rattle.std.proofs.Common.{◌≡◌, ℕ, Bool, true, false, List, ◌∷◌, ◌++◌, Option, Some, None, refl, ◌∙◌}
use Rattle.std.specs.Prelude.{if◌then◌else◌}
use Rattle.regular_expr.specs.Classes.{is_escaped, is_bracket, is_last, is_enclosed}

-- a name that goes on in front
abbrev pub behind : List ℕ → Option (List ℕ × List ℕ) → Option (List ℕ × List ℕ)
behind front None = None
behind front (Some x) = Some (front ++ x.0, x.1)

otherwise : {A : Type 0} (b : Bool) (x y : A) → b ≡ false → (if b then x else y) ≡ y
otherwise true x y e = absurd (cc)
otherwise false x y e = refl

-- where nothing ends it, it goes on with the next byte
pub goes_on : (mark a b : ℕ) (text : List ℕ) → is_escaped a b ≡ false → is_bracket mark a b ≡ false → is_last mark a b ≡ false
    → is_enclosed mark (a ∷ b ∷ text) ≡ is_enclosed mark (b ∷ text)
unfolding is_enclosed
goes_on mark a b text p q r =
    otherwise (is_escaped a b) (is_enclosed mark text)
    (if is_bracket mark a b then false else (if is_last mark a b then true else is_enclosed mark (b ∷ text))) p
    ∙ otherwise (is_bracket mark a b) false (if is_last mark a b then true else is_enclosed mark (b ∷ text)) q
    ∙ otherwise (is_last mark a b) true (is_enclosed mark (b ∷ text)) r
