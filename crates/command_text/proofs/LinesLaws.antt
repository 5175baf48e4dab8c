-- What holds of lines that stand in one buffer.
use Rattle.std.proofs.Common.{◌≡◌, ℕ, suc, ◌+◌, ◌≤◌, List, [], ◌∷◌, ◌++◌, length, take, drop, refl, ◌∙◌, ap, arith}
use Rattle.std.specs.List.{concat}
use Rattle.std.proofs.lemmas.List.{take_all, take-append-drop, take-append-le, drop-append-le, length-drop}
use Rattle.command_text.specs.Lines.{cut, total}

pub length-cut : (lengths text : List ℕ) → length (cut lengths text) ≡ length lengths
length-cut [] text = refl
length-cut (n ∷ lengths) text = ap suc (length-cut lengths (drop n text))

pub total-append : (lengths : List ℕ) (n : ℕ) → total (lengths ++ n ∷ []) ≡ total lengths + n
total-append [] n = omega arith
total-append (m ∷ lengths) n = omega (arith, total-append lengths n)

behind : (n : ℕ) (lengths text : List ℕ) → n + total lengths ≡ length text → total lengths ≡ length (drop n text)
behind n lengths text h = omega (arith, h, length-drop n text)

-- the lines together are the buffer
pub concat-cut : (lengths text : List ℕ) → total lengths ≡ length text → concat (cut lengths text) ≡ text
concat-cut [] [] h = refl
concat-cut [] (x ∷ text) h = cc
concat-cut (n ∷ lengths) text h =
    ap (λ (more : List ℕ). take n text ++ more) (concat-cut lengths (drop n text) (behind n lengths text h)) ∙ take-append-drop n text

-- one line more
pub cut-append : (lengths text line : List ℕ) → total lengths ≡ length text
    → cut (lengths ++ length line ∷ []) (text ++ line) ≡ cut lengths text ++ line ∷ []
cut-append [] [] line h = ap (λ (l : List ℕ). l ∷ []) (take_all (length line) line (omega arith))
cut-append [] (x ∷ text) line h = cc
cut-append (n ∷ lengths) text line h =
    let within : n ≤ length text = omega (arith, h) in
    let rest = cut-append lengths (drop n text) line (behind n lengths text h) in
    rw (take-append-le n text line within, drop-append-le n text line within, rest) refl
