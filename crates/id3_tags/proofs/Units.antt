-- Units of 16 bits, one at a time.
use Rattle.std.proofs.Common.{◌≡◌, ℕ, ◌+◌, ◌*◌, ◌≤◌, ◌<◌, List, [], ◌∷◌, length, get_or, drop, ap, ◌∙◌, sym, refl, arith}
use Rattle.std.proofs.lemmas.List.{length-drop}
use Rattle.id3_tags.specs.Strings.{wide_units}
use Rattle.id3_tags.proofs.Resyncs.{two_at}

unit_front : (a b : ℕ) (bytes : List ℕ) → wide_units (a ∷ b ∷ bytes) ≡ (a * 256 + b) ∷ wide_units bytes
unfolding wide_units
unit_front a b bytes = refl

pub unit_more : (bytes : List ℕ) (at : ℕ) → at + 1 < length bytes
    → wide_units (drop at bytes) ≡ (get_or bytes at 0 * 256 + get_or bytes (at + 1) 0) ∷ wide_units (drop (at + 2) bytes)
unit_more bytes at within = ap wide_units (two_at bytes at within) ∙ unit_front _ _ _

few_units : (bytes : List ℕ) → length bytes ≤ 1 → wide_units bytes ≡ []
unfolding wide_units
few_units [] few = refl
few_units (a ∷ []) few = refl
few_units (a ∷ b ∷ bytes) few = absurd (omega arith)

-- past the end
pub units_end : (bytes : List ℕ) (at : ℕ) → length bytes ≤ at + 1 → wide_units (drop at bytes) ≡ []
units_end bytes at end = let few : length (drop at bytes) ≤ 1 = omega (arith, length-drop at bytes) in few_units (drop at bytes) few

-- the unit at a place, by its value
pub unit_cut : (bytes : List ℕ) (at v : ℕ) → at + 1 < length bytes → v ≡ get_or bytes at 0 * 256 + get_or bytes (at + 1) 0
    → wide_units (drop at bytes) ≡ v ∷ wide_units (drop (at + 2) bytes)
unit_cut bytes at v within is = unit_more bytes at within ∙ ap (λ u. u ∷ wide_units (drop (at + 2) bytes)) (sym is)
