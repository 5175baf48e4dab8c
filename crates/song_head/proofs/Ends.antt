-- Bytes at the end of a text.
use Rattle.std.proofs.Common.{◌≡◌, ℕ, zero, suc, ◌<◌, ◌≤◌, Bool, true, false, nat_le, List, [], ◌∷◌, length, take, get_or, refl, sym, ap, ◌∙◌, arith}
use Rattle.std.proofs.lemmas.Bool.Decides.{nat_tests}
use Rattle.song_head.specs.FrameValues.{with_byte, without_end}

-- a last byte that stays
pub end_kept : (text : List ℕ) (n d : ℕ) → length text ≡ suc n → 32 < get_or text n d → without_end text ≡ text
end_kept [] n d is high = absurd (omega (arith, is))
end_kept (x ∷ []) zero d is high = let more : nat_le x 32 ≡ false = grind (arith, nat_tests) in rw more refl
end_kept (x ∷ []) (suc n) d is high = absurd (omega (arith, is))
end_kept (x ∷ y ∷ text) zero d is high = absurd (omega (arith, is))
end_kept (x ∷ y ∷ text) (suc n) d is high = ap (with_byte x) (end_kept (y ∷ text) n d (omega (arith, is)) high)

-- and one that is cut
pub end_cut : (text : List ℕ) (n d : ℕ) → length text ≡ suc n → get_or text n d ≤ 32 → without_end (take n text) ≡ without_end text
end_cut [] n d is low = absurd (omega (arith, is))
end_cut (x ∷ []) zero d is low = let less : nat_le x 32 ≡ true = grind (arith, nat_tests) in rw less refl
end_cut (x ∷ []) (suc n) d is low = absurd (omega (arith, is))
end_cut (x ∷ y ∷ text) zero d is low = absurd (omega (arith, is))
end_cut (x ∷ y ∷ text) (suc n) d is low = ap (with_byte x) (end_cut (y ∷ text) n d (omega (arith, is)) low)
