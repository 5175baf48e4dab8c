-- Unsynchronisation undone, one byte at a time.
use Rattle.std.proofs.Common.{◌≡◌, ℕ, ◌+◌, ◌<◌, ◌≤◌, List, [], ◌∷◌, length, get_or, drop, true, false, sym, ap, ◌∙◌, refl, arith}
use Rattle.std.specs.Prelude.{◌==◌, ◌&&◌}
use Rattle.std.proofs.lemmas.List.{drop_more, drop_all}
use Rattle.id3_tags.specs.Unsynchronisation.{resynchronised}

-- the bytes that stand at two places, one behind the other
pub two_at : (bytes : List ℕ) (at : ℕ) → at + 1 < length bytes
    → drop at bytes ≡ get_or bytes at 0 ∷ get_or bytes (at + 1) 0 ∷ drop (at + 2) bytes
two_at bytes at within =
    let first : at < length bytes = omega arith in
    let e : at + 1 + 1 ≡ at + 2 = omega arith in
    drop_more bytes at 0 first ∙ ap (λ l. get_or bytes at 0 ∷ l) (drop_more bytes (at + 1) 0 within)
    ∙ ap (λ n. get_or bytes at 0 ∷ get_or bytes (at + 1) 0 ∷ drop n bytes) e

pair_at : (a b : ℕ) (bytes : List ℕ) → (a == 255 && b == 0) ≡ true → resynchronised (a ∷ b ∷ bytes) ≡ a ∷ resynchronised bytes
unfolding resynchronised
pair_at a b bytes met = rw met refl

other_at : (a b : ℕ) (bytes : List ℕ) → (a == 255 && b == 0) ≡ false → resynchronised (a ∷ b ∷ bytes) ≡ a ∷ resynchronised (b ∷ bytes)
unfolding resynchronised
other_at a b bytes unmet = rw unmet refl

last_at : (a : ℕ) → resynchronised (a ∷ []) ≡ a ∷ resynchronised []
unfolding resynchronised
last_at a = refl

pub pair_more : (bytes : List ℕ) (at : ℕ) → at + 1 < length bytes → (get_or bytes at 0 == 255 && get_or bytes (at + 1) 0 == 0) ≡ true
    → resynchronised (drop at bytes) ≡ get_or bytes at 0 ∷ resynchronised (drop (at + 2) bytes)
pair_more bytes at within met = ap resynchronised (two_at bytes at within) ∙ pair_at _ _ _ met

pub other_more : (bytes : List ℕ) (at : ℕ) → at + 1 < length bytes → (get_or bytes at 0 == 255 && get_or bytes (at + 1) 0 == 0) ≡ false
    → resynchronised (drop at bytes) ≡ get_or bytes at 0 ∷ resynchronised (drop (at + 1) bytes)
other_more bytes at within unmet =
    let e : at + 1 + 1 ≡ at + 2 = omega arith in
    ap resynchronised (two_at bytes at within) ∙ other_at _ _ _ unmet
    ∙ ap (λ n. get_or bytes at 0 ∷ resynchronised (get_or bytes (at + 1) 0 ∷ drop n bytes)) (sym e)
    ∙ ap (λ l. get_or bytes at 0 ∷ resynchronised l) (sym (drop_more bytes (at + 1) 0 within))

pub last_more : (bytes : List ℕ) (at : ℕ) → at < length bytes → length bytes ≤ at + 1
    → resynchronised (drop at bytes) ≡ get_or bytes at 0 ∷ resynchronised (drop (at + 1) bytes)
last_more bytes at within end =
    let none : drop (at + 1) bytes ≡ [] = drop_all (at + 1) bytes end in
    ap resynchronised (drop_more bytes at 0 within ∙ ap (λ l. get_or bytes at 0 ∷ l) none) ∙ last_at (get_or bytes at 0)
    ∙ ap (λ l. get_or bytes at 0 ∷ resynchronised l) (sym none)

none_left : resynchronised [] ≡ []
unfolding resynchronised
none_left = refl

-- past the end
pub resync_end : (bytes : List ℕ) (at : ℕ) → length bytes ≤ at → resynchronised (drop at bytes) ≡ []
resync_end bytes at end = ap resynchronised (drop_all at bytes end) ∙ none_left
