-- The id in front of a position, and the last one of a list.
use Rattle.std.proofs.Common.{◌≡◌, ℕ, zero, suc, ◌+◌, ◌-◌, ◌<◌, ◌≤◌, List, [], ◌∷◌, length, get_or, take, slice_get, Some}
use Rattle.std.proofs.Common.{refl, sym, ap, ◌∙◌, arith}
use Rattle.play_queue.specs.declared.entry.Entry.{Entry}
use Rattle.play_queue.specs.Queue.{ids_of}
use Rattle.player_core.specs.Commands.{last_or}

-- the last of the first ones
pub last_or-take : (entries : List Entry) (k other : ℕ) (d : Entry) → k < length entries
    → last_or other (ids_of (take (suc k) entries)) ≡ (get_or entries k d).id
last_or-take [] k other d within = absurd (omega arith)
last_or-take (entry ∷ entries) zero other d within = refl
last_or-take (entry ∷ entries) (suc k) other d within = last_or-take entries k entry.id d (omega arith)

pub last_or-front : (entries : List Entry) (at other : ℕ) (d : Entry) → 0 < at → at ≤ length entries
    → last_or other (ids_of (take at entries)) ≡ (get_or entries (at - 1) d).id
last_or-front entries zero other d low within = absurd (omega arith)
last_or-front entries (suc k) other d low within = last_or-take entries k other d (omega arith) ∙ ap (λ n. (get_or entries n d).id) (same k)
  where
    same : (n : ℕ) → n ≡ suc n - 1
    same n = omega arith

-- the last of all
pub last_or-entries : (entries : List Entry) (other : ℕ) (d : Entry) → 0 < length entries
    → last_or other (ids_of entries) ≡ (get_or entries (length entries - 1) d).id
last_or-entries entries other d some = ap (λ l. last_or other (ids_of l)) (sym (all entries))
    ∙ last_or-front entries (length entries) other d some (omega arith)
  where
    all : (l : List Entry) → take (length l) l ≡ l
    all [] = refl
    all (x ∷ xs) = ap (λ l. x ∷ l) (all xs)

pub slice_get-last : (ids : List ℕ) (k other : ℕ) → k + 1 ≡ length ids → slice_get ids k ≡ Some (last_or other ids)
slice_get-last [] k other is = absurd (omega arith)
slice_get-last (id ∷ []) zero other is = refl
slice_get-last (id ∷ []) (suc k) other is = absurd (omega arith)
slice_get-last (id ∷ (next ∷ ids)) zero other is = absurd (omega arith)
slice_get-last (id ∷ (next ∷ ids)) (suc k) other is = slice_get-last (next ∷ ids) k id (omega arith)

pub last_or-found : (ids : List ℕ) (id other : ℕ) → 0 < length ids → Some id ≡ slice_get ids (length ids - 1) → id ≡ last_or other ids
last_or-found ids id other some found =
    let last : slice_get ids (length ids - 1) ≡ Some (last_or other ids) = slice_get-last ids (length ids - 1) other (omega arith) in
    cc
