-- The entry with an id is found by its id alone.
use Rattle.std.proofs.Common.{◌≡◌, ℕ, zero, suc, ◌+◌, ◌<◌, Bool, true, false, cond, ◌==◌, ◌||◌, nat_lt, List, [], ◌∷◌, Some, None, length}
use Rattle.std.proofs.Common.{get_or, refl, sym, ap, ◌∙◌, arith}
use Rattle.std.specs.List.{find, list_any, position, position_from, position_or_len, prefix_len, slice_get}
use Rattle.std.proofs.lemmas.Bool.{ltb-true}
use Rattle.std.proofs.lemmas.Iterator.Adapters.{position_from-zero}
use Rattle.std.proofs.lemmas.List.Folds.{find_at}
use Rattle.std.proofs.lemmas.Option.{slice_get-get_or}
use Rattle.play_queue.specs.declared.entry.Entry.{Entry}
use Rattle.play_queue.specs.Queue.{ids_of}

from-ids : (n id : ℕ) (entries : List Entry)
    → position_from (λ (entry : Entry). entry.id == id) n entries ≡ position_from (λ (other : ℕ). other == id) n (ids_of entries)
from-ids n id [] = refl
from-ids n id (entry ∷ entries) = ap (λ r. cond (entry.id == id) (Some n) r) (from-ids (n + 1) id entries)

pub position-ids : (entries : List Entry) (id : ℕ)
    → position (λ (entry : Entry). entry.id == id) entries ≡ position (λ (other : ℕ). other == id) (ids_of entries)
position-ids entries id =
    position_from-zero (λ (entry : Entry). entry.id == id) entries ∙ from-ids 0 id entries
    ∙ sym (position_from-zero (λ (other : ℕ). other == id) (ids_of entries))

from-none : (p : Entry → Bool) (n : ℕ) (entries : List Entry) → list_any p entries ≡ false → position_from p n entries ≡ None
from-none p n [] none = refl
from-none p n (entry ∷ entries) none = of (λ rest. from-none p (n + 1) entries rest) (p entry) refl
  where
    of : (list_any p entries ≡ false → position_from p (n + 1) entries ≡ None) → (b : Bool) → p entry ≡ b → cond b (Some n) (position_from p (n + 1) entries) ≡ None
    of rest true is = absurd (let both : true ≡ false = sym (ap (λ b. b || list_any p entries) is) ∙ none in cc)
    of rest false is = rest (sym (ap (λ b. b || list_any p entries) is) ∙ none)

pub position-none : (p : Entry → Bool) (entries : List Entry) → list_any p entries ≡ false → position p entries ≡ None
position-none p entries none = position_from-zero p entries ∙ from-none p 0 entries none

pub find-position : (p : Entry → Bool) (entries : List Entry) (k : ℕ) (d : Entry) → position p entries ≡ Some k
    → find p entries ≡ Some (get_or entries k d)
find-position p entries k d found =
    find_at p entries ∙ of (nat_lt (position_or_len p entries) (length entries)) refl found
  where
    of : (b : Bool) → nat_lt (position_or_len p entries) (length entries) ≡ b → cond b (Some (position_or_len p entries)) None ≡ Some k
        → slice_get entries (position_or_len p entries) ≡ Some (get_or entries k d)
    of true is same =
        let at : position_or_len p entries ≡ k = cc in
        let within : position_or_len p entries < length entries = ltb-true (position_or_len p entries) (length entries) is in
        slice_get-get_or entries (position_or_len p entries) d within ∙ ap (λ n. Some (get_or entries n d)) at
    of false is same = absurd (cc)

find-from : (p : Entry → Bool) (n : ℕ) (entries : List Entry) → position_from p n entries ≡ None → find p entries ≡ None
find-from p n [] none = refl
find-from p n (entry ∷ entries) none = of (λ rest. find-from p (n + 1) entries rest) (p entry) none
  where
    of : (position_from p (n + 1) entries ≡ None → find p entries ≡ None) → (b : Bool) → cond b (Some n) (position_from p (n + 1) entries) ≡ None → cond b (Some entry) (find p entries) ≡ None
    of rest true is = absurd (cc)
    of rest false is = rest is

pub find-none : (p : Entry → Bool) (entries : List Entry) → position p entries ≡ None → find p entries ≡ None
find-none p entries none = find-from p 0 entries (sym (position_from-zero p entries) ∙ none)

-- entries from the front on that pass a test
pub prefix_len-first : (p : Entry → Bool) (entries : List Entry) (i : ℕ) (d : Entry) → i < length entries
    → ((k : ℕ) (e : Entry) → k < i → p (get_or entries k e) ≡ true) → p (get_or entries i d) ≡ false → i ≡ prefix_len p entries
prefix_len-first p [] i d within before here = absurd (omega arith)
prefix_len-first p (entry ∷ entries) zero d within before here = rw here refl
prefix_len-first p (entry ∷ entries) (suc i) d within before here =
    let rest : i ≡ prefix_len p entries =
    prefix_len-first p entries i d (omega arith) (λ k e below. before (suc k) e (omega arith)) here in
    rw (before 0 entry (omega arith)) (omega (arith, rest))

pub prefix_len-all : (p : Entry → Bool) (entries : List Entry)
    → ((k : ℕ) (e : Entry) → k < length entries → p (get_or entries k e) ≡ true) → length entries ≡ prefix_len p entries
prefix_len-all p [] all = refl
prefix_len-all p (entry ∷ entries) all =
    let rest : length entries ≡ prefix_len p entries = prefix_len-all p entries (λ k e below. all (suc k) e (omega arith)) in
    rw (all 0 entry (omega arith)) (omega (arith, rest))
