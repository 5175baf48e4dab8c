-- Where the songs of a block go, one after the other.
use Rattle.std.proofs.Common.{◌≡◌, ℕ, zero, suc, ◌+◌, true, false, List, [], ◌∷◌, ◌++◌, length, take, drop}
use Rattle.std.proofs.Common.{refl, sym, ap, ◌∙◌, arith}
use Rattle.std.proofs.lemmas.List.{append_assoc, length-append}
use Rattle.std.specs.Prelude.{insert, remove, slice_index_or}
use Rattle.stored_lists.specs.Songs.{Uris, moved}
use Rattle.machine_core.proofs.Lists.Moves.{moved_all}

-- ---- one song

removed_at : (a r : Uris) (x : List ℕ) → remove (a ++ (x ∷ r)) (length a) ≡ a ++ r
removed_at [] r x = refl
removed_at (y ∷ a) r x = ap (λ l. y ∷ l) (removed_at a r x)

index_at : (a r : Uris) (x : List ℕ) → slice_index_or (a ++ (x ∷ r)) (length a) [] ≡ x
index_at [] r x = refl
index_at (y ∷ a) r x = index_at a r x

inserted_at : (p q : Uris) (x : List ℕ) → insert (p ++ q) (length p) x ≡ p ++ (x ∷ q)
inserted_at [] q x = refl
inserted_at (y ∷ p) q x = ap (λ l. y ∷ l) (inserted_at p q x)

-- a song behind others
moved_at : (a r : Uris) (x : List ℕ) (to : ℕ) → moved (a ++ (x ∷ r)) (length a) to ≡ insert (a ++ r) to x
moved_at a r x to = λ i. insert (removed_at a r x i) to (index_at a r x i)

-- towards the front
one_up : (p a r : Uris) (x : List ℕ) → moved (p ++ (a ++ (x ∷ r))) (length p + length a) (length p) ≡ p ++ (x ∷ (a ++ r))
one_up p a r x =
    (λ i. moved (sym (append_assoc p a (x ∷ r)) i) (sym (length-append p a) i) (length p))
    ∙ moved_at (p ++ a) r x (length p)
    ∙ ap (λ l. insert l (length p) x) (append_assoc p a r)
    ∙ inserted_at p (a ++ r) x

-- towards the end
one_down : (p b r : Uris) (x : List ℕ) → moved (p ++ (x ∷ (b ++ r))) (length p) (length p + length b) ≡ p ++ (b ++ (x ∷ r))
one_down p b r x =
    moved_at p (b ++ r) x (length p + length b)
    ∙ (λ i. insert (sym (append_assoc p b r) i) (sym (length-append p b) i) x)
    ∙ inserted_at (p ++ b) r x
    ∙ append_assoc p b (x ∷ r)

-- ---- a block

pub block_up : (p a b r : Uris)
    → moved_all false (p ++ (a ++ (b ++ r))) (length p + length a) (length p) (length b) ≡ p ++ (b ++ (a ++ r))
block_up p a [] r = refl
block_up p a (x ∷ b) r =
    let q : Uris = p ++ (x ∷ []) in
    let long : length q ≡ length p + 1 = length-append p (x ∷ []) in
    let from : length p + length a + 1 ≡ length q + length a = omega (arith, long) in
    ap (λ songs. moved_all false songs (length p + length a + 1) (length p + 1) (length b)) (one_up p a (b ++ r) x)
    ∙ (λ i. moved_all false (sym (append_assoc p (x ∷ []) (a ++ (b ++ r))) i) (from i) (sym long i) (length b))
    ∙ block_up q a b r
    ∙ append_assoc p (x ∷ []) (b ++ (a ++ r))

-- the last song of a block
record Ends (a : Uris) (n : ℕ) : Type 0 where
  pub front : Uris
  pub last : List ℕ
  pub whole : a ≡ front ++ (last ∷ [])
  pub long : length front ≡ n

ends : (a : Uris) (n : ℕ) → length a ≡ suc n → Ends a n
ends [] n long = let no : ⊥ = omega (arith, long) in absurd no
ends (x ∷ []) n long = record { front = []; last = x; whole = refl; long = omega (arith, long) }
ends (x ∷ y ∷ a) zero long = let no : ⊥ = omega (arith, long) in absurd no
ends (x ∷ y ∷ a) (suc n) long =
    let rest : Ends (y ∷ a) n = ends (y ∷ a) n (omega (arith, long)) in
    record { front = x ∷ rest.front; last = rest.last; whole = ap (λ l. x ∷ l) rest.whole; long = omega (arith, rest.long) }

block_of : (n : ℕ) (p a b r : Uris) → length a ≡ n
    → moved_all true (p ++ (a ++ (b ++ r))) (length p) (length p + length b) n ≡ p ++ (b ++ (a ++ r))
block_of zero p [] b r long = refl
block_of zero p (x ∷ a) b r long = let no : ⊥ = omega (arith, long) in absurd no
block_of (suc n) p a b r long =
    let e : Ends a n = ends a n long in
    let front : Uris = e.front in
    let x : List ℕ = e.last in
    let songs : p ++ (a ++ (b ++ r)) ≡ (p ++ front) ++ (x ∷ (b ++ r)) =
    ap (λ l. p ++ (l ++ (b ++ r))) e.whole ∙ ap (λ l. p ++ l) (append_assoc front (x ∷ []) (b ++ r))
    ∙ sym (append_assoc p front (x ∷ (b ++ r))) in
    let from : length p + n ≡ length (p ++ front) = omega (arith, length-append p front, e.long) in
    let to : length p + length b + n ≡ length (p ++ front) + length b = omega (arith, length-append p front, e.long) in
    ap (λ l. moved_all true l (length p) (length p + length b) n)
    ((λ i. moved (songs i) (from i) (to i)) ∙ one_down (p ++ front) b r x ∙ append_assoc p front (b ++ (x ∷ r)))
    ∙ block_of n p front b (x ∷ r) e.long
    ∙ ap (λ l. p ++ (b ++ l)) (sym (append_assoc front (x ∷ []) r) ∙ ap (λ l. l ++ r) (sym e.whole))

pub block_down : (p a b r : Uris)
    → moved_all true (p ++ (a ++ (b ++ r))) (length p) (length p + length b) (length a) ≡ p ++ (b ++ (a ++ r))
block_down p a b r = block_of (length a) p a b r refl
