-- Marks that move through parts which are repeated, one part after the other.
use Rattle.std.proofs.Common.{◌≡◌, ℕ, zero, suc, ◌+◌, ◌-◌, ◌*◌, ◌<◌, ◌≤◌, Bool, true, false, ◌||◌, List, ◌++◌, length, drop, refl}
use Rattle.std.proofs.Common.{sym, ap, ◌∙◌, subst, append_assoc, length-append, arith}
use Rattle.std.proofs.lemmas.List.{drop-drop}
use Rattle.std.proofs.Math.Nat.{suc-mul, add-mul}
use Rattle.regular_expr.specs.declared.place.Here.{Here}
use Rattle.regular_expr.specs.Marks.{ends, moved, through, through_some, all_moved}
use Rattle.regular_expr.specs.Shape.{Shape, leaves}
use Rattle.regular_expr.specs.Shape.Shape.{Nothing, One, At, Then, Either, Again, Times}

-- a loop through so many: where it begins, after each, and where it ends
whole_left : (count : ℕ) → count - 0 ≡ count
whole_left count = omega arith

one_less : (count at : ℕ) → at < count → count - at ≡ suc (count - (at + 1))
one_less count at lt = omega arith

none_left : (count at : ℕ) → count ≤ at → count - at ≡ 0
none_left count at le = omega arith

pub through_goes_on : (e : Bool → List Bool → Bool) (each count at : ℕ) (r s : Bool) (m n : List Bool) (all : Bool)
    → at < count → s ≡ e r m → n ≡ drop each m → through e each (count - at) r m ≡ all → through e each (count - (at + 1)) s n ≡ all
through_goes_on e each count at r s m n all lt es en h =
    let left = count - (at + 1) in
    ap (λ (x : Bool). through e each left x n) es ∙ ap (λ (x : List Bool). through e each left (e r m) x) en
    ∙ sym (ap (λ (k : ℕ). through e each k r m) (one_less count at lt)) ∙ h

or_assoc : (a b c : Bool) → ((a || b) || c) ≡ (a || (b || c))
or_assoc true b c = refl
or_assoc false b c = refl

pub some_goes_on : (e : Bool → List Bool → Bool) (each count at : ℕ) (f g r s : Bool) (m n : List Bool) (all : Bool)
    → at < count → g ≡ (f || r) → s ≡ e r m → n ≡ drop each m → (f || through_some e each (count - at) r m) ≡ all
    → (g || through_some e each (count - (at + 1)) s n) ≡ all
some_goes_on e each count at f g r s m n all lt eg es en h =
    let left = count - (at + 1) in
    ap (λ (x : Bool). x || through_some e each left s n) eg ∙ ap (λ (x : Bool). (f || r) || through_some e each left x n) es
    ∙ ap (λ (x : List Bool). (f || r) || through_some e each left (e r m) x) en
    ∙ or_assoc f r (through_some e each left (e r m) (drop each m))
    ∙ sym (ap (λ (k : ℕ). f || through_some e each k r m) (one_less count at lt)) ∙ h

pub moved_goes_on : (e : Bool → List Bool → Bool) (f : Bool → List Bool → List Bool) (each count at : ℕ) (r s : Bool)
    (m n next more all : List Bool) → at < count → s ≡ e r m → n ≡ drop each m → more ≡ next ++ f r m
    → next ++ all_moved e f each (count - at) r m ≡ all → more ++ all_moved e f each (count - (at + 1)) s n ≡ all
moved_goes_on e f each count at r s m n next more all lt es en em h =
    let left = count - (at + 1) in
    ap (λ (x : List Bool). x ++ all_moved e f each left s n) em
    ∙ ap (λ (x : Bool). (next ++ f r m) ++ all_moved e f each left x n) es
    ∙ ap (λ (x : List Bool). (next ++ f r m) ++ all_moved e f each left (e r m) x) en
    ∙ append_assoc next (f r m) (all_moved e f each left (e r m) (drop each m))
    ∙ sym (ap (λ (k : ℕ). next ++ all_moved e f each k r m) (one_less count at lt)) ∙ h

-- nothing is left of no marks
pub no_times : (each : ℕ) → 0 * each ≡ 0
no_times each = omega arith

one_more : (n each : ℕ) → suc n * each ≡ each + n * each
one_more n each =
    let one : suc n * each ≡ n * each + each = suc-mul n each in
    omega arith

pub drop_goes_on : (count at each : ℕ) (m n all : List Bool) → at < count → n ≡ drop each m → drop ((count - at) * each) m ≡ all
    → drop ((count - (at + 1)) * each) n ≡ all
drop_goes_on count at each m n all lt en h =
    let left = count - (at + 1) in
    ap (λ (x : List Bool). drop (left * each) x) en ∙ drop-drop (left * each) each m
    ∙ sym (ap (λ (k : ℕ). drop k m) (ap (λ (k : ℕ). k * each) (one_less count at lt) ∙ one_more left each)) ∙ h

pub room_goes_on : (count at each taken more : ℕ) → at < count → more ≡ taken + each → taken + (count - at) * each ≤ 512
    → more + (count - (at + 1)) * each ≤ 512
room_goes_on count at each taken more lt e h =
    let some : (count - at) * each ≡ each + (count - (at + 1)) * each =
    ap (λ (k : ℕ). k * each) (one_less count at lt) ∙ one_more (count - (at + 1)) each in
    omega arith

pub length_goes_on : (count at each taken more all : ℕ) → at < count → more ≡ taken + each → taken + (count - at) * each ≡ all
    → more + (count - (at + 1)) * each ≡ all
length_goes_on count at each taken more all lt e h =
    let some : (count - at) * each ≡ each + (count - (at + 1)) * each =
    ap (λ (k : ℕ). k * each) (one_less count at lt) ∙ one_more (count - (at + 1)) each in
    omega arith

pub both_often : (a b each : ℕ) → (a + b) * each ≡ a * each + b * each
both_often a b each = add-mul a b each

-- what has been found so far, or is here
pub or_then : (f r g : Bool) → f ≡ true → g ≡ true → g ≡ (f || r)
or_then true r g e h = h
or_then false r g e h = absurd (cc)

pub or_else : (f r g : Bool) → f ≡ false → g ≡ r → g ≡ (f || r)
or_else true r g e h = absurd (cc)
or_else false r g e h = h

-- there are as many marks of so many as of one so often
pub length_all : (e : Bool → List Bool → Bool) (f : Bool → List Bool → List Bool) (each : ℕ)
    → ((r : Bool) (m : List Bool) → length (f r m) ≡ each)
    → (n : ℕ) (r : Bool) (m : List Bool) → length (all_moved e f each n r m) ≡ n * each
length_all e f each size zero r m = sym (no_times each)
length_all e f each size (suc n) r m =
    length-append (f r m) (all_moved e f each n (e r m) (drop each m))
    ∙ ap (λ k. k + length (all_moved e f each n (e r m) (drop each m))) (size r m)
    ∙ ap (λ k. each + k) (length_all e f each size n (e r m) (drop each m)) ∙ sym (one_more n each)

-- there are as many marks behind the next byte as leaves
pub length_moved : (here : Here) (shape : Shape) (reached : Bool) (marks : List Bool) → length (moved here shape reached marks) ≡ leaves shape
unfolding moved
length_moved here Nothing reached marks = refl
length_moved here (One set) reached marks = refl
length_moved here (At place) reached marks = refl
length_moved here (Then p q) reached marks =
    length-append (moved here p reached marks) (moved here q (ends here p reached marks) (drop (leaves p) marks))
    ∙ ap (λ n. n + length (moved here q (ends here p reached marks) (drop (leaves p) marks))) (length_moved here p reached marks)
    ∙ ap (λ n. leaves p + n) (length_moved here q (ends here p reached marks) (drop (leaves p) marks))
length_moved here (Either p q) reached marks =
    length-append (moved here p reached marks) (moved here q reached (drop (leaves p) marks))
    ∙ ap (λ n. n + length (moved here q reached (drop (leaves p) marks))) (length_moved here p reached marks)
    ∙ ap (λ n. leaves p + n) (length_moved here q reached (drop (leaves p) marks))
length_moved here (Again p) reached marks = length_moved here p (reached || ends here p reached marks) marks
length_moved here (Times least more p) reached marks =
    let e = ends here p in let f = moved here p in
    let first = all_moved e f (leaves p) least reached marks in
    let middle = through e (leaves p) least reached marks in
    let second = all_moved e f (leaves p) more middle (drop (least * leaves p) marks) in
    length-append first second
    ∙ ap (λ n. n + length second) (length_all e f (leaves p) (λ r m. length_moved here p r m) least reached marks)
    ∙ ap (λ n. least * leaves p + n) (length_all e f (leaves p) (λ r m. length_moved here p r m) more middle (drop (least * leaves p) marks))
    ∙ both
  where
    both : least * leaves p + more * leaves p ≡ (least + more) * leaves p
    both = sym (add-mul least more (leaves p))

-- the marks of so many, and of more that may be missing
pub times_moved : (here : Here) (least more : ℕ) (all p q : Shape) (reached r : Bool) (marks m old one two : List Bool)
    → all ≡ Times least more p → q ≡ p → one ≡ old ++ all_moved (ends here p) (moved here p) (leaves p) least reached marks
    → r ≡ through (ends here p) (leaves p) least reached marks → m ≡ drop (least * leaves p) marks
    → two ≡ one ++ all_moved (ends here q) (moved here q) (leaves q) more r m → two ≡ old ++ moved here all reached marks
unfolding moved
times_moved here least more all p q reached r marks m old one two same part first er em second =
    let a = all_moved (ends here p) (moved here p) (leaves p) least reached marks in
    let b = all_moved (ends here p) (moved here p) (leaves p) more (through (ends here p) (leaves p) least reached marks)
    (drop (least * leaves p) marks) in
    let behind : all_moved (ends here q) (moved here q) (leaves q) more r m ≡ b =
    ap (λ (s : Shape). all_moved (ends here s) (moved here s) (leaves s) more r m) part
    ∙ ap (λ (x : Bool). all_moved (ends here p) (moved here p) (leaves p) more x m) er
    ∙ ap (λ (x : List Bool). all_moved (ends here p) (moved here p) (leaves p) more
    (through (ends here p) (leaves p) least reached marks) x) em in
    subst (λ (s : Shape). two ≡ old ++ moved here s reached marks) (sym same)
    (second ∙ ap (λ (x : List Bool). one ++ x) behind ∙ ap (λ (x : List Bool). x ++ b) first ∙ append_assoc old a b)
