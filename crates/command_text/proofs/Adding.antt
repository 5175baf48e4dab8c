-- Writers one after the other.
use Rattle.std.proofs.Common.{◌≡◌, ℕ, ◌+◌, ◌<◌, ◌≤◌, List, [], ◌∷◌, ◌++◌, length, take, drop, get_or, zero, suc, Bor, Result, Ok, Err}
use Rattle.std.proofs.Common.{IsErr, ◌∙◌, ap, sym, subst, append_assoc, arith, length-append}
use Rattle.std.proofs.lemmas.List.{append-nil, take-append-drop}
use Rattle.std.proofs.lemmas.Bool.{false≢true}
use Rattle.std.proofs.lemmas.Grind.{flat_map-append}
use Rattle.std.specs.List.{flat_map}
use Rattle.std.specs.Global.{Vec}
use Rattle.std.specs.Vec.{vec_len, vec_capacity}
use Rattle.command_text.specs.Answer.{Adds, HasFront, IsFullFor}

-- the same lines in other words
pub adds_same : {A E : Type 0} (a b : List ℕ) (r : Result A E) (o n : Vec ℕ) → Adds a r o n → a ≡ b → Adds b r o n
adds_same a b r o n h e = subst (λ (l : List ℕ). Adds l r o n) e h

-- no lines
pub adds_none : {A E : Type 0} (x : A) (o : Vec ℕ) → Adds {A = A} {E = E} [] (Ok x) o o
adds_none x o = record { all = sym (append-nil o.items); front = tt; full = tt; room = omega arith }

-- what was added before a writer that was refused
front_then : (a b o m n : List ℕ) → m ≡ o ++ a → HasFront b m n → HasFront (a ++ b) o n
front_then a b o m n e h = record {
  added = a ++ h.added;
  missing = h.missing;
  parts = ap (λ (l : List ℕ). a ++ l) h.parts ∙ sym (append_assoc a h.added h.missing);
  stands = h.stands ∙ ap (λ (l : List ℕ). l ++ h.added) e ∙ append_assoc o a h.added;
}

front_more : (a b o n : List ℕ) → HasFront a o n → HasFront (a ++ b) o n
front_more a b o n h = record {
  added = h.added;
  missing = h.missing ++ b;
  parts = ap (λ (l : List ℕ). l ++ b) h.parts ∙ append_assoc h.added h.missing b;
  stands = h.stands;
}

full_then : (a b : List ℕ) (o m : Vec ℕ) → m.items ≡ o.items ++ a → vec_capacity o ≤ vec_capacity m → IsFullFor m b → IsFullFor o (a ++ b)
full_then a b o m e room full =
    let more : length m.items ≡ length o.items + length a = ap length e ∙ length-append o.items a in
    omega (arith, more, room, full, o.ok.0, m.ok.0, length-append a b)

-- a writer that went well, and another one behind it
pub adds_then : {A B E D : Type 0} (a b : List ℕ) (x : A) (r : Result B D) (o m n : Vec ℕ) → Adds {A = A} {E = E} a (Ok x) o m
    → Adds b r m n → Adds (a ++ b) r o n
adds_then a b x (Ok y) o m n h k = record {
  all = k.all ∙ ap (λ (l : List ℕ). l ++ b) h.all ∙ append_assoc o.items a b;
  front = tt;
  full = tt;
  room = omega (arith, h.room, k.room);
}
adds_then a b x (Err e) o m n h k = record {
  all = tt;
  front = front_then a b o.items m.items n.items h.all k.front;
  full = full_then a b o m h.all h.room k.full;
  room = omega (arith, h.room, k.room);
}

-- a writer that was refused, with others behind it that were not called
pub adds_stop : {A B E D : Type 0} (a b : List ℕ) (e : E) (r : Result B D) (o n : Vec ℕ) → Adds {A = A} {E = E} a (Err e) o n → IsErr r
    → Adds (a ++ b) r o n
adds_stop a b e (Ok x) o n h i = absurd (false≢true i)
adds_stop a b e (Err d) o n h i = record {
  all = tt;
  front = front_more a b o.items n.items h.front;
  full = omega (arith, h.full, length-append a b);
  room = h.room;
}

-- the last writer of a list
pub adds_last : {A E : Type 0} (a : List ℕ) (r : Result A E) (o n : Vec ℕ) → Adds a r o n → Adds (a ++ []) r o n
adds_last a r o n h = adds_same a (a ++ []) r o n h (sym (append-nil a))

-- parts, of which some were added

abbrev pub joined : List (Bor (List ℕ)) → List ℕ
joined parts = flat_map (λ part. part.now) parts

part_fits : (parts : List (Bor (List ℕ))) (i : ℕ) (d : Bor (List ℕ)) → i < length parts
    → length (joined (take i parts)) + length (get_or parts i d).now ≤ length (joined parts)
part_fits [] i d h = absurd (omega arith)
part_fits (p ∷ parts) zero d h = omega (arith, length-append p.now (joined parts))
part_fits (p ∷ parts) (suc i) d h =
    omega (arith, length-append p.now (joined parts), length-append p.now (joined (take i parts)), part_fits parts i d (omega arith))

pub parts_stop : {B D : Type 0} (parts : List (Bor (List ℕ))) (i : ℕ) (d : Bor (List ℕ)) (r : Result B D) (o m n : Vec ℕ) → i < length parts
    → m.items ≡ o.items ++ joined (take i parts) → n.items ≡ m.items → vec_capacity m < vec_len m + length (get_or parts i d).now
    → vec_capacity o ≤ vec_capacity m → vec_capacity m ≤ vec_capacity n → IsErr r → Adds (joined parts) r o n
parts_stop parts i d (Ok x) o m n h e same full before after failed = absurd (false≢true failed)
parts_stop parts i d (Err x) o m n h e same full before after failed =
    let more : length m.items ≡ length o.items + length (joined (take i parts)) =
    ap length e ∙ length-append o.items (joined (take i parts)) in
    record {
      all = tt;
      front = record {
        added = joined (take i parts);
        missing = joined (drop i parts);
        parts =
            ap joined (sym (take-append-drop i parts)) ∙ flat_map-append (λ (part : Bor (List ℕ)). part.now) (take i parts) (drop i parts);
        stands = same ∙ e;
      };
      full = omega (arith, more, full, before, o.ok.0, m.ok.0, part_fits parts i d h);
      room = omega (arith, before, after);
    }
