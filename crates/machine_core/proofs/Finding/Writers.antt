-- Writers that look at songs between their lines.
use Rattle.std.proofs.Common.{◌≡◌, ℕ, suc, ◌+◌, ◌<◌, ◌≤◌, add-one, List, [], ◌∷◌, ◌++◌, length, take, drop, get_or, Result, Ok, Err, IsErr}
use Rattle.std.proofs.Common.{◌∙◌, ap, sym, refl, subst, append_assoc, arith}
use Rattle.std.proofs.lemmas.Bool.{false≢true}
use Rattle.std.proofs.lemmas.List.{append-nil, length-take, take-take}
use Rattle.std.proofs.Math.Seq.{drop-cons, take-length, take-append_seam}
use Rattle.std.specs.Global.{Vec}
use Rattle.std.specs.Vec.{vec_len}
use Rattle.command_text.specs.Answer.{Adds}
use Rattle.no_memory.specs.declared.NoMemory.{NoMemory as WantOfMemory}
use Rattle.song_db.specs.Row.{Row}
use Rattle.state_codec.specs.declared.op.Op.{Op}
use Rattle.machine_core.specs.Finding.{Writes}
use Rattle.machine_core.specs.Front.{front_of, longest_answer}
use Rattle.machine_core.specs.Meaning.{Meant, says, stands}
use Rattle.machine_core.specs.State.{MachineState}
use Rattle.machine_core.specs.Work.{Keeps, Performs}
use Rattle.machine_core.specs.declared.work.Failure.{Failure}
use Rattle.machine_core.specs.declared.work.Failure.TheVariants.{Refused, NoMemory}
use Rattle.machine_core.specs.declared.work.Work.{Work}
use Rattle.machine_core.proofs.Answering.{kept_room}
use Rattle.machine_core.proofs.Fronts.{more_told, nothing_told}

-- the rows that are left behind the one at an index
pub next_row : (rows : List Row) (i : ℕ) (row : Row) → i < length rows → row ≡ get_or rows i row → drop i rows ≡ row ∷ drop (i + 1) rows
next_row rows i row h is = rw (add-one, drop-cons rows i row h) (ap (λ (r : Row). r ∷ drop (suc i) rows) (sym is))

-- one that looks at none
pub of_adds : {A E : Type 0} (lines : List ℕ) (r : Result A E) (o n : Vec ℕ) → Adds lines r o n → Writes lines r o n
of_adds lines (Ok x) o n h = record {
  all = ap front_of h.all;
  front = ap (take (length o.items)) h.all ∙ take-append_seam o.items lines;
  room = h.room;
}
of_adds lines (Err e) o n h = record {
  all = tt;
  front = ap (take (length o.items)) h.front.stands ∙ take-append_seam o.items h.front.added;
  room = h.room;
}

-- the same lines in other words
pub writes_same : {A E : Type 0} (a b : List ℕ) (r : Result A E) (o n : Vec ℕ) → Writes a r o n → a ≡ b → Writes b r o n
writes_same a b r o n h e = subst (λ (l : List ℕ). Writes l r o n) e h

pub writes_none : {A E : Type 0} (x : A) (o : Vec ℕ) → Writes {A = A} {E = E} [] (Ok x) o o
writes_none x o = record { all = ap front_of (sym (append-nil o.items)); front = take-length o.items; room = omega arith }

-- a look that found no memory
pub writes_no_more : {A E : Type 0} (lines : List ℕ) (r : Result A E) (o : Vec ℕ) → IsErr r → Writes lines r o o
writes_no_more lines (Ok x) o failed = absurd (false≢true failed)
writes_no_more lines (Err e) o failed = record { all = tt; front = take-length o.items; room = omega arith }

-- behind an answer that is too long no line is missed
pub writes_long : {A E : Type 0} (lines : List ℕ) (x : A) (o : Vec ℕ) → longest_answer < length o.items
    → Writes {A = A} {E = E} lines (Ok x) o o
writes_long lines x o long = record { all = nothing_told o.items lines long; front = take-length o.items; room = omega arith }

-- what stood in front of what stood in front
front_still : (old mid new : List ℕ) → take (length old) mid ≡ old → take (length mid) new ≡ mid → take (length old) new ≡ old
front_still old mid new first second =
    let longer : length old ≤ length mid = omega (arith, ap length first, length-take (length old) mid) in
    sym (take-take (length old) (length mid) new longer) ∙ ap (take (length old)) second ∙ first

pub writes_then : {A B E D : Type 0} (a b : List ℕ) (x : A) (r : Result B D) (o m n : Vec ℕ) → Writes {A = A} {E = E} a (Ok x) o m
    → Writes b r m n → Writes (a ++ b) r o n
writes_then a b x (Ok y) o m n h k = record {
  all = k.all ∙ more_told m.items (o.items ++ a) b h.all ∙ ap front_of (append_assoc o.items a b);
  front = front_still o.items m.items n.items h.front k.front;
  room = omega (arith, h.room, k.room);
}
writes_then a b x (Err e) o m n h k = record {
  all = tt;
  front = front_still o.items m.items n.items h.front k.front;
  room = omega (arith, h.room, k.room);
}

pub writes_stop : {A B E D : Type 0} (a b : List ℕ) (e : E) (r : Result B D) (o n : Vec ℕ) → Writes {A = A} {E = E} a (Err e) o n → IsErr r
    → Writes (a ++ b) r o n
writes_stop a b e (Ok x) o n h failed = absurd (false≢true failed)
writes_stop a b e (Err d) o n h failed = record { all = tt; front = h.front; room = h.room }

-- What a loop has left to do: whatever writes the lines that are left makes all of them.
abbrev pub Remains : List ℕ → List ℕ → Vec ℕ → Vec ℕ → Type 0
Remains all left before now =
    (result : Result (Unit {0}) WantOfMemory) (after : Vec ℕ) → Writes left result now after → Writes all result before after

pub same_remains : (all left other : List ℕ) (before now : Vec ℕ) → left ≡ other → Remains all left before now
    → Remains all other before now
same_remains all left other before now same h result after k = h result after (rw same k)

pub less_remains : (all more left : List ℕ) (before now after : Vec ℕ) (u : Unit {0}) → Remains all (more ++ left) before now
    → Writes {A = Unit {0}} {E = WantOfMemory} more (Ok u) now after → Remains all left before after
less_remains all more left before now after u h a result last k = h result last (writes_then more left u result now after last a k)

pub none_remains : (all left : List ℕ) (before now : Vec ℕ) (u : Unit {0}) → left ≡ [] → Remains all left before now
    → Writes {A = Unit {0}} {E = WantOfMemory} all (Ok u) before now
none_remains all left before now u none h = h (Ok u) now (rw none (writes_none u now))

-- a writer that was refused ends the loop, and so does a look
pub stopped_writing : {B : Type 0} (all more left : List ℕ) (before now after : Vec ℕ) (e : WantOfMemory)
    (result : Result (Unit {0}) WantOfMemory) → Remains all (more ++ left) before now
    → Writes {A = B} {E = WantOfMemory} more (Err e) now after → IsErr result → Writes all result before after
stopped_writing all more left before now after e result h a failed =
    h result after (writes_stop more left e result now after a failed)

-- it was refused within a line of two parts
pub stopped_within : {B : Type 0} (all front back left : List ℕ) (before now after : Vec ℕ) (e : WantOfMemory)
    (result : Result (Unit {0}) WantOfMemory) → Remains all ((front ++ back) ++ left) before now
    → Writes {A = B} {E = WantOfMemory} front (Err e) now after → IsErr result → Writes all result before after
stopped_within {B} all front back left before now after e result h a failed =
    h result after (writes_stop (front ++ back) left e result now after
    (writes_stop {A = B} {B = B} {E = WantOfMemory} {D = WantOfMemory} front back e (Err e) now after a refl) failed)

pub stopped_looking : (all left : List ℕ) (before now : Vec ℕ) (result : Result (Unit {0}) WantOfMemory) → Remains all left before now
    → IsErr result → Writes all result before now
stopped_looking all left before now result h failed = h result now (writes_no_more left result now failed)

-- it left off behind an answer that is too long
pub stopped_long : (all left : List ℕ) (before now : Vec ℕ) (u : Unit {0}) → Remains all left before now → longest_answer < length now.items
    → Writes {A = Unit {0}} {E = WantOfMemory} all (Ok u) before now
stopped_long all left before now u h long = h (Ok u) now (writes_long left u now long)

-- a command that means lines which such a writer wrote, and which were kept or cut off
pub finds : (meant : Meant) (lines : List ℕ) (m : MachineState) (mark : ℕ) (w x y : Work) (written : Result (Unit {0}) WantOfMemory)
    (result : Result (Unit {0}) Failure) → meant ≡ says lines m → mark ≡ vec_len w.text → x.ops ≡ w.ops → x.size ≡ w.size
    → Writes lines written w.text x.text → Keeps mark written x y result → Performs meant m m w y result
finds meant lines m mark w x y (Err e) (Ok u) means at ops size a k = absurd (false≢true k.kept.0)
finds meant lines m mark w x y (Ok v) (Ok u) means at ops size a k =
    subst (λ (t : Meant). Performs t m m w y (Ok u)) (sym means) (record {
      meaning = stands lines m;
      means = refl;
      stands = refl;
      text = ap front_of k.kept.1.0 ∙ a.all;
      ops = record {
        ops = k.ops ∙ ap (λ (v : Vec Op). v.items) ops ∙ sym (append-nil w.ops.items);
        size = omega (arith, k.size, size);
        fits = y.fits;
      };
      room = k.kept.1.1;
      keeps = λ can. k.keeps (kept_room x w ops can);
    })
finds meant lines m mark w x y written (Err (Refused refusal)) means at ops size a k = absurd (cc k.memory)
finds meant lines m mark w x y written (Err NoMemory) means at ops size a k = record {
  state = refl;
  nothing = record {
    text = k.cut ∙ ap (λ n. take n x.text.items) (let h : mark ≡ length w.text.items = omega (arith, at, w.text.ok.0) in h) ∙ a.front;
    room = omega (arith, a.room, k.room);
    ops = k.ops ∙ ap (λ (v : Vec Op). v.items) ops;
    size = k.size ∙ size;
  };
  refusal = tt;
}
