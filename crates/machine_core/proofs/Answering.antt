-- What a command that reads does: it writes lines behind the answer and keeps them, or is refused, or finds no memory.
use Rattle.std.proofs.Common.{◌≡◌, ℕ, ◌+◌, ◌<◌, ◌≤◌, Bool, true, false, List, [], ◌++◌, length, take, Result, Ok, Err, refl, sym, ap, subst, ◌∙◌, arith}
use Rattle.std.proofs.lemmas.Bool.{false≢true}
use Rattle.std.proofs.lemmas.List.{append-nil, take-append-le, take_all}
use Rattle.std.proofs.Math.Seq.{take-length}
use Rattle.std.specs.Global.{Vec}
use Rattle.std.specs.Prelude.{MatchBool}
use Rattle.std.specs.Vec.{vec_capacity, vec_len}
use Rattle.command_text.specs.Answer.{Adds}
use Rattle.command_text.specs.declared.refusal.CommandRefusal.{CommandRefusal}
use Rattle.no_memory.specs.declared.NoMemory.{NoMemory as WantOfMemory}
use Rattle.state_codec.specs.declared.op.Op.{Op}
use Rattle.machine_core.specs.Front.{front_of, longest_answer}
use Rattle.machine_core.specs.Meaning.{Meant, stands, says}
use Rattle.machine_core.specs.State.{MachineState}
use Rattle.machine_core.specs.Work.{AddsNothing, CanKeep, HasRoom, Keeps, Performs, command_room, keep_count}
use Rattle.machine_core.specs.declared.work.Failure.{Failure}
use Rattle.machine_core.specs.declared.work.Failure.TheVariants.{Refused, NoMemory}
use Rattle.machine_core.specs.declared.work.Work.{Work}
use Rattle.machine_core.proofs.Fronts.{nothing_told}

-- a machine and a request's work that nothing has changed
pub nothing_added : (w : Work) → AddsNothing w w
nothing_added w = record { text = refl; room = omega arith; ops = refl; size = refl }

pub is_refused : (refusal : CommandRefusal) (meant : Meant) (m : MachineState) (w : Work) → meant ≡ Err refusal
    → Performs {T = Unit {0}} meant m m w w (Err (Refused refusal))
is_refused refusal meant m w e = subst (λ (x : Meant). Performs {T = Unit {0}} x m m w w (Err (Refused refusal))) (sym e)
    (record { state = refl; nothing = nothing_added w; refusal = refl })

-- a command that answers nothing and changes nothing
pub says_nothing : (m : MachineState) (w : Work) (x : Unit {0}) → HasRoom command_room w → Performs (says [] m) m m w w (Ok x)
says_nothing m w x room = record {
  meaning = stands [] m;
  means = refl;
  stands = refl;
  text = ap front_of (sym (append-nil w.text.items));
  ops = record { ops = sym (append-nil w.ops.items); size = omega arith; fits = w.fits };
  room = room;
  keeps = λ can. can;
}

-- what stood in front of the mark stands there still
front_stays : (mark : ℕ) (old new added : List ℕ) → mark ≡ length old → new ≡ old ++ added → take mark new ≡ old
front_stays mark old new added at e = rw (e, at) (take-append-le (length old) old added (omega arith) ∙ take-length old)

-- the same ops leave the same room
pub kept_room : (x w : Work) → x.ops ≡ w.ops → CanKeep w → CanKeep x
kept_room x w same can = subst (λ (ops : Vec Op). vec_len ops + keep_count ≤ vec_capacity ops) (sym same) can

-- lines that were written behind a mark, and kept or cut off
module _ (lines : List ℕ) (m : MachineState) (mark : ℕ) (w x y : Work) (at : mark ≡ vec_len w.text) (ops : x.ops ≡ w.ops)
    (size : x.size ≡ w.size) where
  same_items : x.ops.items ≡ w.ops.items
  same_items = ap (λ (ops : Vec Op). ops.items) ops

  kept : (written : Result (Unit {0}) WantOfMemory) (u : Unit {0}) → Adds lines written w.text x.text → Keeps mark written x y (Ok u)
      → Performs (says lines m) m m w y (Ok u)
  kept (Err e) u a k = absurd (false≢true k.kept.0)
  kept (Ok v) u a k = record {
    meaning = stands lines m;
    means = refl;
    stands = refl;
    text = ap front_of (k.kept.1.0 ∙ a.all);
    ops = record { ops = k.ops ∙ same_items ∙ sym (append-nil w.ops.items); size = omega (arith, k.size, size); fits = y.fits };
    room = k.kept.1.1;
    keeps = λ can. k.keeps (kept_room x w ops can);
  }

  front : (written : Result (Unit {0}) WantOfMemory) → Adds lines written w.text x.text → take mark x.text.items ≡ w.text.items
  front (Ok v) a = front_stays mark w.text.items x.text.items lines (omega (arith, at, w.text.ok.0)) a.all
  front (Err e) a = front_stays mark w.text.items x.text.items a.front.added (omega (arith, at, w.text.ok.0)) a.front.stands

  cut : (written : Result (Unit {0}) WantOfMemory) → Adds lines written w.text x.text → Keeps mark written x y (Err NoMemory)
      → Performs {T = Unit {0}} (says lines m) m m w y (Err NoMemory)
  cut written a k = record {
    state = refl;
    nothing = record {
      text = k.cut ∙ front written a;
      room = omega (arith, a.room, k.room);
      ops = k.ops ∙ same_items;
      size = k.size
          ∙ size;
    };
    refusal = tt;
  }

  not_refused : (written : Result (Unit {0}) WantOfMemory) (refusal : CommandRefusal) → Keeps mark written x y (Err (Refused refusal))
      → Performs {T = Unit {0}} (says lines m) m m w y (Err (Refused refusal))
  not_refused written refusal k = cc k.memory

  pub says_kept : (written : Result (Unit {0}) WantOfMemory) (result : Result (Unit {0}) Failure) → Adds lines written w.text x.text
      → Keeps mark written x y result → Performs (says lines m) m m w y result
  says_kept written (Ok u) a k = kept written u a k
  says_kept written (Err NoMemory) a k = cut written a k
  says_kept written (Err (Refused refusal)) a k = not_refused written refusal k

-- the same of a command that means these lines, on a machine of which nothing was changed
pub reads : (meant : Meant) (lines : List ℕ) (m n : MachineState) (mark : ℕ) (w x y : Work) (written : Result (Unit {0}) WantOfMemory)
    (result : Result (Unit {0}) Failure) → meant ≡ says lines m → n ≡ m → mark ≡ vec_len w.text → x.ops ≡ w.ops
    → x.size ≡ w.size
    → Adds lines written w.text x.text → Keeps mark written x y result → Performs meant m n w y result
reads meant lines m n mark w x y written result means same at ops size a k =
    subst (λ (k : Meant). Performs k m n w y result) (sym means)
    (subst (λ (k : MachineState). Performs (says lines m) m k w y result) (sym same)
    (says_kept lines m mark w x y at ops size written result a k))

-- behind an answer that is too long a command's lines aren't written
says_none : (lines : List ℕ) (m : MachineState) (mark : ℕ) (w y : Work) (result : Result (Unit {0}) Failure) → mark ≡ vec_len w.text
    → longest_answer < vec_len w.text → Keeps mark (Ok tt) w y result → Performs (says lines m) m m w y result
says_none lines m mark w y (Ok u) at long k = record {
  meaning = stands lines m;
  means = refl;
  stands = refl;
  text = ap front_of k.kept.1.0 ∙ nothing_told w.text.items lines (omega (arith, long, w.text.ok.0));
  ops = record { ops = k.ops ∙ sym (append-nil w.ops.items); size = omega (arith, k.size); fits = y.fits };
  room = k.kept.1.1;
  keeps = k.keeps;
}
says_none lines m mark w y (Err NoMemory) at long k = record {
  state = refl;
  nothing = record {
    text = k.cut ∙ take_all mark w.text.items (omega (arith, at, w.text.ok.0));
    room = k.room;
    ops = k.ops;
    size = k.size;
  };
  refusal = tt;
}
says_none lines m mark w y (Err (Refused refusal)) at long k = absurd (cc k.memory)

pub passes : (meant : Meant) (lines : List ℕ) (m n : MachineState) (w y : Work) (long : Bool) (result : Result (Unit {0}) Failure)
    → meant ≡ says lines m → n ≡ m → long ≡ true → MatchBool long (longest_answer < vec_len w.text) (vec_len w.text ≤ longest_answer)
    → Keeps (vec_len w.text) (Ok tt) w y result → Performs meant m n w y result
passes meant lines m n w y true result means same is long k =
    subst (λ (k : Meant). Performs k m n w y result) (sym means)
    (subst (λ (k : MachineState). Performs (says lines m) m k w y result) (sym same)
    (says_none lines m (vec_len w.text) w y result refl long k))
passes meant lines m n w y false result means same is long k = absurd (false≢true is)

pub also : (meant other : Meant) (m n : MachineState) (w y : Work) (result : Result (Unit {0}) Failure) → meant ≡ other
    → Performs other m n w y result → Performs meant m n w y result
also meant other m n w y result e h = subst (λ (k : Meant). Performs k m n w y result) (sym e) h
