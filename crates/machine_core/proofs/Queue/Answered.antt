-- An edit behind lines that were written first: where it is made they are answered, and where it isn't they are cut off.
use Rattle.std.proofs.Common.{◌≡◌, ℕ, ◌+◌, ◌≤◌, Bool, true, false, List, [], ◌++◌, length, take, Option, Some, None, Result, Ok, Err}
use Rattle.std.proofs.Common.{refl, sym, ap, ◌∙◌, subst, arith}
use Rattle.std.proofs.lemmas.Bool.{false≢true}
use Rattle.std.proofs.lemmas.List.{append-nil, take-append-le}
use Rattle.std.proofs.Math.Seq.{take-length}
use Rattle.std.specs.Result.{is_err}
use Rattle.std.specs.Global.{Vec}
use Rattle.std.specs.Prelude.{nat_le, if◌then◌else◌}
use Rattle.std.specs.Vec.{vec_len, vec_capacity}
use Rattle.command_text.specs.Answer.{Adds}
use Rattle.command_text.specs.declared.refusal.CommandRefusal.{CommandRefusal}
use Rattle.command_text.specs.declared.refusal.CommandRefusal.TheVariants.{RequestTooLarge}
use Rattle.no_memory.specs.declared.NoMemory.{NoMemory as WantOfMemory}
use Rattle.profile.specs.declared.profile.Profile.{Profile}
use Rattle.state_codec.specs.Applied.{changes_nothing, refusal_of}
use Rattle.state_codec.specs.Spelling.{ops_bytes}
use Rattle.state_codec.specs.declared.op.Op.{Op}
use Rattle.machine_core.specs.Followed.{followed}
use Rattle.machine_core.specs.Front.{front_of}
use Rattle.machine_core.specs.Meaning.{Meant, edited, edits, made, stands, unless_refused}
use Rattle.machine_core.specs.Size.{max_request_bytes, within}
use Rattle.machine_core.specs.State.{MachineState}
use Rattle.machine_core.specs.Told.{told}
use Rattle.machine_core.specs.Work.{IsRefusalOf, Keeps, Performs}
use Rattle.machine_core.specs.declared.work.Failure.{Failure}
use Rattle.machine_core.specs.declared.work.Failure.TheVariants.{Refused, NoMemory}
use Rattle.machine_core.specs.declared.work.Work.{Work}
use Rattle.machine_core.proofs.Answering.{kept_room}

-- the same with these lines
abbrev telling : List ℕ → Meant → Meant
telling lines (Ok x) = Ok (record x { text = lines })
telling lines (Err refusal) = Err refusal

abbrev IsSilent : Meant → Type 0
IsSilent (Ok x) = x.text ≡ []
IsSilent (Err refusal) = Unit {0}

made_tells : (op : Op) (lines : List ℕ) (m : MachineState) (b : Bool) →
    (if b then stands lines m else edited op lines (followed op m) m)
    ≡ record (if b then stands [] m else edited op [] (followed op m) m) { text = lines }
made_tells op lines m true = refl
made_tells op lines m false = refl

made_silent : (op : Op) (m : MachineState) (b : Bool) → (if b then stands [] m else edited op [] (followed op m) m).text ≡ []
made_silent op m true = refl
made_silent op m false = refl

edits_tell : (op : Op) (lines : List ℕ) (m : MachineState) → edits op lines m ≡ telling lines (edits op [] m)
unfolding edits
edits_tell op lines m = of (told (refusal_of op m.saved))
  where
    of : (o : Option CommandRefusal) → unless_refused o (made op lines m) ≡ telling lines (unless_refused o (made op [] m))
    of None = ap (λ x. Ok x) (made_tells op lines m (changes_nothing op m.saved))
    of (Some refusal) = refl

edits_silent : (op : Op) (m : MachineState) → IsSilent (edits op [] m)
unfolding edits
edits_silent op m = of (told (refusal_of op m.saved))
  where
    of : (o : Option CommandRefusal) → IsSilent (unless_refused o (made op [] m))
    of None = made_silent op m (changes_nothing op m.saved)
    of (Some refusal) = tt

-- the lines are nothing to the limit
same_within : (profile : Profile) (size : ℕ) (lines : List ℕ) (meant : Meant) (refusal : CommandRefusal)
    → within profile size meant ≡ Err refusal → within profile size (telling lines meant) ≡ Err refusal
same_within profile size lines (Err other) refusal is = is
same_within profile size lines (Ok x) refusal is = of (nat_le (size + length (ops_bytes profile x.ops)) max_request_bytes) is
  where
    of : (b : Bool) → (if b then Ok x else Err RequestTooLarge) ≡ Err refusal
        → (if b then Ok (record x { text = lines }) else Err RequestTooLarge) ≡ Err refusal
    of true e = cc
    of false e = e

same_refusal : (profile : Profile) (size : ℕ) (lines : List ℕ) (meant : Meant) (failure : Failure)
    → IsRefusalOf profile meant size failure → IsRefusalOf profile (telling lines meant) size failure
same_refusal profile size lines meant (Refused refusal) is = same_within profile size lines meant refusal is
same_refusal profile size lines meant NoMemory is = tt

-- what stood in front of the mark stands there still
front_stays : (mark : ℕ) (old new added : List ℕ) → mark ≡ length old → new ≡ old ++ added → take mark new ≡ old
front_stays mark old new added at e = rw (e, at) (take-append-le (length old) old added (omega arith) ∙ take-length old)

module _ (op : Op) (lines : List ℕ) (m n : MachineState) (mark : ℕ) (w x y done : Work) (written : Result (Unit {0}) WantOfMemory)
    (u : Unit {0}) (at : mark ≡ vec_len w.text) (ops : x.ops ≡ w.ops) (size : x.size ≡ w.size)
    (adds : Adds lines written w.text x.text) (keeps : Keeps mark written x y (Ok u)) where
  same_items : x.ops.items ≡ w.ops.items
  same_items = ap (λ (v : Vec Op). v.items) ops

  written_all : (r : Result (Unit {0}) WantOfMemory) → Adds lines r w.text x.text → Keeps mark r x y (Ok u)
      → y.text.items ≡ w.text.items ++ lines
  written_all (Ok v) a k = k.kept.1.0 ∙ a.all
  written_all (Err e) a k = absurd (false≢true k.kept.0)

  all : y.text.items ≡ w.text.items ++ lines
  all = written_all written adds keeps

  answered : (v : Unit {0}) → Performs (edits op [] m) m n y done (Ok v) → Performs (edits op lines m) m n w done (Ok v)
  answered v went =
      let silent : went.meaning.text ≡ [] = subst IsSilent went.means (edits_silent op m) in
      record {
        meaning = record went.meaning { text = lines };
        means = edits_tell op lines m ∙ ap (telling lines) went.means;
        stands = went.stands;
        text = went.text ∙ ap front_of (ap (λ (t : List ℕ). y.text.items ++ t) silent ∙ append-nil y.text.items ∙ all);
        ops = record {
          ops = went.ops.ops ∙ ap (λ (o : List Op). o ++ went.meaning.ops) (keeps.ops ∙ same_items);
          size = omega (arith, went.ops.size, keeps.size, size);
          fits = went.ops.fits;
        };
        room = went.room;
        keeps = λ can. went.keeps (keeps.keeps (kept_room x w ops can));
      }

  taken_back : (cut : Work) (failure : Failure) → Performs {T = Unit {0}} (edits op [] m) m n y done (Err failure)
      → cut.text.items ≡ take mark done.text.items → vec_capacity done.text ≤ vec_capacity cut.text → cut.ops.items ≡ done.ops.items
      → cut.size ≡ done.size → Performs {T = Unit {0}} (edits op lines m) m n w cut (Err failure)
  taken_back cut failure failed front room same_ops same_size = record {
    state = failed.state;
    nothing = record {
      text = front ∙ front_stays mark w.text.items done.text.items lines (omega (arith, at, w.text.ok.0)) (failed.nothing.text ∙ all);
      room = omega (arith, room, failed.nothing.room, keeps.room, adds.room);
      ops = same_ops ∙ failed.nothing.ops ∙ keeps.ops ∙ same_items;
      size = same_size ∙ failed.nothing.size ∙ keeps.size ∙ size;
    };
    refusal =
        let before : y.size ≡ w.size = keeps.size ∙ size in
        subst (λ (t : Meant). IsRefusalOf m.saved.profile t w.size failure) (sym (edits_tell op lines m))
        (same_refusal m.saved.profile w.size lines (edits op [] m) failure
        (subst (λ (s : ℕ). IsRefusalOf m.saved.profile (edits op [] m) s failure) before failed.refusal));
  }

  pub was_made : (r : Result (Unit {0}) Failure) → is_err r ≡ false → Performs (edits op [] m) m n y done r
      → Performs (edits op lines m) m n w done r
  was_made (Ok v) is h = answered v h
  was_made (Err e) is h = absurd (false≢true (sym is))

  pub was_not_made : (cut : Work) (r : Result (Unit {0}) Failure) → is_err r ≡ true → Performs (edits op [] m) m n y done r
      → cut.text.items ≡ take mark done.text.items → vec_capacity done.text ≤ vec_capacity cut.text → cut.ops.items ≡ done.ops.items
      → cut.size ≡ done.size → Performs (edits op lines m) m n w cut r
  was_not_made cut (Ok v) is h = absurd (false≢true is)
  was_not_made cut (Err e) is h = taken_back cut e h
