-- Ops that were made together, and told.
use Rattle.std.proofs.Common.{◌≡◌, ℕ, ◌+◌, ◌≤◌, List, [], ◌++◌, length, Result, Ok, Err, refl, sym, ap, subst, ◌∙◌}
use Rattle.std.proofs.lemmas.List.{append-nil}
use Rattle.std.specs.Global.{Vec}
use Rattle.std.specs.Result.{IsErrAnd}
use Rattle.std.specs.Vec.{vec_len, vec_capacity}
use Rattle.profile.specs.declared.profile.Profile.{Profile}
use Rattle.state_codec.specs.Applied.{after_all}
use Rattle.state_codec.specs.Spelling.{ops_bytes}
use Rattle.state_codec.specs.declared.op.Op.{Op}
use Rattle.state_codec.specs.declared.refusal.OpRefusal.{OpRefusal}
use Rattle.machine_core.specs.Front.{front_of}
use Rattle.machine_core.specs.Meaning.{Meant, does}
use Rattle.machine_core.specs.Size.{within}
use Rattle.machine_core.specs.State.{MachineState}
use Rattle.machine_core.specs.Told.{op_told}
use Rattle.machine_core.specs.Work.{AddsNothing, CanKeep, HasRoom, IsRefusalOf, Performs, Went, command_room}
use Rattle.machine_core.specs.declared.work.Failure.{Failure}
use Rattle.machine_core.specs.declared.work.Failure.TheVariants.{Refused}
use Rattle.machine_core.specs.declared.work.Work.{Work}
use Rattle.machine_core.proofs.Answering.{nothing_added}

pub ops_went : (meant : Meant) (ops : List Op) (m after : MachineState) (profile : Profile) (size : ℕ) (work admitted done : Work)
    → meant ≡ Ok (does [] ops m.player m) → after ≡ record m { saved = after_all ops m.saved } → profile ≡ m.saved.profile
    → HasRoom command_room work → AddsNothing work admitted → admitted.text ≡ work.text
    → size ≡ work.size + length (ops_bytes profile ops) → done.ops.items ≡ admitted.ops.items ++ ops → done.size ≡ size
    → done.text ≡ admitted.text → CanKeep done → Went m.saved.profile meant after work done
ops_went meant ops m after profile size work admitted done means stands under room nothing same bytes added sized written can = record {
  meaning = does [] ops m.player m;
  means = means;
  stands = stands;
  text = ap front_of (ap (λ (t : Vec ℕ). t.items) (written ∙ same) ∙ sym (append-nil work.text.items));
  ops = record {
    ops = added ∙ ap (λ l. l ++ ops) nothing.ops;
    size = sized ∙ bytes ∙ ap (λ (p : Profile). work.size + length (ops_bytes p ops)) under;
    fits = done.fits;
  };
  room = subst (λ (t : Vec ℕ). vec_len t + command_room ≤ vec_capacity t) (sym (written ∙ same)) room;
  keeps = λ could. can;
}

-- what refuses an op refuses the command
pub op_refused : (meant : Meant) (m : MachineState) (work : Work) (e : OpRefusal) (r : Result (Unit {0}) Failure) → meant ≡ Err (op_told e)
    → IsErrAnd r (λ failure. failure ≡ Refused (op_told e)) → Performs meant m m work work r
op_refused meant m work e (Ok x) refused so = absurd so
op_refused meant m work e (Err failure) refused so = record {
  state = refl;
  nothing = nothing_added work;
  refusal = subst (IsRefusalOf m.saved.profile meant work.size) (sym so) (ap (within m.saved.profile work.size) refused);
}
