-- What is told by comparing values of before is what changed.
use Rattle.std.proofs.Common.{◌≡◌, ℕ, ◌-◌, ◌≤◌, Bool, true, false, not, ◌&&◌, ◌==◌, List, ◌++◌, length, take, drop, length-append}
use Rattle.std.proofs.Common.{refl, sym, ap, ◌∙◌, arith}
use Rattle.std.proofs.Math.Seq.{drop-append_seam}
use Rattle.std.proofs.lemmas.List.{take_all}
use Rattle.std.specs.Vec.{vec_len}
use Rattle.std.proofs.lemmas.Bool.{eqb-true}
use Rattle.std.specs.List.{list_any}
use Rattle.std.specs.Option.{option_eq}
use Rattle.std.specs.Str.{bytes_eq}
use Rattle.state_codec.specs.OpsSettings.{same_flag}
use Rattle.state_codec.specs.SavedState.{IsSavedState}
use Rattle.state_codec.specs.declared.op.Op.{Op}
use Rattle.machine_core.specs.Before.{before_of, changed_since, is_of_lists, is_of_stickers}
use Rattle.machine_core.specs.Changed.{same_job, same_lists, same_playing, same_options, same_stickers, changed}
use Rattle.machine_core.specs.Meaning.{Meaning}
use Rattle.machine_core.specs.State.{MachineState}
use Rattle.machine_core.specs.declared.changed.Before.{Before}
use Rattle.machine_core.specs.declared.job.Job.{Job}
use Rattle.machine_core.specs.declared.work.Work.{Work}
use Rattle.machine_core.proofs.FormLaws.{TellsChanges, IsLawful}
use Rattle.machine_core.proofs.SameParts.{text_itself}

-- a job of the same number has the same place
job_told : (a b : Job) (same : Bool) → (a.number == b.number) ≡ same → (b.number ≡ a.number → b.place ≡ a.place) →
    (same && same_flag a.runs b.runs) ≡ (same && (option_eq bytes_eq a.place b.place && same_flag a.runs b.runs))
job_told a b true is place =
    let equal : a.place ≡ b.place = sym (place (sym (eqb-true a.number b.number is))) in
    ap (λ t. t && same_flag a.runs b.runs) (sym (ap (λ p. option_eq bytes_eq a.place p) (sym equal) ∙ text_itself a.place))
job_told a b false is place = refl

-- so all are told
pub since_told : (m : MachineState) (x : Meaning) → list_any is_of_lists x.ops ≡ not (same_lists m.saved.lists x.after.saved.lists) →
    list_any is_of_stickers x.ops ≡ not (same_stickers m.saved.stickers x.after.saved.stickers) →
    (x.after.job.number ≡ m.job.number → x.after.job.place ≡ m.job.place) → changed_since (before_of m) x.ops x.after ≡ changed m x.after
unfolding changed
since_told m x lists stickers place =
    let job : (m.job.number == x.after.job.number && same_flag m.job.runs x.after.job.runs) ≡ same_job m.job x.after.job =
    job_told m.job x.after.job _ refl place in
    λ i. record {
      database = false;
      update = not (job i);
      stored_playlist = lists i;
      playlist = not (m.saved.queue.version == x.after.saved.queue.version);
      player = not (same_playing m.player x.after.player);
      mixer = not (m.saved.volume == x.after.saved.volume);
      options = not (same_options m.saved.options x.after.saved.options);
      sticker = stickers i;
      subscription = false;
      message = false;
    }

pub since_is_changed : (m : MachineState) (x : Meaning) → IsLawful m x → IsSavedState m.saved →
    changed_since (before_of m) x.ops x.after ≡ changed m x.after
since_is_changed m x lawful kept =
    let tells : TellsChanges m x = lawful.tells kept in since_told m x tells.lists tells.stickers lawful.place

-- so they are of ops that the work has gained
pub since_gained : (m n : MachineState) (x : Meaning) (work done : Work) (before : Before) (made : ℕ) (all : List Op) →
    changed_since (before_of m) x.ops x.after ≡ changed m x.after → n ≡ x.after → done.ops.items ≡ work.ops.items ++ x.ops →
    before ≡ before_of m → made ≡ vec_len work.ops → all ≡ done.ops.items →
    changed_since before (take (length all - made) (drop made all)) n ≡ changed m n
since_gained m n x work done before made all told stands gains is count same =
    let old : List Op = work.ops.items in
    let all_is : all ≡ old ++ x.ops = same ∙ gains in
    let counted : made ≡ length old = omega (arith, work.ops.ok.0) in
    let behind : drop made all ≡ x.ops =
    (λ i. drop (counted i) (all_is i)) ∙ drop-append_seam old x.ops in
    let few : length x.ops ≤ length all - made = omega (arith, counted, ap length all_is, length-append old x.ops) in
    let gained : take (length all - made) (drop made all) ≡ x.ops =
    ap (take (length all - made)) behind ∙ take_all (length all - made) x.ops few in
    ap (λ (b : Before). changed_since b (take (length all - made) (drop made all)) n) is
    ∙ ap (λ (ops : List Op). changed_since (before_of m) ops n) gained
    ∙ ap (changed_since (before_of m) x.ops) stands
    ∙ told
    ∙ ap (changed m) (sym stands)
