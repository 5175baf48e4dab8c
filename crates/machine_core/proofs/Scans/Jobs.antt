-- The job behind one that is over.
use Rattle.std.proofs.Common.{◌≡◌, ℕ, ◌<◌, true, false, nat_eq, List, [], ◌∷◌, length, drop, refl, sym, ap, ◌∙◌, arith}
use Rattle.std.proofs.lemmas.Bool.Decides.{nat_tests}
use Rattle.std.proofs.lemmas.List.{nil_from_length}
use Rattle.std.specs.Prelude.{remove, slice_index_or}
use Rattle.machine_core.specs.Database.{begun}
use Rattle.machine_core.specs.Scanning.{after_job, job_behind, over}
use Rattle.machine_core.specs.State.{MachineState}
use Rattle.machine_core.specs.declared.job.Job.{Job}
use Rattle.machine_core.specs.declared.job.WaitingJob.{WaitingJob}

-- whether one waits
pub none_waits : (waiting : List WaitingJob) (count : ℕ) → count ≡ length waiting → nat_eq count 0 ≡ true → waiting ≡ []
none_waits waiting count is none = nil_from_length waiting (grind (arith, nat_tests))

pub one_waits : (waiting : List WaitingJob) (count : ℕ) → count ≡ length waiting → nat_eq count 0 ≡ false → 0 < length waiting
one_waits waiting count is some = grind (arith, nat_tests)

removed_first : (waiting : List WaitingJob) → remove waiting 0 ≡ drop 1 waiting
removed_first [] = refl
removed_first (next ∷ waiting) = refl

first_behind : (waiting : List WaitingJob) (next : WaitingJob) (now : ℕ) (job : Job) → 0 < length waiting
    → next ≡ slice_index_or waiting 0 next → begun next.number next.place next.opens_all now ≡ job_behind waiting now job
first_behind [] next now job some is = let no : ⊥ = omega (arith, some) in absurd no
first_behind (first ∷ waiting) next now job some is = ap (λ (w : WaitingJob). begun w.number w.place w.opens_all now) is

-- none waits
pub none_behind : (m : MachineState) → m.waiting ≡ [] → record m { job = over m.clock.now m.job } ≡ after_job m
none_behind m none =
    λ i. record m { job = job_behind (sym none i) m.clock.now m.job; waiting = (none ∙ ap (drop 1) (sym none)) i }

-- the first of those that wait
pub one_behind : (m : MachineState) (next : WaitingJob) (left : List WaitingJob) → 0 < length m.waiting
    → next ≡ slice_index_or m.waiting 0 next → left ≡ remove m.waiting 0
    → record m { job = begun next.number next.place next.opens_all m.clock.now; waiting = left } ≡ after_job m
one_behind m next left some is removed =
    λ i. record m { job = first_behind m.waiting next m.clock.now m.job some is i; waiting = (removed ∙ removed_first m.waiting) i }
