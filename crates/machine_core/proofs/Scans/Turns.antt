-- Jobs are done in the order in which they were asked for.
use Rattle.std.proofs.Common.{◌≡◌, ℕ, Bool, true, false, cond, ◌&&◌, ◌==◌, List, [], ◌∷◌, ◌++◌, drop, refl, sym, ap, ◌∙◌}
use Rattle.std.specs.Prelude.{Option, Ok}
use Rattle.std.proofs.lemmas.Bool.{false≢true}
use Rattle.command_text.specs.AnswerStatus.{job_line}
use Rattle.song_db.specs.declared.change.RowChange.{RowChange}
use Rattle.state_codec.specs.Steps.{◌>>=◌}
use Rattle.machine_core.specs.Database.{asked, begins_job, begun, busy, may_wait, next_job, next_number, waits_for_job}
use Rattle.machine_core.specs.Happening.{Happening, if_room, nothing_happens}
use Rattle.machine_core.specs.Keeping.{kept_event}
use Rattle.machine_core.specs.Meaning.{Meaning, begins, must, waits}
use Rattle.machine_core.specs.Scanning.{after_job, ends_scan, finds, is_running, job_behind, jobs_of}
use Rattle.machine_core.specs.Scanning.{kept_changes, spared, telling, when_found, when_scanned}
use Rattle.machine_core.specs.State.{MachineState, lacks_room}
use Rattle.machine_core.specs.declared.job.WaitingJob.{WaitingJob}

-- the first of two Bools that both hold
and_first : (a b : Bool) → (a && b) ≡ true → a ≡ true
and_first true b is = refl
and_first false b is = absurd (false≢true is)

-- the jobs where one runs
jobs_where : (m : MachineState) → m.job.runs ≡ true → jobs_of m ≡ asked m.job.number m.job.place m.job.opens_all ∷ m.waiting
jobs_where m runs = ap (λ (b : Bool). cond b (asked m.job.number m.job.place m.job.opens_all ∷ m.waiting) []) runs

-- ---- one more waits

with_last : (m : MachineState) (job : WaitingJob) → m.job.runs ≡ true
    → jobs_of (record m { waiting = m.waiting ++ job ∷ [] }) ≡ jobs_of m ++ job ∷ []
with_last m job runs =
    jobs_where (record m { waiting = m.waiting ++ job ∷ [] }) runs ∙ ap (λ (l : List WaitingJob). l ++ job ∷ []) (sym (jobs_where m runs))

-- what the command does then
abbrev waited : WaitingJob → MachineState → Meaning
waited job m =
    record { text = job_line (next_number m); ops = []; after = record m { waiting = m.waiting ++ job ∷ [] } }

pub last_of_jobs : (place : Option (List ℕ)) (all : Bool) (m : MachineState) (x : Meaning) → m.job.runs ≡ true
    → begins_job place all m ≡ Ok x → jobs_of x.after ≡ jobs_of m ++ asked (next_number m) place all ∷ []
last_of_jobs place all m x runs is =
    of (may_wait m.saved.profile m.waiting)
    (ap (λ (b : Bool). cond b (waits_for_job place all m)
    (begins (begun (next_job m.job.number) place all m.clock.now) (job_line (next_job m.job.number)) m)) (sym runs) ∙ is)
  where
    job : WaitingJob
    job = asked (next_number m) place all

    of : (b : Bool) → (must b (busy m.saved.profile) >>= λ room. waits job (job_line (next_number m)) m) ≡ Ok x
        → jobs_of x.after ≡ jobs_of m ++ job ∷ []
    of true went =
        let same : waited job m ≡ x = cc in
        ap (λ (y : Meaning). jobs_of y.after) (sym same) ∙ with_last m job runs
    of false refused = absurd (cc)

-- ---- one ends

next_behind : (m : MachineState) (waiting : List WaitingJob)
    → jobs_of (record m { job = job_behind waiting m.clock.now m.job; waiting = drop 1 waiting }) ≡ waiting
next_behind m [] = refl
next_behind m (next ∷ waiting) = refl

pub next_of_jobs : (job : ℕ) (m : MachineState) → is_running job m ≡ true → jobs_of (when_scanned job m).after ≡ drop 1 (jobs_of m)
next_of_jobs job m runs =
    of (is_running job m) runs ∙ next_behind m m.waiting
    ∙ ap (drop 1) (sym (jobs_where m (and_first m.job.runs (m.job.number == job) runs)))
  where
    of : (b : Bool) → b ≡ true → let h = cond b (ends_scan m) (nothing_happens m) in jobs_of h.after ≡ jobs_of (after_job m)
    of true is = refl
    of false is = absurd (false≢true is)

-- ---- a batch leaves them

found_in : (changes : List RowChange) (m : MachineState) → jobs_of (finds changes m).after ≡ jobs_of m
found_in [] m = refl
found_in (change ∷ changes) m = refl

pub found_leaves : (job : ℕ) (changes : List RowChange) (m : MachineState)
    → jobs_of (kept_event m (when_found job changes m)).after ≡ jobs_of m
found_leaves job changes m = of (is_running job m)
  where
    rows : Happening
    rows = finds (telling m.saved.songs (kept_changes m.saved.profile (spared m changes))) m

    in_room : (b : Bool) → let h = cond b (nothing_happens m) rows in jobs_of (kept_event m h).after ≡ jobs_of m
    in_room true = refl
    in_room false = found_in (telling m.saved.songs (kept_changes m.saved.profile (spared m changes))) m

    of : (b : Bool) → let h = cond b (if_room m rows) (nothing_happens m) in jobs_of (kept_event m h).after ≡ jobs_of m
    of true = in_room (lacks_room m)
    of false = refl
