-- What an event does to the job of the database.
use Rattle.std.proofs.Common.{◌≡◌, ℕ, suc, ◌<◌, Bool, true, false, List, [], ◌∷◌, length, drop, Option, Some, None, if◌then◌else◌}
use Rattle.std.proofs.Common.{refl, sym, subst, ◌∙◌, ap, arith}
use Rattle.std.proofs.lemmas.Bool.{eq-eqb}
use Rattle.idle_masks.specs.Watched.{watched}
use Rattle.idle_masks.specs.declared.watch.Watched.{Watched}
use Rattle.song_db.specs.declared.change.RowChange.{RowChange}
use Rattle.machine_core.specs.Happening.{Happening, if_room, nothing_happens}
use Rattle.machine_core.specs.Keeping.{keeps_place}
use Rattle.machine_core.specs.Room.{caught, is_idle, room_back, when_room}
use Rattle.machine_core.specs.Scanning.{after_job, ends_scan, is_running, job_behind, kept_changes, telling, finds, when_found, when_scanned}
use Rattle.machine_core.specs.Scanning.{spared}
use Rattle.machine_core.specs.State.{MachineState, lacks_room, told_room}
use Rattle.machine_core.specs.declared.clock.ClockTime.{ClockTime}
use Rattle.machine_core.specs.declared.job.Job.{Job}
use Rattle.machine_core.specs.declared.job.WaitingJob.{WaitingJob}
use Rattle.daemon_core.specs.declared.picture.PictureTold.{PictureTold}
use Rattle.daemon_core.specs.declared.event.Event.TheVariants as events
use Rattle.daemon_core.specs.Session.{Acted}
use Rattle.daemon_core.specs.State.{State}
use Rattle.daemon_core.specs.Step.{connects_client, step}
use Rattle.mpd_program.specs.Console.{IsRunning, RunsNone, jobs_left}
use Rattle.mpd_program.specs.Serving.{StepsTo}

-- a client that connects leaves the machine
connected_leaves : (c : ℕ) (s : State) (w : Option Watched) → (let a : Acted = connects_client c s w in a.after.machine ≡ s.machine)
connected_leaves c s (Some w) = refl
connected_leaves c s None = refl

pub connect_leaves : (c : ℕ) (s t : State) → StepsTo (events.Connect c) s t → RunsNone s.machine.job → RunsNone t.machine.job
unfolding step
connect_leaves c s t h idle =
    ap (λ (v : State). v.machine.job.runs) h.state
    ∙ ap (λ (m : MachineState). m.job.runs) (connected_leaves c s (watched s.clients c))
    ∙ idle

-- a batch leaves which job runs
finds_leaves : (n : ℕ) (changes : List RowChange) (m : MachineState) → IsRunning n m.job
    → (let h : Happening = finds changes m in IsRunning n h.after.job)
finds_leaves n [] m is = is
finds_leaves n (change ∷ changes) m is = record { same = is.same; runs = is.runs }

batch_leaves : (n : ℕ) (changes : List RowChange) (m : MachineState) → IsRunning n m.job
    → (let h : Happening = when_found n changes m in IsRunning n h.after.job)
batch_leaves n changes m is = by_running (is_running n m)
  where
    told : List RowChange
    told = telling m.saved.songs (kept_changes m.saved.profile (spared m changes))

    in_room : (lacks : Bool) → (let h : Happening = if lacks then nothing_happens m else finds told m in IsRunning n h.after.job)
    in_room true = is
    in_room false = finds_leaves n told m is

    by_running : (runs : Bool)
        → (let h : Happening = if runs then if_room m (finds told m) else nothing_happens m in IsRunning n h.after.job)
    by_running true = in_room (lacks_room m)
    by_running false = is

-- and which wait
finds_waits : (changes : List RowChange) (m : MachineState) → (let h : Happening = finds changes m in h.after.waiting ≡ m.waiting)
finds_waits [] m = refl
finds_waits (change ∷ changes) m = refl

batch_leaves_waiting : (n : ℕ) (changes : List RowChange) (m : MachineState)
    → (let h : Happening = when_found n changes m in h.after.waiting ≡ m.waiting)
batch_leaves_waiting n changes m = by_running (is_running n m)
  where
    told : List RowChange
    told = telling m.saved.songs (kept_changes m.saved.profile (spared m changes))

    in_room : (lacks : Bool) → (let h : Happening = if lacks then nothing_happens m else finds told m in h.after.waiting ≡ m.waiting)
    in_room true = refl
    in_room false = finds_waits told m

    by_running : (runs : Bool)
        → (let h : Happening = if runs then if_room m (finds told m) else nothing_happens m in h.after.waiting ≡ m.waiting)
    by_running true = in_room (lacks_room m)
    by_running false = refl

pub batch_waits : (n : ℕ) (changes : List RowChange) (s t : State) → StepsTo (events.Batch n changes) s t
    → t.machine.waiting ≡ s.machine.waiting
unfolding step
batch_waits n changes s t h = ap (λ (v : State). v.machine.waiting) h.state ∙ batch_leaves_waiting n changes s.machine

pub batch_runs : (n : ℕ) (changes : List RowChange) (s t : State) → StepsTo (events.Batch n changes) s t → IsRunning n s.machine.job
    → IsRunning n t.machine.job
unfolding step
batch_runs n changes s t h is =
    let left = batch_leaves n changes s.machine is in
    record {
      same = ap (λ (v : State). v.machine.job.number) h.state ∙ left.same;
      runs = ap (λ (v : State). v.machine.job.runs) h.state ∙ left.runs;
    }

-- the end of its scan ends it: one job less is left
end_leaves : (n : ℕ) (m : MachineState) → IsRunning n m.job → when_scanned n m ≡ ends_scan m
end_leaves n m is = rw (is.runs, eq-eqb m.job.number n is.same) refl

behind_fewer : (m : MachineState) → jobs_left (after_job m) ≡ length m.waiting
behind_fewer m = of m.waiting
  where
    of : (waiting : List WaitingJob) → (if (job_behind waiting m.clock.now m.job).runs then suc (length (drop 1 waiting)) else 0) ≡ length waiting
    of [] = refl
    of (next ∷ waiting) = refl

-- while one job runs, and as many wait, as many are left
pub left_is : (n k : ℕ) (m o : MachineState) → IsRunning n m.job → IsRunning k o.job → m.waiting ≡ o.waiting → jobs_left m ≡ jobs_left o
left_is n k m o is was same = rw (is.runs, was.runs) (ap (λ (l : List WaitingJob). suc (length l)) same)

pub end_fewer : (n : ℕ) (s t : State) → StepsTo (events.ScanDone n) s t → IsRunning n s.machine.job
    → jobs_left t.machine < jobs_left s.machine
unfolding step
end_fewer n s t h is =
    let after : jobs_left t.machine ≡ length s.machine.waiting =
    ap (λ (v : State). jobs_left v.machine) h.state
    ∙ ap (λ (x : Happening). jobs_left x.after) (end_leaves n s.machine is) ∙ behind_fewer s.machine in
    let before : jobs_left s.machine ≡ suc (length s.machine.waiting) =
    ap (λ (runs : Bool). if runs then suc (length s.machine.waiting) else 0) is.runs in
    omega (arith, after, before)

-- a clock's event is nothing to it
pub clock_idles : (time : ClockTime) (s t : State) → StepsTo (events.Clock time) s t → RunsNone s.machine.job → RunsNone t.machine.job
unfolding step
clock_idles time s t h is = ap (λ (v : State). v.machine.job.runs) h.state ∙ is

-- nor is a picture
pub picture_idles : (c : ℕ) (told : PictureTold) (s t : State) → StepsTo (events.Picture c told) s t → RunsNone s.machine.job
    → RunsNone t.machine.job
unfolding step
picture_idles c told s t h is = ap (λ (v : State). v.machine.job.runs) h.state ∙ is

-- what is told of room leaves the job
room_leaves : (is_there : Bool) (m : MachineState) → (let h : Happening = when_room is_there m in h.after.job) ≡ m.job
room_leaves false m = refl
room_leaves true m = back (lacks_room m)
  where
    caught_up : (idle : Bool)
        → (let h : Happening = if idle then nothing_happens (told_room true m) else keeps_place (caught m) in h.after.job) ≡ m.job
    caught_up true = refl
    caught_up false = refl

    back : (lacks : Bool) → (let h : Happening = room_back lacks m in h.after.job) ≡ m.job
    back true = caught_up (is_idle m.player)
    back false = refl

pub room_keeps_job : (is_there : Bool) (s t : State) → StepsTo (events.Room is_there) s t → t.machine.job ≡ s.machine.job
unfolding step
room_keeps_job is_there s t h = ap (λ (v : State). v.machine.job) h.state ∙ room_leaves is_there s.machine

-- and those that wait
room_leaves_waiting : (is_there : Bool) (m : MachineState) → (let h : Happening = when_room is_there m in h.after.waiting) ≡ m.waiting
room_leaves_waiting false m = refl
room_leaves_waiting true m = back (lacks_room m)
  where
    caught_up : (idle : Bool)
        → (let h : Happening = if idle then nothing_happens (told_room true m) else keeps_place (caught m) in h.after.waiting) ≡ m.waiting
    caught_up true = refl
    caught_up false = refl

    back : (lacks : Bool) → (let h : Happening = room_back lacks m in h.after.waiting) ≡ m.waiting
    back true = caught_up (is_idle m.player)
    back false = refl

pub room_keeps_waiting : (is_there : Bool) (s t : State) → StepsTo (events.Room is_there) s t → t.machine.waiting ≡ s.machine.waiting
unfolding step
room_keeps_waiting is_there s t h = ap (λ (v : State). v.machine.waiting) h.state ∙ room_leaves_waiting is_there s.machine

-- a job that is the same still runs
pub runs_on : (n : ℕ) (s t : State) → t.machine.job ≡ s.machine.job → IsRunning n s.machine.job → IsRunning n t.machine.job
runs_on n s t same is = subst (λ (j : Job). IsRunning n j) (sym same) is
