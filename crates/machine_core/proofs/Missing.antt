-- A scan that misses songs: what is said of it beside the player, and that a job which misses too many drops none.
use Rattle.std.proofs.Common.{◌≡◌, ◌⊎◌, inl, inr, ℕ, ◌+◌, ◌≤◌, Bool, true, false, cond, not, ◌&&◌, ◌||◌, ◌==◌, List, []}
use Rattle.std.proofs.Common.{◌∷◌, length}
use Rattle.std.proofs.Common.{drop, refl, sym, ap, subst, ◌∙◌, Option, Some, None, arith}
use Rattle.std.specs.Prelude.{is_some}
use Rattle.std.proofs.lemmas.Bool.{false≢true, le-leb}
use Rattle.std.proofs.lemmas.Bool.Decides.{nat_tests}
use Rattle.std.specs.List.{list_any}
use Rattle.std.specs.Prelude.{nat_le}
use Rattle.idle_masks.specs.Subsystems.{none}
use Rattle.play_queue.specs.Queue.{IsQueue}
use Rattle.player_core.specs.Player.{PlayerState}
use Rattle.player_core.specs.declared.failure.PlayFailure.{PlayFailure}
use Rattle.player_core.specs.declared.failure.PlayFailure.TheVariants.{Withheld}
use Rattle.profile.specs.declared.profile.Profile.{Profile}
use Rattle.profile.specs.declared.profile.Profile.TheVariants.{Named}
use Rattle.state_codec.specs.SavedState.{SavedState}
use Rattle.machine_core.specs.Happening.{HasHappened, Happening, nothing_happens}
use Rattle.machine_core.specs.Missing.{after_ahead, after_withheld, again_seconds, asked_at, goes_ahead, is_of_withheld, is_withheld}
use Rattle.machine_core.specs.Missing.{may_withhold, misses, too_many, was_asked, when_missed, withheld_job, withholds, without_withheld}
use Rattle.machine_core.specs.Restart.{HasSoundPlace, IsIdle, IsInStep, IsKeptMachine, IsSoundPlace, IsThere}
use Rattle.machine_core.specs.Scanning.{after_job, ends_scan, is_running, job_behind, jobs_of}
use Rattle.machine_core.specs.Sound.{IsSound, IsSoundMachine, IsSoundPlayer, IsWithinSong}
use Rattle.machine_core.specs.State.{MachineState, lacks_room}
use Rattle.machine_core.specs.declared.happened.Happened.{Happened}
use Rattle.machine_core.specs.declared.job.Job.{Job}
use Rattle.machine_core.specs.declared.job.WaitingJob.{WaitingJob}
use Rattle.machine_core.specs.declared.job.WithheldJob.{WithheldJob}
use Rattle.machine_core.proofs.SameParts.{text_itself}
use Rattle.machine_core.proofs.Scans.Turns.{next_of_jobs}
use Rattle.machine_core.proofs.Sizes.{none_short}
use Rattle.machine_core.proofs.Sound.Steps.{played_of, sound_from}

-- ---- which of the two it is

-- too many are missed by the job that runs
pub missed_withheld : (job missing : ℕ) (m : MachineState) → is_running job m ≡ true → is_withheld missing m ≡ true
    → when_missed job missing m ≡ withholds missing m
missed_withheld job missing m runs is =
    ap (λ (b : Bool). cond b (misses missing m) (nothing_happens m)) runs
    ∙ ap (λ (b : Bool). cond b (withholds missing m) (goes_ahead m)) is

-- and not too many
pub missed_ahead : (job missing : ℕ) (m : MachineState) → is_running job m ≡ true → is_withheld missing m ≡ false
    → when_missed job missing m ≡ goes_ahead m
missed_ahead job missing m runs is =
    ap (λ (b : Bool). cond b (misses missing m) (nothing_happens m)) runs
    ∙ ap (λ (b : Bool). cond b (withholds missing m) (goes_ahead m)) is

-- ---- the player

error_sound : (m : MachineState) (error : Option PlayFailure) → IsSound m
    → IsSoundPlayer m.saved.queue.entries m.saved.options.random (record m.player { error = error })
error_sound m error sound =
    sound_from m.saved.queue.entries m.saved.options.random (record m.player { error = error }) sound.current
    (played_of m.saved.queue.entries m.saved.options.random m.player sound)

pub when_missed_sound : (job missing : ℕ) (m : MachineState) → IsSound m → let h = when_missed job missing m in IsSound h.after
when_missed_sound job missing m sound = of (is_running job m)
  where
    cleared : (b : Bool)
        → IsSoundPlayer m.saved.queue.entries m.saved.options.random (cond b (record m.player { error = None }) m.player)
    cleared true = error_sound m None sound
    cleared false = sound

    by : (b : Bool) → let h = cond b (withholds missing m) (goes_ahead m) in IsSound h.after
    by true = error_sound m (Some (Withheld missing (length m.saved.songs))) sound
    by false = cleared (is_of_withheld m.player.error)

    of : (b : Bool) → let h = cond b (misses missing m) (nothing_happens m) in IsSound h.after
    of true = by (is_withheld missing m)
    of false = sound

missed_within : (job missing : ℕ) (m : MachineState) → IsWithinSong m → let h = when_missed job missing m in IsWithinSong h.after
missed_within job missing m frame = of (is_running job m)
  where
    cleared : (b : Bool) → IsWithinSong (record m { withheld = None; player = cond b (record m.player { error = None }) m.player })
    cleared true = frame
    cleared false = frame

    by : (b : Bool) → let h = cond b (withholds missing m) (goes_ahead m) in IsWithinSong h.after
    by true = frame
    by false = cleared (is_of_withheld m.player.error)

    of : (b : Bool) → let h = cond b (misses missing m) (nothing_happens m) in IsWithinSong h.after
    of true = by (is_withheld missing m)
    of false = frame

-- ---- what is saved

pub missed_saved : (job missing : ℕ) (m : MachineState) → let h = when_missed job missing m in h.after.saved ≡ m.saved
missed_saved job missing m = of (is_running job m)
  where
    by : (b : Bool) → let h = cond b (withholds missing m) (goes_ahead m) in h.after.saved ≡ m.saved
    by true = refl
    by false = refl

    of : (b : Bool) → let h = cond b (misses missing m) (nothing_happens m) in h.after.saved ≡ m.saved
    of true = by (is_withheld missing m)
    of false = refl

pub missed_no_op : (job missing : ℕ) (m : MachineState) → let h = when_missed job missing m in h.ops ≡ []
missed_no_op job missing m = of (is_running job m)
  where
    by : (b : Bool) → let h = cond b (withholds missing m) (goes_ahead m) in h.ops ≡ []
    by true = refl
    by false = refl

    of : (b : Bool) → let h = cond b (misses missing m) (nothing_happens m) in h.ops ≡ []
    of true = by (is_withheld missing m)
    of false = refl

-- ---- it keeps what each event keeps

pub when_missed_holds : (job missing : ℕ) (m : MachineState) → IsSoundMachine m
    → let h = when_missed job missing m in IsSoundMachine h.after
when_missed_holds job missing m holds = record {
  queue = subst (λ (s : SavedState). IsQueue s.queue) (sym (missed_saved job missing m)) holds.queue;
  sound = when_missed_sound job missing m holds.sound;
  frame = missed_within job missing m holds.frame;
}

-- an error alone is shown, or shown no more
error_in_step : (m n : MachineState) (error : Option PlayFailure) → n.saved ≡ m.saved → n.player ≡ record m.player { error = error }
    → IsInStep m → IsInStep n
error_in_step m n error saved player step place is =
    let before = step place (ap (λ (s : SavedState). s.place) (sym saved) ∙ is) in
    record {
      sound = subst (λ (s : SavedState). IsSoundPlace s.queue.entries s.options.random place) (sym saved) before.sound;
      here = subst (λ (p : PlayerState). (IsIdle p) ⊎ (IsThere p place)) (sym player) (of before.here);
    }
  where
    of : (IsIdle m.player) ⊎ (IsThere m.player place)
        → (IsIdle (record m.player { error = error })) ⊎ (IsThere (record m.player { error = error }) place)
    of (inl idle) = inl (record { state = idle.state; current = idle.current; ticket = idle.ticket; played = idle.played })
    of (inr there) = inr (record { plays = there.plays; state = there.state; song = there.song; played = there.played })

missed_in_step : (job missing : ℕ) (m : MachineState) → IsInStep m → let h = when_missed job missing m in IsInStep h.after
missed_in_step job missing m step = of (is_running job m)
  where
    cleared : (b : Bool) → IsInStep (record m { withheld = None; player = cond b (record m.player { error = None }) m.player })
    cleared true = error_in_step m (record m { withheld = None; player = record m.player { error = None } }) None refl refl step
    cleared false = error_in_step m (record m { withheld = None }) m.player.error refl refl step

    by : (b : Bool) → let h = cond b (withholds missing m) (goes_ahead m) in IsInStep h.after
    by true = error_in_step m (after_withheld missing m) (Some (Withheld missing (length m.saved.songs))) refl refl step
    by false = cleared (is_of_withheld m.player.error)

    of : (b : Bool) → let h = cond b (misses missing m) (nothing_happens m) in IsInStep h.after
    of true = by (is_withheld missing m)
    of false = step

pub missed_room : (job missing : ℕ) (m : MachineState) → let h = when_missed job missing m in lacks_room h.after ≡ lacks_room m
missed_room job missing m = of (is_running job m)
  where
    by : (b : Bool) → let h = cond b (withholds missing m) (goes_ahead m) in lacks_room h.after ≡ lacks_room m
    by true = refl
    by false = refl

    of : (b : Bool) → let h = cond b (misses missing m) (nothing_happens m) in lacks_room h.after ≡ lacks_room m
    of true = by (is_withheld missing m)
    of false = refl

pub missed_kept : (job missing : ℕ) (m : MachineState) → IsKeptMachine m → let h = when_missed job missing m in IsKeptMachine h.after
missed_kept job missing m is = record {
  wide = ap (λ (s : SavedState). s.profile) (missed_saved job missing m) ∙ is.wide;
  has = ap (λ (s : SavedState). is_some s.place) (missed_saved job missing m) ∙ is.has;
  holds = when_missed_holds job missing m is.holds;
  sound = subst HasSoundPlace (sym (missed_saved job missing m)) is.sound;
  step = λ room. missed_in_step job missing m (is.step (sym (missed_room job missing m) ∙ room));
}

-- ---- the job is over

or_first : (a b : Bool) → (a || b) ≡ false → a ≡ false
or_first true b is = absurd (false≢true (sym is))
or_first false b is = refl

-- the job behind it has another number
over_behind : (waiting : List WaitingJob) (job now : ℕ) (last : Job) → list_any (λ (next : WaitingJob). next.number == job) waiting ≡ false
    → (let j = job_behind waiting now last in j.runs && j.number == job) ≡ false
over_behind [] job now last none = refl
over_behind (next ∷ waiting) job now last none =
    or_first (next.number == job) (list_any (λ (other : WaitingJob). other.number == job) waiting) none

pub missed_over : (job missing : ℕ) (m : MachineState) → is_running job m ≡ true → is_withheld missing m ≡ true
    → list_any (λ (next : WaitingJob). next.number == job) m.waiting ≡ false
    → (let h = when_missed job missing m in is_running job h.after) ≡ false
missed_over job missing m runs is none =
    ap (λ (h : Happening). is_running job h.after) (missed_withheld job missing m runs is)
    ∙ over_behind m.waiting job m.clock.now m.job none

pub missed_next : (job missing : ℕ) (m : MachineState) → is_running job m ≡ true → is_withheld missing m ≡ true
    → (let h = when_missed job missing m in jobs_of h.after) ≡ drop 1 (jobs_of m)
missed_next job missing m runs is =
    ap (λ (h : Happening). jobs_of h.after) (missed_withheld job missing m runs is)
    ∙ ap (λ (b : Bool). let h = cond b (ends_scan m) (nothing_happens m) in jobs_of h.after) (sym runs)
    ∙ next_of_jobs job m runs

-- ---- what is dropped

none_at_last : (a b c : Bool) → (a && (b && (c && false))) ≡ false
none_at_last true true true = refl
none_at_last true true false = refl
none_at_last true false c = refl
none_at_last false b c = refl

number_itself : (n : ℕ) → (n == n) ≡ true
number_itself n = grind (arith, nat_tests)

-- asked for again, soon enough
pub asked_again : (number missing now : ℕ) (m : MachineState) → now ≤ m.clock.now + again_seconds
    → is_withheld missing (asked_at number now m.job (after_withheld missing m)) ≡ false
asked_again number missing now m soon =
    ap (λ (b : Bool). may_withhold m.saved.profile && (not m.job.opens_all && (too_many missing (length m.saved.songs) && not b))) again
    ∙ none_at_last (may_withhold m.saved.profile) (not m.job.opens_all) (too_many missing (length m.saved.songs))
  where
    again : was_asked m.job missing now (Some (withheld_job missing m)) ≡ true
    again =
        ap (λ (b : Bool). b && (missing == missing && nat_le now (m.clock.now + again_seconds))) (text_itself m.job.place)
        ∙ ap (λ (b : Bool). b && nat_le now (m.clock.now + again_seconds)) (number_itself missing)
        ∙ le-leb now (m.clock.now + again_seconds) soon

false_last : (a : Bool) → (a && false) ≡ false
false_last true = refl
false_last false = refl

pub all_opened : (missing : ℕ) (m : MachineState) → m.job.opens_all ≡ true → is_withheld missing m ≡ false
all_opened missing m is =
    ap (λ (b : Bool). may_withhold m.saved.profile && (not b && (too_many missing (length m.saved.songs)
    && not (was_asked m.job missing m.clock.now m.withheld)))) is
    ∙ false_last (may_withhold m.saved.profile)

pub named_drops : (missing : ℕ) (m : MachineState) → m.saved.profile ≡ Named → is_withheld missing m ≡ false
named_drops missing m is =
    ap (λ (p : Profile). may_withhold p && (not m.job.opens_all && (too_many missing (length m.saved.songs)
    && not (was_asked m.job missing m.clock.now m.withheld)))) is

-- ---- what is made of it

-- the player shows it behind the end of the job, and what is kept of the job is that
pub withheld_state : (m k : MachineState) (player : PlayerState) (withheld : WithheldJob) → k ≡ after_job m
    → player ≡ record k.player { error = Some (Withheld withheld.missing withheld.songs) } → withheld ≡ withheld_job withheld.missing m
    → record k { player = player; withheld = Some withheld } ≡ after_withheld withheld.missing m
withheld_state m k player withheld over shown is =
    (λ i. record (over i) {
      player = (shown ∙ ap (λ (x : MachineState). record x.player { error = Some (Withheld withheld.missing withheld.songs) }) over) i;
      withheld = Some (is i);
    })
    ∙ (λ i. record (after_job m) {
      player = record m.player { error = Some (Withheld withheld.missing (is i).songs) };
      withheld = Some (withheld_job withheld.missing m);
    })

-- such an error is shown no more
pub ahead_state : (m k : MachineState) (player : PlayerState) → k ≡ m → player ≡ without_withheld k.player
    → record k { player = player; withheld = None } ≡ after_ahead m
ahead_state m k player is hidden =
    λ i. record (is i) { player = (hidden ∙ ap (λ (x : MachineState). without_withheld x.player) is) i; withheld = None }

-- the job is over
pub job_withheld : (missing : ℕ) (m n : MachineState) (happened : Happened) → n ≡ after_withheld missing m → happened.ops.items ≡ []
    → happened.changed ≡ record none { update = true; player = true; database = m.job.has_changed_a_row }
    → HasHappened (withholds missing m) m n happened
job_withheld missing m n happened state ops told =
    record { state = state; ops = ops; changed = told; rebuilt = refl; fits = none_short m.saved.profile }

-- the job goes on
pub gone_ahead : (m n : MachineState) (happened : Happened) → n ≡ after_ahead m → happened.ops.items ≡ []
    → happened.changed ≡ record none { player = is_of_withheld m.player.error } → HasHappened (goes_ahead m) m n happened
gone_ahead m n happened state ops told =
    record { state = state; ops = ops; changed = told; rebuilt = refl; fits = none_short m.saved.profile }
