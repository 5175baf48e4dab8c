-- The ops of an event rebuild the saved half, where those of a command do, and fit into a record.
use Rattle.std.proofs.Common.{◌≡◌, ℕ, suc, ◌+◌, ◌≤◌, Bool, true, false, List, [], ◌∷◌, ◌++◌, length, Option, Some, None, cond}
use Rattle.std.proofs.Common.{refl, subst, ◌∙◌, ap, arith, length-append}
use Rattle.std.specs.Prelude.{Ok}
use Rattle.std.specs.Option.{option_and_then}
use Rattle.command_text.specs.declared.tag_mask.TagMask.{TagMask}
use Rattle.command_text.specs.Answer.{list_ok}
use Rattle.command_text.specs.declared.command.Command.{Command}
use Rattle.command_text.specs.declared.place.Place.{Place}
use Rattle.command_text.specs.declared.place.Place.TheVariants.{Alone, InList}
use Rattle.command_text.specs.declared.request.Request.{Request}
use Rattle.command_text.specs.declared.request.Request.TheVariants.{Single, List as CommandList, OkList, Noidle}
use Rattle.idle_masks.specs.Watched.{watched}
use Rattle.idle_masks.specs.declared.subsystem.Subsystems.{Subsystems}
use Rattle.idle_masks.specs.declared.watch.Watched.{Watched}
use Rattle.machine_core.proofs.FullLaws.{kept_under}
use Rattle.machine_core.specs.Command.{meaning}
use Rattle.machine_core.specs.Happening.{Happening}
use Rattle.machine_core.specs.Keeping.{kept, kept_event, when_kept, when_resumed}
use Rattle.machine_core.specs.Meaning.{Meaning}
use Rattle.machine_core.specs.Missing.{when_missed}
use Rattle.machine_core.specs.Reports.{when_fed, when_ended, when_broken}
use Rattle.machine_core.specs.Room.{when_room}
use Rattle.machine_core.specs.Scanning.{when_found, when_scanned}
use Rattle.machine_core.specs.Size.{max_request_bytes}
use Rattle.machine_core.specs.State.{MachineState}
use Rattle.machine_core.proofs.Sizes.{body_len, checksum_fits, profile_stays}
use Rattle.profile.specs.declared.profile.Profile.{Profile}
use Rattle.state_codec.proofs.AppliedLaws.{all_applied-append}
use Rattle.state_codec.specs.Applied.{all_applied}
use Rattle.state_codec.specs.Sealed.{checksum_len}
use Rattle.state_codec.specs.Spelling.{ops_bytes}
use Rattle.state_codec.specs.SpellingOps.{op_bytes}
use Rattle.state_codec.specs.declared.op.Op.{Op}
use Rattle.daemon_core.specs.Run.{Asker, Did, Goes, Refuses, Ends, attempted}
use Rattle.daemon_core.specs.Run.{Ran, wants_memory, follow, is_refused_at, ran}
use Rattle.daemon_core.specs.Run.{Spent, spent_behind, spent_on}
use Rattle.daemon_core.specs.Reported.{IsRebuilt, IsReported}
use Rattle.daemon_core.specs.Session.{happened, of_ran, runs}
use Rattle.daemon_core.specs.State.{State}
use Rattle.daemon_core.specs.Step.{asking, begun, connects_client, asked, waits_no_more, is_noidle, requested_by, waiting_of, acted, step}
use Rattle.daemon_core.specs.declared.event.Event.{Event}
use Rattle.daemon_core.specs.declared.event.Event.TheVariants as events
use Rattle.daemon_core.proofs.DoneLaws.{line_is}
use Rattle.daemon_core.specs.declared.outcome.Ending.{Ending}
use Rattle.daemon_core.specs.declared.outcome.Ending.TheVariants.{Answered, Closed, Killed, Waits}

-- the ops of each command rebuild the saved half
abbrev pub CommandsRebuild : Type 0
CommandsRebuild = (mask : TagMask) (command : Command) (m : MachineState) (x : Meaning) → kept m (meaning mask command m) ≡ Ok x →
    all_applied x.ops m.saved ≡ Some x.after.saved

-- what was done is rebuilt by its ops, which fit
pub record Rebuilt (size : ℕ) (m after : MachineState) (ops : List Op) : Type 0 where
  pub state : all_applied ops m.saved ≡ Some after.saved
  pub fits : size + length (ops_bytes m.saved.profile ops) ≤ max_request_bytes

abbrev pub Rebuilds : ℕ → MachineState → Did → Type 0
Rebuilds size m (Goes x) = Rebuilt size m x.after x.ops
Rebuilds size m (Refuses refusal) = Unit {0}
Rebuilds size m (Ends ending) = Unit {0}

-- a sum alone
none_more : (profile : Profile) (size : ℕ) → size ≤ max_request_bytes → size + length (ops_bytes profile []) ≤ max_request_bytes
none_more profile size within = omega (arith, within)

attempted_rebuilds : (law : CommandsRebuild) (c : Asker) (place : Place) (spent : Spent) (line : List ℕ) (m : MachineState) →
    spent.size ≤ max_request_bytes → Rebuilds spent.size m (attempted c place spent line m)
attempted_rebuilds law c place spent line m within =
    line_is (Rebuilds spent.size m) c place spent line m (λ ending. tt) (λ refusal. tt)
    (λ command talk is. record { state = refl; fits = none_more m.saved.profile spent.size within })
    (λ command x means fits. record { state = law spent.view.tags command m x (kept_under m (meaning spent.view.tags command m) x means); fits = fits })

ops_bytes-append : (profile : Profile) (a b : List Op)
    → length (ops_bytes profile (a ++ b)) ≡ length (ops_bytes profile a) + length (ops_bytes profile b)
ops_bytes-append profile [] b = omega arith
ops_bytes-append profile (op ∷ a) b =
    omega (
      arith,
      length-append (op_bytes profile op) (ops_bytes profile (a ++ b)),
      length-append (op_bytes profile op) (ops_bytes profile a),
      ops_bytes-append profile a b,
    )

-- so is what a request did
follow_rebuilds : (separator : List ℕ) (index : ℕ) (place : Place) (line : List ℕ) (spent : Spent) (m : MachineState)
    (rest : Spent → MachineState → Ran) (d : Did) → spent.size ≤ max_request_bytes → Rebuilds spent.size m d →
    ((n : Spent) (t : MachineState) → n.size ≤ max_request_bytes → let r = rest n t in Rebuilt n.size t r.after r.ops) →
    let r = follow separator index (spent_behind place line m spent) m rest d in Rebuilt spent.size m r.after r.ops
follow_rebuilds separator index place line spent m rest (Goes x) within same later =
    let r : Ran = rest (spent_on (spent_behind place line m spent) x) x.after in
    let l = later (spent_on (spent_behind place line m spent) x) x.after same.fits in
    record {
      state = all_applied-append x.ops r.ops m.saved ∙ ap (option_and_then (all_applied r.ops)) same.state ∙ l.state;
      fits = omega (
        arith,
        subst (λ p. spent.size + length (ops_bytes m.saved.profile x.ops) + length (ops_bytes p r.ops) ≤ max_request_bytes)
            (profile_stays x.ops m.saved x.after.saved same.state) l.fits,
        ops_bytes-append m.saved.profile x.ops r.ops,
      );
    }
follow_rebuilds separator index place line spent m rest (Refuses refusal) within same later =
    record { state = refl; fits = omega (arith, within) }
follow_rebuilds separator index place line spent m rest (Ends ending) within same later =
    record { state = refl; fits = omega (arith, within) }

here_rebuilds : (size : ℕ) (spent : Spent) (m : MachineState) (index : ℕ) (line : List ℕ) (r : Ran) (here : Bool)
    → size ≤ max_request_bytes →
    Rebuilt size m r.after r.ops → let either = cond here (wants_memory m spent index line) r in Rebuilt size m either.after either.ops
here_rebuilds size spent m index line r true within same = record { state = refl; fits = omega (arith, within) }
here_rebuilds size spent m index line r false within same = same

ran_rebuilds : (law : CommandsRebuild) (c : Asker) (place : Place) (separator : List ℕ) (refused : Option ℕ) (index : ℕ) (spent : Spent)
    (lines : List (List ℕ)) (m : MachineState) → spent.size ≤ max_request_bytes →
    let r = ran c place separator refused index spent lines m in Rebuilt spent.size m r.after r.ops
unfolding ran
ran_rebuilds law c place separator refused index spent [] m within = record { state = refl; fits = omega (arith, within) }
ran_rebuilds law c place separator refused index spent (line ∷ lines) m within =
    here_rebuilds spent.size spent m index line _ (is_refused_at refused index) within
    (follow_rebuilds separator index place line spent m (λ n t. ran c place separator refused (suc index) n lines t)
    (attempted c place spent line m) within (attempted_rebuilds law c place spent line m within)
    (λ n t fits. ran_rebuilds law c place separator refused (suc index) n lines t fits))

-- so is what any event does, with the sum behind its ops
abbrev pub WholeRebuilt : MachineState → MachineState → List Op → Type 0
WholeRebuilt m after ops = Rebuilt (checksum_len m.saved.profile) m after ops

-- a sum alone
none_fits : (m : MachineState) → checksum_len m.saved.profile + length (ops_bytes m.saved.profile []) ≤ max_request_bytes
none_fits m = omega (arith, checksum_fits m.saved.profile)

same : (s : State) → WholeRebuilt s.machine s.machine []
same s = record { state = refl; fits = none_fits s.machine }

of_ran_rebuilds : (c : ℕ) (s : State) (r : Ran) (ending : Ending) → WholeRebuilt s.machine r.after r.ops →
    let a = of_ran c s r ending in WholeRebuilt s.machine a.after.machine a.ops
of_ran_rebuilds c s r Answered h = record { state = h.state; fits = h.fits }
of_ran_rebuilds c s r Closed h = record { state = h.state; fits = h.fits }
of_ran_rebuilds c s r Killed h = record { state = h.state; fits = h.fits }
of_ran_rebuilds c s r (Waits mask) h = record { state = h.state; fits = h.fits }

runs_rebuilds : (c : ℕ) (s : State) (r : Ran) → WholeRebuilt s.machine r.after r.ops →
    let a = runs c s r in WholeRebuilt s.machine a.after.machine a.ops
runs_rebuilds c s r h = of_ran_rebuilds c s r r.ending h

asked_rebuilds : (law : CommandsRebuild) (c : ℕ) (refused : Option ℕ) (s : State) (request : Request) →
    let a = asked c refused s request in WholeRebuilt s.machine a.after.machine a.ops
asked_rebuilds law c refused s (Single line) =
    runs_rebuilds c s _ (ran_rebuilds law (asking c s) Alone [] refused 0 (begun c s) (line ∷ []) s.machine
    (checksum_fits s.machine.saved.profile))
asked_rebuilds law c refused s (CommandList lines) =
    runs_rebuilds c s _ (ran_rebuilds law (asking c s) InList [] refused 0 (begun c s) lines s.machine
    (checksum_fits s.machine.saved.profile))
asked_rebuilds law c refused s (OkList lines) =
    runs_rebuilds c s _ (ran_rebuilds law (asking c s) InList list_ok refused 0 (begun c s) lines s.machine
    (checksum_fits s.machine.saved.profile))
asked_rebuilds law c refused s Noidle = same s

waiting_rebuilds : (noidle : Bool) (c : ℕ) (s : State) → let a = waits_no_more noidle c s in WholeRebuilt s.machine a.after.machine a.ops
waiting_rebuilds true c s = record { state = refl; fits = none_fits s.machine }
waiting_rebuilds false c s = record { state = refl; fits = none_fits s.machine }

requested_rebuilds : (law : CommandsRebuild) (c : ℕ) (refused : Option ℕ) (s : State) (request : Request)
    (found : Option (Option Subsystems)) → let a = requested_by c refused s request found in WholeRebuilt s.machine a.after.machine a.ops
requested_rebuilds law c refused s request None = same s
requested_rebuilds law c refused s request (Some None) = asked_rebuilds law c refused s request
requested_rebuilds law c refused s request (Some (Some mask)) = waiting_rebuilds (is_noidle request) c s

connect_rebuilds : (c : ℕ) (s : State) (found : Option Watched) →
    let a = connects_client c s found in WholeRebuilt s.machine a.after.machine a.ops
connect_rebuilds c s None = record { state = refl; fits = none_fits s.machine }
connect_rebuilds c s (Some w) = same s

happened_rebuilds : (s : State) (h : Happening) → IsRebuilt s.machine h →
    let a = happened s h in WholeRebuilt s.machine a.after.machine a.ops
happened_rebuilds s h is =
    record { state = is.state; fits = omega (arith, is.fits, body_len s.machine.saved.profile h.ops) }

acted_rebuilds : (law : CommandsRebuild) (s : State) (event : Event) (refused : Option ℕ) → IsReported event s.machine →
    let a = acted s event refused in WholeRebuilt s.machine a.after.machine a.ops
acted_rebuilds law s (events.Connect c) refused reported = connect_rebuilds c s (watched s.clients c)
acted_rebuilds law s (events.Request c request) refused reported =
    requested_rebuilds law c refused s request (waiting_of (watched s.clients c))
acted_rebuilds law s (events.Gone c) refused reported = record { state = refl; fits = none_fits s.machine }
acted_rebuilds law s (events.Fed ticket frames) refused reported = happened_rebuilds s (when_fed ticket frames s.machine) reported
acted_rebuilds law s (events.Ended ticket) refused reported =
    happened_rebuilds s (kept_event s.machine (when_ended ticket s.machine)) reported
acted_rebuilds law s (events.Broken ticket cause) refused reported =
    happened_rebuilds s (kept_event s.machine (when_broken ticket cause s.machine)) reported
acted_rebuilds law s (events.Batch job changes) refused reported =
    happened_rebuilds s (kept_event s.machine (when_found job changes s.machine)) reported
acted_rebuilds law s (events.Missing job songs) refused reported = happened_rebuilds s (when_missed job songs s.machine) reported
acted_rebuilds law s (events.ScanDone job) refused reported = happened_rebuilds s (when_scanned job s.machine) reported
acted_rebuilds law s (events.Clock time) refused reported = record { state = refl; fits = none_fits s.machine }
acted_rebuilds law s (events.Keep ticket) refused reported = happened_rebuilds s (when_kept ticket s.machine) reported
acted_rebuilds law s (events.Resume plays) refused reported = happened_rebuilds s (when_resumed plays s.machine) reported
acted_rebuilds law s (events.Room is_there) refused reported = happened_rebuilds s (when_room is_there s.machine) reported
acted_rebuilds law s (events.Picture c told) refused reported = record { state = refl; fits = none_fits s.machine }

pub step_rebuilds : (law : CommandsRebuild) (s : State) (event : Event) (refused : Option ℕ) → IsReported event s.machine →
    let r = step s event refused in WholeRebuilt s.machine r.after.machine r.ops
unfolding step
step_rebuilds law s event refused reported =
    let h = acted_rebuilds law s event refused reported in record { state = h.state; fits = h.fits }
