-- What an event counts as looking at is within the limit on a request.
use Rattle.std.proofs.Common.{◌≡◌, ◌≤◌, ◌+◌, ℕ, suc, Bool, true, false, List, [], ◌∷◌, Option, Some, None, cond, refl, arith}
use Rattle.std.proofs.lemmas.Bool.{leb-true}
use Rattle.std.specs.Prelude.{nat_le}
use Rattle.command_text.specs.Answer.{list_ok}
use Rattle.command_text.specs.declared.place.Place.{Place}
use Rattle.command_text.specs.declared.place.Place.TheVariants.{Alone, InList}
use Rattle.command_text.specs.declared.request.Request.{Request}
use Rattle.command_text.specs.declared.request.Request.TheVariants.{Single, List as CommandList, OkList, Noidle}
use Rattle.idle_masks.specs.Watched.{watched}
use Rattle.idle_masks.specs.declared.subsystem.Subsystems.{Subsystems}
use Rattle.idle_masks.specs.declared.watch.Watched.{Watched}
use Rattle.machine_core.specs.Looks.{looked, max_looks}
use Rattle.machine_core.specs.State.{MachineState}
use Rattle.profile.specs.declared.profile.Profile.{Profile}
use Rattle.profile.specs.declared.profile.Profile.TheVariants.{Named, Wide}
use Rattle.state_codec.specs.declared.op.Op.{Op}
use Rattle.daemon_core.specs.Run.{Asker, Did, Goes, Refuses, Ends, Ran, Spent, attempted, follow, is_refused_at, looks_of_line, ran, spent_behind}
use Rattle.daemon_core.specs.Run.{spent_on, wants_memory}
use Rattle.daemon_core.specs.Session.{of_ran, runs}
use Rattle.daemon_core.specs.State.{State}
use Rattle.daemon_core.specs.Step.{asking, acted, asked, begun, connects_client, is_noidle, requested_by, step, waiting_of, waits_no_more}
use Rattle.daemon_core.specs.declared.event.Event.{Event}
use Rattle.daemon_core.specs.declared.event.Event.TheVariants as events
use Rattle.daemon_core.specs.declared.outcome.Ending.{Ending}
use Rattle.daemon_core.specs.declared.outcome.Ending.TheVariants.{Answered, Closed, Killed, Waits}

either_within : (b : Bool) (n m most : ℕ) → (b ≡ true → n ≤ most) → m ≤ most → cond b n m ≤ most
either_within true n m most first second = first refl
either_within false n m most first second = second

looked_within : (profile : Profile) (before looks : ℕ) → before ≤ max_looks → looked profile before looks ≤ max_looks
looked_within Named before looks within = omega (arith, within)
looked_within Wide before looks within = either_within (nat_le (before + looks) max_looks) (before + looks) before max_looks
    (λ is. leb-true (before + looks) max_looks is) within

-- the rest of a request keeps within the limit where what was spent before it does
abbrev RestWithin : (Spent → MachineState → Ran) → Type 0
RestWithin rest = (n : Spent) (t : MachineState) → n.looks ≤ max_looks → (let r = rest n t in r.looks ≤ max_looks)

follow_within : (separator : List ℕ) (index : ℕ) (behind : List Op → Spent) (m : MachineState) (rest : Spent → MachineState → Ran)
    (d : Did) → ((ops : List Op) → (let n = behind ops in n.looks ≤ max_looks)) → RestWithin rest →
    let r = follow separator index behind m rest d in r.looks ≤ max_looks
follow_within separator index behind m rest (Goes x) within later = later (spent_on behind x) x.after (within x.ops)
follow_within separator index behind m rest (Refuses refusal) within later = within []
follow_within separator index behind m rest (Ends ending) within later = within []

unless_refused : (spent : Spent) (m : MachineState) (index : ℕ) (line : List ℕ) (r : Ran) (here : Bool) → r.looks ≤ max_looks →
    let s = cond here (wants_memory m spent index line) r in s.looks ≤ max_looks
unless_refused spent m index line r true within = omega arith
unless_refused spent m index line r false within = within

ran_within : (c : Asker) (place : Place) (separator : List ℕ) (refused : Option ℕ) (index : ℕ) (spent : Spent) (lines : List (List ℕ))
    (m : MachineState) →
    spent.looks ≤ max_looks → let r = ran c place separator refused index spent lines m in r.looks ≤ max_looks
unfolding ran
ran_within c place separator refused index spent [] m within = within
ran_within c place separator refused index spent (line ∷ lines) m within =
    unless_refused spent m index line _ (is_refused_at refused index)
    (follow_within separator index (spent_behind place line m spent) m (λ n t. ran c place separator refused (suc index) n lines t)
    (attempted c place spent line m) (λ ops. looked_within m.saved.profile spent.looks (looks_of_line place line m) within)
    (λ n t fits. ran_within c place separator refused (suc index) n lines t fits))

of_ran_within : (c : ℕ) (s : State) (r : Ran) (ending : Ending) → r.looks ≤ max_looks → let a = of_ran c s r ending in a.looks ≤ max_looks
of_ran_within c s r Answered within = within
of_ran_within c s r Closed within = within
of_ran_within c s r Killed within = within
of_ran_within c s r (Waits mask) within = within

runs_within : (c : ℕ) (s : State) (r : Ran) → r.looks ≤ max_looks → let a = runs c s r in a.looks ≤ max_looks
runs_within c s r within = of_ran_within c s r r.ending within

asked_within : (c : ℕ) (refused : Option ℕ) (s : State) (request : Request) → let a = asked c refused s request in a.looks ≤ max_looks
asked_within c refused s (Single line) = runs_within c s _ (ran_within (asking c s) Alone [] refused 0 (begun c s)
    (line ∷ []) s.machine (omega arith))
asked_within c refused s (CommandList lines) = runs_within c s _ (ran_within (asking c s) InList [] refused 0 (begun c s) lines s.machine (omega arith))
asked_within c refused s (OkList lines) = runs_within c s _ (ran_within (asking c s) InList list_ok refused 0 (begun c s) lines s.machine (omega arith))
asked_within c refused s Noidle = omega arith

waits_within : (noidle : Bool) (c : ℕ) (s : State) → let a = waits_no_more noidle c s in a.looks ≤ max_looks
waits_within true c s = omega arith
waits_within false c s = omega arith

requested_within : (c : ℕ) (refused : Option ℕ) (s : State) (request : Request) (found : Option (Option Subsystems)) →
    let a = requested_by c refused s request found in a.looks ≤ max_looks
requested_within c refused s request None = omega arith
requested_within c refused s request (Some None) = asked_within c refused s request
requested_within c refused s request (Some (Some mask)) = waits_within (is_noidle request) c s

connects_within : (c : ℕ) (s : State) (found : Option Watched) → let a = connects_client c s found in a.looks ≤ max_looks
connects_within c s None = omega arith
connects_within c s (Some w) = omega arith

acted_within : (s : State) (event : Event) (refused : Option ℕ) → let a = acted s event refused in a.looks ≤ max_looks
acted_within s (events.Connect c) refused = connects_within c s (watched s.clients c)
acted_within s (events.Request c request) refused = requested_within c refused s request (waiting_of (watched s.clients c))
acted_within s (events.Gone c) refused = omega arith
acted_within s (events.Fed ticket frames) refused = omega arith
acted_within s (events.Ended ticket) refused = omega arith
acted_within s (events.Broken ticket cause) refused = omega arith
acted_within s (events.Batch job changes) refused = omega arith
acted_within s (events.Missing job songs) refused = omega arith
acted_within s (events.ScanDone job) refused = omega arith
acted_within s (events.Clock time) refused = omega arith
acted_within s (events.Keep ticket) refused = omega arith
acted_within s (events.Resume plays) refused = omega arith
acted_within s (events.Room is_there) refused = omega arith
acted_within s (events.Picture c told) refused = omega arith

pub step_within : (s : State) (event : Event) (refused : Option ℕ) → let now = step s event refused in now.looks ≤ max_looks
unfolding step
step_within s event refused = acted_within s event refused
