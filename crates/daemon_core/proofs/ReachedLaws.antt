-- Which place of refused memory a step names: that of a command that it came to, and otherwise none.
use Rattle.std.proofs.Common.{◌≡◌, ◌⊎◌, inl, inr, ℕ, suc, Bool, true, false, List, [], ◌∷◌, Option, Some, None, cond}
use Rattle.std.proofs.Common.{refl, sym, ◌∙◌, ap}
use Rattle.std.proofs.lemmas.Bool.{eqb-true, false≢true}
use Rattle.command_text.specs.Answer.{list_ok}
use Rattle.command_text.specs.declared.place.Place.{Place}
use Rattle.command_text.specs.declared.place.Place.TheVariants.{Alone, InList}
use Rattle.command_text.specs.declared.request.Request.{Request}
use Rattle.command_text.specs.declared.request.Request.TheVariants.{Single, List as CommandList, OkList, Noidle}
use Rattle.idle_masks.specs.Watched.{watched}
use Rattle.idle_masks.specs.declared.subsystem.Subsystems.{Subsystems}
use Rattle.idle_masks.specs.declared.watch.Watched.{Watched}
use Rattle.machine_core.specs.State.{MachineState}
use Rattle.state_codec.specs.declared.op.Op.{Op}
use Rattle.daemon_core.specs.Run.{Asker, Did, Goes, Refuses, Ends, attempted, Ran, wants_memory, preceded, follow, is_refused_at, ran}
use Rattle.daemon_core.specs.Run.{Spent, spent_behind, spent_on}
use Rattle.daemon_core.specs.Session.{Acted, of_ran, runs}
use Rattle.daemon_core.specs.State.{State}
use Rattle.daemon_core.specs.Step.{asking, begun, connects_client, asked, waits_no_more, is_noidle, requested_by, waiting_of, acted, settles, step}
use Rattle.daemon_core.specs.declared.event.Event.{Event}
use Rattle.daemon_core.specs.declared.event.Event.TheVariants as events
use Rattle.daemon_core.specs.declared.outcome.Ending.{Ending}
use Rattle.daemon_core.specs.declared.outcome.Ending.TheVariants.{Answered, Closed, Killed, Waits}

-- a request came to the command that was to be refused memory, or it did what it does where none is refused it
abbrev pub Reaches : Option ℕ → Ran → Ran → Type 0
Reaches refused r free = (r.refused_at ≡ refused) ⊎ (r ≡ free)

place_is : (refused : Option ℕ) (index : ℕ) → is_refused_at refused index ≡ true → Some index ≡ refused
place_is None index h = absurd (false≢true h)
place_is (Some place) index h = ap Some (sym (eqb-true place index h))

here_reaches : (refused : Option ℕ) (spent : Spent) (m : MachineState) (index : ℕ) (line : List ℕ) (r free : Ran) (here : Bool) →
    is_refused_at refused index ≡ here → Reaches refused r free → Reaches refused (cond here (wants_memory m spent index line) r) free
here_reaches refused spent m index line r free true h later = inl (place_is refused index h)
here_reaches refused spent m index line r free false h later = later

behind_reaches : (text : List ℕ) (changes : Subsystems) (ops : List Op) (notified : List ℕ) (refused : Option ℕ) (r free : Ran) →
    Reaches refused r free → Reaches refused (preceded text changes ops notified r) (preceded text changes ops notified free)
behind_reaches text changes ops notified refused r free (inl e) = inl e
behind_reaches text changes ops notified refused r free (inr e) = inr (ap (preceded text changes ops notified) e)

-- the rest of a request behind a command, where memory is refused at one command, reaches it beside the rest where none is refused it
abbrev pub RestReaches : Option ℕ → (Spent → MachineState → Ran) → (Spent → MachineState → Ran) → Type 0
RestReaches refused rest free = (n : Spent) (m : MachineState) → Reaches refused (rest n m) (free n m)

follow_reaches : (separator : List ℕ) (index : ℕ) (behind : List Op → Spent) (m : MachineState) (refused : Option ℕ)
    (rest free : Spent → MachineState → Ran)
    (d : Did) → RestReaches refused rest free →
    Reaches refused (follow separator index behind m rest d) (follow separator index behind m free d)
follow_reaches separator index behind m refused rest free (Goes x) later =
    behind_reaches _ x.changed x.ops x.notified refused (rest (spent_on behind x) x.after)
    (free (spent_on behind x) x.after) (later (spent_on behind x) x.after)
follow_reaches separator index behind m refused rest free (Refuses refusal) later = inr refl
follow_reaches separator index behind m refused rest free (Ends ending) later = inr refl

ran_reaches : (c : Asker) (place : Place) (separator : List ℕ) (refused : Option ℕ) (index : ℕ) (spent : Spent) (lines : List (List ℕ))
    (m : MachineState) →
    Reaches refused (ran c place separator refused index spent lines m) (ran c place separator None index spent lines m)
unfolding ran
ran_reaches c place separator refused index spent [] m = inr refl
ran_reaches c place separator refused index spent (line ∷ lines) m =
    here_reaches refused spent m index line _ _ (is_refused_at refused index) refl
    (follow_reaches separator index (spent_behind place line m spent) m refused (λ n t. ran c place separator refused (suc index) n lines t)
    (λ n t. ran c place separator None (suc index) n lines t) (attempted c place spent line m)
    (λ n t. ran_reaches c place separator refused (suc index) n lines t))

-- where no memory is refused, a request names no place
follow_names_none : (separator : List ℕ) (index : ℕ) (behind : List Op → Spent) (m : MachineState) (rest : Spent → MachineState → Ran)
    (d : Did) →
    ((n : Spent) (t : MachineState) → let r = rest n t in r.refused_at ≡ None) →
    let r = follow separator index behind m rest d in r.refused_at ≡ None
follow_names_none separator index behind m rest (Goes x) later = later (spent_on behind x) x.after
follow_names_none separator index behind m rest (Refuses refusal) later = refl
follow_names_none separator index behind m rest (Ends ending) later = refl

ran_names_none : (c : Asker) (place : Place) (separator : List ℕ) (index : ℕ) (spent : Spent) (lines : List (List ℕ)) (m : MachineState) →
    let r = ran c place separator None index spent lines m in r.refused_at ≡ None
unfolding ran
ran_names_none c place separator index spent [] m = refl
ran_names_none c place separator index spent (line ∷ lines) m =
    follow_names_none separator index (spent_behind place line m spent) m (λ n t. ran c place separator None (suc index) n lines t)
    (attempted c place spent line m)
    (λ n t. ran_names_none c place separator (suc index) n lines t)

-- so it is with an event
pub of_ran_place : (c : ℕ) (s : State) (r : Ran) (ending : Ending) → let a = of_ran c s r ending in a.refused_at ≡ r.refused_at
of_ran_place c s r Answered = refl
of_ran_place c s r Closed = refl
of_ran_place c s r Killed = refl
of_ran_place c s r (Waits mask) = refl

abbrev pub ActReaches : Option ℕ → Acted → Acted → Type 0
ActReaches refused a free = (a.refused_at ≡ refused) ⊎ (a ≡ free)

runs_reaches : (c : ℕ) (s : State) (refused : Option ℕ) (r free : Ran) → Reaches refused r free →
    ActReaches refused (runs c s r) (runs c s free)
runs_reaches c s refused r free (inl e) = inl (of_ran_place c s r r.ending ∙ e)
runs_reaches c s refused r free (inr e) = inr (ap (runs c s) e)

asked_reaches : (c : ℕ) (refused : Option ℕ) (s : State) (request : Request) →
    ActReaches refused (asked c refused s request) (asked c None s request)
asked_reaches c refused s (Single line) = runs_reaches c s refused _ _ (ran_reaches (asking c s) Alone [] refused 0 (begun c s) (line ∷ []) s.machine)
asked_reaches c refused s (CommandList lines) = runs_reaches c s refused _ _ (ran_reaches (asking c s) InList [] refused 0 (begun c s) lines s.machine)
asked_reaches c refused s (OkList lines) = runs_reaches c s refused _ _ (ran_reaches (asking c s) InList list_ok refused 0 (begun c s) lines s.machine)
asked_reaches c refused s Noidle = inr refl

requested_reaches : (c : ℕ) (refused : Option ℕ) (s : State) (request : Request) (found : Option (Option Subsystems)) →
    ActReaches refused (requested_by c refused s request found) (requested_by c None s request found)
requested_reaches c refused s request None = inr refl
requested_reaches c refused s request (Some None) = asked_reaches c refused s request
requested_reaches c refused s request (Some (Some mask)) = inr refl

acted_reaches : (s : State) (event : Event) (refused : Option ℕ) → ActReaches refused (acted s event refused) (acted s event None)
acted_reaches s (events.Connect c) refused = inr refl
acted_reaches s (events.Request c request) refused = requested_reaches c refused s request (waiting_of (watched s.clients c))
acted_reaches s (events.Gone c) refused = inr refl
acted_reaches s (events.Fed ticket frames) refused = inr refl
acted_reaches s (events.Ended ticket) refused = inr refl
acted_reaches s (events.Broken ticket cause) refused = inr refl
acted_reaches s (events.Batch job changes) refused = inr refl
acted_reaches s (events.Missing job songs) refused = inr refl
acted_reaches s (events.ScanDone job) refused = inr refl
acted_reaches s (events.Clock time) refused = inr refl
acted_reaches s (events.Keep ticket) refused = inr refl
acted_reaches s (events.Resume plays) refused = inr refl
acted_reaches s (events.Room is_there) refused = inr refl
acted_reaches s (events.Picture c told) refused = inr refl

settles_reaches : (refused : Option ℕ) (a free : Acted) → ActReaches refused a free →
    (let now = settles a in now.refused_at ≡ refused) ⊎ (settles a ≡ settles free)
settles_reaches refused a free (inl e) = inl e
settles_reaches refused a free (inr e) = inr (ap settles e)

pub step_reaches : (s : State) (event : Event) (refused : Option ℕ) →
    ((step s event refused).refused_at ≡ refused) ⊎ (step s event refused ≡ step s event None)
unfolding step
step_reaches s event refused = settles_reaches refused (acted s event refused) (acted s event None) (acted_reaches s event refused)

ran_place : (c : ℕ) (s : State) (r : Ran) → r.refused_at ≡ None → let a = runs c s r in a.refused_at ≡ None
ran_place c s r none = of_ran_place c s r r.ending ∙ none

asked_names_none : (c : ℕ) (s : State) (request : Request) → let a = asked c None s request in a.refused_at ≡ None
asked_names_none c s (Single line) = ran_place c s _ (ran_names_none (asking c s) Alone [] 0 (begun c s)
    (line ∷ []) s.machine)
asked_names_none c s (CommandList lines) = ran_place c s _ (ran_names_none (asking c s) InList [] 0 (begun c s) lines s.machine)
asked_names_none c s (OkList lines) = ran_place c s _ (ran_names_none (asking c s) InList list_ok 0 (begun c s) lines s.machine)
asked_names_none c s Noidle = refl

waiting_names_none : (noidle : Bool) (c : ℕ) (s : State) → let a = waits_no_more noidle c s in a.refused_at ≡ None
waiting_names_none true c s = refl
waiting_names_none false c s = refl

requested_names_none : (c : ℕ) (s : State) (request : Request) (found : Option (Option Subsystems)) →
    let a = requested_by c None s request found in a.refused_at ≡ None
requested_names_none c s request None = refl
requested_names_none c s request (Some None) = asked_names_none c s request
requested_names_none c s request (Some (Some mask)) = waiting_names_none (is_noidle request) c s

connect_names_none : (c : ℕ) (s : State) (found : Option Watched) → let a = connects_client c s found in a.refused_at ≡ None
connect_names_none c s None = refl
connect_names_none c s (Some w) = refl

acted_names_none : (s : State) (event : Event) → let a = acted s event None in a.refused_at ≡ None
acted_names_none s (events.Connect c) = connect_names_none c s (watched s.clients c)
acted_names_none s (events.Request c request) = requested_names_none c s request (waiting_of (watched s.clients c))
acted_names_none s (events.Gone c) = refl
acted_names_none s (events.Fed ticket frames) = refl
acted_names_none s (events.Ended ticket) = refl
acted_names_none s (events.Broken ticket cause) = refl
acted_names_none s (events.Batch job changes) = refl
acted_names_none s (events.Missing job songs) = refl
acted_names_none s (events.ScanDone job) = refl
acted_names_none s (events.Clock time) = refl
acted_names_none s (events.Keep ticket) = refl
acted_names_none s (events.Resume plays) = refl
acted_names_none s (events.Room is_there) = refl
acted_names_none s (events.Picture c told) = refl

pub step_names_none : (s : State) (event : Event) → (step s event None).refused_at ≡ None
unfolding step
step_names_none s event = acted_names_none s event
