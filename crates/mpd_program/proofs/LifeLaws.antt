-- The lives of a console.
use Rattle.std.proofs.Common.{◌≡◌, ◌≢◌, ◌⊎◌, inl, inr, ℕ, List, [], ◌∷◌, ◌++◌, Option, Some, None, Result, Ok, Err, refl, subst, ◌∙◌, ap}
use Rattle.std.proofs.Common.{OnOk, sym}
use Rattle.std.specs.Prelude.{IsSome}
use Rattle.std.specs.Io.KnownBytes.{Appends, Consumes, Keeps}
use Rattle.disk_model.specs.History.{Change}
use Rattle.state_codec.specs.SavedState.{SavedState}
use Rattle.daemon_core.specs.declared.event.Event.{Event}
use Rattle.daemon_core.specs.State.{State, start}
use Rattle.daemon_core.specs.Step.{Stepped}
use Rattle.daemon_core.specs.Replay.{Entry, stepped, replay}
use Rattle.daemon_core.proofs.HistoryLaws.{outputs_are_replies}
use Rattle.profile.specs.declared.profile.Profile.{Profile}
use Rattle.live_stage.specs.declared.refusal.StartError.{StartError}
use Rattle.live_stage.specs.declared.refusal.StartError.TheVariants.{NotEmpty, NoJournal, Damaged, NoMemory, NumbersSpent, Broken}
use Rattle.live_stage.specs.Errors.{IsRefusalOfOpen, IsCause, start_number_of}
use Rattle.live_stage.specs.Found.{found_state, AllFindNow, AllOpenNow, KeepsFoundState}
use Rattle.live_stage.specs.Transcript.{replayed}
use Rattle.live_stage.proofs.RunLaws.{replayed_from_start}
use Rattle.client_session.specs.Requests.{requests_of}
use Rattle.mpd_program.specs.Console.{bytes_to, given, events_of, ClosesNone, ClosesAtLast, ClosesNoneBefore, ComesInTurn, JobsInTurn}
use Rattle.mpd_program.specs.Console.{asked_in, RunsNone}
use Rattle.mpd_program.specs.Lives.{Moment, HasFailed, IsWhole, IsCut, FailsInEvent, IsFaulted, IsRefused, IsLife, refusal_of}
use Rattle.mpd_program.specs.Serving.{given_from, KeepsOpen, KeepsTurns, KeepsOpenBefore, ClosesLast, ServesEvents, IsAllRead, ending_with}
use Rattle.mpd_program.specs.declared.console.Ending.{Ending}
use Rattle.mpd_program.specs.declared.console.Ending.TheVariants.{Whole, Cut, Faulted}
use Rattle.mpd_program.proofs.ServingLaws.{all_asked}

-- ---- histories that begin with what was kept

given_at_start : (c : ℕ) (kept : SavedState) (history : List Entry) → given_from c (start kept) history ≡ given c kept history
given_at_start c kept [] = refl
given_at_start c kept (entry ∷ earlier) =
    ap (λ (v : List ℕ). v ++ (let now : Stepped = stepped (replayed (start kept) earlier) entry in bytes_to c now.outputs))
    (given_at_start c kept earlier)
    ∙ ap (λ (t : State). given c kept earlier ++ (let now : Stepped = stepped t entry in bytes_to c now.outputs))
    (replayed_from_start kept earlier)
    ∙ ap (λ v. given c kept earlier ++ bytes_to c v) (outputs_are_replies kept earlier entry)

open_at_start : (kept : SavedState) (history : List Entry) → KeepsOpen (start kept) history → ClosesNone kept history
open_at_start kept [] h = tt
open_at_start kept (entry ∷ earlier) h = (
  subst (λ (t : State). let now : Stepped = stepped t entry in now.closes ≡ []) (replayed_from_start kept earlier) h.0,
  open_at_start kept earlier h.1,
)

closed_at_start : (kept : SavedState) (history : List Entry) → ClosesLast (start kept) history → ClosesAtLast kept history
closed_at_start kept [] h = h
closed_at_start kept (entry ∷ earlier) h = (
  subst (λ (t : State). let now : Stepped = stepped t entry in now.closes ≢ []) (replayed_from_start kept earlier) h.0,
  open_at_start kept earlier h.1,
)

before_at_start : (kept : SavedState) (history : List Entry) → KeepsOpenBefore (start kept) history → ClosesNoneBefore kept history
before_at_start kept [] h = tt
before_at_start kept (entry ∷ earlier) h = open_at_start kept earlier h

turns_at_start : (kept : SavedState) (history : List Entry) → KeepsTurns (start kept) history → JobsInTurn kept history
turns_at_start kept [] h = tt
turns_at_start kept (entry ∷ earlier) h = (
  subst (λ (t : State). ComesInTurn t.machine.job entry.event) (replayed_from_start kept earlier) h.0,
  turns_at_start kept earlier h.1,
)

-- a restart finds this state
Holds : State → List Change → List Change → Type 0
Holds t a b = AllFindNow (λ f. f ≡ Some t.machine.saved) a b

-- or the one after this event
HoldsEither : State → Event → List Change → List Change → Type 0
HoldsEither x event a b =
    (refused : Option ℕ)
    × AllFindNow (λ f. (f ≡ Some x.machine.saved)
    ⊎ (let now = stepped x (record { event = event; refused = refused }) in f ≡ Some now.after.machine.saved)) a b

-- ---- a life whose journal was opened

whole_by_end : (profile : Profile) (Honest : Type 0) (c : ℕ) (first last : Moment) (kept : SavedState) (t : State) (read : List ℕ) (done : Unit {0})
    → (Honest → found_state profile first.content_a first.content_b ≡ Some kept) → kept.profile ≡ profile → Consumes first.input last.input read
    → ServesEvents Honest c (events_of c (requests_of read)) (start kept) t last.history_a last.history_b first.output last.output (Ok done)
    → IsAllRead read last.input → RunsNone t.machine.job
    → (Honest → AllFindNow (λ f. f ≡ Some t.machine.saved) last.history_a last.history_b) → IsWhole profile Honest c first last
unfolding Holds
whole_by_end profile Honest c first last kept t read done found own consumed p at_end idle holds =
    let same : t ≡ replay kept p.history = p.state (λ is. cc) ∙ replayed_from_start kept p.history in
    record {
      kept = kept;
      read = read;
      history = p.history;
      consumed = consumed;
      in_turn = turns_at_start kept p.history p.in_turn;
      served = inl (record {
        all = all_asked p;
        stays_open = open_at_start kept p.history p.stays_open;
        idle = subst (λ (v : State). RunsNone v.machine.job) same idle;
        at_end = at_end;
      });
      written = subst (Appends first.output last.output) (given_at_start c kept p.history) p.written;
      found = found;
      own = own;
      holds = λ honest. subst (λ (v : State). Holds v last.history_a last.history_b) same (holds honest);
    }

whole_by_close : (profile : Profile) (Honest : Type 0) (c : ℕ) (first last : Moment) (kept : SavedState) (t : State) (read : List ℕ)
    → (Honest → found_state profile first.content_a first.content_b ≡ Some kept) → kept.profile ≡ profile → Consumes first.input last.input read
    → ServesEvents Honest c (events_of c (requests_of read)) (start kept) t last.history_a last.history_b first.output last.output
    (Err Whole)
    → (Honest → AllFindNow (λ f. f ≡ Some t.machine.saved) last.history_a last.history_b) → IsWhole profile Honest c first last
unfolding Holds
whole_by_close profile Honest c first last kept t read found own consumed p holds = record {
  kept = kept;
  read = read;
  history = p.history;
  consumed = consumed;
  in_turn = turns_at_start kept p.history p.in_turn;
  served = inr (record { behind = p.behind; front = p.front; closed = closed_at_start kept p.history p.stays_open });
  written = subst (Appends first.output last.output) (given_at_start c kept p.history) p.written;
  found = found;
  own = own;
  holds = λ honest. subst (λ (v : State). Holds v last.history_a last.history_b)
      (p.state (λ is. cc) ∙ replayed_from_start kept p.history) (holds honest);
}

cut_life : (profile : Profile) (Honest : Type 0) (c : ℕ) (first last : Moment) (kept : SavedState) (t : State) (read : List ℕ)
    → (Honest → found_state profile first.content_a first.content_b ≡ Some kept) → kept.profile ≡ profile → Consumes first.input last.input read
    → ServesEvents Honest c (events_of c (requests_of read)) (start kept) t last.history_a last.history_b first.output last.output (Err Cut)
    → (Honest → AllFindNow (λ f. f ≡ Some t.machine.saved) last.history_a last.history_b) → IsCut profile Honest c first last
unfolding Holds
cut_life profile Honest c first last kept t read found own consumed p holds = record {
  kept = kept;
  read = read;
  history = p.history;
  behind = p.behind;
  written = p.written.written;
  unwritten = p.written.unwritten;
  consumed = consumed;
  front = p.front;
  stays_open = before_at_start kept p.history p.stays_open;
  in_turn = turns_at_start kept p.history p.in_turn;
  parts = p.written.parts ∙ given_at_start c kept p.history;
  appended = p.written.appended;
  found = found;
  own = own;
  holds = λ honest. subst (λ (v : State). Holds v last.history_a last.history_b)
      (p.state (λ is. cc) ∙ replayed_from_start kept p.history) (holds honest);
}

fault_in_event : (profile : Profile) (Honest : Type 0) (c : ℕ) (first last : Moment) (kept : SavedState) (t : State) (read : List ℕ)
    → (Honest → found_state profile first.content_a first.content_b ≡ Some kept) → kept.profile ≡ profile → Consumes first.input last.input read
    → ServesEvents Honest c (events_of c (requests_of read)) (start kept) t last.history_a last.history_b first.output last.output
    (Err Faulted) → FailsInEvent profile Honest c first last
unfolding HoldsEither replay
fault_in_event profile Honest c first last kept t read found own consumed p = record {
  kept = kept;
  read = read;
  history = p.history;
  event = p.left.event;
  behind = p.left.behind;
  consumed = consumed;
  front = ap (λ (v : List Event). asked_in p.history ++ v) (sym p.left.next) ∙ p.front;
  stays_open = open_at_start kept p.history p.stays_open;
  in_turn = turns_at_start kept (record { event = p.left.event; refused = None } ∷ p.history) (p.left.in_turn, p.in_turn);
  written = subst (Appends first.output last.output) (given_at_start c kept p.history) p.written;
  found = found;
  own = own;
  holds = λ honest. subst (λ (v : State). HoldsEither v p.left.event last.history_a last.history_b) (replayed_from_start kept p.history)
      (p.left.holds honest);
}

served_life : (profile : Profile) (Honest : Type 0) (c : ℕ) (first last : Moment) (kept : SavedState) (t : State) (read : List ℕ)
    (result : Result (Unit {0}) Ending)
    → (Honest → found_state profile first.content_a first.content_b ≡ Some kept) → kept.profile ≡ profile → Consumes first.input last.input read
    → ServesEvents Honest c (events_of c (requests_of read)) (start kept) t last.history_a last.history_b first.output last.output result
    → OnOk result (IsAllRead read last.input × RunsNone t.machine.job)
    → (result ≢ Err Faulted → Honest → AllFindNow (λ f. f ≡ Some t.machine.saved) last.history_a last.history_b)
    → (result ≡ Err Faulted → Honest → HasFailed first last)
    → IsLife profile Honest c (Ok (ending_with result)) first last
served_life profile Honest c first last kept t read (Ok done) found own consumed p at_end holds failed =
    whole_by_end profile Honest c first last kept t read done found own consumed p at_end.0 at_end.1 (holds (λ is. cc))
served_life profile Honest c first last kept t read (Err Whole) found own consumed p at_end holds failed =
    whole_by_close profile Honest c first last kept t read found own consumed p (holds (λ is. cc))
served_life profile Honest c first last kept t read (Err Cut) found own consumed p at_end holds failed =
    cut_life profile Honest c first last kept t read found own consumed p (holds (λ is. cc))
served_life profile Honest c first last kept t read (Err Faulted) found own consumed p at_end holds failed = record {
  place = inr (fault_in_event profile Honest c first last kept t read found own consumed p);
  failed = failed refl;
}

pub opened_life : (profile : Profile) (Honest : Type 0) (c : ℕ) (first last : Moment) (s t : State) (read : List ℕ) (result : Result (Unit {0}) Ending)
    → s ≡ start s.machine.saved → (Honest → found_state profile first.content_a first.content_b ≡ Some s.machine.saved) → s.machine.saved.profile ≡ profile
    → Consumes first.input last.input read
    → ServesEvents Honest c (events_of c (requests_of read)) s t last.history_a last.history_b first.output last.output result
    → OnOk result (IsAllRead read last.input × RunsNone t.machine.job)
    → (result ≢ Err Faulted → Honest → AllFindNow (λ f. f ≡ Some t.machine.saved) last.history_a last.history_b)
    → (result ≡ Err Faulted → Honest → HasFailed first last)
    → IsLife profile Honest c (Ok (ending_with result)) first last
opened_life profile Honest c first last s t read result begun found own consumed p at_end holds failed =
    served_life profile Honest c first last s.machine.saved t read result found own consumed
    (subst (λ (v : State). ServesEvents Honest c (events_of c (requests_of read)) v t last.history_a last.history_b first.output last.output
    result) begun p) at_end holds failed

-- ---- a life whose journal was not opened

not_a_fault : (profile : Profile) (Honest : Type 0) (c n : ℕ) (first last : Moment) (error : StartError) → IsRefusalOfOpen error → error ≢ Broken
    → (Honest → IsCause profile first.content_a first.content_b error)
    → (Honest → AllOpenNow profile (λ f. IsSome f) first.history_a first.history_b
    → (error ≡ NoMemory) ⊎ (error ≡ NumbersSpent) ⊎ (error ≡ Broken))
    → Keeps first.input last.input → Keeps first.output last.output
    → (Honest → KeepsFoundState profile first.history_a first.history_b last.history_a last.history_b)
    → n ≡ (let number : ℕ = start_number_of error in number) → IsRefused profile Honest n first last
not_a_fault profile Honest c n first last error refusal other cause opens input output holds same = record {
  error = error;
  refusal = refusal;
  not_a_fault = other;
  number = same;
  cause = cause;
  good_files = λ honest all. (elim (opens honest all) [
    | inl memory ↦ inl memory
    | inr others ↦ elim others [ inl spent ↦ inr spent | inr fault ↦ absurd (other fault) ]
  ]);
  input = input;
  output = output;
  holds = holds;
}

pub refused_life : (profile : Profile) (Honest : Type 0) (c : ℕ) (first last : Moment) (error : StartError) → IsRefusalOfOpen error
    → (Honest → IsCause profile first.content_a first.content_b error)
    → (Honest → AllOpenNow profile (λ f. IsSome f) first.history_a first.history_b
    → (error ≡ NoMemory) ⊎ (error ≡ NumbersSpent) ⊎ (error ≡ Broken))
    → Keeps first.input last.input → Keeps first.output last.output
    → (Honest → KeepsFoundState profile first.history_a first.history_b last.history_a last.history_b)
    → (Honest → error ≡ Broken → HasFailed first last)
    → IsLife profile Honest c (refusal_of error) first last
refused_life profile Honest c first last NotEmpty refusal cause opens input output holds failed = elim refusal [ ]
refused_life profile Honest c first last NoJournal refusal cause opens input output holds failed =
    not_a_fault profile Honest c 4 first last NoJournal refusal (λ is. cc) cause opens input output holds refl
refused_life profile Honest c first last (Damaged offset) refusal cause opens input output holds failed =
    not_a_fault profile Honest c 5 first last (Damaged offset) refusal (λ is. cc) cause opens input output holds refl
refused_life profile Honest c first last NoMemory refusal cause opens input output holds failed =
    not_a_fault profile Honest c 7 first last NoMemory refusal (λ is. cc) cause opens input output holds refl
refused_life profile Honest c first last NumbersSpent refusal cause opens input output holds failed =
    not_a_fault profile Honest c 49 first last NumbersSpent refusal (λ is. cc) cause opens input output holds refl
refused_life profile Honest c first last Broken refusal cause opens input output holds failed = record {
  place = inl (record { input = input; output = output; holds = holds });
  failed = λ honest. failed honest refl;
}

-- ---- a weaker premise does

faulted_under : (profile : Profile) (Strong Weak : Type 0) (c : ℕ) (first last : Moment) → (Strong → Weak) → IsFaulted profile Weak c first last
    → IsFaulted profile Strong c first last
faulted_under profile Strong Weak c first last given h = record {
  place = elim h.place [
    | inl opening ↦ inl (record { input = opening.input; output = opening.output; holds = λ strong. opening.holds (given strong) })
    | inr event ↦ inr (record {
      kept = event.kept;
      read = event.read;
      history = event.history;
      event = event.event;
      behind = event.behind;
      consumed = event.consumed;
      front = event.front;
      stays_open = event.stays_open;
      in_turn = event.in_turn;
      written = event.written;
      found = λ strong. event.found (given strong);
      own = event.own;
      holds = λ strong. event.holds (given strong);
    })
  ];
  failed = λ strong. h.failed (given strong);
}

pub life_under : (profile : Profile) (Strong Weak : Type 0) (c : ℕ) (came_to : Result Ending ℕ) (first last : Moment) → (Strong → Weak)
    → IsLife profile Weak c came_to first last → IsLife profile Strong c came_to first last
life_under profile Strong Weak c (Ok Whole) first last given h = record {
  kept = h.kept;
  read = h.read;
  history = h.history;
  consumed = h.consumed;
  served = h.served;
  in_turn = h.in_turn;
  written = h.written;
  found = λ strong. h.found (given strong);
  own = h.own;
  holds = λ strong. h.holds (given strong);
}
life_under profile Strong Weak c (Ok Cut) first last given h = record {
  kept = h.kept;
  read = h.read;
  history = h.history;
  behind = h.behind;
  written = h.written;
  unwritten = h.unwritten;
  consumed = h.consumed;
  front = h.front;
  stays_open = h.stays_open;
  in_turn = h.in_turn;
  parts = h.parts;
  appended = h.appended;
  found = λ strong. h.found (given strong);
  own = h.own;
  holds = λ strong. h.holds (given strong);
}
life_under profile Strong Weak c (Ok Faulted) first last given h = faulted_under profile Strong Weak c first last given h
life_under profile Strong Weak c (Err number) first last given h = record {
  error = h.error;
  refusal = h.refusal;
  not_a_fault = h.not_a_fault;
  number = h.number;
  cause = λ strong. h.cause (given strong);
  good_files = λ strong. h.good_files (given strong);
  input = h.input;
  output = h.output;
  holds = λ strong. h.holds (given strong);
}
