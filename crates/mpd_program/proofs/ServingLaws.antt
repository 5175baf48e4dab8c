-- Serving events one after the other.
use Rattle.std.proofs.Common.{◌≤◌, true, false, length, ◌==◌, ◌≡◌, ◌≢◌, ◌⊎◌, inl, inr, ℕ, List, [], ◌∷◌, ◌++◌, Option, Result, Ok, Err}
use Rattle.std.proofs.Common.{OnOk, refl, sym, subst, ◌∙◌, ap, append_assoc, arith}
use Rattle.std.specs.Borrow.{MutBor}
use Rattle.std.specs.Io.KnownBytes.{Appends, Keeps}
use Rattle.std.proofs.lemmas.List.{append-nil, nil_from_length, map-append}
use Rattle.std.proofs.lemmas.Bool.{eqb-true}
use Rattle.disk_model.specs.Faults.{HasGrown}
use Rattle.disk_model.specs.History.{Change}
use Rattle.disk_model.specs.Later.{AreLater}
use Rattle.disk_model.proofs.LaterLaws.{pair_begin, pair_on}
use Rattle.disk_model.proofs.MomentLaws.{counts_now}
use Rattle.command_text.specs.declared.request.Request.{Request}
use Rattle.play_journal.specs.Calls.{SameFaults}
use Rattle.daemon_core.specs.declared.event.Event.{Event}
use Rattle.daemon_core.specs.declared.event.Event.TheVariants as events
use Rattle.daemon_core.specs.State.{State}
use Rattle.daemon_core.specs.declared.outcome.Output.{Output}
use Rattle.daemon_core.specs.Step.{Stepped, step}
use Rattle.daemon_core.specs.Replay.{Entry, stepped}
use Rattle.live_stage.specs.declared.refusal.LiveError.{LiveError}
use Rattle.live_stage.specs.declared.refusal.LiveError.TheVariants.{Broken, NoMemory, NumbersSpent}
use Rattle.live_stage.specs.Answer.{IsBeforeOrAfter}
use Rattle.live_stage.specs.LiveState.{LiveState}
use Rattle.live_stage.specs.Turns.{IsStill, TellsFaults}
use Rattle.live_stage.proofs.TurnLaws.{error_is, still_state, still_usable as stays_usable}
use Rattle.live_stage.specs.Found.{AllFindSince}
use Rattle.live_stage.specs.Transcript.{replayed}
use Rattle.client_session.specs.Session.{SessionState}
use Rattle.client_session.proofs.ByteLaws.{appends_nothing, appends_twice, keeps_itself}
use Rattle.mpd_program.specs.Console.{bytes_to, asked, asked_by, asked_in, ComesInTurn}
use Rattle.mpd_program.specs.Serving.{given_from, KeepsOpen, KeepsTurns, KeepsOpenBefore, ClosesLast, WritesFront, StaysOpen, Writes}
use Rattle.mpd_program.specs.Serving.{Leaves, ServesEvents, ending_of, ending_with, Fares, Serves, IsUsable}
use Rattle.mpd_program.specs.declared.console.Ending.{Ending}
use Rattle.mpd_program.specs.declared.console.Ending.TheVariants.{Whole, Cut, Faulted}
use Rattle.mpd_program.specs.declared.console.serving.Service.{Service}
use Rattle.mpd_program.proofs.ByteLaws.{front_all, front_none, front_behind}

-- ---- one history after another

pub replayed-append : (s : State) (later earlier : List Entry) → replayed s (later ++ earlier) ≡ replayed (replayed s earlier) later
replayed-append s [] earlier = refl
replayed-append s (entry ∷ later) earlier =
    ap (λ (t : State). let now : Stepped = stepped t entry in now.after) (replayed-append s later earlier)

given_from-append : (c : ℕ) (s : State) (later earlier : List Entry)
    → given_from c s (later ++ earlier) ≡ given_from c s earlier ++ given_from c (replayed s earlier) later
given_from-append c s [] earlier = sym (append-nil (given_from c s earlier))
given_from-append c s (entry ∷ later) earlier =
    let last : State → List ℕ = λ t. (let now : Stepped = stepped t entry in bytes_to c now.outputs) in
    ap (λ (v : List ℕ). v ++ last (replayed s (later ++ earlier))) (given_from-append c s later earlier)
    ∙ ap (λ (t : State). (given_from c s earlier ++ given_from c (replayed s earlier) later) ++ last t) (replayed-append s later earlier)
    ∙ append_assoc (given_from c s earlier) (given_from c (replayed s earlier) later) (last (replayed (replayed s earlier) later))

asked_in-append : (later earlier : List Entry) → asked_in (later ++ earlier) ≡ asked_in earlier ++ asked_in later
asked_in-append [] earlier = sym (append-nil (asked_in earlier))
asked_in-append (entry ∷ later) earlier = ap (λ (v : List Event). v ++ asked entry.event) (asked_in-append later earlier)
    ∙ append_assoc (asked_in earlier) (asked_in later) (asked entry.event)

keeps_turns-append : (s : State) (later earlier : List Entry) → KeepsTurns s earlier → KeepsTurns (replayed s earlier) later
    → KeepsTurns s (later ++ earlier)
keeps_turns-append s [] earlier h k = h
keeps_turns-append s (entry ∷ later) earlier h k = (
  subst (λ (t : State). ComesInTurn t.machine.job entry.event) (sym (replayed-append s later earlier)) k.0,
  keeps_turns-append s later earlier h k.1,
)

keeps_open-append : (s : State) (later earlier : List Entry) → KeepsOpen s earlier → KeepsOpen (replayed s earlier) later
    → KeepsOpen s (later ++ earlier)
keeps_open-append s [] earlier h k = h
keeps_open-append s (entry ∷ later) earlier h k = (
  subst (λ (t : State). let now : Stepped = stepped t entry in now.closes ≡ []) (sym (replayed-append s later earlier)) k.0,
  keeps_open-append s later earlier h k.1,
)

closes_last-append : (s : State) (later earlier : List Entry) → KeepsOpen s earlier → ClosesLast (replayed s earlier) later
    → ClosesLast s (later ++ earlier)
closes_last-append s [] earlier h k = absurd k
closes_last-append s (entry ∷ later) earlier h k = (
  subst (λ (t : State). let now : Stepped = stepped t entry in now.closes ≢ []) (sym (replayed-append s later earlier)) k.0,
  keeps_open-append s later earlier h k.1,
)

open_before : (s : State) (history : List Entry) → KeepsOpen s history → KeepsOpenBefore s history
open_before s [] h = tt
open_before s (entry ∷ earlier) h = h.1

keeps_open_before-append : (s : State) (later earlier : List Entry) → KeepsOpen s earlier → KeepsOpenBefore (replayed s earlier) later
    → KeepsOpenBefore s (later ++ earlier)
keeps_open_before-append s [] earlier h k = open_before s earlier h
keeps_open_before-append s (entry ∷ later) earlier h k = keeps_open-append s later earlier h k

-- a front of later events, behind all of earlier ones
behind_all : (later earlier : List Entry) (first second behind : List Event) → asked_in earlier ≡ first → asked_in later ++ behind ≡ second
    → asked_in (later ++ earlier) ++ behind ≡ first ++ second
behind_all later earlier first second behind all front =
    ap (λ (v : List Event). v ++ behind) (asked_in-append later earlier)
    ∙ append_assoc (asked_in earlier) (asked_in later) behind
    ∙ ap (λ (v : List Event). v ++ (asked_in later ++ behind)) all
    ∙ ap (λ (v : List Event). first ++ v) front

-- ---- events after events

pub ok_under : {T E : Type 0} (A B : Type 0) (result : Result T E) → (A → B) → OnOk result A → OnOk result B
ok_under A B (Ok done) given a = given a
ok_under A B (Err e) given a = tt

opens_on : (result : Result (Unit {0}) Ending) (s : State) (later earlier : List Entry) → KeepsOpen s earlier
    → StaysOpen result (replayed s earlier) later → StaysOpen result s (later ++ earlier)
opens_on (Ok done) s later earlier h k = keeps_open-append s later earlier h k
opens_on (Err Whole) s later earlier h k = closes_last-append s later earlier h k
opens_on (Err Cut) s later earlier h k = keeps_open_before-append s later earlier h k
opens_on (Err Faulted) s later earlier h k = keeps_open-append s later earlier h k

writes_on : (result : Result (Unit {0}) Ending) (earlier later : List ℕ) (first now after : Option (List ℕ)) → Appends first now earlier
    → Writes result later now after → Writes result (earlier ++ later) first after
writes_on (Ok done) earlier later first now after h k = appends_twice first now after earlier later h k
writes_on (Err Whole) earlier later first now after h k = appends_twice first now after earlier later h k
writes_on (Err Cut) earlier later first now after h k = front_behind earlier later first now after h k
writes_on (Err Faulted) earlier later first now after h k = appends_twice first now after earlier later h k

-- nothing was to be served
pub nothing_served : (Honest : Type 0) (c : ℕ) (s : State) (a b : List Change) (before : Option (List ℕ))
    → ServesEvents Honest c [] s s a b before before (Ok tt)
nothing_served Honest c s a b before = record {
  history = [];
  behind = [];
  front = refl;
  in_turn = tt;
  stays_open = tt;
  state = λ other. refl;
  written = appends_nothing before;
  left = refl;
}

-- none of these events was served
pub none_served : (Honest : Type 0) (c : ℕ) (events : List Event) (s t : State) (a b : List Change) (before after : Option (List ℕ))
    → t ≡ s → Keeps before after → ServesEvents Honest c events s t a b before after (Err Cut)
none_served Honest c events s t a b before after same kept = record {
  history = [];
  behind = events;
  front = refl;
  in_turn = tt;
  stays_open = tt;
  state = λ other. same;
  written = front_none [] before after kept;
  left = tt;
}

-- what was asked for where all was served
pub all_asked : {Honest : Type 0} {c : ℕ} {events : List Event} {s t : State} {a b : List Change} {before after : Option (List ℕ)}
    {done : Unit {0}} (p : ServesEvents Honest c events s t a b before after (Ok done)) → asked_in p.history ≡ events
all_asked p = sym (append-nil (asked_in p.history)) ∙ ap (λ (v : List Event). asked_in p.history ++ v) (sym p.left) ∙ p.front

-- all events were served, and then more
events_on : (Honest : Type 0) (c : ℕ) (events more : List Event) (s t u : State) (x y a b : List Change)
    (before now after : Option (List ℕ)) (done : Unit {0}) (result : Result (Unit {0}) Ending)
    → ServesEvents Honest c events s t x y before now (Ok done) → ServesEvents Honest c more t u a b now after result
    → ServesEvents Honest c (events ++ more) s u a b before after result
events_on Honest c events more s t u x y a b before now after done result p served =
    let q : ServesEvents Honest c more (replayed s p.history) u a b now after result =
    subst (λ (v : State). ServesEvents Honest c more v u a b now after result) (p.state (λ is. cc)) served in
    record {
      history = q.history ++ p.history;
      behind = q.behind;
      front = behind_all q.history p.history events more q.behind (all_asked p) q.front;
      in_turn = keeps_turns-append s q.history p.history p.in_turn q.in_turn;
      stays_open = opens_on result s q.history p.history p.stays_open q.stays_open;
      state = λ other. q.state other ∙ sym (replayed-append s q.history p.history);
      written = subst (λ (v : List ℕ). Writes result v before after) (sym (given_from-append c s q.history p.history))
          (writes_on result _ _ before now after p.written q.written);
      left = subst (λ (v : State). Leaves Honest result v q.behind a b) (sym (replayed-append s q.history p.history)) q.left;
    }

-- a weaker premise does
leaves_under : (Strong Weak : Type 0) (result : Result (Unit {0}) Ending) (t : State) (events : List Event) (a b : List Change)
    → (Strong → Weak) → Leaves Weak result t events a b → Leaves Strong result t events a b
leaves_under Strong Weak (Ok done) t events a b given h = h
leaves_under Strong Weak (Err Whole) t events a b given h = h
leaves_under Strong Weak (Err Cut) t events a b given h = h
leaves_under Strong Weak (Err Faulted) t events a b given h = record {
  event = h.event;
  behind = h.behind;
  next = h.next;
  in_turn = h.in_turn;
  holds = λ strong. h.holds (given strong);
}

pub events_under : {Strong Weak : Type 0} {c : ℕ} {events : List Event} {s t : State} {a b : List Change} {before after : Option (List ℕ)}
    {result : Result (Unit {0}) Ending}
    → (Strong → Weak) → ServesEvents Weak c events s t a b before after result → ServesEvents Strong c events s t a b before after result
events_under {Strong = Strong} {Weak = Weak} {s = s} {a = a} {b = b} {result = result} given p = record {
  history = p.history;
  behind = p.behind;
  front = p.front;
  in_turn = p.in_turn;
  stays_open = p.stays_open;
  state = p.state;
  written = p.written;
  left = leaves_under Strong Weak result (replayed s p.history) p.behind a b given p.left;
}

-- the bytes by another name
pub written_as : {Honest : Type 0} {c : ℕ} {events : List Event} {s t : State} {a b : List Change} {before now after : Option (List ℕ)}
    {result : Result (Unit {0}) Ending}
    → now ≡ after → ServesEvents Honest c events s t a b before now result → ServesEvents Honest c events s t a b before after result
written_as {Honest = Honest} {c = c} {events = events} {s = s} {t = t} {a = a} {b = b} {before = before} {result = result} same p =
    subst (λ (v : Option (List ℕ)). ServesEvents Honest c events s t a b before v result) same p

-- more events that were not served
leaves_more : (Honest : Type 0) (ending : Ending) (t : State) (events more : List Event) (a b : List Change)
    → Leaves Honest (Err ending) t events a b → Leaves Honest (Err ending) t (events ++ more) a b
leaves_more Honest Whole t events more a b h = h
leaves_more Honest Cut t events more a b h = h
leaves_more Honest Faulted t events more a b h = record {
  event = h.event;
  behind = h.behind ++ more;
  next = ap (λ (v : List Event). v ++ more) h.next ∙ append_assoc (asked h.event) h.behind more;
  in_turn = h.in_turn;
  holds = h.holds;
}

events_before : (Honest : Type 0) (c : ℕ) (events more : List Event) (s t : State) (a b : List Change) (before after : Option (List ℕ))
    (ending : Ending) → ServesEvents Honest c events s t a b before after (Err ending)
    → ServesEvents Honest c (events ++ more) s t a b before after (Err ending)
events_before Honest c events more s t a b before after ending p = record {
  history = p.history;
  behind = p.behind ++ more;
  front = sym (append_assoc (asked_in p.history) p.behind more) ∙ ap (λ (v : List Event). v ++ more) p.front;
  in_turn = p.in_turn;
  stays_open = p.stays_open;
  state = p.state;
  written = p.written;
  left = leaves_more Honest ending (replayed s p.history) p.behind more a b p.left;
}

-- all that was to be served was, and more could not be
events_cut : (Honest : Type 0) (c : ℕ) (events : List Event) (s t : State) (a b : List Change) (before after : Option (List ℕ))
    (done : Unit {0}) → ServesEvents Honest c events s t a b before after (Ok done)
    → ServesEvents Honest c events s t a b before after (Err Cut)
events_cut Honest c events s t a b before after done p = record {
  history = p.history;
  behind = p.behind;
  front = p.front;
  in_turn = p.in_turn;
  stays_open = open_before s p.history p.stays_open;
  state = λ other. p.state (λ is. cc);
  written = front_all (given_from c s p.history) before after p.written;
  left = tt;
}

-- ---- one event

pub none_where : (closes : List ℕ) → true ≡ (length closes == 0) → closes ≡ []
none_where closes is = nil_from_length closes (eqb-true (length closes) 0 (sym is))

pub some_where : (closes : List ℕ) → false ≡ (length closes == 0) → closes ≢ []
some_where [] is = absurd (cc)
some_where (c ∷ closes) is = λ none. cc

module _ (Honest : Type 0) (c : ℕ) (event : Event) (k : Option ℕ) (s t : State) (outputs : List Output) (closes : List ℕ)
    (a b : List Change) (before after : Option (List ℕ)) (state : let now = step s event k in t ≡ now.after)
    (given : let now = step s event k in outputs ≡ now.outputs) (closed : let now = step s event k in closes ≡ now.closes)
    (turn : ComesInTurn s.machine.job event) where
  pub one_answered : closes ≡ [] → Appends before after (bytes_to c outputs)
      → ServesEvents Honest c (asked event) s t a b before after (Ok tt)
  one_answered none written = record {
    history = record { event = event; refused = k } ∷ [];
    behind = [];
    front = append-nil (asked event);
    in_turn = (turn, tt);
    stays_open = (sym closed ∙ none, tt);
    state = λ other. state;
    written = subst (λ (v : List Output). Appends before after (bytes_to c v)) given written;
    left = refl;
  }

  pub one_closed : closes ≢ [] → Appends before after (bytes_to c outputs)
      → ServesEvents Honest c (asked event) s t a b before after (Err Whole)
  one_closed some written = record {
    history = record { event = event; refused = k } ∷ [];
    behind = [];
    front = append-nil (asked event);
    in_turn = (turn, tt);
    stays_open = (λ none. some (closed ∙ none), tt);
    state = λ other. state;
    written = subst (λ (v : List Output). Appends before after (bytes_to c v)) given written;
    left = tt;
  }

  pub one_cut : WritesFront (bytes_to c outputs) before after → ServesEvents Honest c (asked event) s t a b before after (Err Cut)
  one_cut written = record {
    history = record { event = event; refused = k } ∷ [];
    behind = [];
    front = append-nil (asked event);
    in_turn = (turn, tt);
    stays_open = tt;
    state = λ other. state;
    written = subst (λ (v : List Output). WritesFront (bytes_to c v) before after) given written;
    left = tt;
  }

-- a disk failed in an event
pub one_failed : (Honest : Type 0) (c : ℕ) (event : Event) (s r : State) (a b : List Change) (t u : ℕ) (before : Option (List ℕ))
    → (Honest → (k : Option ℕ) × AllFindSince (IsBeforeOrAfter s event k) a t b u)
    → ComesInTurn s.machine.job event → ServesEvents Honest c (asked event) s r a b before before (Err Faulted)
one_failed Honest c event s r a b t u before found turn = record {
  history = [];
  behind = asked event;
  front = refl;
  in_turn = tt;
  stays_open = tt;
  state = λ other. absurd (other refl);
  written = appends_nothing before;
  left = record {
    event = event;
    behind = [];
    next = sym (append-nil (asked event));
    in_turn = turn;
    holds = λ honest. let either = found honest in
        (either.0, λ x y at_x at_y. either.1 x y (counts_now a t x at_x) (counts_now b u y at_y));
  };
}

-- an event was refused
pub one_refused : {D : Type 0} (Honest : Type 0) (c : ℕ) (event : Event) (old new : LiveState D) (e : LiveError) (a b : List Change)
    (t u : ℕ) (before : Option (List ℕ))
    → (Honest → (k : Option ℕ) × AllFindSince (IsBeforeOrAfter old.state event k) a t b u)
    → ComesInTurn old.state.machine.job event → (e ≢ Broken → IsStill old new)
    → ServesEvents Honest c (asked event) old.state new.state a b before before (Err (ending_of e))
one_refused Honest c event old new Broken a b t u before found turn stays =
    one_failed Honest c event old.state new.state a b t u before found turn
one_refused Honest c event old new NoMemory a b t u before found turn stays =
    none_served Honest c (asked event) old.state new.state a b before before (still_state old new (stays (λ is. cc))) (keeps_itself before)
one_refused Honest c event old new NumbersSpent a b t u before found turn stays =
    none_served Honest c (asked event) old.state new.state a b before before (still_state old new (stays (λ is. cc))) (keeps_itself before)

-- ---- the stage

still_usable : {D : Type 0} (old new : LiveState D) (e : LiveError) → old.is_broken ≡ false → (e ≢ Broken → IsStill old new)
    → ending_of e ≢ Faulted → new.is_broken ≡ false
still_usable old new Broken usable stays other = absurd (other refl)
still_usable old new NoMemory usable stays other = stays_usable old new usable (stays (λ is. cc))
still_usable old new NumbersSpent usable stays other = stays_usable old new usable (stays (λ is. cc))

only_broken : (e : LiveError) → ending_of e ≡ Faulted → e ≡ Broken
only_broken Broken is = refl
only_broken NoMemory is = cc
only_broken NumbersSpent is = cc

pub not_faulted : (result : Result (Unit {0}) Ending) (ending : Ending) → ending_with result ≡ ending → ending ≢ Faulted
    → result ≢ Err Faulted
not_faulted result ending is other faulted = other (sym is ∙ ap ending_with faulted)

grown_since : (first old new : ℕ) → first ≤ old → HasGrown old new → HasGrown first new
grown_since first old new later grown = λ below. let more = grown below in omega (arith, later, more)

-- a fault that came later
pub failed_since : (first_a first_b old_a old_b new_a new_b : ℕ) → first_a ≤ old_a → first_b ≤ old_b
    → HasGrown old_a new_a ⊎ HasGrown old_b new_b → HasGrown first_a new_a ⊎ HasGrown first_b new_b
failed_since first_a first_b old_a old_b new_a new_b later_a later_b (inl grown) = inl (grown_since first_a old_a new_a later_a grown)
failed_since first_a first_b old_a old_b new_a new_b later_a later_b (inr grown) = inr (grown_since first_b old_b new_b later_b grown)

module _ {D : Type 0} {honest : D → Type 0} {history : D → List Change} {faults : D → ℕ} where
  -- nothing was done
  pub fares_still : (live : LiveState D) (result : Result (Unit {0}) Ending) → result ≢ Err Faulted → live.is_broken ≡ false
      → Fares honest history faults live live result
  fares_still live result other usable = record {
    usable = λ same. record { usable = usable; met_none = record { a = refl; b = refl } };
    failed = λ ha hb is. absurd (other is);
    later = pair_begin honest history faults live.a live.b;
  }

  -- an event was handled
  pub fares_on_event : (old new : LiveState D) (result : Result (Unit {0}) Ending) → result ≢ Err Faulted → new.is_broken ≡ false
      → SameFaults faults old.a old.b new.a new.b → AreLater honest history faults old.a old.b new.a new.b
      → Fares honest history faults old new result
  fares_on_event old new result other usable same later = record {
    usable = λ is. record { usable = usable; met_none = same };
    failed = λ ha hb is. absurd (other is);
    later = later;
  }

  -- an event was refused
  pub fares_refused : {T : Type 0} (old new : LiveState D) (e : LiveError) → old.is_broken ≡ false → (e ≢ Broken → IsStill old new)
      → (let answer : Result T LiveError = Err e in TellsFaults honest faults old new answer)
      → AreLater honest history faults old.a old.b new.a new.b → Fares honest history faults old new (Err (ending_of e))
  fares_refused old new e usable stays told later = record {
    usable = λ other. record {
      usable = still_usable old new e usable stays (λ is. other (ap Err is));
      met_none = told.met_none (λ is. other (ap (λ (v : LiveError). Err (ending_of v)) (error_is e Broken is)));
    };
    failed = λ ha hb is. let same : ending_of e ≡ Faulted = (cc) in told.failed ha hb usable (ap Err (only_broken e same));
    later = later;
  }

  pub fares_on : (first old new : LiveState D) (done : Unit {0}) (result : Result (Unit {0}) Ending)
      → Fares honest history faults first old (Ok done) → Fares honest history faults old new result
      → Fares honest history faults first new result
  fares_on first old new done result p q = record {
    usable = λ other. let before = p.usable (λ is. cc) in let after = q.usable other in record {
      usable = after.usable;
      met_none = record { a = after.met_none.a ∙ before.met_none.a; b = after.met_none.b ∙ before.met_none.b };
    };
    failed = λ ha hb is. failed_since (faults first.a) (faults first.b) (faults old.a) (faults old.b) (faults new.a) (faults new.b)
        p.later.a.counted p.later.b.counted (q.failed (p.later.a.honesty.0 ha) (p.later.b.honesty.0 hb) is);
    later = pair_on p.later q.later;
  }

-- ---- services

module _ {D F W : Type 0} {honest : D → Type 0} {history : D → List Change} {faults : D → ℕ} {contents : W → Option (List ℕ)} where
  pub serves_by : {events : List Event} {old new : Service D F W} {result : Result (Unit {0}) Ending}
      → ServesEvents (honest old.live.a × honest old.live.b) old.client events old.live.state new.live.state
      (history new.live.a) (history new.live.b) (contents old.writer.now) (contents new.writer.now) result
      → Fares honest history faults old.live new.live result → OnOk result (new.session ≡ old.session) → new.client ≡ old.client
      → new.writer.ghost_name ≡ old.writer.ghost_name → Serves honest history faults contents events old new result
  serves_by served stage session same_client same_writer =
      record { served = served; stage = stage; session = session; same_client = same_client; same_writer = same_writer }

  -- nothing was to be served
  pub serves_none : (service : Service D F W) → service.live.is_broken ≡ false
      → Serves honest history faults contents [] service service (Ok tt)
  serves_none service usable =
      serves_by (nothing_served _ _ _ _ _ _) (fares_still service.live (Ok tt) (λ is. cc) usable) refl refl refl

  pub serves_on : {events more : List Event} {old now new : Service D F W} {done : Unit {0}} {result : Result (Unit {0}) Ending}
      → Serves honest history faults contents events old now (Ok done) → Serves honest history faults contents more now new result
      → Serves honest history faults contents (events ++ more) old new result
  serves_on {events = events} {more = more} {old = old} {now = now} {new = new} {done = done} {result = result} p q =
      let later : ServesEvents (honest old.live.a × honest old.live.b) now.client more now.live.state new.live.state
      (history new.live.a) (history new.live.b) (contents now.writer.now) (contents new.writer.now) result =
      events_under (λ h. (p.stage.later.a.honesty.0 h.0, p.stage.later.b.honesty.0 h.1)) q.served in
      serves_by
      (events_on (honest old.live.a × honest old.live.b) old.client events more old.live.state now.live.state new.live.state
      (history now.live.a) (history now.live.b) (history new.live.a) (history new.live.b)
      (contents old.writer.now) (contents now.writer.now) (contents new.writer.now) done result p.served
      (subst (λ (c : ℕ). ServesEvents (honest old.live.a × honest old.live.b) c more now.live.state new.live.state
      (history new.live.a) (history new.live.b) (contents now.writer.now) (contents new.writer.now) result) p.same_client later))
      (fares_on old.live now.live new.live done result p.stage q.stage)
      (ok_under _ _ result (λ (is : new.session ≡ now.session). is ∙ p.session) q.session)
      (q.same_client ∙ p.same_client) (q.same_writer ∙ p.same_writer)

  -- more events that were not served
  pub serves_before : {events : List Event} (more : List Event) {old new : Service D F W} {ending : Ending}
      → Serves honest history faults contents events old new (Err ending)
      → Serves honest history faults contents (events ++ more) old new (Err ending)
  serves_before more p =
      serves_by (events_before _ _ _ more _ _ _ _ _ _ _ p.served) p.stage tt p.same_client p.same_writer

  -- all that was to be served was, and more could not be
  pub serves_cut : {events : List Event} {old new : Service D F W} {done : Unit {0}}
      → Serves honest history faults contents events old new (Ok done) → Serves honest history faults contents events old new (Err Cut)
  serves_cut {old = old} {new = new} p =
      serves_by (events_cut _ _ _ _ _ _ _ _ _ _ p.served)
      (record { usable = λ other. p.stage.usable (λ is. cc); failed = λ ha hb is. absurd (cc); later = p.stage.later })
      tt p.same_client p.same_writer

  -- sessions aside
  pub over_sessions : {events : List Event} {old new : Service D F W} {result : Result (Unit {0}) Ending} (first last : SessionState)
      → OnOk result (last ≡ first) → Serves honest history faults contents events old new result
      → Serves honest history faults contents events (record old { session = first }) (record new { session = last }) result
  over_sessions first last same p = serves_by p.served p.stage same p.same_client p.same_writer

  -- what was read of the folder aside
  pub over_folder : {events : List Event} {old new : Service D F W} {result : Result (Unit {0}) Ending} (folder : MutBor F)
      → Serves honest history faults contents events old new result
      → Serves honest history faults contents events old (record new { folder = folder }) result
  over_folder folder p = serves_by p.served p.stage p.session p.same_client p.same_writer

  -- a service that has served all can be used
  pub usable_on : {events : List Event} {old new : Service D F W} {done : Unit {0}}
      → Serves honest history faults contents events old new (Ok done) → IsUsable old → IsUsable new
  usable_on p was = record {
    stage = (let now = p.stage.usable (λ is. cc) in now.usable);
    sent = ap (λ (s : SessionState). s.queued) p.session ∙ was.sent;
  }

-- ---- requests

-- of all these requests some were served, and these are left
pub record ServesRequests {D F W : Type 0} (honest : D → Type 0) (history : D → List Change) (faults : D → ℕ)
    (contents : W → Option (List ℕ)) (all left : List Request) (first now : Service D F W) : Type 0 where
  pub done : List Request
  pub parts : done ++ left ≡ all
  pub so_far : Serves honest history faults contents (asked_by first.client done) first now (Ok tt)

pub asked_by-append : (c : ℕ) (xs ys : List Request) → asked_by c (xs ++ ys) ≡ asked_by c xs ++ asked_by c ys
asked_by-append c xs ys = map-append (λ r. events.Request c r) xs ys

one_more : (c now : ℕ) (done : List Request) (request : Request) → now ≡ c
    → asked_by c done ++ events.Request now request ∷ [] ≡ asked_by c (done ++ request ∷ [])
one_more c now done request same =
    ap (λ (n : ℕ). asked_by c done ++ events.Request n request ∷ []) same ∙ sym (asked_by-append c done (request ∷ []))

module _ {D F W : Type 0} {honest : D → Type 0} {history : D → List Change} {faults : D → ℕ} {contents : W → Option (List ℕ)} where
  pub requests_begin : {all left : List Request} (first : Service D F W) → left ≡ all → first.live.is_broken ≡ false
      → ServesRequests honest history faults contents all left first first
  requests_begin first same usable = record { done = []; parts = same; so_far = serves_none first usable }

  pub requests_on : {all left behind : List Request} {request : Request} {first old new : Service D F W} {done : Unit {0}}
      → left ≡ request ∷ behind → ServesRequests honest history faults contents all left first old
      → Serves honest history faults contents (events.Request old.client request ∷ []) old new (Ok done)
      → ServesRequests honest history faults contents all behind first new
  requests_on {request = request} {first = first} {old = old} {new = new} is far served = record {
    done = far.done ++ request ∷ [];
    parts = append_assoc far.done (request ∷ []) _ ∙ ap (λ (v : List Request). far.done ++ v) (sym is) ∙ far.parts;
    so_far = subst (λ (v : List Event). Serves honest history faults contents v first new (Ok tt))
        (one_more first.client old.client far.done request far.so_far.same_client) (serves_on far.so_far served);
  }

  pub requests_stop : {all left behind : List Request} {request : Request} {first old new : Service D F W} {ending : Ending}
      → left ≡ request ∷ behind → ServesRequests honest history faults contents all left first old
      → Serves honest history faults contents (events.Request old.client request ∷ []) old new (Err ending)
      → Serves honest history faults contents (asked_by first.client all) first new (Err ending)
  requests_stop {all = all} {behind = behind} {request = request} {first = first} {old = old} {new = new} {ending = ending} is far served =
      let joined : (asked_by first.client far.done ++ events.Request old.client request ∷ []) ++ asked_by first.client behind
      ≡ asked_by first.client all =
      ap (λ (v : List Event). v ++ asked_by first.client behind)
      (one_more first.client old.client far.done request far.so_far.same_client)
      ∙ sym (asked_by-append first.client (far.done ++ request ∷ []) behind)
      ∙ ap (asked_by first.client) (append_assoc far.done (request ∷ []) behind)
      ∙ ap (λ (v : List Request). asked_by first.client (far.done ++ v)) (sym is)
      ∙ ap (asked_by first.client) far.parts in
      subst (λ (v : List Event). Serves honest history faults contents v first new (Err ending)) joined
      (serves_before (asked_by first.client behind) (serves_on far.so_far served))

  pub requests_all : {all left : List Request} {first now : Service D F W} → left ≡ []
      → ServesRequests honest history faults contents all left first now
      → Serves honest history faults contents (asked_by first.client all) first now (Ok tt)
  requests_all {first = first} {now = now} none far =
      subst (λ (v : List Request). Serves honest history faults contents (asked_by first.client v) first now (Ok tt))
      (sym (append-nil far.done) ∙ ap (λ (v : List Request). far.done ++ v) (sym none) ∙ far.parts) far.so_far
