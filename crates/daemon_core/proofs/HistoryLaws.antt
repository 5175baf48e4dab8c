-- Along a history the clients agree with what happened, and so the outputs are the replies.
use Rattle.std.proofs.Common.{◌≡◌, ℕ, ◌<◌, Bool, true, false, ◌&&◌, ◌||◌, ◌==◌, List, [], ◌∷◌, ◌++◌, Option, Some, None, filter, map, cond}
use Rattle.std.proofs.Common.{refl, sym, ◌∙◌, ap, arith, eq-eqb, ltb-true}
use Rattle.std.specs.Prelude.{nat_lt, unwrap_or}
use Rattle.std.specs.List.{list_any, filter_map, AllByRecursion, cons_option}
use Rattle.std.proofs.lemmas.Bool.{ne_eqb, false≢true}
use Rattle.command_text.specs.Answer.{list_ok}
use Rattle.command_text.specs.declared.place.Place.TheVariants.{Alone, InList}
use Rattle.command_text.specs.declared.request.Request.{Request}
use Rattle.command_text.specs.declared.request.Request.TheVariants.{Single, List as CommandList, OkList, Noidle}
use Rattle.idle_masks.specs.Subsystems.{contains, none, union, intersection, is_empty}
use Rattle.idle_masks.specs.Watched.{newcomer, watched, left, told_to_wait, with_waiting, grown, due, report_of, reports_of}
use Rattle.idle_masks.specs.Watched.{reported}
use Rattle.idle_masks.specs.Watched.{after_reports}
use Rattle.idle_masks.specs.declared.subsystem.Subsystems.{Subsystems}
use Rattle.idle_masks.specs.declared.watch.Watched.{Watched}
use Rattle.state_codec.specs.SavedState.{SavedState}
use Rattle.daemon_core.specs.Agreement.{Rises, Agree, AgreeBut}
use Rattle.daemon_core.specs.Pending.{Moment, connects, is_pending, news, pending_of, with_news}
use Rattle.daemon_core.specs.Replay.{Entry, stepped, replay, moments, moment_of, report_if, reported_by, told_waiting, reply}
use Rattle.daemon_core.specs.Run.{Ran, ran}
use Rattle.daemon_core.specs.Session.{Acted, of_ran, runs, happened}
use Rattle.daemon_core.specs.State.{State}
use Rattle.machine_core.specs.Happening.{Happening}
use Rattle.machine_core.specs.Keeping.{kept_event, when_kept, when_resumed}
use Rattle.machine_core.specs.Missing.{when_missed}
use Rattle.machine_core.specs.Reports.{when_fed, when_ended, when_broken}
use Rattle.machine_core.specs.Room.{when_room}
use Rattle.machine_core.specs.Scanning.{when_found, when_scanned}
use Rattle.daemon_core.specs.Step.{asking, begun, connects_client, asked, asked_waiting, requested_by, waiting_of, acted, told_to, step}
use Rattle.daemon_core.specs.declared.event.Event.{Event}
use Rattle.daemon_core.specs.declared.event.Event.TheVariants as events
use Rattle.daemon_core.specs.declared.outcome.Ending.{Ending}
use Rattle.daemon_core.specs.declared.outcome.Ending.TheVariants.{Answered, Closed, Killed, Waits}
use Rattle.daemon_core.proofs.PendingLaws.{contains-set_of, set_ext, agree_after, pending_more, client-reported}

-- what an event did leaves clients that rise and agree with what happened before
pub record Keeps (earlier : List Moment) (a : Acted) : Type 0 where
  pub rises : Rises a.after.clients
  pub agree : AgreeBut (moment_of a) earlier a.after.clients
  pub quiet : (c : ℕ) → connects c (moment_of a) ≡ true → news a.changed a.notified c ≡ none

-- Filters keep what is said of each client.
all_one : (P : Watched → Type 0) (w : Watched) (ws : List Watched) (b : Bool) → P w → AllByRecursion P ws →
    AllByRecursion P (cond b (w ∷ ws) ws)
all_one P w ws true h k = (h, k)
all_one P w ws false h k = k

all-filter : (P : Watched → Type 0) (p : Watched → Bool) (ws : List Watched) → AllByRecursion P ws → AllByRecursion P (filter p ws)
all-filter P p [] h = tt
all-filter P p (w ∷ ws) h = all_one P w (filter p ws) (p w) h.0 (all-filter P p ws h.1)

rises_one : (w : Watched) (ws : List Watched) (b : Bool) → AllByRecursion (λ v. w.client < v.client) ws → Rises ws →
    Rises (cond b (w ∷ ws) ws)
rises_one w ws true h k = (h, k)
rises_one w ws false h k = k

rises-filter : (p : Watched → Bool) (ws : List Watched) → Rises ws → Rises (filter p ws)
rises-filter p [] h = tt
rises-filter p (w ∷ ws) h = rises_one w (filter p ws) (p w) (all-filter (λ v. w.client < v.client) p ws h.0) (rises-filter p ws h.1)

-- Waiting or not changes no number and no pending set.
told_number : (c : ℕ) (mask : Option Subsystems) (w : Watched) (b : Bool) →
    let v = cond b (record w { waiting = mask }) w in v.client ≡ w.client
told_number c mask w true = refl
told_number c mask w false = refl

told_pending : (c : ℕ) (mask : Option Subsystems) (w : Watched) (b : Bool) →
    let v = cond b (record w { waiting = mask }) w in v.pending ≡ w.pending
told_pending c mask w true = refl
told_pending c mask w false = refl

rises-with_waiting : (c : ℕ) (mask : Option Subsystems) (ws : List Watched) → Rises ws → Rises (with_waiting ws c mask)
rises-with_waiting c mask [] h = tt
rises-with_waiting c mask (w ∷ ws) h = (above ws h.0, rises-with_waiting c mask ws h.1)
  where
    above : (vs : List Watched) → AllByRecursion (λ v. w.client < v.client) vs →
        AllByRecursion (λ v. let u = told_to_wait c mask w in u.client < v.client) (with_waiting vs c mask)
    above [] a = tt
    above (v ∷ vs) a = (omega (arith, a.0, told_number c mask w (w.client == c), told_number c mask v (v.client == c)), above vs a.1)

agree-with_waiting : (earlier : List Moment) (c : ℕ) (mask : Option Subsystems) (ws : List Watched) → Agree earlier ws →
    Agree earlier (with_waiting ws c mask)
agree-with_waiting earlier c mask [] h = tt
agree-with_waiting earlier c mask (w ∷ ws) h = (
  told_pending c mask w (w.client == c) ∙ h.0 ∙ ap (pending_of earlier) (sym (told_number c mask w (w.client == c))),
  agree-with_waiting earlier c mask ws h.1,
)

-- a client that joins stands in its place
rises_between : (c : ℕ) (xs ys : List Watched) → Rises xs → AllByRecursion (λ w. w.client < c) xs → Rises ys →
    AllByRecursion (λ w. c < w.client) ys →
    Rises (xs ++ newcomer c ∷ ys)
rises_between c [] ys rx below ry above = (above, ry)
rises_between c (x ∷ xs) ys rx below ry above = (front xs rx.0, rises_between c xs ys rx.1 below.1 ry above)
  where
    back : (zs : List Watched) → AllByRecursion (λ w. c < w.client) zs → AllByRecursion (λ w. x.client < w.client) zs
    back [] h = tt
    back (z ∷ zs) h = (omega (arith, h.0, below.0), back zs h.1)

    front : (zs : List Watched) → AllByRecursion (λ w. x.client < w.client) zs →
        AllByRecursion (λ w. x.client < w.client) (zs ++ newcomer c ∷ ys)
    front [] h = (below.0, back ys above)
    front (z ∷ zs) h = (h.0, front zs h.1)

one_tested : (P : Watched → Type 0) (w : Watched) (ws : List Watched) (b : Bool) → (b ≡ true → P w) → AllByRecursion P ws →
    AllByRecursion P (cond b (w ∷ ws) ws)
one_tested P w ws true h k = (h refl, k)
one_tested P w ws false h k = k

all_tested : (P : Watched → Type 0) (p : Watched → Bool) → ((w : Watched) → p w ≡ true → P w) → (ws : List Watched) →
    AllByRecursion P (filter p ws)
all_tested P p passes [] = tt
all_tested P p passes (w ∷ ws) = one_tested P w (filter p ws) (p w) (passes w) (all_tested P p passes ws)

below_filtered : (c : ℕ) (ws : List Watched) → AllByRecursion (λ w. w.client < c) (filter (λ w. nat_lt w.client c) ws)
below_filtered c ws = all_tested (λ w. w.client < c) (λ w. nat_lt w.client c) (λ w h. ltb-true w.client c h) ws

above_filtered : (c : ℕ) (ws : List Watched) → AllByRecursion (λ w. c < w.client) (filter (λ w. nat_lt c w.client) ws)
above_filtered c ws = all_tested (λ w. c < w.client) (λ w. nat_lt c w.client) (λ w h. ltb-true c w.client h) ws

agree_others : (c : ℕ) (earlier : List Moment) (m : Moment) (ws : List Watched) → m.connected ≡ Some c → Agree earlier ws →
    AllByRecursion (λ w. (c == w.client) ≡ false) ws → AgreeBut m earlier ws
agree_others c earlier m [] is agree others = tt
agree_others c earlier m (w ∷ ws) is agree others = (
  agree.0 ∙ sym (ap (λ b. cond b none (pending_of earlier w.client))
      (ap (λ o. elim o [ None ↦ false | Some d ↦ d == w.client ]) is ∙ others.0)),
  agree_others c earlier m ws is agree.1 others.1,
)

agree-append : (m : Moment) (earlier : List Moment) (xs ys : List Watched) → AgreeBut m earlier xs → AgreeBut m earlier ys →
    AgreeBut m earlier (xs ++ ys)
agree-append m earlier [] ys h k = k
agree-append m earlier (x ∷ xs) ys h k = (h.0, agree-append m earlier xs ys h.1 k)

different_below : (c : ℕ) (ws : List Watched) → AllByRecursion (λ w. w.client < c) ws → AllByRecursion (λ w. (c == w.client) ≡ false) ws
different_below c [] h = tt
different_below c (w ∷ ws) h = (ne_eqb c w.client (λ e. omega (arith, h.0, e)), different_below c ws h.1)

different_above : (c : ℕ) (ws : List Watched) → AllByRecursion (λ w. c < w.client) ws → AllByRecursion (λ w. (c == w.client) ≡ false) ws
different_above c [] h = tt
different_above c (w ∷ ws) h = (ne_eqb c w.client (λ e. omega (arith, h.0, e)), different_above c ws h.1)

-- The kinds of event.
keeps_connect : (earlier : List Moment) (c : ℕ) (s : State) (found : Option Watched) → Rises s.clients → Agree earlier s.clients →
    Keeps earlier (connects_client c s found)
keeps_connect earlier c s (Some w) rises agree = record { rises = rises; agree = agree; quiet = λ _ _. refl }
keeps_connect earlier c s None rises agree = let m : Moment = moment_of (connects_client c s None) in record {
  rises = rises_between c _ _ (rises-filter _ s.clients rises) (below_filtered c s.clients) (rises-filter _ s.clients rises)
      (above_filtered c s.clients);
  agree = agree-append m earlier _ (newcomer c ∷ filter (λ w. nat_lt c w.client) s.clients)
      (agree_others c earlier m _ refl (all-filter _ _ s.clients agree) (different_below c _ (below_filtered c s.clients))) (
        ap (λ b. cond b none (pending_of earlier c)) (sym (eq-eqb c c refl)),
        agree_others c earlier m _ refl (all-filter _ _ s.clients agree) (different_above c _ (above_filtered c s.clients)),
      );
  quiet = λ _ _. refl;
}

keeps_left : (earlier : List Moment) (c : ℕ) (ws : List Watched) → Rises ws → Agree earlier ws →
    Rises (left ws c) × Agree earlier (left ws c)
keeps_left earlier c ws rises agree = (rises-filter _ ws rises, all-filter _ _ ws agree)

keeps_ran : (earlier : List Moment) (c : ℕ) (s : State) (r : Ran) (ending : Ending) → Rises s.clients → Agree earlier s.clients →
    Keeps earlier (of_ran c s r ending)
keeps_ran earlier c s r Answered rises agree = record { rises = rises; agree = agree; quiet = λ d e. absurd (false≢true e) }
keeps_ran earlier c s r Closed rises agree =
    let k = keeps_left earlier c s.clients rises agree in
    record { rises = k.0; agree = k.1; quiet = λ d e. absurd (false≢true e) }
keeps_ran earlier c s r Killed rises agree = record { rises = tt; agree = tt; quiet = λ d e. absurd (false≢true e) }
keeps_ran earlier c s r (Waits mask) rises agree = record {
  rises = rises-with_waiting c (Some mask) s.clients rises;
  agree = agree-with_waiting earlier c (Some mask) s.clients agree;
  quiet = λ d e. absurd (false≢true e);
}

keeps_runs : (earlier : List Moment) (c : ℕ) (s : State) (r : Ran) → Rises s.clients → Agree earlier s.clients → Keeps earlier (runs c s r)
keeps_runs earlier c s r rises agree = keeps_ran earlier c s r r.ending rises agree

keeps_asked : (earlier : List Moment) (c : ℕ) (refused : Option ℕ) (s : State) (request : Request) → Rises s.clients →
    Agree earlier s.clients → Keeps earlier (asked c refused s request)
keeps_asked earlier c refused s (Single line) rises agree =
    keeps_runs earlier c s (ran (asking c s) Alone [] refused 0 (begun c s) (line ∷ []) s.machine) rises agree
keeps_asked earlier c refused s (CommandList lines) rises agree =
    keeps_runs earlier c s (ran (asking c s) InList [] refused 0 (begun c s) lines s.machine) rises agree
keeps_asked earlier c refused s (OkList lines) rises agree =
    keeps_runs earlier c s (ran (asking c s) InList list_ok refused 0 (begun c s) lines s.machine) rises agree
keeps_asked earlier c refused s Noidle rises agree = record { rises = rises; agree = agree; quiet = λ _ _. refl }

keeps_waiting : (earlier : List Moment) (c : ℕ) (s : State) (request : Request) → Rises s.clients → Agree earlier s.clients →
    Keeps earlier (asked_waiting c s request)
keeps_waiting earlier c s (Single line) rises agree = let k =
    keeps_left earlier c s.clients rises agree in record { rises = k.0; agree = k.1; quiet = λ _ _. refl }
keeps_waiting earlier c s (CommandList lines) rises agree = let k =
    keeps_left earlier c s.clients rises agree in record { rises = k.0; agree = k.1; quiet = λ _ _. refl }
keeps_waiting earlier c s (OkList lines) rises agree = let k =
    keeps_left earlier c s.clients rises agree in record { rises = k.0; agree = k.1; quiet = λ _ _. refl }
keeps_waiting earlier c s Noidle rises agree = record {
  rises = rises-with_waiting c None s.clients rises;
  agree = agree-with_waiting earlier c None s.clients agree;
  quiet = λ _ _. refl;
}

keeps_requested : (earlier : List Moment) (c : ℕ) (refused : Option ℕ) (s : State) (request : Request)
    (found : Option (Option Subsystems)) → Rises s.clients → Agree earlier s.clients →
    Keeps earlier (requested_by c refused s request found)
keeps_requested earlier c refused s request None rises agree = record { rises = rises; agree = agree; quiet = λ _ _. refl }
keeps_requested earlier c refused s request (Some None) rises agree = keeps_asked earlier c refused s request rises agree
keeps_requested earlier c refused s request (Some (Some mask)) rises agree = keeps_waiting earlier c s request rises agree

keeps_happened : (earlier : List Moment) (s : State) (h : Happening) → Rises s.clients → Agree earlier s.clients →
    Keeps earlier (happened s h)
keeps_happened earlier s h rises agree = record { rises = rises; agree = agree; quiet = λ d e. absurd (false≢true e) }

pub keeps_acted : (earlier : List Moment) (s : State) (event : Event) (refused : Option ℕ) → Rises s.clients → Agree earlier s.clients →
    Keeps earlier (acted s event refused)
keeps_acted earlier s (events.Connect c) refused rises agree = keeps_connect earlier c s (watched s.clients c) rises agree
keeps_acted earlier s (events.Request c request) refused rises agree =
    keeps_requested earlier c refused s request (waiting_of (watched s.clients c)) rises agree
keeps_acted earlier s (events.Gone c) refused rises agree =
    let k = keeps_left earlier c s.clients rises agree in record { rises = k.0; agree = k.1; quiet = λ _ _. refl }
keeps_acted earlier s (events.Fed ticket frames) refused rises agree =
    keeps_happened earlier s (when_fed ticket frames s.machine) rises agree
keeps_acted earlier s (events.Ended ticket) refused rises agree =
    keeps_happened earlier s (kept_event s.machine (when_ended ticket s.machine)) rises agree
keeps_acted earlier s (events.Broken ticket cause) refused rises agree =
    keeps_happened earlier s (kept_event s.machine (when_broken ticket cause s.machine)) rises agree
keeps_acted earlier s (events.Batch job changes) refused rises agree =
    keeps_happened earlier s (kept_event s.machine (when_found job changes s.machine)) rises agree
keeps_acted earlier s (events.Missing job songs) refused rises agree =
    keeps_happened earlier s (when_missed job songs s.machine) rises agree
keeps_acted earlier s (events.ScanDone job) refused rises agree = keeps_happened earlier s (when_scanned job s.machine) rises agree
keeps_acted earlier s (events.Clock time) refused rises agree =
    record { rises = rises; agree = agree; quiet = λ d e. absurd (false≢true e) }
keeps_acted earlier s (events.Keep ticket) refused rises agree = keeps_happened earlier s (when_kept ticket s.machine) rises agree
keeps_acted earlier s (events.Resume plays) refused rises agree =
    keeps_happened earlier s (when_resumed plays s.machine) rises agree
keeps_acted earlier s (events.Room is_there) refused rises agree =
    keeps_happened earlier s (when_room is_there s.machine) rises agree
keeps_acted earlier s (events.Picture c told) refused rises agree =
    record { rises = rises; agree = agree; quiet = λ d e. absurd (false≢true e) }

reported_number : (changed : Subsystems) (w : Watched) → let v = reported (grown changed w) in v.client ≡ w.client
reported_number changed w = client-reported (grown changed w) (is_empty (due (grown changed w)))

-- the state agrees with its history
pub record Holds (kept : SavedState) (history : List Entry) : Type 0 where
  pub rises : let s = replay kept history in Rises s.clients
  pub agree : let s = replay kept history in Agree (moments kept history) s.clients

rises_after : (ws : List Watched) (changed : Subsystems) (notified : List ℕ) → Rises ws →
    Rises (after_reports (with_news changed notified ws))
rises_after [] changed notified h = tt
rises_after (w ∷ ws) changed notified h = (above ws h.0, rises_after ws changed notified h.1)
  where
    above : (vs : List Watched) → AllByRecursion (λ v. w.client < v.client) vs →
        AllByRecursion (λ v. let u = reported (grown (news changed notified w.client) w) in u.client < v.client)
        (after_reports (with_news changed notified vs))
    above [] a = tt
    above (v ∷ vs) a = (
      omega (arith, a.0, reported_number (news changed notified w.client) w, reported_number (news changed notified v.client) v),
      above vs a.1,
    )

-- What is due to a waiting client is what is pending for it by the history.
or_comm_false : (a b : Bool) → (a || b) ≡ (b || a)
or_comm_false true true = refl
or_comm_false true false = refl
or_comm_false false true = refl
or_comm_false false false = refl

abbrev news_in : Moment → Watched → Subsystems
news_in m w = news m.changed m.notified w.client

grown_by_history : (m : Moment) (earlier : List Moment) (w : Watched) (fresh : Bool) → m.reports ≡ [] → connects w.client m ≡ fresh →
    w.pending ≡ cond fresh none (pending_of earlier w.client) → (fresh ≡ true → news_in m w ≡ none) →
    union w.pending (news_in m w) ≡ pending_of (m ∷ earlier) w.client
grown_by_history m earlier w true silent f was quiet = set_ext _ _ (λ x.
    contains-set_of (λ y. contains w.pending y || contains (news_in m w) y) x
    ∙ ap (λ b. b || contains (news_in m w) x) (ap (λ s. contains s x) was ∙ contains-set_of (λ _. false) x)
    ∙ ap (λ s. contains s x) (quiet refl) ∙ contains-set_of (λ _. false) x
    ∙ sym (contains-set_of (is_pending (m ∷ earlier) w.client) x ∙ pending_more m earlier w.client x true _ f refl))
grown_by_history m earlier w false silent f was quiet = set_ext _ _ (λ x.
    contains-set_of (λ y. contains w.pending y || contains (news_in m w) y) x
    ∙ ap (λ b. b || contains (news_in m w) x) (ap (λ s. contains s x) was ∙ contains-set_of (is_pending earlier w.client) x)
    ∙ or_comm_false (is_pending earlier w.client x) (contains (news_in m w) x)
    ∙ sym (contains-set_of (is_pending (m ∷ earlier) w.client) x
    ∙ pending_more m earlier w.client x false false f (ap (list_any (λ r. (r.client == w.client) && contains r.changed x)) silent)))

and_none : (a : Bool) → (a && false) ≡ false
and_none true = refl
and_none false = refl

pub intersection-none : (s : Subsystems) → intersection s none ≡ none
intersection-none s = set_ext _ _ (λ x.
    contains-set_of (λ y. contains s y && contains none y) x
    ∙ ap (λ b. contains s x && b) (contains-set_of (λ _. false) x) ∙ and_none (contains s x) ∙ sym (contains-set_of (λ _. false) x))

one_told : (so_far : List Moment) (changed : Subsystems) (w : Watched) (waiting : Option Subsystems) → w.waiting ≡ waiting →
    union w.pending changed ≡ pending_of so_far w.client →
    report_of (grown changed w) ≡ told_waiting so_far w.client waiting
one_told so_far changed w None waits same =
    ap (report_if w.client)
    (ap (λ mask. intersection (union w.pending changed) (unwrap_or mask none)) waits ∙ intersection-none (union w.pending changed))
one_told so_far changed w (Some mask) waits same =
    ap (report_if w.client)
    (ap (λ m. intersection (union w.pending changed) (unwrap_or m none)) waits ∙ ap (λ s. intersection s mask) same)

all_told : (a : Acted) (earlier : List Moment) (ws : List Watched) → AgreeBut (moment_of a) earlier ws →
    ((c : ℕ) → connects c (moment_of a) ≡ true → news a.changed a.notified c ≡ none) →
    reports_of (with_news a.changed a.notified ws) ≡ filter_map (λ w. told_waiting (moment_of a ∷ earlier) w.client w.waiting) ws
all_told a earlier [] agree quiet = refl
all_told a earlier (w ∷ ws) agree quiet =
    ap (λ o. cons_option o (reports_of (with_news a.changed a.notified ws)))
    (one_told (moment_of a ∷ earlier) (news a.changed a.notified w.client) w w.waiting refl
    (grown_by_history (moment_of a) earlier w (connects w.client (moment_of a)) refl refl agree.0 (quiet w.client)))
    ∙ ap (cons_option (told_waiting (moment_of a ∷ earlier) w.client w.waiting)) (all_told a earlier ws agree.1 quiet)

pub holds : (kept : SavedState) (history : List Entry) → Holds kept history
unfolding replay moments step
holds kept [] = record { rises = tt; agree = tt }
holds kept (entry ∷ earlier) =
    let before = holds kept earlier in
    let a : Acted = acted (replay kept earlier) entry.event entry.refused in
    let k = keeps_acted (moments kept earlier) (replay kept earlier) entry.event entry.refused before.rises before.agree in
    record {
      rises = rises_after a.after.clients a.changed a.notified k.rises;
      agree = agree_after (record (moment_of a) { reports = reported_by (moments kept earlier) a }) (moments kept earlier) a.after.clients
          k.rises k.agree k.quiet (sym (all_told a (moments kept earlier) a.after.clients k.agree k.quiet));
    }

pub outputs_are_replies : (kept : SavedState) (earlier : List Entry) (entry : Entry) →
    (stepped (replay kept earlier) entry).outputs ≡ reply kept earlier entry
unfolding step reply
outputs_are_replies kept earlier entry =
    let before = holds kept earlier in
    let a : Acted = acted (replay kept earlier) entry.event entry.refused in
    let k = keeps_acted (moments kept earlier) (replay kept earlier) entry.event entry.refused before.rises before.agree in
    ap (λ reports. a.answer ++ map told_to reports) (all_told a (moments kept earlier) a.after.clients k.agree k.quiet)

pub moments_are_the_steps : (kept : SavedState) (earlier : List Entry) (entry : Entry) →
    let now = stepped (replay kept earlier) entry in moments kept (entry ∷ earlier) ≡ now.moment ∷ moments kept earlier
unfolding step moments
moments_are_the_steps kept earlier entry =
    let before = holds kept earlier in
    let a : Acted = acted (replay kept earlier) entry.event entry.refused in
    let k = keeps_acted (moments kept earlier) (replay kept earlier) entry.event entry.refused before.rises before.agree in
    ap (λ reports. record (moment_of a) { reports = reports } ∷ moments kept earlier)
    (sym (all_told a (moments kept earlier) a.after.clients k.agree k.quiet))
