-- The clients that an event closes are those that were connected, did not go by themselves and are connected no more.
use Rattle.std.proofs.Common.{◌≡◌, ◌⊎◌, inl, inr, ℕ, ◌<◌, Bool, true, false, not, ◌||◌, ◌&&◌}
use Rattle.std.proofs.Common.{◌==◌, List, [], ◌∷◌, ◌++◌, Option, Some, None, cond, filter}
use Rattle.std.proofs.Common.{refl, sym, ◌∙◌, ap, arith, eq-eqb}
use Rattle.std.specs.Prelude.{is_some, nat_lt}
use Rattle.std.specs.List.{AllByRecursion}
use Rattle.std.proofs.lemmas.Bool.{and_right, or_left, or_right, eqb-true, eqb-false, ltb-false, ne_eqb, false≢true}
use Rattle.std.proofs.lemmas.List.{map-append}
use Rattle.std.proofs.Math.Bool.{or-false}
use Rattle.command_text.specs.Answer.{list_ok}
use Rattle.command_text.specs.declared.place.Place.TheVariants.{Alone, InList}
use Rattle.command_text.specs.declared.request.Request.{Request}
use Rattle.command_text.specs.declared.request.Request.TheVariants.{Single, List as CommandList, OkList, Noidle}
use Rattle.idle_masks.specs.Subsystems.{is_empty}
use Rattle.idle_masks.specs.Watched.{newcomer, watched, joined, left, with_waiting, grown, due, after_reports}
use Rattle.idle_masks.specs.declared.subsystem.Subsystems.{Subsystems}
use Rattle.idle_masks.specs.declared.watch.Watched.{Watched}
use Rattle.machine_core.specs.Happening.{Happening}
use Rattle.machine_core.specs.Keeping.{kept_event, when_kept, when_resumed}
use Rattle.machine_core.specs.Missing.{when_missed}
use Rattle.machine_core.specs.Reports.{when_fed, when_ended, when_broken}
use Rattle.machine_core.specs.Room.{when_room}
use Rattle.machine_core.specs.Scanning.{when_found, when_scanned}
use Rattle.state_codec.specs.SavedState.{SavedState}
use Rattle.daemon_core.specs.Agreement.{Rises}
use Rattle.daemon_core.specs.Leaving.{is_one_of, missing, still_there, with_newcomer, there, ClosesNoOther}
use Rattle.daemon_core.specs.Pending.{news, with_news}
use Rattle.daemon_core.specs.Replay.{Entry, stepped, replay}
use Rattle.daemon_core.specs.Run.{Ran, ran}
use Rattle.daemon_core.specs.Session.{Acted, happened, numbers_of, of_ran, runs}
use Rattle.daemon_core.specs.State.{State}
use Rattle.daemon_core.specs.Step.{asking, begun, connects_client, asked, waits_no_more, is_noidle, requested_by, waiting_of, acted, step}
use Rattle.daemon_core.specs.declared.event.Event.{Event}
use Rattle.daemon_core.specs.declared.event.Event.TheVariants as events
use Rattle.daemon_core.specs.declared.outcome.Ending.{Ending}
use Rattle.daemon_core.specs.declared.outcome.Ending.TheVariants.{Answered, Closed, Killed, Waits}
use Rattle.daemon_core.proofs.HistoryLaws.{holds}
use Rattle.daemon_core.proofs.PendingLaws.{client-reported}

-- Numbers.
missing-none : (ns : List ℕ) → missing ns [] ≡ ns
missing-none [] = refl
missing-none (n ∷ ns) = ap (λ ms. n ∷ ms) (missing-none ns)

missing_none_of : (ns others : List ℕ) → AllByRecursion (λ n. is_one_of others n ≡ true) ns → missing ns others ≡ []
missing_none_of [] others h = refl
missing_none_of (n ∷ ns) others h =
    ap (λ b. cond (not b) (n ∷ missing ns others) (missing ns others)) h.0 ∙ missing_none_of ns others h.1

one_more : (d : ℕ) (others ns : List ℕ) → AllByRecursion (λ n. is_one_of others n ≡ true) ns →
    AllByRecursion (λ n. is_one_of (d ∷ others) n ≡ true) ns
one_more d others [] h = tt
one_more d others (n ∷ ns) h = (or_right (n == d) (is_one_of others n) h.0, one_more d others ns h.1)

all_of_itself : (ns : List ℕ) → AllByRecursion (λ n. is_one_of ns n ≡ true) ns
all_of_itself [] = tt
all_of_itself (n ∷ ns) = (or_left (n == n) (is_one_of ns n) (eq-eqb n n refl), one_more n ns ns (all_of_itself ns))

missing_itself : (ns : List ℕ) → missing ns ns ≡ []
missing_itself ns = missing_none_of ns ns (all_of_itself ns)

filter_same : (p q : ℕ → Bool) (ns : List ℕ) → AllByRecursion (λ n. p n ≡ q n) ns → filter p ns ≡ filter q ns
filter_same p q [] h = refl
filter_same p q (n ∷ ns) h = let rest = filter_same p q ns h.1 in λ i. cond (h.0 i) (n ∷ rest i) (rest i)

one_of_kept : (p : ℕ → Bool) (c n : ℕ) (ns : List ℕ) (same keep : Bool) → (c == n) ≡ same → p n ≡ keep →
    is_one_of (filter p ns) c ≡ (is_one_of ns c && p c) →
    is_one_of (cond keep (n ∷ filter p ns) (filter p ns)) c ≡ ((same || is_one_of ns c) && p c)
one_of_kept p c n ns true true h k rest =
    ap (λ b. b || is_one_of (filter p ns) c) h ∙ sym (ap p (eqb-true c n h) ∙ k)
one_of_kept p c n ns true false h k rest =
    let gone : p c ≡ false = ap p (eqb-true c n h) ∙ k in rest ∙ and_right (is_one_of ns c) (p c) gone ∙ sym gone
one_of_kept p c n ns false true h k rest = ap (λ b. b || is_one_of (filter p ns) c) h ∙ rest
one_of_kept p c n ns false false h k rest = rest

pub one_of-filter : (p : ℕ → Bool) (c : ℕ) (ns : List ℕ) → is_one_of (filter p ns) c ≡ (is_one_of ns c && p c)
one_of-filter p c [] = refl
one_of-filter p c (n ∷ ns) =
    one_of_kept p c n ns (c == n) (p n) refl refl (one_of-filter p c ns)

or_assoc_by : (a b c : Bool) → ((a || b) || c) ≡ (a || (b || c))
or_assoc_by true b c = refl
or_assoc_by false b c = refl

one_of-append : (c : ℕ) (ns ms : List ℕ) → is_one_of (ns ++ ms) c ≡ (is_one_of ns c || is_one_of ms c)
one_of-append c [] ms = refl
one_of-append c (n ∷ ns) ms =
    ap (λ b. (c == n) || b) (one_of-append c ns ms) ∙ sym (or_assoc_by (c == n) (is_one_of ns c) (is_one_of ms c))

-- Numbers of clients.
one_number : (w : Watched) (ws : List Watched) (keep : Bool) →
    numbers_of (cond keep (w ∷ ws) ws) ≡ cond keep (w.client ∷ numbers_of ws) (numbers_of ws)
one_number w ws true = refl
one_number w ws false = refl

pub numbers-filter : (p : ℕ → Bool) (ws : List Watched) → numbers_of (filter (λ w. p w.client) ws) ≡ filter p (numbers_of ws)
numbers-filter p [] = refl
numbers-filter p (w ∷ ws) =
    one_number w (filter (λ v. p v.client) ws) (p w.client)
    ∙ ap (λ ns. cond (p w.client) (w.client ∷ ns) ns) (numbers-filter p ws)

pub numbers_after : (ws : List Watched) (changed : Subsystems) (notified : List ℕ) →
    numbers_of (after_reports (with_news changed notified ws)) ≡ numbers_of ws
numbers_after [] changed notified = refl
numbers_after (w ∷ ws) changed notified =
    let g : Watched = grown (news changed notified w.client) w in
    λ i. client-reported g (is_empty (due g)) i ∷ numbers_after ws changed notified i

waiting_number : (c : ℕ) (mask : Option Subsystems) (w : Watched) (b : Bool) →
    let v = cond b (record w { waiting = mask }) w in v.client ≡ w.client
waiting_number c mask w true = refl
waiting_number c mask w false = refl

pub numbers_waiting : (c : ℕ) (mask : Option Subsystems) (ws : List Watched) → numbers_of (with_waiting ws c mask) ≡ numbers_of ws
numbers_waiting c mask [] = refl
numbers_waiting c mask (w ∷ ws) = λ i. waiting_number c mask w (w.client == c) i ∷ numbers_waiting c mask ws i

-- A client that leaves.
not_twice : (b : Bool) → not (not b) ≡ b
not_twice true = refl
not_twice false = refl

not_left : (c : ℕ) (all ns : List ℕ) → AllByRecursion (λ n. is_one_of all n ≡ true) ns →
    AllByRecursion (λ n. not (is_one_of (filter (λ d. not (d == c)) all) n) ≡ (n == c)) ns
not_left c all [] h = tt
not_left c all (n ∷ ns) h = (
  ap not (one_of-filter (λ d. not (d == c)) n all ∙ ap (λ b. b && not (n == c)) h.0) ∙ not_twice (n == c),
  not_left c all ns h.1,
)

none_above : (c n : ℕ) (ws : List Watched) → n ≡ c → AllByRecursion (λ v. n < v.client) ws →
    filter (λ d. d == c) (numbers_of ws) ≡ []
none_above c n [] is above = refl
none_above c n (w ∷ ws) is above =
    ap (λ b. cond b (w.client ∷ filter (λ d. d == c) (numbers_of ws)) (filter (λ d. d == c) (numbers_of ws)))
    (ne_eqb w.client c (λ e. omega (arith, above.0, e, is)))
    ∙ none_above c n ws is above.1

alone_one : (c : ℕ) (w : Watched) (ws : List Watched) (same : Bool) → (w.client == c) ≡ same → Rises (w ∷ ws) →
    is_some (cond same (Some w) (watched ws c)) ≡ true →
    (is_some (watched ws c) ≡ true → filter (λ d. d == c) (numbers_of ws) ≡ c ∷ []) →
    cond same (w.client ∷ filter (λ d. d == c) (numbers_of ws)) (filter (λ d. d == c) (numbers_of ws)) ≡ c ∷ []
alone_one c w ws true h rises known rest =
    let is : w.client ≡ c = eqb-true w.client c h in
    let none : filter (λ d. d == c) (numbers_of ws) ≡ [] = none_above c w.client ws is rises.0 in
    λ i. is i ∷ none i
alone_one c w ws false h rises known rest = rest known

alone : (c : ℕ) (ws : List Watched) → Rises ws → is_some (watched ws c) ≡ true → filter (λ d. d == c) (numbers_of ws) ≡ c ∷ []
alone c [] rises known = absurd (false≢true known)
alone c (w ∷ ws) rises known = alone_one c w ws (w.client == c) refl rises known (alone c ws rises.1)

missing_left : (c : ℕ) (ws : List Watched) → Rises ws → is_some (watched ws c) ≡ true →
    c ∷ [] ≡ missing (numbers_of ws) (numbers_of (left ws c))
missing_left c ws rises known = sym (
    ap (missing (numbers_of ws)) (numbers-filter (λ d. not (d == c)) ws)
    ∙ filter_same (λ n. not (is_one_of (filter (λ d. not (d == c)) (numbers_of ws)) n)) (λ n. n == c) (numbers_of ws)
    (not_left c (numbers_of ws) (numbers_of ws) (all_of_itself (numbers_of ws)))
    ∙ alone c ws rises known)

not_one : (c : ℕ) (ns : List ℕ) → AllByRecursion (λ n. not (n == c) ≡ not (is_one_of (c ∷ []) n)) ns
not_one c [] = tt
not_one c (n ∷ ns) = (ap not (sym (or-false (n == c))), not_one c ns)

left_missing : (c : ℕ) (ws : List Watched) → numbers_of (left ws c) ≡ missing (numbers_of ws) (c ∷ [])
left_missing c ws =
    numbers-filter (λ d. not (d == c)) ws
    ∙ filter_same (λ d. not (d == c)) (λ n. not (is_one_of (c ∷ []) n)) (numbers_of ws) (not_one c (numbers_of ws))

-- A client that comes.
apart : (n c : ℕ) (less same more : Bool) → nat_lt n c ≡ less → (n == c) ≡ same → nat_lt c n ≡ more →
    (less || (same || more)) ≡ true
apart n c true same more l s m = refl
apart n c false true more l s m = refl
apart n c false false true l s m = refl
apart n c false false false l s m =
    absurd (eqb-false n c s (omega (arith, ltb-false n c l, ltb-false c n m)))

pub stays_with : (c : ℕ) (all ns : List ℕ) → AllByRecursion (λ n. is_one_of all n ≡ true) ns →
    AllByRecursion (λ n. is_one_of (filter (λ d. nat_lt d c) all ++ c ∷ filter (λ d. nat_lt c d) all) n ≡ true) ns
stays_with c all [] h = tt
stays_with c all (n ∷ ns) h = (
  one_of-append n (filter (λ d. nat_lt d c) all) (c ∷ filter (λ d. nat_lt c d) all)
      ∙ (λ i. one_of-filter (λ d. nat_lt d c) n all i || ((n == c) || one_of-filter (λ d. nat_lt c d) n all i))
      ∙ (λ i. (h.0 i && nat_lt n c) || ((n == c) || (h.0 i && nat_lt c n)))
      ∙ apart n c (nat_lt n c) (n == c) (nat_lt c n) refl refl refl,
  stays_with c all ns h.1,
)

pub numbers_joined : (ws : List Watched) (c : ℕ) →
    numbers_of (joined ws c) ≡ filter (λ d. nat_lt d c) (numbers_of ws) ++ c ∷ filter (λ d. nat_lt c d) (numbers_of ws)
numbers_joined ws c =
    map-append (λ (w : Watched). w.client) (filter (λ w. nat_lt w.client c) ws) (newcomer c ∷ filter (λ w. nat_lt c w.client) ws)
    ∙ (λ i. numbers-filter (λ d. nat_lt d c) ws i ++ c ∷ numbers-filter (λ d. nat_lt c d) ws i)

missing_joined : (c : ℕ) (ws : List Watched) → missing (numbers_of ws) (numbers_of (joined ws c)) ≡ []
missing_joined c ws =
    ap (missing (numbers_of ws)) (numbers_joined ws c)
    ∙ missing_none_of (numbers_of ws) _ (stays_with c (numbers_of ws) (numbers_of ws) (all_of_itself (numbers_of ws)))

-- Of the clients that were there and have not gone, and of those with the one that has come, these are closed and the others stay.
record Leaves (were are : List Watched) (a : Acted) : Type 0 where
  closed : a.closes ≡ missing (numbers_of were) (numbers_of a.after.clients)
  stay : numbers_of a.after.clients ≡ missing (numbers_of are) a.closes

all_stay : (ws : List Watched) (a : Acted) → numbers_of a.after.clients ≡ numbers_of ws → a.closes ≡ [] → Leaves ws ws a
all_stay ws a same none = record {
  closed = none ∙ sym (ap (missing (numbers_of ws)) same ∙ missing_itself (numbers_of ws));
  stay = same ∙ sym (ap (missing (numbers_of ws)) none ∙ missing-none (numbers_of ws));
}

one_leaves : (c : ℕ) (ws : List Watched) (a : Acted) → Rises ws → is_some (watched ws c) ≡ true →
    a.after.clients ≡ left ws c → a.closes ≡ c ∷ [] → Leaves ws ws a
one_leaves c ws a rises known clients closes = record {
  closed = closes ∙ missing_left c ws rises known ∙ sym (ap (λ vs. missing (numbers_of ws) (numbers_of vs)) clients);
  stay = ap numbers_of clients ∙ left_missing c ws ∙ sym (ap (missing (numbers_of ws)) closes);
}

ran_leaves : (c : ℕ) (s : State) (r : Ran) (ending : Ending) → Rises s.clients → is_some (watched s.clients c) ≡ true →
    Leaves s.clients s.clients (of_ran c s r ending)
ran_leaves c s r Answered rises known = all_stay s.clients (of_ran c s r Answered) refl refl
ran_leaves c s r Closed rises known = one_leaves c s.clients (of_ran c s r Closed) rises known refl refl
ran_leaves c s r Killed rises known = record {
  closed = sym (missing-none (numbers_of s.clients));
  stay = sym (missing_itself (numbers_of s.clients));
}
ran_leaves c s r (Waits mask) rises known =
    all_stay s.clients (of_ran c s r (Waits mask)) (numbers_waiting c (Some mask) s.clients) refl

asked_leaves : (c : ℕ) (refused : Option ℕ) (s : State) (request : Request) → Rises s.clients → is_some (watched s.clients c) ≡ true →
    Leaves s.clients s.clients (asked c refused s request)
asked_leaves c refused s (Single line) rises known =
    let r : Ran = ran (asking c s) Alone [] refused 0 (begun c s) (line ∷ []) s.machine in
    ran_leaves c s r r.ending rises known
asked_leaves c refused s (CommandList lines) rises known =
    let r : Ran = ran (asking c s) InList [] refused 0 (begun c s) lines s.machine in
    ran_leaves c s r r.ending rises known
asked_leaves c refused s (OkList lines) rises known =
    let r : Ran = ran (asking c s) InList list_ok refused 0 (begun c s) lines s.machine in
    ran_leaves c s r r.ending rises known
asked_leaves c refused s Noidle rises known = all_stay s.clients (asked c refused s Noidle) refl refl

waiting_leaves : (noidle : Bool) (c : ℕ) (s : State) → Rises s.clients → is_some (watched s.clients c) ≡ true →
    Leaves s.clients s.clients (waits_no_more noidle c s)
waiting_leaves true c s rises known = all_stay s.clients (waits_no_more true c s) (numbers_waiting c None s.clients) refl
waiting_leaves false c s rises known = one_leaves c s.clients (waits_no_more false c s) rises known refl refl

known_leaves : (c : ℕ) (refused : Option ℕ) (s : State) (request : Request) (waiting : Option Subsystems) → Rises s.clients →
    is_some (watched s.clients c) ≡ true → Leaves s.clients s.clients (requested_by c refused s request (Some waiting))
known_leaves c refused s request None rises known = asked_leaves c refused s request rises known
known_leaves c refused s request (Some mask) rises known = waiting_leaves (is_noidle request) c s rises known

requested_leaves : (c : ℕ) (refused : Option ℕ) (s : State) (request : Request) (found : Option Watched) → Rises s.clients →
    is_some (watched s.clients c) ≡ is_some found → Leaves s.clients s.clients (requested_by c refused s request (waiting_of found))
requested_leaves c refused s request None rises same = all_stay s.clients (requested_by c refused s request None) refl refl
requested_leaves c refused s request (Some w) rises same = known_leaves c refused s request w.waiting rises same

connect_leaves : (c : ℕ) (s : State) (found : Option Watched) →
    Leaves s.clients (with_newcomer c s.clients found) (connects_client c s found)
connect_leaves c s None = record {
  closed = sym (missing_joined c s.clients);
  stay = sym (missing-none (numbers_of (joined s.clients c)));
}
connect_leaves c s (Some w) = all_stay s.clients (connects_client c s (Some w)) refl refl

happened_leaves : (s : State) (h : Happening) → Leaves s.clients s.clients (happened s h)
happened_leaves s h = all_stay s.clients (happened s h) refl refl

acted_leaves : (s : State) (event : Event) (refused : Option ℕ) → Rises s.clients →
    Leaves (still_there event s.clients) (there event s.clients) (acted s event refused)
acted_leaves s (events.Connect c) refused rises = connect_leaves c s (watched s.clients c)
acted_leaves s (events.Request c request) refused rises = requested_leaves c refused s request (watched s.clients c) rises refl
acted_leaves s (events.Gone c) refused rises = all_stay (left s.clients c) (acted s (events.Gone c) refused) refl refl
acted_leaves s (events.Fed ticket frames) refused rises = happened_leaves s (when_fed ticket frames s.machine)
acted_leaves s (events.Ended ticket) refused rises = happened_leaves s (kept_event s.machine (when_ended ticket s.machine))
acted_leaves s (events.Broken ticket cause) refused rises = happened_leaves s (kept_event s.machine (when_broken ticket cause s.machine))
acted_leaves s (events.Batch job changes) refused rises = happened_leaves s (kept_event s.machine (when_found job changes s.machine))
acted_leaves s (events.Missing job songs) refused rises = happened_leaves s (when_missed job songs s.machine)
acted_leaves s (events.ScanDone job) refused rises = happened_leaves s (when_scanned job s.machine)
acted_leaves s (events.Clock time) refused rises = all_stay s.clients (acted s (events.Clock time) refused) refl refl
acted_leaves s (events.Keep ticket) refused rises = happened_leaves s (when_kept ticket s.machine)
acted_leaves s (events.Resume plays) refused rises = happened_leaves s (when_resumed plays s.machine)
acted_leaves s (events.Room is_there) refused rises = happened_leaves s (when_room is_there s.machine)
acted_leaves s (events.Picture c told) refused rises = all_stay s.clients (acted s (events.Picture c told) refused) refl refl

pub closed : (kept : SavedState) (history : List Entry) (entry : Entry) →
    (stepped (replay kept history) entry).closes ≡ missing
    (numbers_of (still_there entry.event (replay kept history).clients))
    (numbers_of (stepped (replay kept history) entry).after.clients)
unfolding step
closed kept history entry =
    let before = holds kept history in
    let a : Acted = acted (replay kept history) entry.event entry.refused in
    let leaves = acted_leaves (replay kept history) entry.event entry.refused before.rises in
    leaves.closed ∙ ap (missing (numbers_of (still_there entry.event (replay kept history).clients)))
    (sym (numbers_after a.after.clients a.changed a.notified))

pub stay : (kept : SavedState) (history : List Entry) (entry : Entry) →
    numbers_of (stepped (replay kept history) entry).after.clients ≡ missing
    (numbers_of (there entry.event (replay kept history).clients))
    (stepped (replay kept history) entry).closes
unfolding step
stay kept history entry =
    let before = holds kept history in
    let a : Acted = acted (replay kept history) entry.event entry.refused in
    let leaves = acted_leaves (replay kept history) entry.event entry.refused before.rises in
    numbers_after a.after.clients a.changed a.notified ∙ leaves.stay

-- Where the daemon goes on, no client is closed but the one that asks.
abbrev ClosesOwn : ℕ → Acted → Type 0
ClosesOwn c a = a.ended ≡ false → (a.closes ≡ []) ⊎ (a.closes ≡ c ∷ [])

ran_closes : (c : ℕ) (s : State) (r : Ran) (ending : Ending) → ClosesOwn c (of_ran c s r ending)
ran_closes c s r Answered h = inl refl
ran_closes c s r Closed h = inr refl
ran_closes c s r Killed h = absurd (false≢true (sym h))
ran_closes c s r (Waits mask) h = inl refl

runs_close : (c : ℕ) (s : State) (r : Ran) → ClosesOwn c (runs c s r)
runs_close c s r = ran_closes c s r r.ending

asked_closes : (c : ℕ) (refused : Option ℕ) (s : State) (request : Request) → ClosesOwn c (asked c refused s request)
asked_closes c refused s (Single line) = runs_close c s (ran (asking c s) Alone [] refused 0 (begun c s) (line ∷ []) s.machine)
asked_closes c refused s (CommandList lines) = runs_close c s (ran (asking c s) InList [] refused 0 (begun c s) lines s.machine)
asked_closes c refused s (OkList lines) = runs_close c s (ran (asking c s) InList list_ok refused 0 (begun c s) lines s.machine)
asked_closes c refused s Noidle = λ h. inl refl

waiting_closes : (noidle : Bool) (c : ℕ) (s : State) → ClosesOwn c (waits_no_more noidle c s)
waiting_closes true c s h = inl refl
waiting_closes false c s h = inr refl

requested_closes : (c : ℕ) (refused : Option ℕ) (s : State) (request : Request) (found : Option (Option Subsystems)) →
    ClosesOwn c (requested_by c refused s request found)
requested_closes c refused s request None h = inl refl
requested_closes c refused s request (Some None) h = asked_closes c refused s request h
requested_closes c refused s request (Some (Some mask)) h = waiting_closes (is_noidle request) c s h

connect_closes : (c : ℕ) (s : State) (found : Option Watched) → let a = connects_client c s found in a.closes ≡ []
connect_closes c s None = refl
connect_closes c s (Some w) = refl

acted_closes : (s : State) (event : Event) (refused : Option ℕ) → let a = acted s event refused in
    a.ended ≡ false → ClosesNoOther event a.closes
acted_closes s (events.Connect c) refused h = connect_closes c s (watched s.clients c)
acted_closes s (events.Request c request) refused h = requested_closes c refused s request (waiting_of (watched s.clients c)) h
acted_closes s (events.Gone c) refused h = refl
acted_closes s (events.Fed ticket frames) refused h = refl
acted_closes s (events.Ended ticket) refused h = refl
acted_closes s (events.Broken ticket cause) refused h = refl
acted_closes s (events.Batch job changes) refused h = refl
acted_closes s (events.Missing job songs) refused h = refl
acted_closes s (events.ScanDone job) refused h = refl
acted_closes s (events.Clock time) refused h = refl
acted_closes s (events.Keep ticket) refused h = refl
acted_closes s (events.Resume plays) refused h = refl
acted_closes s (events.Room is_there) refused h = refl
acted_closes s (events.Picture c told) refused h = refl

pub own : (s : State) (event : Event) (refused : Option ℕ) → (step s event refused).ended ≡ false →
    ClosesNoOther event (step s event refused).closes
unfolding step
own s event refused h = acted_closes s event refused h
