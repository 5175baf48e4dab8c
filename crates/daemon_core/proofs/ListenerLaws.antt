-- After any history the client of each listener is connected.
use Rattle.std.proofs.Common.{◌≡◌, ℕ, suc, Bool, true, false, not, ◌==◌, List, [], ◌∷◌, ◌++◌, filter, map, Option, Some, None}
use Rattle.std.proofs.Common.{Result, Ok, Err, cond, refl, sym, ◌∙◌, ap, subst}
use Rattle.std.specs.Prelude.{is_some, nat_lt, unwrap_or, IsSome, IfSome}
use Rattle.std.specs.List.{AllByRecursion}
use Rattle.std.proofs.lemmas.Bool.{and_from, false≢true, or_left, or_right, eqb-true, eq-eqb}
use Rattle.client_messages.specs.Listeners.{newcomer, listed, listener_of, placed, with_channel, without_channel, at_client, takes, delivered}
use Rattle.client_messages.specs.Listeners.{with_nothing_unread, left as forgotten}
use Rattle.client_messages.specs.Messages.{message}
use Rattle.client_messages.specs.Refusal.{send_refusal, subscribe_refusal, unsubscribe_refusal}
use Rattle.client_messages.specs.declared.listener.Listener.{Listener}
use Rattle.client_messages.specs.declared.message.Message.{Message}
use Rattle.client_messages.specs.declared.refusal.MessagesError.{MessagesError}
use Rattle.command_text.specs.Answer.{list_ok}
use Rattle.command_text.specs.declared.command.Command.{Command}
use Rattle.command_text.specs.declared.command.Command.TheVariants as topics
use Rattle.command_text.specs.declared.command.messages.MessagesCommand.{MessagesCommand}
use Rattle.command_text.specs.declared.command.messages.MessagesCommand.TheVariants as commands
use Rattle.command_text.specs.declared.place.Place.{Place}
use Rattle.command_text.specs.declared.place.Place.TheVariants.{Alone, InList}
use Rattle.command_text.specs.declared.refusal.CommandRefusal.{CommandRefusal}
use Rattle.command_text.specs.declared.request.Request.{Request}
use Rattle.command_text.specs.declared.request.Request.TheVariants.{Single, List as CommandList, OkList, Noidle}
use Rattle.idle_masks.specs.Watched.{watched, joined, left}
use Rattle.idle_masks.specs.declared.subsystem.Subsystems.{Subsystems}
use Rattle.idle_masks.specs.declared.watch.Watched.{Watched}
use Rattle.machine_core.specs.State.{MachineState}
use Rattle.state_codec.specs.SavedState.{SavedState}
use Rattle.state_codec.specs.declared.op.Op.{Op}
use Rattle.daemon_core.specs.Leaving.{is_one_of}
use Rattle.daemon_core.specs.Replay.{Entry, replay}
use Rattle.daemon_core.specs.Run.{Asker, Did, Goes, Refuses, Ends, Ran, Spent, attempted, follow, is_refused_at, ran, spent_behind, spent_on}
use Rattle.daemon_core.specs.Run.{own_of, shows, wants_memory}
use Rattle.daemon_core.specs.Pictures.{shown}
use Rattle.daemon_core.specs.Running.{AreConnected}
use Rattle.daemon_core.specs.Session.{Acted, messages_without, numbers_of, of_ran, without}
use Rattle.daemon_core.specs.State.{State}
use Rattle.daemon_core.specs.Step.{asking, begun, connects_client, asked, waits_no_more, is_noidle, requested_by, waiting_of, acted, step}
use Rattle.daemon_core.specs.Talk.{Talk, talk_of, talked, unless_refused}
use Rattle.daemon_core.specs.declared.event.Event.{Event}
use Rattle.daemon_core.specs.declared.event.Event.TheVariants as events
use Rattle.daemon_core.specs.declared.outcome.Ending.{Ending}
use Rattle.daemon_core.specs.declared.outcome.Ending.TheVariants.{Answered, Closed, Killed, Waits}
use Rattle.daemon_core.proofs.DoneLaws.{line_is}
use Rattle.daemon_core.proofs.LeavingLaws.{numbers_after, numbers_joined, numbers_waiting, numbers-filter, one_of-filter, stays_with}
use Rattle.daemon_core.proofs.RoomLaws.{left_absent}

-- What holds of the clients of some listeners.
abbrev Of : (ℕ → Type 0) → List Listener → Type 0
Of P ls = AllByRecursion (λ l. P l.client) ls

one_kept : (P : ℕ → Type 0) (l : Listener) (ls : List Listener) (b : Bool) → P l.client → Of P ls → Of P (cond b (l ∷ ls) ls)
one_kept P l ls true h k = (h, k)
one_kept P l ls false h k = k

of-filter : (P : ℕ → Type 0) (p : Listener → Bool) (ls : List Listener) → Of P ls → Of P (filter p ls)
of-filter P p [] h = tt
of-filter P p (l ∷ ls) h = one_kept P l (filter p ls) (p l) h.0 (of-filter P p ls h.1)

of-append : (P : ℕ → Type 0) (ls ks : List Listener) → Of P ls → Of P ks → Of P (ls ++ ks)
of-append P [] ks h k = k
of-append P (l ∷ ls) ks h k = (h.0, of-append P ls ks h.1 k)

of-map : (P : ℕ → Type 0) (f : Listener → Listener) (ls : List Listener) →
    ((l : Listener) → let k = f l in k.client ≡ l.client) → Of P ls → Of P (map f ls)
of-map P f [] same h = tt
of-map P f (l ∷ ls) same h = (subst P (sym (same l)) h.0, of-map P f ls same h.1)

of_placed : (P : ℕ → Type 0) (new : Listener) (ls : List Listener) → P new.client → Of P ls → Of P (placed ls new)
of_placed P new ls h k = of-append P (filter (λ l. nat_lt l.client new.client) ls) (new ∷ filter (λ l. nat_lt new.client l.client) ls)
    (of-filter P (λ l. nat_lt l.client new.client) ls k) (h, of-filter P (λ l. nat_lt new.client l.client) ls k)

found_one : (P : ℕ → Type 0) (l : Listener) (o : Option Listener) (b : Bool) → P l.client → IfSome o (λ k. P k.client) →
    IfSome (cond b (Some l) o) (λ k. P k.client)
found_one P l o true h rest = h
found_one P l o false h rest = rest

found : (P : ℕ → Type 0) (c : ℕ) (ls : List Listener) → Of P ls → IfSome (listed ls c) (λ l. P l.client)
found P c [] h = tt
found P c (l ∷ ls) h = found_one P l (listed ls c) (l.client == c) h.0 (found P c ls h.1)

or_new : (P : ℕ → Type 0) (c : ℕ) (o : Option Listener) → P c → IfSome o (λ l. P l.client) →
    let l : Listener = unwrap_or o (newcomer c) in P l.client
or_new P c None h k = h
or_new P c (Some l) h k = k

-- A command of messages adds nobody but the client that asks.
at_client_same : (f : Listener → Listener) → ((l : Listener) → let k = f l in k.client ≡ l.client) → (l : Listener) (b : Bool) →
    let k : Listener = cond b (f l) l in k.client ≡ l.client
at_client_same f same l true = same l
at_client_same f same l false = refl

delivered_same : (m : Message) (l : Listener) (b : Bool) →
    let k : Listener = cond b (record l { unread = l.unread ++ m ∷ [] }) l in k.client ≡ l.client
delivered_same m l true = refl
delivered_same m l false = refl

abbrev TalkKeeps : (ℕ → Type 0) → Result Talk CommandRefusal → Type 0
TalkKeeps P (Ok talk) = Of P talk.messages
TalkKeeps P (Err refusal) = Unit {0}

unless_kept : (P : ℕ → Type 0) (refusal : Option MessagesError) (talk : Talk) → Of P talk.messages →
    TalkKeeps P (unless_refused refusal talk)
unless_kept P None talk h = h
unless_kept P (Some error) talk h = tt

talk_keeps : (P : ℕ → Type 0) (c : ℕ) (ms : List Listener) (command : MessagesCommand) → P c → Of P ms → TalkKeeps P (talked c ms command)
unfolding talked
talk_keeps P c ms commands.Channels own h = h
talk_keeps P c ms commands.ReadMessages own h =
    of-map P (at_client c with_nothing_unread) ms (λ l. at_client_same with_nothing_unread (λ k. refl) l (l.client == c)) h
talk_keeps P c ms (commands.SendMessage channel text) own h =
    unless_kept P (send_refusal ms (message channel text)) _
    (of-map P (delivered (message channel text)) ms (λ l. delivered_same (message channel text) l (takes (message channel text) l)) h)
talk_keeps P c ms (commands.Subscribe channel) own h =
    unless_kept P (subscribe_refusal ms c channel) _
    (of_placed P (with_channel channel (listener_of ms c)) ms (or_new P c (listed ms c) own (found P c ms h)) h)
talk_keeps P c ms (commands.Unsubscribe channel) own h =
    unless_kept P (unsubscribe_refusal ms c channel) _
    (of-map P (at_client c (without_channel channel)) ms (λ l. at_client_same (without_channel channel) (λ k. refl) l (l.client == c)) h)

-- one of pictures adds nobody
show_keeps : (P : ℕ → Type 0) (ms : List Listener) (lines : Result (List ℕ) CommandRefusal) → Of P ms → TalkKeeps P (shows ms lines)
show_keeps P ms (Ok text) h = h
show_keeps P ms (Err refusal) h = tt

abbrev OwnKeeps : (ℕ → Type 0) → Option (Result Talk CommandRefusal) → Type 0
OwnKeeps P None = Unit {0}
OwnKeeps P (Some does) = TalkKeeps P does

own_keeps : (P : ℕ → Type 0) (c : Asker) (spent : Spent) (command : Command) (m : MachineState) → P c.client → Of P spent.messages
    → OwnKeeps P (own_of c spent command m)
unfolding own_of talk_of
own_keeps P c spent (topics.Messages command) m own h = talk_keeps P c.client spent.messages command own h
own_keeps P c spent (topics.Pictures command) m own h =
    show_keeps P spent.messages (shown spent.view.limit c.told m.saved.songs command) h
own_keeps P c spent other m own h = tt

-- so is what a line does
abbrev DidKeeps : (ℕ → Type 0) → Did → Type 0
DidKeeps P (Goes x) = Of P x.messages
DidKeeps P (Refuses refusal) = Unit {0}
DidKeeps P (Ends ending) = Unit {0}

line_keeps : (P : ℕ → Type 0) (c : Asker) (place : Place) (spent : Spent) (line : List ℕ) (m : MachineState) → P c.client
    → Of P spent.messages → DidKeeps P (attempted c place spent line m)
line_keeps P c place spent line m own h =
    line_is (DidKeeps P) c place spent line m (λ ending. tt) (λ refusal. tt)
    (λ command talk is. subst (OwnKeeps P) is (own_keeps P c spent command m own h)) (λ command x means fits. h)

-- the commands of a request
follow_keeps : (P : ℕ → Type 0) (separator : List ℕ) (index : ℕ) (behind : List Op → Spent) (m : MachineState)
    (rest : Spent → MachineState → Ran) (d : Did) → (let n = behind [] in Of P n.messages) → DidKeeps P d →
    ((n : Spent) (t : MachineState) → Of P n.messages → let r = rest n t in Of P r.messages) →
    let r = follow separator index behind m rest d in Of P r.messages
follow_keeps P separator index behind m rest (Goes x) h keeps later = later (spent_on behind x) x.after keeps
follow_keeps P separator index behind m rest (Refuses refusal) h keeps later = h
follow_keeps P separator index behind m rest (Ends ending) h keeps later = h

unless_refused_keeps : (P : ℕ → Type 0) (spent : Spent) (m : MachineState) (index : ℕ) (line : List ℕ) (r : Ran) (here : Bool) →
    Of P spent.messages → Of P r.messages → let s = cond here (wants_memory m spent index line) r in Of P s.messages
unless_refused_keeps P spent m index line r true h k = h
unless_refused_keeps P spent m index line r false h k = k

ran_keeps : (P : ℕ → Type 0) (c : Asker) (place : Place) (separator : List ℕ) (refused : Option ℕ) (index : ℕ) (spent : Spent)
    (lines : List (List ℕ)) (m : MachineState) → P c.client → Of P spent.messages →
    let r = ran c place separator refused index spent lines m in Of P r.messages
unfolding ran
ran_keeps P c place separator refused index spent [] m own h = h
ran_keeps P c place separator refused index spent (line ∷ lines) m own h =
    unless_refused_keeps P spent m index line _ (is_refused_at refused index) h
    (follow_keeps P separator index (spent_behind place line m spent) m (λ n t. ran c place separator refused (suc index) n lines t)
    (attempted c place spent line m) h (line_keeps P c place spent line m own h)
    (λ n t k. ran_keeps P c place separator refused (suc index) n lines t own k))

-- Who is connected.
abbrev IsConnected : List Watched → ℕ → Type 0
IsConnected ws d = is_one_of (numbers_of ws) d ≡ true

known_one : (c : ℕ) (w : Watched) (ws : List Watched) (same : Bool) → (w.client == c) ≡ same →
    is_some (cond same (Some w) (watched ws c)) ≡ true → (is_some (watched ws c) ≡ true → IsConnected ws c) → IsConnected (w ∷ ws) c
known_one c w ws true is h rest =
    or_left (c == w.client) (is_one_of (numbers_of ws) c) (eq-eqb c w.client (sym (eqb-true w.client c is)))
known_one c w ws false is h rest = or_right (c == w.client) (is_one_of (numbers_of ws) c) (rest h)

known : (c : ℕ) (ws : List Watched) → is_some (watched ws c) ≡ true → IsConnected ws c
known c [] h = absurd (false≢true h)
known c (w ∷ ws) h = known_one c w ws (w.client == c) refl h (known c ws)

-- of those that are left, each is connected still
still_one : (c : ℕ) (ws : List Watched) (l : Listener) (ls : List Listener) (other : Bool) → not (l.client == c) ≡ other →
    IsConnected ws l.client → Of (IsConnected (left ws c)) ls → Of (IsConnected (left ws c)) (cond other (l ∷ ls) ls)
still_one c ws l ls true is h rest = (
  ap (λ ns. is_one_of ns l.client) (numbers-filter (λ d. not (d == c)) ws)
      ∙ one_of-filter (λ d. not (d == c)) l.client (numbers_of ws)
      ∙ and_from (is_one_of (numbers_of ws) l.client) (not (l.client == c)) h is,
  rest,
)
still_one c ws l ls false is h rest = rest

still : (c : ℕ) (ws : List Watched) (ls : List Listener) → AreConnected ws ls → AreConnected (left ws c) (forgotten ls c)
still c ws [] h = tt
still c ws (l ∷ ls) h = still_one c ws l (forgotten ls c) (not (l.client == c)) refl h.0 (still c ws ls h.1)

not_some : (o : Option Watched) → o ≡ None → IsSome o → ⊥
not_some None is some = false≢true some
not_some (Some w) is some = cc

leaving_connected : (c : ℕ) (ws : List Watched) (ls : List Listener) (o : Option Watched) → watched ws c ≡ o → AreConnected ws ls →
    AreConnected (left ws c) (messages_without o ls c)
leaving_connected c ws ls None is h =
    subst (λ vs. AreConnected vs ls) (sym (left_absent ws c (not_some (watched ws c) is))) h
leaving_connected c ws ls (Some w) is h = still c ws ls h

with_one_more : (c : ℕ) (ws : List Watched) (ls : List Listener) → AreConnected ws ls → AreConnected (joined ws c) ls
with_one_more c ws [] h = tt
with_one_more c ws (l ∷ ls) h = (
  ap (λ ns. is_one_of ns l.client) (numbers_joined ws c)
      ∙ (let s = stays_with c (numbers_of ws) (l.client ∷ []) (h.0, tt) in s.0),
  with_one_more c ws ls h.1,
)

same_numbers : (ws vs : List Watched) (ls : List Listener) → numbers_of vs ≡ numbers_of ws → AreConnected ws ls → AreConnected vs ls
same_numbers ws vs ls same h = subst (λ ns. AllByRecursion (λ l. is_one_of ns l.client ≡ true) ls) (sym same) h

-- The events.
abbrev Connected : State → Type 0
Connected s = AreConnected s.clients s.messages

of_ran_connected : (c : ℕ) (s : State) (r : Ran) (ending : Ending) → AreConnected s.clients r.messages →
    let a = of_ran c s r ending in Connected a.after
of_ran_connected c s r Answered h = h
of_ran_connected c s r Closed h = leaving_connected c s.clients r.messages (watched s.clients c) refl h
of_ran_connected c s r Killed h = tt
of_ran_connected c s r (Waits mask) h = same_numbers s.clients _ r.messages (numbers_waiting c (Some mask) s.clients) h

asked_connected : (c : ℕ) (refused : Option ℕ) (s : State) (request : Request) → is_some (watched s.clients c) ≡ true → Connected s →
    let a = asked c refused s request in Connected a.after
asked_connected c refused s (Single line) is h =
    let r : Ran = ran (asking c s) Alone [] refused 0 (begun c s) (line ∷ []) s.machine in
    of_ran_connected c s r r.ending
    (ran_keeps (IsConnected s.clients) (asking c s) Alone [] refused 0 (begun c s) (line ∷ []) s.machine (known c s.clients is) h)
asked_connected c refused s (CommandList lines) is h =
    let r : Ran = ran (asking c s) InList [] refused 0 (begun c s) lines s.machine in
    of_ran_connected c s r r.ending
    (ran_keeps (IsConnected s.clients) (asking c s) InList [] refused 0 (begun c s) lines s.machine (known c s.clients is) h)
asked_connected c refused s (OkList lines) is h =
    let r : Ran = ran (asking c s) InList list_ok refused 0 (begun c s) lines s.machine in
    of_ran_connected c s r r.ending
    (ran_keeps (IsConnected s.clients) (asking c s) InList list_ok refused 0 (begun c s) lines s.machine (known c s.clients is) h)
asked_connected c refused s Noidle is h = h

gone_connected : (c : ℕ) (s : State) → Connected s → Connected (without c s)
gone_connected c s h = leaving_connected c s.clients s.messages (watched s.clients c) refl h

waiting_connected : (noidle : Bool) (c : ℕ) (s : State) → Connected s → let a = waits_no_more noidle c s in Connected a.after
waiting_connected true c s h = same_numbers s.clients _ s.messages (numbers_waiting c None s.clients) h
waiting_connected false c s h = gone_connected c s h

known_connected : (c : ℕ) (refused : Option ℕ) (s : State) (request : Request) (waiting : Option Subsystems) →
    is_some (watched s.clients c) ≡ true → Connected s → let a = requested_by c refused s request (Some waiting) in Connected a.after
known_connected c refused s request None is h = asked_connected c refused s request is h
known_connected c refused s request (Some mask) is h = waiting_connected (is_noidle request) c s h

requested_connected : (c : ℕ) (refused : Option ℕ) (s : State) (request : Request) (o : Option Watched) →
    is_some (watched s.clients c) ≡ is_some o → Connected s →
    let a = requested_by c refused s request (waiting_of o) in Connected a.after
requested_connected c refused s request None is h = h
requested_connected c refused s request (Some w) is h = known_connected c refused s request w.waiting is h

connect_connected : (c : ℕ) (s : State) (o : Option Watched) → Connected s → let a = connects_client c s o in Connected a.after
connect_connected c s None h =
    with_one_more c s.clients (forgotten s.messages c) (of-filter (IsConnected s.clients) (λ l. not (l.client == c)) s.messages h)
connect_connected c s (Some w) h = h

acted_connected : (s : State) (event : Event) (refused : Option ℕ) → Connected s → let a = acted s event refused in Connected a.after
acted_connected s (events.Connect c) refused h = connect_connected c s (watched s.clients c) h
acted_connected s (events.Request c request) refused h = requested_connected c refused s request (watched s.clients c) refl h
acted_connected s (events.Gone c) refused h = gone_connected c s h
acted_connected s (events.Fed ticket frames) refused h = h
acted_connected s (events.Ended ticket) refused h = h
acted_connected s (events.Broken ticket cause) refused h = h
acted_connected s (events.Batch job changes) refused h = h
acted_connected s (events.Missing job songs) refused h = h
acted_connected s (events.ScanDone job) refused h = h
acted_connected s (events.Clock time) refused h = h
acted_connected s (events.Keep ticket) refused h = h
acted_connected s (events.Resume plays) refused h = h
acted_connected s (events.Room is_there) refused h = h
acted_connected s (events.Picture c told) refused h = h

pub connected : (kept : SavedState) (history : List Entry) → AreConnected (replay kept history).clients (replay kept history).messages
unfolding replay step
connected kept [] = tt
connected kept (entry ∷ earlier) =
    let a : Acted = acted (replay kept earlier) entry.event entry.refused in
    same_numbers a.after.clients _ a.after.messages (numbers_after a.after.clients a.changed a.notified)
    (acted_connected (replay kept earlier) entry.event entry.refused (connected kept earlier))
