-- The input of a client, a piece at a time.
use Rattle.std.proofs.Common.{◌≡◌, ◌⊎◌, Result, false, inl, inr, ℕ, ◌-◌, ◌^◌, ◌≤◌, ◌+◌, length, length-append, arith, List, [], ◌∷◌, ◌++◌}
use Rattle.std.proofs.Common.{Option, None, Ok, Err, OnOk, refl, sym, subst, ◌∙◌, ap}
use Rattle.std.specs.Io.KnownBytes.{Consumes, IsAtEnd, Keeps}
use Rattle.std.proofs.lemmas.List.{append-nil, append_cancel_left}
use Rattle.disk_model.specs.History.{Change}
use Rattle.command_text.specs.declared.request.Request.{Request}
use Rattle.daemon_core.specs.declared.event.Event.{Event}
use Rattle.daemon_core.specs.declared.event.Event.TheVariants as events
use Rattle.client_session.specs.Requests.{Unread, nothing, brought, left_by, fault_at, fault_of, left_of, requests_of}
use Rattle.client_session.specs.Session.{SessionState}
use Rattle.client_session.proofs.ByteLaws.{consumes_nothing, consumes_twice, keeps_itself}
use Rattle.client_session.proofs.StreamLaws.{brought-append, left_by-append, requests_of-nil, left_of-nil}
use Rattle.mpd_program.specs.Console.{asked_by, events_of, RunsNone}
use Rattle.mpd_program.specs.Serving.{Serves, IsUsable, IsReady, fed, IsAllRead, ServesInput}
use Rattle.mpd_program.specs.declared.console.Ending.{Ending}
use Rattle.mpd_program.specs.declared.console.Ending.TheVariants.{Cut}
use Rattle.mpd_program.specs.declared.console.serving.Service.{Service}
use Rattle.mpd_program.proofs.ServingLaws.{asked_by-append, ok_under, serves_none, serves_on, serves_cut, over_sessions, usable_on}

-- ---- sessions

-- a session that took one piece after another
fed_on : (first now : SessionState) (read piece : List ℕ) → now ≡ record first { left = left_by first.left read }
    → (record now { left = left_by now.left piece }) ≡ record first { left = left_by first.left (read ++ piece) }
fed_on first now read piece is =
    ap (λ (s : SessionState). record s { left = left_by s.left piece }) is
    ∙ ap (λ (v : Unread). record first { left = v }) (sym (left_by-append first.left read piece))

-- what a session from its beginning on leaves
left_is : (first now : SessionState) (read : List ℕ) → first.left ≡ nothing → now ≡ record first { left = left_by first.left read }
    → now.left ≡ left_of read
left_is first now read fresh is = ap (λ (s : SessionState). s.left) is ∙ ap (λ (v : Unread). left_by v read) fresh

fed_nothing : (first : SessionState) → first.left ≡ nothing → first ≡ record first { left = left_by first.left [] }
fed_nothing first fresh =
    ap (λ (v : Unread). record first { left = v }) (fresh ∙ sym left_of-nil ∙ sym (ap (λ (v : Unread). left_by v []) fresh))

-- ---- requests

-- the requests of what was read and one piece more
asked_more : (c : ℕ) (read : List ℕ) (left : Unread) (piece : List ℕ) → left ≡ left_of read
    → asked_by c (requests_of read) ++ asked_by c (brought left piece) ≡ asked_by c (requests_of (read ++ piece))
asked_more c read left piece is =
    sym (asked_by-append c (requests_of read) (brought left piece))
    ∙ ap (λ (v : Unread). asked_by c (requests_of read ++ brought v piece)) is
    ∙ ap (asked_by c) (sym (brought-append nothing read piece))

asks_nothing_more : (read : List ℕ) → brought (left_of read) [] ≡ []
asks_nothing_more read =
    sym (append_cancel_left (requests_of read) [] (brought (left_of read) [])
    (append-nil (requests_of read) ∙ ap requests_of (sym (append-nil read)) ∙ brought-append nothing read []))

leaves_the_same : (read : List ℕ) → left_by (left_of read) [] ≡ left_of read
leaves_the_same read = sym (left_by-append nothing read []) ∙ ap left_of (append-nil read)

-- an empty piece meets the fault of what is left
fault_at-nothing : (read : List ℕ) → fault_at (left_of read) [] ≡ fault_of (left_of read)
unfolding fault_at
fault_at-nothing read = rw (asks_nothing_more read, leaves_the_same read) refl

-- ---- pieces

-- a session took a piece, and then the requests that it brought were served
pub piece_served : {D F W : Type 0} {honest : D → Type 0} {history : D → List Change} {faults : D → ℕ} {contents : W → Option (List ℕ)}
    {new : Service D F W} {result : Result (Unit {0}) Ending} {next : SessionState} {requests : List Request} (old : Service D F W)
    (piece : List ℕ)
    → next ≡ record old.session { left = left_by old.session.left piece } → requests ≡ brought old.session.left piece
    → Serves honest history faults contents (asked_by old.client requests) (record old { session = next }) new result
    → Serves honest history faults contents (asked_by old.client (brought old.session.left piece)) (fed old piece) new result
piece_served {honest = honest} {history = history} {faults = faults} {contents = contents} {new = new} {result = result}
    {requests = requests} old piece left brings served =
    subst (λ (v : List Request). Serves honest history faults contents (asked_by old.client v) (fed old piece) new result) brings
    (subst (λ (s : SessionState). Serves honest history faults contents (asked_by old.client requests) (record old { session = s }) new
    result) left served)

-- what was read so far was served, and its rest is pending
pub record ReadsSoFar {D F W : Type 0} (honest : D → Type 0) (history : D → List Change) (faults : D → ℕ) (contents : W → Option (List ℕ))
    (start input : Option (List ℕ)) (first now : Service D F W) (n : ℕ) : Type 0 where
  pub read : List ℕ
  pub often : n ≤ length read
  pub consumed : Consumes start input read
  pub so_far : Serves honest history faults contents (asked_by first.client (requests_of read)) (fed first read) now (Ok tt)

module _ {D F W : Type 0} {honest : D → Type 0} {history : D → List Change} {faults : D → ℕ} {contents : W → Option (List ℕ)}
    {first : Service D F W} (fresh : first.session.left ≡ nothing) where
  pub reads_begin : (start : Option (List ℕ)) → first.live.is_broken ≡ false
      → ReadsSoFar honest history faults contents start start first first 0
  reads_begin start usable =
      let none : Serves honest history faults contents [] (fed first []) first (Ok tt) =
      over_sessions (record first.session { left = left_by first.session.left [] }) first.session (fed_nothing first.session fresh)
      (serves_none first usable) in
      record {
        read = [];
        often = omega arith;
        consumed = consumes_nothing start start (keeps_itself start);
        so_far = subst (λ (v : List Request). Serves honest history faults contents (asked_by first.client v) (fed first []) first (Ok tt))
            (sym requests_of-nil) none;
      }

  -- and the next piece may come
  pub reads_ready : {start input : Option (List ℕ)} {now : Service D F W} {n : ℕ} → IsUsable first
      → ReadsSoFar honest history faults contents start input first now n → RunsNone now.live.state.machine.job → IsReady now
  reads_ready usable far idle =
      let was : IsUsable (fed first far.read) = record { stage = usable.stage; sent = usable.sent } in
      record { usable = usable_on far.so_far was; idle = idle }

  -- a piece more was served, or wasn't
  pieces_on : {old new : Service D F W} {done : Unit {0}} {result : Result (Unit {0}) Ending} (read piece : List ℕ)
      → Serves honest history faults contents (asked_by first.client (requests_of read)) (fed first read) old (Ok done)
      → Serves honest history faults contents (asked_by old.client (brought old.session.left piece)) (fed old piece) new result
      → Serves honest history faults contents (asked_by first.client (requests_of (read ++ piece))) (fed first (read ++ piece)) new result
  pieces_on {old = old} {new = new} {done = done} {result = result} read piece far served =
      let next : SessionState = record old.session { left = left_by old.session.left piece } in
      let so_far : Serves honest history faults contents (asked_by first.client (requests_of read))
      (record first { session = next }) (fed old piece) (Ok done) =
      over_sessions next next refl far in
      let joined : asked_by first.client (requests_of read) ++ asked_by old.client (brought old.session.left piece)
      ≡ asked_by first.client (requests_of (read ++ piece)) =
      ap (λ (c : ℕ). asked_by first.client (requests_of read) ++ asked_by c (brought old.session.left piece)) far.same_client
      ∙ asked_more first.client read old.session.left piece (left_is first.session old.session read fresh far.session) in
      subst (λ (v : List Event). Serves honest history faults contents v (fed first (read ++ piece)) new result) joined
      (subst (λ (s : SessionState). Serves honest history faults contents
      (asked_by first.client (requests_of read) ++ asked_by old.client (brought old.session.left piece)) (record first { session = s }) new
      result) (fed_on first.session old.session read piece far.session) (serves_on so_far served))

  pub reads_on : {start input later : Option (List ℕ)} {old new : Service D F W} {n : ℕ} {done : Unit {0}} (piece : List ℕ)
      → Consumes input later piece → 1 ≤ length piece → ReadsSoFar honest history faults contents start input first old n
      → Serves honest history faults contents (asked_by old.client (brought old.session.left piece)) (fed old piece) new (Ok done)
      → ReadsSoFar honest history faults contents start later first new (n + 1)
  reads_on {start = start} {input = input} {later = later} piece taken some far served = record {
    read = far.read ++ piece;
    often = omega (arith, far.often, some, length-append far.read piece);
    consumed = consumes_twice start input later far.read piece far.consumed taken;
    so_far = pieces_on far.read piece far.so_far served;
  }

  pub reads_stop : {start input later : Option (List ℕ)} {old new : Service D F W} {n : ℕ} {ending : Ending} (piece : List ℕ)
      → Consumes input later piece → ReadsSoFar honest history faults contents start input first old n
      → Serves honest history faults contents (asked_by old.client (brought old.session.left piece)) (fed old piece) new (Err ending)
      → ServesInput honest history faults contents (asked_by first.client) start later first new (Err ending)
  reads_stop {start = start} {input = input} {later = later} piece taken far served = record {
    read = far.read ++ piece;
    consumed = consumes_twice start input later far.read piece far.consumed taken;
    served = pieces_on far.read piece far.so_far served;
    at_end = tt;
  }

  -- nothing more was read, or could be served
  pub reads_cut : {start input later : Option (List ℕ)} {now : Service D F W} {n : ℕ}
      → Keeps input later → ReadsSoFar honest history faults contents start input first now n
      → ServesInput honest history faults contents (asked_by first.client) start later first now (Err Cut)
  reads_cut {start = start} {input = input} {later = later} kept far = record {
    read = far.read;
    consumed = subst (Consumes start later) (append-nil far.read)
        (consumes_twice start input later far.read [] far.consumed (consumes_nothing input later kept));
    served = serves_cut far.so_far;
    at_end = tt;
  }

  -- What was read is all, and an empty piece was fed behind it: its requests, of which there are none, were served or not.
  pub reads_all : {start input later : Option (List ℕ)} {old new : Service D F W} {n : ℕ} {result : Result (Unit {0}) Ending}
      → Consumes input later [] → IsAtEnd later ⊎ (2 ^ 64 - 1 ≤ n) → ReadsSoFar honest history faults contents start input first old n
      → Serves honest history faults contents (asked_by old.client (brought old.session.left [])) (fed old []) new result
      → OnOk result (fault_at old.session.left [] ≡ None) → OnOk result (RunsNone new.live.state.machine.job)
      → ServesInput honest history faults contents (asked_by first.client) start later first new result
  reads_all {start = start} {input = input} {later = later} {old = old} {new = new} {n = n} {result = result} taken ended far served whole
      idle =
      record {
        read = far.read ++ [];
        consumed = consumes_twice start input later far.read [] far.consumed taken;
        served = pieces_on far.read [] far.so_far served;
        at_end = both _ _ result
            (ok_under _ _ result (λ (is : fault_at old.session.left [] ≡ None). all_read is) whole) idle;
      }
    where
      both : (A B : Type 0) (result : Result (Unit {0}) Ending) → OnOk result A → OnOk result B → OnOk result (A × B)
      both A B (Ok done) a b = (a, b)
      both A B (Err e) a b = tt

      read_to_end : (read more : List ℕ) (n : ℕ) (later : Option (List ℕ)) → IsAtEnd later ⊎ (2 ^ 64 - 1 ≤ n) → n ≤ length read
          → IsAtEnd later ⊎ (2 ^ 64 - 1 ≤ length (read ++ more))
      read_to_end read more n later (inl at_end) often = inl at_end
      read_to_end read more n later (inr enough) often = inr (omega (arith, enough, often, length-append read more))

      all_read : fault_at old.session.left [] ≡ None → IsAllRead (far.read ++ []) later
      all_read is = record {
        ended = read_to_end far.read [] n later ended far.often;
        whole = ap (λ (v : List ℕ). fault_of (left_of v)) (append-nil far.read) ∙ sym (fault_at-nothing far.read)
            ∙ ap (λ (v : Unread). fault_at v [])
            (sym (left_is first.session old.session far.read fresh (let so_far = far.so_far in so_far.session))) ∙ is;
      }

-- ---- from the connect on

module _ {D F W : Type 0} {honest : D → Type 0} {history : D → List Change} {faults : D → ℕ} {contents : W → Option (List ℕ)}
    {old : Service D F W} where
  -- the client was closed, or could not be served, at its connect
  pub stops_at_connect : {new : Service D F W} {ending : Ending} (start : Option (List ℕ))
      → Serves honest history faults contents (events.Connect old.client ∷ []) old new (Err ending)
      → ServesInput honest history faults contents (events_of old.client) start start old new (Err ending)
  stops_at_connect {new = new} {ending = ending} start served = record {
    read = [];
    consumed = consumes_nothing start start (keeps_itself start);
    served = subst (λ (v : List Request). Serves honest history faults contents (events_of old.client v) (fed old []) new (Err ending))
        (sym requests_of-nil)
        (over_sessions (record old.session { left = left_by old.session.left [] }) new.session tt served);
    at_end = tt;
  }

  pub input_on : {now new : Service D F W} {start last : Option (List ℕ)} {done : Unit {0}} {result : Result (Unit {0}) Ending}
      → Serves honest history faults contents (events.Connect old.client ∷ []) old now (Ok done)
      → ServesInput honest history faults contents (asked_by now.client) start last now new result
      → ServesInput honest history faults contents (events_of old.client) start last old new result
  input_on {now = now} {new = new} {done = done} {result = result} first input =
      let of_first : SessionState = record old.session { left = left_by old.session.left input.read } in
      let of_now : SessionState = record now.session { left = left_by now.session.left input.read } in
      let connected : Serves honest history faults contents (events.Connect old.client ∷ []) (fed old input.read) (fed now input.read)
      (Ok done) =
      over_sessions of_first of_now (ap (λ (s : SessionState). record s { left = left_by s.left input.read }) first.session) first in
      record {
        read = input.read;
        consumed = input.consumed;
        served = subst (λ (c : ℕ). Serves honest history faults contents
            (events.Connect old.client ∷ asked_by c (requests_of input.read)) (fed old input.read) new result) first.same_client
            (serves_on connected input.served);
        at_end = input.at_end;
      }
