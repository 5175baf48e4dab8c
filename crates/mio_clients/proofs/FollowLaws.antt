-- Clients that go on or are let go of, in several steps.
use Rattle.std.proofs.Common.{◌≡◌, ◌≢◌, ℕ, ◌+◌, ◌≤◌, ◌<◌, List, [], ◌∷◌, ◌++◌, Option, Some, None, Bool, MatchOption, IsSomeAnd, IsSome}
use Rattle.std.proofs.Common.{refl, sym, ◌∙◌, ap, append_assoc, arith}
use Rattle.std.specs.Option.{option_to_list}
use Rattle.std.proofs.lemmas.List.{append-nil}
use Rattle.slab.specs.Slab.{Slab, get}
use Rattle.command_text.specs.declared.request.Request.{Request}
use Rattle.client_session.specs.Requests.{requests_in_pieces}
use Rattle.mio_clients.specs.declared.client.Client.{Client}
use Rattle.mio_clients.specs.declared.event.ClientEvent.{ClientEvent}
use Rattle.mio_clients.specs.declared.event.ClientEvent.TheVariants as events
use Rattle.mio_clients.specs.Events.{asked_in, without}
use Rattle.mio_clients.specs.Given.{Moves}
use Rattle.mio_clients.specs.Connections.{ConnectionsState, IsVacant, IsMovedAt, IsToldGone, Reads, ReadsInPart, IsAdmitted}
use Rattle.mio_clients.specs.Later.{no_bytes, no_requests, bytes_for}
use Rattle.mio_clients.specs.Leaving.{AllLeave, LeavesNew, IsLeft, AllFollow, IsFollowed}
use Rattle.mio_clients.proofs.ForgetLaws.{asked_without, asked_without_own}
use Rattle.mio_clients.proofs.LaterLaws.{asked_in-append, gained_other, go_itself, go_twice, go_same, go_quiet, go_moved, go_vacant, go_given, go_dropped, go_refused, go_lost, go_is_later, is_later_then, is_later_more, is_later_room, is_later_admitted, told_quiet}
use Rattle.mio_clients.proofs.LeavingLaws.{leave_twice, leave_same, leave_still, leave_moved, leave_forgotten, leave_dropped, leave_refused, leave_part, leave_admitted}

module _ {S : Type 0} (remaining contents : S → Option (List ℕ)) where
  left_twice : (a b c : ConnectionsState S) (xs ys : List (Client S)) → b.left ≡ a.left ++ xs → c.left ≡ b.left ++ ys
      → c.left ≡ a.left ++ (xs ++ ys)
  left_twice a b c xs ys p q = q ∙ (ap (λ t. t ++ ys) p ∙ append_assoc a.left xs ys)

  -- where nobody connects, nobody new is let go of
  none_new : (a b c : ConnectionsState S) (xs ys : List ℕ) (ss ts : List Request) (y : Client S) → c.last_id ≡ b.last_id
      → IsLeft remaining contents ys ts b c y → LeavesNew remaining contents ys ts (asked_in y.id c.events) b.last_id y
      → LeavesNew remaining contents (xs ++ ys) (ss ++ ts) (asked_in y.id c.events) a.last_id y
  none_new a b c xs ys ss ts y last l new = absurd (omega (arith, new.later, new.leaves.same, l.known, last))

  pub all_itself : (a : ConnectionsState S) → AllFollow remaining contents no_bytes no_requests a a
  all_itself a = record {
    later = go_itself remaining contents a;
    gone = [];
    left = sym (append-nil a.left);
    leave = leave_still remaining contents a a no_bytes refl refl;
  }

  pub all_twice : (a b c : ConnectionsState S) (sent more : ℕ → List ℕ) (served then : ℕ → List Request)
      → AllFollow remaining contents sent served a b → AllFollow remaining contents more then b c
      → AllFollow remaining contents (λ i. sent i ++ more i) (λ i. served i ++ then i) a c
  all_twice a b c sent more served then p q = record {
    later = go_twice remaining contents a b c sent more served then p.later q.later;
    gone = p.gone ++ q.gone;
    left = left_twice a b c p.gone q.gone p.left q.left;
    leave = leave_twice remaining contents a b c sent more served then p.gone q.gone
        (go_is_later remaining contents a b sent served p.later) (go_is_later remaining contents b c more then q.later)
        (λ y l new. none_new a b c (sent y.id) (more y.id) (served y.id) (then y.id) y q.later.last_id l new) p.leave q.leave;
  }

  pub all_same : (a b : ConnectionsState S) (sent more : ℕ → List ℕ) (served then : ℕ → List Request) → ((i : ℕ) → sent i ≡ more i)
      → ((i : ℕ) → served i ≡ then i) → AllFollow remaining contents sent served a b → AllFollow remaining contents more then a b
  all_same a b sent more served then e f p = record {
    later = go_same remaining contents a b sent more served then e f p.later;
    gone = p.gone;
    left = p.left;
    leave = leave_same remaining contents a b sent more served then p.gone e f p.leave;
  }

  -- and then nothing more
  pub all_then_none : (a b c : ConnectionsState S) (sent : ℕ → List ℕ) (served : ℕ → List Request)
      → AllFollow remaining contents sent served a b → AllFollow remaining contents no_bytes no_requests b c
      → AllFollow remaining contents sent served a c
  all_then_none a b c sent served p q =
      all_same a c (λ i. sent i ++ []) sent (λ i. served i ++ []) served (λ i. append-nil (sent i)) (λ i. append-nil (served i))
      (all_twice a b c sent no_bytes served no_requests p q)

  pub all_is_later : (a b : ConnectionsState S) (sent : ℕ → List ℕ) (served : ℕ → List Request) → AllFollow remaining contents sent served a b
      → IsFollowed remaining contents sent served a b
  all_is_later a b sent served p = record {
    later = go_is_later remaining contents a b sent served p.later;
    gone = p.gone;
    left = p.left;
    leave = p.leave;
  }

  pub later_then : (a b c : ConnectionsState S) (sent more : ℕ → List ℕ) (served then : ℕ → List Request)
      → IsFollowed remaining contents sent served a b → AllFollow remaining contents more then b c
      → IsFollowed remaining contents (λ i. sent i ++ more i) (λ i. served i ++ then i) a c
  later_then a b c sent more served then p q = record {
    later = is_later_then remaining contents a b c sent more served then p.later q.later;
    gone = p.gone ++ q.gone;
    left = left_twice a b c p.gone q.gone p.left q.left;
    leave = leave_twice remaining contents a b c sent more served then p.gone q.gone p.later
        (go_is_later remaining contents b c more then q.later)
        (λ y l new. none_new a b c (sent y.id) (more y.id) (served y.id) (then y.id) y q.later.last_id l new) p.leave q.leave;
  }

  pub later_itself : (a : ConnectionsState S) → IsFollowed remaining contents no_bytes no_requests a a
  later_itself a = all_is_later a a no_bytes no_requests (all_itself a)

  new_since : (a b c : ConnectionsState S) (y : Client S) → a.last_id ≤ b.last_id
      → LeavesNew remaining contents [] [] (asked_in y.id c.events) b.last_id y
      → LeavesNew remaining contents [] [] (asked_in y.id c.events) a.last_id y
  new_since a b c y before new = record {
    first = new.first;
    later = omega (arith, before, new.later);
    session = new.session;
    leaves = new.leaves;
  }

  -- nothing is given or served, and more clients connect
  pub later_more : (a b c : ConnectionsState S) → IsFollowed remaining contents no_bytes no_requests a b
      → IsFollowed remaining contents no_bytes no_requests b c → IsFollowed remaining contents no_bytes no_requests a c
  later_more a b c p q = record {
    later = is_later_more remaining contents a b c p.later q.later;
    gone = p.gone ++ q.gone;
    left = left_twice a b c p.gone q.gone p.left q.left;
    leave = leave_twice remaining contents a b c no_bytes no_bytes no_requests no_requests p.gone q.gone p.later q.later
        (λ y l new. new_since a b c y p.later.last_id new) p.leave q.leave;
  }

  -- how much room there is matters to no client
  pub later_room : (a b : ConnectionsState S) → b ≡ record a { room = b.room; places = b.places }
      → IsFollowed remaining contents no_bytes no_requests a b
  later_room a b same = record {
    later = is_later_room remaining contents a b same;
    gone = [];
    left = ap (λ (t : ConnectionsState S). t.left) same ∙ sym (append-nil a.left);
    leave = leave_still remaining contents a b no_bytes (ap (λ (t : ConnectionsState S). t.clients) same)
        (ap (λ (t : ConnectionsState S). t.events) same);
  }

  -- room was made, and then more clients connected
  pub later_roomy : (a b m c : ConnectionsState S) → m ≡ record b { room = m.room; places = m.places }
      → IsFollowed remaining contents no_bytes no_requests a b
      → IsFollowed remaining contents no_bytes no_requests m c → IsFollowed remaining contents no_bytes no_requests a c
  later_roomy a b m c same p q = later_more a m c (later_more a b m p (later_room b m same)) q

  -- the clients stay as they are, and what waits of each too
  pub all_still : (a b : ConnectionsState S) → b.clients ≡ a.clients → b.events ≡ a.events → b.last_id ≡ a.last_id → b.left ≡ a.left
      → AllFollow remaining contents no_bytes no_requests a b
  all_still a b clients events last left = record {
    later = go_quiet remaining contents a b last (λ key client there.
        (ap (λ (s : Slab (Client S)). get s key) (sym clients) ∙ there, ap (asked_in client.id) events));
    gone = [];
    left = left ∙ sym (append-nil a.left);
    leave = leave_still remaining contents a b no_bytes clients events;
  }

  -- the client of a number isn't there
  pub all_vacant : (a : ConnectionsState S) (n : ℕ) (bytes : List ℕ)
      → ((k : ℕ) (client : Client S) → get a.clients k ≡ Some client → client.id ≢ n)
      → AllFollow remaining contents (bytes_for n bytes) no_requests a a
  all_vacant a n bytes vacant = record {
    later = go_vacant remaining contents a n bytes vacant;
    gone = [];
    left = sym (append-nil a.left);
    leave = leave_still remaining contents a a (bytes_for n bytes) refl refl;
  }

  moved_quiet : (P : Client S → Client S → Type 0) (a b : ConnectionsState S) (key n : ℕ) (slot after : Option (Client S))
      → get a.clients key ≡ slot → MatchOption slot (after ≡ None) (λ x. IsSomeAnd after (λ y. P x y))
      → ((x y : Client S) → P x y → Reads remaining contents x y a.events b.events) → (slot ≡ None → b.events ≡ a.events)
      → IsVacant a n → asked_in n b.events ≡ asked_in n a.events
  moved_quiet P a b key n None after was moved reads quiet vacant = ap (asked_in n) (quiet refl)
  moved_quiet P a b key n (Some x) None was moved reads quiet vacant = absurd moved
  moved_quiet P a b key n (Some x) (Some y) was moved reads quiet vacant =
      let r = reads x y moved in
      gained_other n x.id a.events b.events (requests_in_pieces x.session.left r.pieces) (vacant key x was) r.added

  -- the client at a key, if there is one, was read or written
  pub all_moved : (P : Client S → Client S → Type 0) (a b : ConnectionsState S) (key : ℕ) → IsMovedAt P key a.clients b.clients
      → ((x y : Client S) → P x y → Reads remaining contents x y a.events b.events)
      → ((c d : ℕ) (u v : Client S) → get a.clients c ≡ Some u → get a.clients d ≡ Some v → u.id ≡ v.id → c ≡ d)
      → ((other : ℕ) → other ≢ key → get b.clients other ≡ get a.clients other) → b.last_id ≡ a.last_id
      → (get a.clients key ≡ None → b.events ≡ a.events) → b.left ≡ a.left → AllFollow remaining contents no_bytes no_requests a b
  all_moved P a b key moved reads distinct others last quiet left = record {
    later = go_moved remaining contents P a b key moved reads distinct others last quiet;
    gone = [];
    left = left ∙ sym (append-nil a.left);
    leave = leave_moved remaining contents P a b no_bytes key moved (λ x y p. (reads x y p).moves.same) others
        (λ n vacant. moved_quiet P a b key n (get a.clients key) (get b.clients key) refl moved reads quiet vacant);
  }

  -- bytes were queued for the client of a number
  pub all_given : (a b : ConnectionsState S) (key n : ℕ) (bytes : List ℕ) → IsSomeAnd (get a.clients key) (λ x. x.id ≡ n)
      → IsMovedAt (λ x y. Moves remaining contents bytes [] x y) key a.clients b.clients
      → ((c d : ℕ) (u v : Client S) → get a.clients c ≡ Some u → get a.clients d ≡ Some v → u.id ≡ v.id → c ≡ d)
      → ((other : ℕ) → other ≢ key → get b.clients other ≡ get a.clients other) → b.last_id ≡ a.last_id → b.events ≡ a.events
      → b.left ≡ a.left → AllFollow remaining contents (bytes_for n bytes) no_requests a b
  all_given a b key n bytes number moved distinct others last same left = record {
    later = go_given remaining contents a b key n bytes number moved distinct others last same;
    gone = [];
    left = left ∙ sym (append-nil a.left);
    leave = leave_moved remaining contents (λ x y. Moves remaining contents bytes [] x y) a b (bytes_for n bytes) key moved (λ x y m. m.same) others
        (λ i vacant. ap (asked_in i) same);
  }

  -- the client at a key was let go of
  pub all_dropped : (a b : ConnectionsState S) (key : ℕ) → get b.clients key ≡ None
      → ((other : ℕ) → other ≢ key → get b.clients other ≡ get a.clients other) → b.last_id ≡ a.last_id
      → IsToldGone (get a.clients key) a.events b.events
      → ((c d : ℕ) (u v : Client S) → get a.clients c ≡ Some u → get a.clients d ≡ Some v → u.id ≡ v.id → c ≡ d)
      → ((k : ℕ) (client : Client S) → get a.clients k ≡ Some client → client.id ≤ b.last_id)
      → b.left ≡ a.left ++ option_to_list (get a.clients key) → AllFollow remaining contents no_bytes no_requests a b
  all_dropped a b key gone others last told distinct known left = record {
    later = go_dropped remaining contents a b key gone others last told;
    gone = option_to_list (get a.clients key);
    left = left;
    leave = leave_dropped remaining contents a b key (get a.clients key) refl gone others distinct known
        (told_quiet remaining contents (get a.clients key) a.events b.events told);
  }

  refused_at : (a b : ConnectionsState S) (mid : Slab (Client S)) (key n : ℕ) (bytes : List ℕ) (waits : Client S → Bool)
      (active : Client S → ℕ) (slot after : Option (Client S))
      → get a.clients key ≡ slot → get mid key ≡ after → IsSomeAnd slot (λ x. x.id ≡ n)
      → MatchOption slot (after ≡ None) (λ x. IsSomeAnd after (λ y. y ≡ record x {
        session = y.session;
        is_waiting = waits x;
        last_active = active x;
      }))
      → get b.clients key ≡ None
      → ((c d : ℕ) (u v : Client S) → get a.clients c ≡ Some u → get a.clients d ≡ Some v → u.id ≡ v.id → c ≡ d)
      → ((other : ℕ) → other ≢ key → get b.clients other ≡ get a.clients other)
      → ((k : ℕ) (client : Client S) → get a.clients k ≡ Some client → client.id ≤ b.last_id)
      → ((i : ℕ) → asked_in i b.events ≡ asked_in i a.events)
      → AllLeave remaining contents (bytes_for n bytes) no_requests a b (option_to_list after)
  refused_at a b mid key n bytes waits active None after was is number moved gone distinct others known quiet = absurd number
  refused_at a b mid key n bytes waits active (Some x) None was is number moved gone distinct others known quiet = absurd moved
  refused_at a b mid key n bytes waits active (Some x) (Some y) was is number moved gone distinct others known quiet =
      leave_refused remaining contents a b (bytes_for n bytes) key x y was (ap (λ (t : Client S). t.id) moved)
      (ap (λ (t : Client S). t.stream) moved) gone others distinct known quiet

  -- the client of a number was let go of, since bytes could not be given to it
  pub all_refused : (a b : ConnectionsState S) (mid : Slab (Client S)) (key n : ℕ) (bytes : List ℕ) (waits : Client S → Bool)
      (active : Client S → ℕ)
      → IsSomeAnd (get a.clients key) (λ x. x.id ≡ n)
      → IsMovedAt (λ x y. y ≡ record x { session = y.session; is_waiting = waits x; last_active = active x }) key a.clients mid
      → get b.clients key ≡ None
      → ((c d : ℕ) (u v : Client S) → get a.clients c ≡ Some u → get a.clients d ≡ Some v → u.id ≡ v.id → c ≡ d)
      → ((other : ℕ) → other ≢ key → get b.clients other ≡ get a.clients other) → b.last_id ≡ a.last_id
      → ((k : ℕ) (client : Client S) → get a.clients k ≡ Some client → client.id ≤ b.last_id)
      → ((i : ℕ) → asked_in i b.events ≡ asked_in i a.events) → b.left ≡ a.left ++ option_to_list (get mid key)
      → AllFollow remaining contents (bytes_for n bytes) no_requests a b
  all_refused a b mid key n bytes waits active number moved gone distinct others last known quiet left = record {
    later = go_refused remaining contents a b key n bytes number gone distinct others last (λ i ne. quiet i);
    gone = option_to_list (get mid key);
    left = left;
    leave = refused_at a b mid key n bytes waits active (get a.clients key) (get mid key) refl refl number moved gone distinct others known quiet;
  }

  -- the client at a key was let go of for want of memory, behind requests of it that were gathered before
  pub all_lost : (a b : ConnectionsState S) (key : ℕ) (x y : Client S) (mid : List ClientEvent) → get a.clients key ≡ Some x
      → ReadsInPart remaining contents x y a.events mid → get b.clients key ≡ None
      → ((c d : ℕ) (u v : Client S) → get a.clients c ≡ Some u → get a.clients d ≡ Some v → u.id ≡ v.id → c ≡ d)
      → ((other : ℕ) → other ≢ key → get b.clients other ≡ get a.clients other) → b.last_id ≡ a.last_id
      → ((k : ℕ) (client : Client S) → get a.clients k ≡ Some client → client.id ≤ b.last_id)
      → ((i : ℕ) → asked_in i b.events ≡ asked_in i mid) → b.left ≡ a.left ++ y ∷ []
      → AllFollow remaining contents no_bytes no_requests a b
  all_lost a b key x y mid was part gone distinct others last known quiet left = record {
    later = go_lost remaining contents a b key x part.requests mid was part.added gone distinct others last quiet;
    gone = y ∷ [];
    left = left;
    leave = leave_part remaining contents a b key x y mid was part gone others distinct known
        (λ n ne. quiet n ∙ gained_other n x.id a.events mid part.requests ne part.added) (quiet x.id);
  }

  -- the client that a move says is there
  there_some : (P : Client S → Client S → Type 0) (slot after : Option (Client S)) → IsSome slot
      → MatchOption slot (after ≡ None) (λ x. IsSomeAnd after (λ y. P x y))
      → (x : Client S) × (y : Client S) × (slot ≡ Some x) × (after ≡ Some y) × P x y
  there_some P None after some moved = absurd (cc some)
  there_some P (Some x) None some moved = absurd moved
  there_some P (Some x) (Some y) some moved = (x, y, refl, refl, moved)

  pub moved_there : (P : Client S → Client S → Type 0) (key : ℕ) (old new : Slab (Client S)) → IsSome (get old key) → IsMovedAt P key old new
      → (x : Client S) × (y : Client S) × (get old key ≡ Some x) × (get new key ≡ Some y) × P x y
  moved_there P key old new some moved = there_some P (get old key) (get new key) some moved

  -- a client that was taken in is new; the others go on
  pub later_admitted : (stream : S) (a b : ConnectionsState S) → IsAdmitted stream a b
      → ((c : ℕ) → a.last_id < c → asked_in c a.events ≡ []) → b.left ≡ a.left
      → IsFollowed remaining contents no_bytes no_requests a b
  later_admitted stream a b ad none left = record {
    later = is_later_admitted remaining contents stream a b ad none;
    gone = [];
    left = left ∙ sym (append-nil a.left);
    leave = leave_admitted remaining contents stream a b no_bytes ad (λ n.
        ap (asked_in n) ad.gathered ∙ (asked_in-append n a.events (events.Connect (a.last_id + 1) ∷ []) ∙ append-nil (asked_in n a.events)));
  }

  -- the requests of a client that isn't there were let go of
  pub all_forgotten : (a b : ConnectionsState S) (id : ℕ) → IsVacant a id → b.clients ≡ a.clients → b.last_id ≡ a.last_id → b.left ≡ a.left
      → b.events ≡ without id a.events → AllFollow remaining contents no_bytes no_requests a b
  all_forgotten a b id vacant clients last left without_it =
      let quiet : (n : ℕ) → id ≢ n → asked_in n b.events ≡ asked_in n a.events =
      λ n ne. ap (asked_in n) without_it ∙ asked_without id n a.events ne in
      record {
        later = go_quiet remaining contents a b last (λ key client there.
            let before = ap (λ (s : Slab (Client S)). get s key) (sym clients) ∙ there in
            (before, quiet client.id (λ e. vacant key client before (sym e))));
        gone = [];
        left = left ∙ sym (append-nil a.left);
        leave = leave_forgotten remaining contents a b no_bytes id clients (ap (asked_in id) without_it ∙ asked_without_own id a.events) quiet;
      }
