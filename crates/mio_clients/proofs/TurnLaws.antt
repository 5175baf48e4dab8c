-- A turn of the loop, part by part.
use Rattle.std.proofs.Common.{◌≡◌, ◌≢◌, ℕ, ◌+◌, ◌<◌, ◌==◌, List, [], ◌∷◌, ◌++◌, Option, Some, None, Bool, true, false}
use Rattle.std.proofs.Common.{refl, sym, subst, ◌∙◌, ap, append_assoc, arith, inl, inr, length, zero, suc, min, drop, ◌-◌, ◌*◌, ◌≤◌}
use Rattle.std.specs.Prelude.{IfSome, IsTrue}
use Rattle.std.proofs.lemmas.List.{append-nil}
use Rattle.std.proofs.lemmas.List.Sums.{sum_by-append}
use Rattle.std.proofs.Math.Seq.{drop-append_seam}
use Rattle.live_stage.specs.Group.{most_looks}
use Rattle.live_stage.specs.Numbers.{greatest}
use Rattle.daemon_core.proofs.LooksLaws.{step_within}
use Rattle.std.proofs.lemmas.Bool.{eqb-true, eqb-false}
use Rattle.slab.specs.Slab.{Slab, get}
use Rattle.command_text.specs.declared.request.Request.{Request}
use Rattle.client_session.specs.Requests.{requests_in_pieces}
use Rattle.daemon_core.specs.declared.event.Event.{Event}
use Rattle.daemon_core.specs.declared.event.Event.TheVariants as stage_events
use Rattle.daemon_core.specs.declared.outcome.Output.{Output}
use Rattle.stage_workers.specs.declared.served.Served.{Served as ServedEvent}
use Rattle.stage_workers.specs.PassState.{PassState}
use Rattle.mio_clients.specs.declared.client.Client.{Client}
use Rattle.mio_clients.specs.declared.event.ClientEvent.{ClientEvent}
use Rattle.mio_clients.specs.declared.part.Part.{Part}
use Rattle.mio_clients.specs.declared.part.Part.TheVariants.{Served, Collected, Refused}
use Rattle.mio_clients.specs.declared.turning.Kept.{Kept}
use Rattle.mio_clients.specs.declared.turning.Kept.TheVariants as kept
use Rattle.mio_clients.specs.Events.{asked_by_event, asked_in}
use Rattle.mio_clients.specs.Connections.{ConnectionsState, IsVacant, IsAlone, with_clock_asked}
use Rattle.mio_clients.specs.Later.{AllGoOn, IsLater, Loses, no_bytes, no_requests, bytes_for}
use Rattle.std.specs.List.{AllByRecursion}
use Rattle.mio_clients.specs.Leaving.{AllLeave, IsLeft, AllFollow, IsFollowed, IsForgotten}
use Rattle.mio_clients.specs.Grouping.{TakesMany}
use Rattle.mio_clients.specs.Waiting.{QuietBehind, StaysQuiet}
use Rattle.stage_workers.specs.declared.refusal.StageError.{StageError}
use Rattle.mio_clients.specs.Parts.{bytes_in, bytes_of, requests_in, request_of, asked_of, served_count, refuses, RefusesLast, Serves, looks_in, looks_of, EndsWithin, IsWithin, IsKeptOf, IsKeptAs, bytes_to, bytes_to_all, sent_by, sent_by_all, sent_by_served}
use Rattle.mio_clients.proofs.LeavingLaws.{all_of, leaves_from, leaves_lost}
use Rattle.mio_clients.proofs.FollowLaws.{all_itself, all_twice, all_then_none, all_same, all_still, later_then}

module _ {D : Type 0} where
  pub bytes_in-append : (xs ys : List (Part D)) (c : ℕ) → bytes_in (xs ++ ys) c ≡ bytes_in xs c ++ bytes_in ys c
  bytes_in-append [] ys c = refl
  bytes_in-append (x ∷ xs) ys c =
      ap (λ t. bytes_of c x ++ t) (bytes_in-append xs ys c) ∙ sym (append_assoc (bytes_of c x) (bytes_in xs c) (bytes_in ys c))

  pub requests_in-append : (xs ys : List (Part D)) (c : ℕ) → requests_in (xs ++ ys) c ≡ requests_in xs c ++ requests_in ys c
  requests_in-append [] ys c = refl
  requests_in-append (x ∷ xs) ys c =
      ap (λ t. request_of c x ++ t) (requests_in-append xs ys c) ∙ sym (append_assoc (request_of c x) (requests_in xs c) (requests_in ys c))

  pub served_count-append : (xs ys : List (Part D)) → served_count (xs ++ ys) ≡ served_count xs + served_count ys
  served_count-append [] ys = omega arith
  served_count-append (Served s ∷ xs) ys = (let h = served_count-append xs ys in omega (arith, h))
  served_count-append (Collected o ∷ xs) ys = served_count-append xs ys
  served_count-append (Refused n ∷ xs) ys = served_count-append xs ys

  pub refuses-append : (xs ys : List (Part D)) → refuses xs ≡ false → refuses (xs ++ ys) ≡ refuses ys
  refuses-append [] ys none = refl
  refuses-append (Served s ∷ xs) ys none = refuses-append xs ys none
  refuses-append (Collected o ∷ xs) ys none = refuses-append xs ys none
  refuses-append (Refused n ∷ xs) ys none = absurd (cc none)

  pub refuses_last-append : (xs ys : List (Part D)) → refuses xs ≡ false → RefusesLast ys → RefusesLast (xs ++ ys)
  refuses_last-append [] ys none last = last
  refuses_last-append (Served s ∷ xs) ys none last = refuses_last-append xs ys none last
  refuses_last-append (Collected o ∷ xs) ys none last = refuses_last-append xs ys none last
  refuses_last-append (Refused n ∷ xs) ys none last = absurd (cc none)

module _ {S : Type 0} (remaining contents : S → Option (List ℕ)) where
  pub go_from : (a p b : ConnectionsState S) (sent : ℕ → List ℕ) (served front : ℕ → List Request) → p.clients ≡ a.clients
      → p.last_id ≡ a.last_id
      → ((key : ℕ) (client : Client S) → get b.clients key ≡ Some client
      → asked_in client.id a.events ≡ front client.id ++ asked_in client.id p.events)
      → AllGoOn remaining contents sent served p b → AllGoOn remaining contents sent (λ i. front i ++ served i) a b
  go_from a p b sent served front clients last here q = record {
    last_id = q.last_id ∙ last;
    each = λ key client there.
        let k = q.each key client there in
        let more = requests_in_pieces k.before.session.left k.goes_on.pieces in
        record {
          before = k.before;
          there = ap (λ (s : Slab (Client S)). get s key) (sym clients) ∙ k.there;
          goes_on = record {
            pieces = k.goes_on.pieces;
            moves = k.goes_on.moves;
            asked = append_assoc (front client.id) (served client.id) (asked_in client.id b.events)
                ∙ (ap (λ t. front client.id ++ t) k.goes_on.asked
                ∙ (sym (append_assoc (front client.id) (asked_in client.id p.events) more)
                ∙ ap (λ t. t ++ more) (sym (here key client there))));
          };
        };
  }

  -- First an event is taken, of which these are the requests; then so many are served.
  pub left_from : (a p b : ConnectionsState S) (bytes : List ℕ) (front served : List Request) (x : Client S) → p.clients ≡ a.clients
      → b.last_id ≡ p.last_id → asked_in x.id a.events ≡ front ++ asked_in x.id p.events → IsLeft remaining contents bytes served p b x
      → IsLeft remaining contents bytes (front ++ served) a b x
  left_from a p b bytes front served x clients last here l = record {
    vacant = l.vacant;
    known = l.known;
    leaves = elim l.leaves [
      | inl k ↦ inl (record {
        key = k.key;
        before = k.before;
        there = ap (λ (s : Slab (Client S)). get s k.key) (sym clients) ∙ k.there;
        leaves = leaves_from remaining contents k.before x bytes front served (asked_in x.id a.events) (asked_in x.id p.events)
            (asked_in x.id b.events) k.leaves here;
      })
      | inr new ↦ absurd (omega (arith, new.later, new.leaves.same, l.known, last))
    ];
  }

  pub vacant_as : (a p : ConnectionsState S) (n : ℕ) → p.clients ≡ a.clients → IsVacant a n → IsVacant p n
  vacant_as a p n clients vacant = λ k client there. vacant k client (ap (λ (s : Slab (Client S)). get s k) (sym clients) ∙ there)

  pub all_from : (a p b : ConnectionsState S) (sent : ℕ → List ℕ) (served front : ℕ → List Request) → p.clients ≡ a.clients
      → p.last_id ≡ a.last_id → p.left ≡ a.left → ((c : ℕ) → asked_in c a.events ≡ front c ++ asked_in c p.events)
      → AllFollow remaining contents sent served p b → AllFollow remaining contents sent (λ i. front i ++ served i) a b
  all_from a p b sent served front clients last left here q = record {
    later = go_from a p b sent served front clients last (λ key client there. here client.id) q.later;
    gone = q.gone;
    left = q.left ∙ ap (λ t. t ++ q.gone) left;
    leave = record {
      each = all_of (λ x. IsLeft remaining contents (sent x.id) (served x.id) p b x)
          (λ x. IsLeft remaining contents (sent x.id) (front x.id ++ served x.id) a b x) q.gone
          (λ x l. left_from a p b (sent x.id) (front x.id) (served x.id) x clients q.later.last_id (here x.id) l) q.leave.each;
      stay = λ key client there. q.leave.stay key client (ap (λ (s : Slab (Client S)). get s key) clients ∙ there);
      absent = λ n first then apart.
          let rest = q.leave.absent n (vacant_as a p n clients first) then apart in
          (rest.0, append_assoc (front n) (served n) (asked_in n b.events ++ rest.0) ∙ (ap (λ t. front n ++ t) rest.1 ∙ sym (here n)));
    };
  }

  left_lost : (a p b : ConnectionsState S) (id : ℕ) (x : Client S) (t : Bool) → (id == x.id) ≡ t → p.clients ≡ a.clients
      → b.last_id ≡ p.last_id → ((c : ℕ) → id ≢ c → asked_in c a.events ≡ asked_in c p.events) → asked_in id b.events ≡ []
      → IsLeft remaining contents [] [] p b x → IsLeft remaining contents [] [] a b x
  left_lost a p b id x false e clients last here none l =
      left_from a p b [] [] [] x clients last (here x.id (eqb-false id x.id e)) l
  left_lost a p b id x true e clients last here none l = record {
    vacant = l.vacant;
    known = l.known;
    leaves = elim l.leaves [
      | inl k ↦ inl (record {
        key = k.key;
        before = k.before;
        there = ap (λ (s : Slab (Client S)). get s k.key) (sym clients) ∙ k.there;
        leaves = leaves_lost remaining contents k.before x [] (asked_in x.id a.events) (asked_in x.id p.events) (asked_in x.id b.events)
            k.leaves (subst (λ (n : ℕ). asked_in n b.events ≡ []) (eqb-true id x.id e) none);
      })
      | inr new ↦ absurd (omega (arith, new.later, new.leaves.same, l.known, last))
    ];
  }

  absent_lost : (a b : ConnectionsState S) (id n : ℕ) (t : Bool) → (id == n) ≡ t → asked_in id b.events ≡ []
      → (id ≢ n → (unserved : List Request) × (asked_in n b.events ++ unserved ≡ asked_in n a.events))
      → (unserved : List Request) × (asked_in n b.events ++ unserved ≡ asked_in n a.events)
  absent_lost a b id n true e none others =
      (asked_in n a.events, ap (λ t. t ++ asked_in n a.events) (subst (λ (m : ℕ). asked_in m b.events ≡ []) (eqb-true id n e) none))
  absent_lost a b id n false e none others = others (eqb-false id n e)

  -- First a request of a client is taken; then the client is let go of, and all that it asked.
  all_dropped_behind : (a p b : ConnectionsState S) (id : ℕ) → p.clients ≡ a.clients → p.last_id ≡ a.last_id → p.left ≡ a.left
      → ((c : ℕ) → id ≢ c → asked_in c a.events ≡ asked_in c p.events) → IsVacant b id → asked_in id b.events ≡ []
      → AllFollow remaining contents no_bytes no_requests p b → AllFollow remaining contents no_bytes no_requests a b
  all_dropped_behind a p b id clients last left here vacant none q = record {
    later = go_from a p b no_bytes no_requests no_requests clients last
        (λ key client there. here client.id (λ same. vacant key client there (sym same))) q.later;
    gone = q.gone;
    left = q.left ∙ ap (λ t. t ++ q.gone) left;
    leave = record {
      each = all_of (λ x. IsLeft remaining contents [] [] p b x) (λ x. IsLeft remaining contents [] [] a b x) q.gone
          (λ x l. left_lost a p b id x (id == x.id) refl clients q.later.last_id here none l) q.leave.each;
      stay = λ key client there. q.leave.stay key client (ap (λ (s : Slab (Client S)). get s key) clients ∙ there);
      absent = λ n first then apart. absent_lost a b id n (id == n) refl none (λ ne.
          let rest = q.leave.absent n (vacant_as a p n clients first) then apart in
          (rest.0, rest.1 ∙ sym (here n ne)));
    };
  }

  -- that a clock was asked, or counts as not asked again, matters to no client
  pub all_asked : (a p : ConnectionsState S) → p ≡ with_clock_asked a → AllFollow remaining contents no_bytes no_requests a p
  all_asked a p same =
      all_still remaining contents a p (ap (λ (t : ConnectionsState S). t.clients) same) (ap (λ (t : ConnectionsState S). t.events) same)
      (ap (λ (t : ConnectionsState S). t.last_id) same) (ap (λ (t : ConnectionsState S). t.left) same)

  pub all_unasked : (a p b : ConnectionsState S) → p ≡ with_clock_asked a → b ≡ record p { clock_second = None }
      → AllFollow remaining contents no_bytes no_requests a b
  all_unasked a p b same none =
      all_still remaining contents a b
      (ap (λ (t : ConnectionsState S). t.clients) none ∙ ap (λ (t : ConnectionsState S). t.clients) same)
      (ap (λ (t : ConnectionsState S). t.events) none ∙ ap (λ (t : ConnectionsState S). t.events) same)
      (ap (λ (t : ConnectionsState S). t.last_id) none ∙ ap (λ (t : ConnectionsState S). t.last_id) same)
      (ap (λ (t : ConnectionsState S). t.left) none ∙ ap (λ (t : ConnectionsState S). t.left) same)

  module _ {D : Type 0} where
    pub serves_none : (a : ConnectionsState S) (ps : List (Part D)) (pass : PassState) → Serves remaining contents true a a ps ps pass pass
    serves_none a ps pass = record {
      added = [];
      parts = sym (append-nil ps);
      later = all_itself remaining contents a;
      kind = refl;
      share = omega arith;
      seen = omega arith;
      refused = tt;
      unrefused = λ _. refl;
      told = λ no. absurd (cc no);
    }

    pub serves_twice : (goes_on : Bool) (a b c : ConnectionsState S) (ps qs rs : List (Part D)) (x y z : PassState)
        → Serves remaining contents true a b ps qs x y → Serves remaining contents goes_on b c qs rs y z
        → Serves remaining contents goes_on a c ps rs x z
    serves_twice goes_on a b c ps qs rs x y z p q = record {
      added = p.added ++ q.added;
      parts = q.parts ∙ (ap (λ t. t ++ q.added) p.parts ∙ append_assoc ps p.added q.added);
      later = all_same remaining contents a c (λ i. bytes_in p.added i ++ bytes_in q.added i) (bytes_in (p.added ++ q.added))
          (λ i. requests_in p.added i ++ requests_in q.added i) (requests_in (p.added ++ q.added))
          (λ i. sym (bytes_in-append p.added q.added i)) (λ i. sym (requests_in-append p.added q.added i))
          (all_twice remaining contents a b c (bytes_in p.added) (bytes_in q.added) (requests_in p.added) (requests_in q.added) p.later q.later);
      kind = q.kind ∙ p.kind;
      share = (let n = served_count-append p.added q.added in omega (arith, n, p.share, q.share));
      seen = omega (arith, p.seen, q.seen);
      refused = refuses_last-append p.added q.added (p.unrefused refl) q.refused;
      unrefused = λ is. refuses-append p.added q.added (p.unrefused refl) ∙ q.unrefused is;
      told = λ is. refuses-append p.added q.added (p.unrefused refl) ∙ q.told is;
    }

    -- an event was served
    pub serves_one : (a p b : ConnectionsState S) (e : ClientEvent) (event : Event) (s : ServedEvent D) (ps qs : List (Part D)) (x y : PassState)
        → p ≡ record a { events = p.events; room = p.room } → a.events ≡ e ∷ p.events
        → ((c : ℕ) → asked_of c event ≡ asked_by_event c e) → s.turn.asked ≡ event
        → AllFollow remaining contents (sent_by_served s) no_requests p b → qs ≡ ps ++ Served s ∷ []
        → y ≡ record { kind = x.kind; seen = s.turn.event; share = x.share + 1 } → x.seen < s.turn.event
        → Serves remaining contents true a b ps qs x y
    serves_one a p b e event s ps qs x y same popped asked carried later added passed grows = record {
      added = Served s ∷ [];
      parts = added;
      later = all_same remaining contents a b (sent_by_served s) (bytes_in (Served s ∷ []))
          (λ i. asked_by_event i e ++ []) (requests_in (Served s ∷ []))
          (λ i. sym (append-nil (sent_by_served s i)))
          (λ i. ap (λ t. t ++ []) (sym (ap (asked_of i) carried ∙ asked i)))
          (all_from a p b (sent_by_served s) no_requests (λ i. asked_by_event i e) (ap (λ (t : ConnectionsState S). t.clients) same)
          (ap (λ (t : ConnectionsState S). t.last_id) same) (ap (λ (t : ConnectionsState S). t.left) same) (λ i. ap (asked_in i) popped) later);
      kind = ap (λ (t : PassState). t.kind) passed;
      share = ap (λ (t : PassState). t.share) passed;
      seen = (let n = ap (λ (t : PassState). t.seen) passed in omega (arith, n, grows));
      refused = tt;
      unrefused = λ _. refl;
      told = λ no. absurd (cc no);
    }

    -- an event was served by which no client asks
    pub serves_own : (a p b : ConnectionsState S) (event : Event) (s : ServedEvent D) (ps qs : List (Part D)) (x y : PassState)
        → p ≡ with_clock_asked a → ((c : ℕ) → asked_of c event ≡ []) → s.turn.asked ≡ event
        → AllFollow remaining contents (sent_by_served s) no_requests p b → qs ≡ ps ++ Served s ∷ []
        → y ≡ record { kind = x.kind; seen = s.turn.event; share = x.share + 1 } → x.seen < s.turn.event
        → Serves remaining contents true a b ps qs x y
    serves_own a p b event s ps qs x y same nothing carried later added passed grows = record {
      added = Served s ∷ [];
      parts = added;
      later = all_same remaining contents a b (sent_by_served s) (bytes_in (Served s ∷ []))
          no_requests (requests_in (Served s ∷ []))
          (λ i. sym (append-nil (sent_by_served s i)))
          (λ i. ap (λ t. t ++ []) (sym (ap (asked_of i) carried ∙ nothing i)))
          (all_from a p b (sent_by_served s) no_requests no_requests (ap (λ (t : ConnectionsState S). t.clients) same)
          (ap (λ (t : ConnectionsState S). t.last_id) same) (ap (λ (t : ConnectionsState S). t.left) same)
          (λ i. ap (λ (t : ConnectionsState S). asked_in i t.events) (sym same)) later);
      kind = ap (λ (t : PassState). t.kind) passed;
      share = ap (λ (t : PassState). t.share) passed;
      seen = (let n = ap (λ (t : PassState). t.seen) passed in omega (arith, n, grows));
      refused = tt;
      unrefused = λ _. refl;
      told = λ no. absurd (cc no);
    }

    -- it was told whether there is room
    pub serves_room : (a b : ConnectionsState S) (is_there : Bool) (s : ServedEvent D) (ps qs : List (Part D)) (x y : PassState)
        → s.turn.asked ≡ stage_events.Room is_there → AllFollow remaining contents (sent_by_served s) no_requests a b
        → qs ≡ ps ++ Served s ∷ [] → y ≡ record { kind = x.kind; seen = s.turn.event; share = x.share + 1 } → x.seen ≤ y.seen
        → Serves remaining contents true a b ps qs x y
    serves_room a b is_there s ps qs x y carried later added passed grows = record {
      added = Served s ∷ [];
      parts = added;
      later = all_same remaining contents a b (sent_by_served s) (bytes_in (Served s ∷ []))
          no_requests (requests_in (Served s ∷ []))
          (λ i. sym (append-nil (sent_by_served s i)))
          (λ i. ap (λ t. t ++ []) (sym (ap (asked_of i) carried)))
          later;
      kind = ap (λ (t : PassState). t.kind) passed;
      share = ap (λ (t : PassState). t.share) passed;
      seen = grows;
      refused = tt;
      unrefused = λ _. refl;
      told = λ no. absurd (cc no);
    }

    -- what was left was collected
    pub serves_collected : (a b : ConnectionsState S) (outbox : List (List Output)) (ps qs : List (Part D)) (x : PassState)
        → AllFollow remaining contents (sent_by_all outbox) no_requests a b → qs ≡ ps ++ Collected outbox ∷ []
        → Serves remaining contents true a b ps qs x x
    serves_collected a b outbox ps qs x later added = record {
      added = Collected outbox ∷ [];
      parts = added;
      later = all_same remaining contents a b (sent_by_all outbox) (bytes_in {D = D} (Collected outbox ∷ [])) no_requests
          (requests_in {D = D} (Collected outbox ∷ [])) (λ i. sym (append-nil (sent_by_all outbox i))) (λ i. refl) later;
      kind = refl;
      share = omega arith;
      seen = omega arith;
      refused = tt;
      unrefused = λ _. refl;
      told = λ no. absurd (cc no);
    }

    -- nothing was served, and a refusal is told
    pub serves_refusal : (a b : ConnectionsState S) (error : StageError) (ps qs : List (Part D)) (x y : PassState)
        → AllFollow remaining contents no_bytes no_requests a b → qs ≡ ps ++ Refused error ∷ [] → y ≡ x
        → Serves remaining contents false a b ps qs x y
    serves_refusal a b error ps qs x y later added same = record {
      added = Refused error ∷ [];
      parts = added;
      later = later;
      kind = ap (λ (t : PassState). t.kind) same;
      share = (let n = ap (λ (t : PassState). t.share) same in omega (arith, n));
      seen = (let n = ap (λ (t : PassState). t.seen) same in omega (arith, n));
      refused = refl;
      unrefused = λ no. absurd (cc no);
      told = λ _. refl;
    }

    -- nothing was served, and it goes on
    pub serves_nothing : (a b : ConnectionsState S) (ps qs : List (Part D)) (x y : PassState)
        → AllFollow remaining contents no_bytes no_requests a b → qs ≡ ps → y ≡ x → Serves remaining contents true a b ps qs x y
    serves_nothing a b ps qs x y later added same = record {
      added = [];
      parts = added ∙ sym (append-nil ps);
      later = later;
      kind = ap (λ (t : PassState). t.kind) same;
      share = (let n = ap (λ (t : PassState). t.share) same in omega (arith, n));
      seen = (let n = ap (λ (t : PassState). t.seen) same in omega (arith, n));
      refused = tt;
      unrefused = λ _. refl;
      told = λ no. absurd (cc no);
    }

  -- an event was refused
  pub all_kept : (a p b : ConnectionsState S) (e : ClientEvent) (k : Kept) → p ≡ record a { events = p.events; room = p.room }
      → a.events ≡ e ∷ p.events → IsKeptOf e k → IsKeptAs remaining contents k p b → AllFollow remaining contents no_bytes no_requests a b
  all_kept a p b e (kept.Event same) popping popped kind now =
      let there : b.clients ≡ a.clients = ap (λ (t : ConnectionsState S). t.clients) now ∙ ap (λ (t : ConnectionsState S). t.clients) popping in
      let last : b.last_id ≡ a.last_id = ap (λ (t : ConnectionsState S). t.last_id) now ∙ ap (λ (t : ConnectionsState S). t.last_id) popping in
      let again : b.events ≡ a.events =
      ap (λ (t : ConnectionsState S). t.events) now ∙ (ap (λ (t : ClientEvent). t ∷ p.events) kind.0 ∙ sym popped) in
      all_still remaining contents a b there again last
      (ap (λ (t : ConnectionsState S). t.left) now ∙ ap (λ (t : ConnectionsState S). t.left) popping)
  all_kept a p b e (kept.Client id) popping popped kind now =
      all_dropped_behind a p b id (ap (λ (t : ConnectionsState S). t.clients) popping) (ap (λ (t : ConnectionsState S). t.last_id) popping)
      (ap (λ (t : ConnectionsState S). t.left) popping)
      (λ c ne. ap (asked_in c) popped ∙ ap (λ t. t ++ asked_in c p.events) (kind c ne)) now.1 now.2 now.0

  -- the client of a number, which was at this key, was let go of
  pub vacant_lost : (a b c : ConnectionsState S) (id key : ℕ) → IsAlone a id key → AllFollow remaining contents no_bytes no_requests a b
      → Loses key b c → IsVacant c id
  vacant_lost a b c id key alone later loses = λ k client at same.
      let apart : k ≢ key = λ is. cc (at, ap (get c.clients) is, loses.gone) in
      let x = later.later.each k client (sym (loses.others k apart) ∙ at) in
      apart (alone k x.before x.there (sym x.goes_on.moves.same ∙ same))

  pub all_as : (a b : ConnectionsState S) → b ≡ record a { events = b.events; room = b.room } → b.events ≡ a.events
      → AllFollow remaining contents no_bytes no_requests a b
  all_as a b same events =
      all_still remaining contents a b (ap (λ (t : ConnectionsState S). t.clients) same) events (ap (λ (t : ConnectionsState S). t.last_id) same)
      (ap (λ (t : ConnectionsState S). t.left) same)

  pub sent_none : (a : ConnectionsState S) (whole : List Output) → length whole ≡ 0
      → AllFollow remaining contents (sent_by whole) no_requests a a
  sent_none a [] none = all_itself remaining contents a
  sent_none a (o ∷ whole) none = absurd (omega (arith, none))

  pub sent_all_none : (a : ConnectionsState S) (whole : List (List Output)) → length whole ≡ 0
      → AllFollow remaining contents (sent_by_all whole) no_requests a a
  sent_all_none a [] none = all_itself remaining contents a
  sent_all_none a (o ∷ whole) none = absurd (omega (arith, none))

  pub sent_first : (a b d : ConnectionsState S) (o : Output) (whole rest : List Output) (bytes : List ℕ) → whole ≡ o ∷ rest
      → bytes ≡ o.bytes → AllFollow remaining contents (bytes_for o.client bytes) no_requests a b
      → AllFollow remaining contents (sent_by rest) no_requests b d → AllFollow remaining contents (sent_by whole) no_requests a d
  sent_first a b d o whole rest bytes w e p q =
      all_same remaining contents a d (λ i. bytes_for o.client bytes i ++ sent_by rest i) (sent_by whole)
      (λ i. no_requests i ++ no_requests i) no_requests
      (λ i. ap (λ (t : List ℕ). bytes_for o.client t i ++ sent_by rest i) e ∙ ap (bytes_to i) (sym w)) (λ i. refl)
      (all_twice remaining contents a b d (bytes_for o.client bytes) (sent_by rest) no_requests no_requests p q)

  pub sent_all_first : (a b d : ConnectionsState S) (o given : List Output) (whole rest : List (List Output)) → whole ≡ o ∷ rest
      → given ≡ o → AllFollow remaining contents (sent_by given) no_requests a b
      → AllFollow remaining contents (sent_by_all rest) no_requests b d → AllFollow remaining contents (sent_by_all whole) no_requests a d
  sent_all_first a b d o given whole rest w e p q =
      all_same remaining contents a d (λ i. sent_by given i ++ sent_by_all rest i) (sent_by_all whole)
      (λ i. no_requests i ++ no_requests i) no_requests
      (λ i. ap (λ (t : List Output). bytes_to i t ++ bytes_to_all i rest) e ∙ ap (bytes_to_all i) (sym w)) (λ i. refl)
      (all_twice remaining contents a b d (sent_by given) (sent_by_all rest) no_requests no_requests p q)

  pub sent_served : {D : Type 0} (a b c d : ConnectionsState S) (s : ServedEvent D) (before : List (List Output)) (outputs : List Output)
      → before ≡ s.before → outputs ≡ s.turn.outputs
      → AllFollow remaining contents (sent_by_all before) no_requests a b → AllFollow remaining contents (sent_by outputs) no_requests b c
      → AllFollow remaining contents no_bytes no_requests c d → AllFollow remaining contents (sent_by_served s) no_requests a d
  sent_served a b c d s before outputs f e p q r =
      all_same remaining contents a d (λ i. sent_by_all before i ++ sent_by outputs i) (sent_by_served s)
      (λ i. no_requests i ++ no_requests i) no_requests
      (λ i. ap (λ (t : List (List Output)). bytes_to_all i t ++ bytes_to i outputs) f
      ∙ ap (λ (t : List Output). bytes_to_all i s.before ++ bytes_to i t) e) (λ i. refl)
      (all_twice remaining contents a b d (sent_by_all before) (sent_by outputs) no_requests no_requests p
      (all_then_none remaining contents b c d (sent_by outputs) no_requests q r))

  turn_later : (a b c d : ConnectionsState S) (sent : ℕ → List ℕ) (served : ℕ → List Request)
      → IsFollowed remaining contents no_bytes no_requests a b → AllFollow remaining contents sent served b c
      → AllFollow remaining contents no_bytes no_requests c d → IsFollowed remaining contents sent served a d
  turn_later a b c d sent served p q r =
      later_then remaining contents a b d no_bytes sent no_requests served p (all_then_none remaining contents b c d sent served q r)

  -- which clients were let go of before, and which places there are, matters to no other
  begun_later : (a d : ConnectionsState S) (left gone : List (Client S)) (places now : ℕ) (sent : ℕ → List ℕ) (served : ℕ → List Request)
      → IsLater remaining contents sent served (record a { left = left; places = places; gone = gone; time = now }) d
      → IsLater remaining contents sent served a d
  begun_later a d left gone places now sent served p = record {
    last_id = p.last_id;
    each = λ key client there. elim (p.each key client there) [
      | inl k ↦ inl (record { before = k.before; there = k.there; goes_on = k.goes_on })
      | inr new ↦ inr new
    ];
  }

  ended_later : (a d : ConnectionsState S) (left gone : List (Client S)) (places : ℕ) (sent : ℕ → List ℕ) (served : ℕ → List Request)
      → IsLater remaining contents sent served a d
      → IsLater remaining contents sent served a (record d { left = left; places = places; gone = gone })
  ended_later a d left gone places sent served p = record {
    last_id = p.last_id;
    each = λ key client there. elim (p.each key client there) [
      | inl k ↦ inl (record { before = k.before; there = k.there; goes_on = k.goes_on })
      | inr new ↦ inr new
    ];
  }

  begun_left : (a d : ConnectionsState S) (left gone : List (Client S)) (places now : ℕ) (bytes : List ℕ) (served : List Request) (x : Client S)
      → IsLeft remaining contents bytes served (record a { left = left; places = places; gone = gone; time = now }) d x
      → IsLeft remaining contents bytes served a d x
  begun_left a d left gone places now bytes served x l = record {
    vacant = l.vacant;
    known = l.known;
    leaves = elim l.leaves [
      | inl k ↦ inl (record { key = k.key; before = k.before; there = k.there; leaves = k.leaves })
      | inr new ↦ inr new
    ];
  }

  ended_left : (a d : ConnectionsState S) (left gone : List (Client S)) (places : ℕ) (bytes : List ℕ) (served : List Request) (x : Client S)
      → IsLeft remaining contents bytes served a d x
      → IsLeft remaining contents bytes served a (record d { left = left; places = places; gone = gone }) x
  ended_left a d left gone places bytes served x l = record {
    vacant = l.vacant;
    known = l.known;
    leaves = elim l.leaves [
      | inl k ↦ inl (record { key = k.key; before = k.before; there = k.there; leaves = k.leaves })
      | inr new ↦ inr new
    ];
  }

  begun_leave : (a d : ConnectionsState S) (left gone : List (Client S)) (places now : ℕ) (sent : ℕ → List ℕ) (served : ℕ → List Request)
      (xs : List (Client S)) → AllLeave remaining contents sent served (record a { left = left; places = places; gone = gone; time = now }) d xs
      → AllLeave remaining contents sent served a d xs
  begun_leave a d left gone places now sent served xs l = record {
    each = all_of (λ x. IsLeft remaining contents (sent x.id) (served x.id) (record a { left = left; places = places; gone = gone; time = now }) d x)
        (λ x. IsLeft remaining contents (sent x.id) (served x.id) a d x) xs
        (λ x h. begun_left a d left gone places now (sent x.id) (served x.id) x h) l.each;
    stay = l.stay;
    absent = l.absent;
  }

  ended_leave : (a d : ConnectionsState S) (left gone : List (Client S)) (places : ℕ) (sent : ℕ → List ℕ) (served : ℕ → List Request)
      (xs : List (Client S)) → AllLeave remaining contents sent served a d xs
      → AllLeave remaining contents sent served a (record d { left = left; places = places; gone = gone }) xs
  ended_leave a d left gone places sent served xs l = record {
    each = all_of (λ x. IsLeft remaining contents (sent x.id) (served x.id) a d x)
        (λ x. IsLeft remaining contents (sent x.id) (served x.id) a (record d { left = left; places = places; gone = gone }) x) xs
        (λ x h. ended_left a d left gone places (sent x.id) (served x.id) x h) l.each;
    stay = l.stay;
    absent = l.absent;
  }

  -- a whole turn: those that were let go of before it are closed at its begin, and its own at its end
  pub turn_whole : (z a b c d e : ConnectionsState S) (sent : ℕ → List ℕ) (served : ℕ → List Request)
      → a ≡ record z { left = []; places = a.places; gone = z.left; time = a.time }
      → IsFollowed remaining contents no_bytes no_requests a b → AllFollow remaining contents sent served b c
      → AllFollow remaining contents no_bytes no_requests c d → e ≡ record d { left = []; places = e.places; gone = d.left }
      → IsLater remaining contents sent served z e × AllLeave remaining contents sent served z e e.gone
  turn_whole z a b c d e sent served begins p q r ends =
      let whole : IsFollowed remaining contents sent served a d = turn_later a b c d sent served p q r in
      let those : d.left ≡ whole.gone = whole.left ∙ ap (λ (t : ConnectionsState S). t.left ++ whole.gone) begins in
      let later : IsLater remaining contents sent served z d =
      begun_later z d [] z.left a.places a.time sent served
      (subst (λ (t : ConnectionsState S). IsLater remaining contents sent served t d) begins whole.later) in
      let leave : AllLeave remaining contents sent served z d d.left =
      begun_leave z d [] z.left a.places a.time sent served d.left
      (subst (λ (t : ConnectionsState S). AllLeave remaining contents sent served t d d.left) begins
      (subst (λ (t : List (Client S)). AllLeave remaining contents sent served a d t) (sym those) whole.leave)) in
      let both : IsLater remaining contents sent served z (record d { left = []; places = e.places; gone = d.left })
      × AllLeave remaining contents sent served z (record d { left = []; places = e.places; gone = d.left }) d.left =
      (ended_later z d [] d.left e.places sent served later, ended_leave z d [] d.left e.places sent served d.left leave) in
      subst (λ (t : ConnectionsState S). IsLater remaining contents sent served z t × AllLeave remaining contents sent served z t t.gone) (sym ends) both

  all_both : (P Q R : Client S → Type 0) (xs : List (Client S)) → ((x : Client S) → P x → Q x → R x) → AllByRecursion P xs
      → AllByRecursion Q xs → AllByRecursion R xs
  all_both P Q R [] f p q = tt
  all_both P Q R (x ∷ xs) f p q = (f x p.0 q.0, all_both P Q R xs f p.1 q.1)

  -- of those that were let go of nothing is left, where all of that was let go of in the end
  pub closed_turn : (z c d e : ConnectionsState S) (sent : ℕ → List ℕ) (served : ℕ → List Request)
      → d ≡ record c { events = d.events; room = d.room } → AllByRecursion (λ last. IsForgotten last.id d) c.left
      → e ≡ record d { left = []; places = e.places; gone = d.left } → AllLeave remaining contents sent served z e e.gone
      → AllByRecursion (λ last. asked_in last.id e.events ≡ []) e.gone
  closed_turn z c d e sent served same forgotten ends leave =
      let those : c.left ≡ e.gone = sym (ap (λ (t : ConnectionsState S). t.gone) ends ∙ ap (λ (t : ConnectionsState S). t.left) same) in
      all_both (λ last. IsLeft remaining contents (sent last.id) (served last.id) z e last) (λ last. IsForgotten last.id d)
      (λ last. asked_in last.id e.events ≡ []) e.gone
      (λ x l h. ap (λ (t : ConnectionsState S). asked_in x.id t.events) ends
      ∙ h (λ key client there. l.vacant key client (ap (λ (t : ConnectionsState S). get t.clients key) ends ∙ there))) leave.each
      (subst (λ (l : List (Client S)). AllByRecursion (λ last. IsForgotten last.id d) l) those forgotten)

  module _ {D : Type 0} where
    pub serves_as : (g h : Bool) (a b : ConnectionsState S) (ps qs : List (Part D)) (x y : PassState) → g ≡ h
        → Serves remaining contents g a b ps qs x y → Serves remaining contents h a b ps qs x y
    serves_as g h a b ps qs x y same s = subst (λ (t : Bool). Serves remaining contents t a b ps qs x y) same s

    whole_is : (g : Bool) (a b : ConnectionsState S) (ps qs : List (Part D)) (x y : PassState) → ps ≡ []
        → (s : Serves remaining contents g a b ps qs x y) → s.added ≡ qs
    whole_is g a b ps qs x y none s = sym (s.parts ∙ ap (λ t. t ++ s.added) none)

    pub whole_later : (g : Bool) (a b : ConnectionsState S) (ps qs : List (Part D)) (x y : PassState) → ps ≡ []
        → Serves remaining contents g a b ps qs x y → AllFollow remaining contents (bytes_in qs) (requests_in qs) a b
    whole_later g a b ps qs x y none s =
        subst (λ (t : List (Part D)). AllFollow remaining contents (bytes_in t) (requests_in t) a b) (whole_is g a b ps qs x y none s) s.later

    pub whole_share : (g : Bool) (a b : ConnectionsState S) (ps qs : List (Part D)) (x y : PassState) → ps ≡ []
        → Serves remaining contents g a b ps qs x y → (y.kind ≡ x.kind) × (y.share ≡ x.share + served_count qs)
    whole_share g a b ps qs x y none s =
        (s.kind, s.share ∙ ap (λ (t : List (Part D)). x.share + served_count t) (whole_is g a b ps qs x y none s))

    pub whole_refused : (g : Bool) (a b : ConnectionsState S) (ps qs : List (Part D)) (x y : PassState) → ps ≡ []
        → Serves remaining contents g a b ps qs x y → RefusesLast qs
    whole_refused g a b ps qs x y none s =
        subst (λ (t : List (Part D)). RefusesLast t) (whole_is g a b ps qs x y none s) s.refused

    pub whole_told : (waits : Bool) (a b : ConnectionsState S) (ps qs : List (Part D)) (x y : PassState) → ps ≡ []
        → Serves remaining contents false a b ps qs x y → refuses qs ≡ false → QuietBehind waits zero b.events
    whole_told waits a b ps qs x y none s quiet =
        absurd (cc (s.told refl, ap refuses (whole_is false a b ps qs x y none s), quiet))

-- ---- how much a turn looks at

module _ {D : Type 0} where
  -- with what the parts that were added looked at
  pub looks_more : (ps qs added rest : List (Part D)) (looks looked more from : ℕ) → qs ≡ ps ++ added → from ≡ length ps → rest ≡ drop from qs
      → looks ≡ min (looks_in ps) greatest → looked ≡ min (looks_in rest) greatest → more ≡ min (looks + looked) greatest
      → more ≡ min (looks_in qs) greatest
  looks_more ps qs added rest looks looked more from is front behind before now sum =
      let these : rest ≡ added =
      behind ∙ (ap (λ (n : ℕ). drop n qs) front ∙ (ap (λ (l : List (Part D)). drop (length ps) l) is ∙ drop-append_seam ps added)) in
      let whole = ap looks_in is ∙ sum_by-append looks_of ps added in
      let last = ap looks_in these in
      omega (arith, whole, last, before, now, sum)

  -- with an event that was served, a refusal, or nothing
  pub looks_one : (ps qs : List (Part D)) (s : ServedEvent D) → qs ≡ ps ++ Served s ∷ [] → looks_in qs ≤ looks_in ps + 2 * most_looks
  looks_one ps qs s is =
      let whole = ap looks_in is ∙ sum_by-append looks_of ps (Served s ∷ []) in
      omega (arith, whole, step_within s.turn.before s.turn.asked s.turn.refused_at)

  pub looks_refused : (ps qs : List (Part D)) (error : StageError) → qs ≡ ps ++ Refused error ∷ [] → looks_in qs ≤ looks_in ps + 2 * most_looks
  looks_refused ps qs error is = (let whole = ap looks_in is ∙ sum_by-append looks_of ps (Refused error ∷ []) in omega (arith, whole))

  pub looks_nothing : (ps qs : List (Part D)) → qs ≡ ps → looks_in qs ≤ looks_in ps + 2 * most_looks
  looks_nothing ps qs is = (let whole = ap looks_in is in omega (arith, whole))

  -- of what was collected nothing is added
  pub looks_same : (ps qs : List (Part D)) (outbox : List (List Output)) → qs ≡ ps ++ Collected outbox ∷ [] → looks_in qs ≡ looks_in ps
  looks_same ps qs outbox is = (let whole = ap looks_in is ∙ sum_by-append looks_of ps (Collected outbox ∷ []) in omega (arith, whole))

-- a turn that goes on is within its bound, and what it serves then doesn't pass that by more than a group
pub ends_within : (bound : Option ℕ) (looks before after : ℕ) → IsWithin bound looks → looks ≡ min before greatest
    → after ≤ before + 2 * most_looks → EndsWithin bound after
ends_within None looks before after within counted more = tt
ends_within (Some most) looks before after within counted more = omega (arith, within, counted, more)

pub begins_within : {D : Type 0} (bound : Option ℕ) (ps : List (Part D)) → ps ≡ [] → EndsWithin bound (looks_in ps)
begins_within None ps none = tt
begins_within (Some most) ps none = (let empty = ap looks_in none in omega (arith, empty))

-- what a clock's event looked at doesn't pass the bound by more than a group
pub first_within : {D : Type 0} (bound : Option ℕ) (ps qs : List (Part D)) → ps ≡ [] → looks_in qs ≤ looks_in ps + 2 * most_looks
    → EndsWithin bound (looks_in qs)
first_within None ps qs none more = tt
first_within (Some most) ps qs none more = (let empty = ap looks_in none in omega (arith, empty, more))

within_counted : (bound : Option ℕ) (looks total : ℕ) → looks ≤ total → IsWithin bound total → IsWithin bound looks
within_counted None looks total less h = tt
within_counted (Some most) looks total less h = omega (arith, less, h)

-- all is served where so much was looked at, and there is a bound or none
pub quiet_within : (waits : Bool) (left looks total : ℕ) (bound : Option ℕ) (more : Bool) (es : List ClientEvent)
    → ((0 < left) × IsWithin bound looks → IsTrue more) → more ≡ false → looks ≡ min total greatest → IsWithin bound total
    → QuietBehind waits left es → QuietBehind waits zero es
quiet_within waits zero looks total bound more es goes ends counted within h = h
quiet_within waits (suc n) looks total bound more es goes ends counted within h =
    let yes : IsTrue more = goes (omega arith, within_counted bound looks total (omega (arith, counted)) within) in
    absurd (cc (yes, ends))

-- what looked at nothing was added
pub looks_free : {D : Type 0} (ps qs : List (Part D)) (part : Part D) → qs ≡ ps ++ part ∷ [] → looks_of part ≡ 0
    → looks_in qs ≡ looks_in ps
looks_free ps qs part added none = omega (arith, ap looks_in added, sum_by-append looks_of ps (part ∷ []), none)

-- events were taken behind what left those that wait as they were
pub takes_behind : (r : Option ℕ) (before between after : List ClientEvent) → StaysQuiet before between
    → IfSome r (λ n. TakesMany n between after) → IfSome r (λ n. TakesMany n before after)
takes_behind None before between after stays takes = tt
takes_behind (Some n) before between after stays takes = λ waits left some quiet. takes waits left some (stays waits left quiet)
