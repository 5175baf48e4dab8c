-- Clients that are read and written in several steps.
use Rattle.std.proofs.Common.{◌≡◌, ◌≢◌, Err, ◌⊎◌, inl, inr, ℕ, List, [], ◌∷◌, ◌++◌, Option, Some, Bool, true, false, refl, sym, subst, ◌∙◌, ap, append_assoc}
use Rattle.std.specs.List.{concat}
use Rattle.std.specs.Io.KnownBytes.{Keeps, Consumes, append_known}
use Rattle.std.proofs.lemmas.List.{append-nil}
use Rattle.std.proofs.lemmas.List.Folds.{concat-append}
use Rattle.command_text.specs.declared.request.Request.{Request}
use Rattle.client_session.specs.declared.refusal.SessionError.{SessionError}
use Rattle.client_session.specs.Requests.{Unread, left_by, brought, requests_in_pieces, fault_at, fault_before, Meets}
use Rattle.client_session.specs.Session.{SessionState}
use Rattle.client_session.specs.declared.refusal.SessionError.TheVariants.{NoMemory, LineTooLong, ListTooLong, OutputTooLong}
use Rattle.mio_clients.specs.declared.client.Client.{Client}
use Rattle.mio_clients.specs.declared.event.ClientEvent.{ClientEvent}
use Rattle.mio_clients.specs.declared.event.ClientEvent.TheVariants as events
use Rattle.mio_clients.specs.Streams.{IsUntouched}
use Rattle.mio_clients.specs.Events.{asked_by}
use Rattle.mio_clients.specs.Given.{left_in_pieces, given, Moves}
use Rattle.mio_clients.specs.Connections.{Reads, ReadsInPart, IsTaken, IsReading}
use Rattle.client_session.proofs.ByteLaws.{keeps_itself, consumes_nothing, consumes_twice}
use Rattle.mio_clients.proofs.ByteLaws.{grows_by_none, grows_twice, kept_behind, queued_behind}

pub left_in_pieces-append : (left : Unread) (ps qs : List (List ℕ))
    → left_in_pieces left (ps ++ qs) ≡ left_in_pieces (left_in_pieces left ps) qs
left_in_pieces-append left [] qs = refl
left_in_pieces-append left (p ∷ ps) qs = left_in_pieces-append (left_by left p) ps qs

pub requests_in_pieces-append : (left : Unread) (ps qs : List (List ℕ))
    → requests_in_pieces left (ps ++ qs) ≡ requests_in_pieces left ps ++ requests_in_pieces (left_in_pieces left ps) qs
requests_in_pieces-append left [] qs = refl
requests_in_pieces-append left (p ∷ ps) qs =
    ap (λ t. brought left p ++ t) (requests_in_pieces-append (left_by left p) ps qs)
    ∙ sym (append_assoc (brought left p) (requests_in_pieces (left_by left p) ps) (requests_in_pieces (left_in_pieces (left_by left p) ps) qs))

pub asked_by-append : (c : ℕ) (rs ss : List Request) → asked_by c (rs ++ ss) ≡ asked_by c rs ++ asked_by c ss
asked_by-append c [] ss = refl
asked_by-append c (r ∷ rs) ss = ap (λ t. events.Request c r ∷ t) (asked_by-append c rs ss)

module _ {S : Type 0} (remaining contents : S → Option (List ℕ)) where
  pub moves_none : (a b : Client S) → b.id ≡ a.id → Keeps (given contents a) (given contents b) → Keeps (remaining a.stream) (remaining b.stream)
      → b.session.left ≡ a.session.left → (a.is_closing ≡ true → b.is_closing ≡ true) → b.session.closed ≡ a.session.closed
      → Moves remaining contents [] [] a b
  moves_none a b same grows unread left closing unrefused = record {
    same = same;
    grows = grows_by_none (given contents a) (given contents b) grows;
    taken = consumes_nothing (remaining a.stream) (remaining b.stream) unread;
    left = inr left;
    closing = λ h. (refl, closing h);
    unrefused = unrefused;
  }

  pub moves_itself : (a : Client S) → Moves remaining contents [] [] a a
  moves_itself a = moves_none a a refl (keeps_itself (given contents a)) (keeps_itself (remaining a.stream)) refl (λ h. h) refl

  pub moves_twice : (a b c : Client S) (xs ys : List ℕ) (ps qs : List (List ℕ)) → Moves remaining contents xs ps a b
      → Moves remaining contents ys qs b c → Moves remaining contents (xs ++ ys) (ps ++ qs) a c
  moves_twice a b c xs ys ps qs p q = record {
    same = q.same ∙ p.same;
    grows = grows_twice (given contents a) (given contents b) (given contents c) xs ys p.grows q.grows;
    taken = subst (Consumes (remaining a.stream) (remaining c.stream)) (sym (concat-append ps qs))
        (consumes_twice (remaining a.stream) (remaining b.stream) (remaining c.stream) (concat ps) (concat qs) p.taken q.taken);
    left = elim q.left [
      | inl closing ↦ inl closing
      | inr on ↦ elim p.left [
        | inl closing ↦ inl (q.closing closing).1
        | inr first ↦ inr (on ∙ (ap (λ t. left_in_pieces t qs) first ∙ sym (left_in_pieces-append a.session.left ps qs)))
      ]
    ];
    closing = λ h.
        let first = p.closing h in
        let then = q.closing first.1 in
        (ap (λ t. t ++ qs) first.0 ∙ then.0, then.1);
    unrefused = q.unrefused ∙ p.unrefused;
  }

  -- a piece was read
  pub moves_piece : (a b : Client S) (piece : List ℕ) → b.id ≡ a.id → Keeps (contents a.stream) (contents b.stream)
      → b.session.queued ≡ a.session.queued → Consumes (remaining a.stream) (remaining b.stream) piece
      → ((b.is_closing ≡ true) ⊎ (b.session.left ≡ left_by a.session.left piece)) → a.is_closing ≡ false
      → b.session.closed ≡ a.session.closed → Moves remaining contents [] (piece ∷ []) a b
  moves_piece a b piece same unwritten queued taken left reads unrefused = record {
    same = same;
    grows = grows_by_none (given contents a) (given contents b)
        (subst (λ (t : List ℕ). Keeps (given contents a) (append_known (contents b.stream) t)) (sym queued)
        (kept_behind (contents a.stream) (contents b.stream) a.session.queued unwritten));
    taken = subst (Consumes (remaining a.stream) (remaining b.stream)) (sym (append-nil piece)) taken;
    left = left;
    closing = λ h. absurd (cc (h, reads));
    unrefused = unrefused;
  }

  pub reads_none : (a b : Client S) (events : List ClientEvent) → Moves remaining contents [] [] a b → Reads remaining contents a b events events
  reads_none a b events moves = record { pieces = []; moves = moves; added = sym (append-nil events) }

  pub reads_piece : (a b : Client S) (piece : List ℕ) (events after : List ClientEvent) → Moves remaining contents [] (piece ∷ []) a b
      → after ≡ events ++ asked_by a.id (brought a.session.left piece) → Reads remaining contents a b events after
  reads_piece a b piece events after moves added = record {
    pieces = piece ∷ [];
    moves = moves;
    added = added ∙ ap (λ t. events ++ asked_by a.id t) (sym (append-nil (brought a.session.left piece)));
  }

  -- a piece was read and taken
  pub reads_taken : (a m b : Client S) (piece : List ℕ) (events after : List ClientEvent) → IsReading a → m.id ≡ a.id → m.session ≡ a.session
      → b.id ≡ m.id → Keeps (contents a.stream) (contents b.stream) → Consumes (remaining a.stream) (remaining b.stream) piece
      → IsTaken piece m b events after → Reads remaining contents a b events after
  reads_taken a m b piece events after reading id session same unwritten taken t =
      let queued : b.session.queued ≡ a.session.queued = t.queued ∙ ap (λ (s : SessionState). s.queued) session in
      let left : (b.is_closing ≡ true) ⊎ (b.session.left ≡ left_by a.session.left piece) =
      subst (λ (s : SessionState). (b.is_closing ≡ true) ⊎ (b.session.left ≡ left_by s.left piece)) session t.left in
      let unrefused : b.session.closed ≡ a.session.closed = t.unrefused ∙ ap (λ (s : SessionState). s.closed) session in
      let added : after ≡ events ++ asked_by a.id (brought a.session.left piece) =
      t.added ∙ (ap (λ (n : ℕ). events ++ asked_by n (brought m.session.left piece)) id
      ∙ ap (λ (s : SessionState). events ++ asked_by a.id (brought s.left piece)) session) in
      reads_piece a b piece events after
      (moves_piece a b piece (same ∙ id) unwritten queued taken left reading.goes_on unrefused) added

  -- what later pieces ask, where nothing more is read of a client that is to be closed
  later_asked : (a b : Client S) (xs : List ℕ) (ps qs : List (List ℕ)) → Moves remaining contents xs ps a b → (b.is_closing ≡ true → qs ≡ [])
      → requests_in_pieces b.session.left qs ≡ requests_in_pieces (left_in_pieces a.session.left ps) qs
  later_asked a b xs ps qs p closed =
      elim p.left [
        | inl closing ↦ ap (requests_in_pieces b.session.left) (closed closing)
            ∙ sym (ap (requests_in_pieces (left_in_pieces a.session.left ps)) (closed closing))
        | inr left ↦ ap (λ (l : Unread). requests_in_pieces l qs) left
      ]

  pub pieces_behind : (a b : Client S) (xs : List ℕ) (ps qs : List (List ℕ)) → Moves remaining contents xs ps a b → (b.is_closing ≡ true → qs ≡ [])
      → requests_in_pieces a.session.left (ps ++ qs) ≡ requests_in_pieces a.session.left ps ++ requests_in_pieces b.session.left qs
  pieces_behind a b xs ps qs p closed =
      requests_in_pieces-append a.session.left ps qs
      ∙ ap (λ t. requests_in_pieces a.session.left ps ++ t) (sym (later_asked a b xs ps qs p closed))

  pub pieces_asked : (a b c : Client S) (xs ys : List ℕ) (ps qs : List (List ℕ)) → Moves remaining contents xs ps a b → Moves remaining contents ys qs b c
      → requests_in_pieces a.session.left (ps ++ qs) ≡ requests_in_pieces a.session.left ps ++ requests_in_pieces b.session.left qs
  pieces_asked a b c xs ys ps qs p q = pieces_behind a b xs ps qs p (λ h. (q.closing h).0)

  pub reads_twice : (a b c : Client S) (first then last : List ClientEvent) → Reads remaining contents a b first then
      → Reads remaining contents b c then last → Reads remaining contents a c first last
  reads_twice a b c first then last p q =
      let one = requests_in_pieces a.session.left p.pieces in
      let two = requests_in_pieces b.session.left q.pieces in
      record {
        pieces = p.pieces ++ q.pieces;
        moves = moves_twice a b c [] [] p.pieces q.pieces p.moves q.moves;
        added = q.added ∙ (ap (λ t. t ++ asked_by b.id two) p.added
            ∙ (append_assoc first (asked_by a.id one) (asked_by b.id two)
            ∙ ap (λ t. first ++ t) (ap (λ (n : ℕ). asked_by a.id one ++ asked_by n two) p.moves.same
            ∙ (sym (asked_by-append a.id one two)
            ∙ ap (asked_by a.id) (sym (pieces_asked a b c [] [] p.pieces q.pieces p.moves q.moves))))));
      }

  -- pieces were read, and then it was looked whether what has begun is too long
  pub read_and_looked : (a m b : Client S) (first then last : List ClientEvent) → Reads remaining contents a m first then → IsReading m
      → b ≡ record m { session = b.session; is_closing = b.is_closing } → IsTaken [] m b then last → Reads remaining contents a b first last
  read_and_looked a m b first then last reads reading same t =
      let stream : b.stream ≡ m.stream = ap (λ (x : Client S). x.stream) same in
      let id : b.id ≡ m.id = ap (λ (x : Client S). x.id) same in
      let unwritten : Keeps (contents m.stream) (contents b.stream) =
      subst (λ (s : S). Keeps (contents m.stream) (contents s)) (sym stream) (keeps_itself (contents m.stream)) in
      let unread : Keeps (remaining m.stream) (remaining b.stream) =
      subst (λ (s : S). Keeps (remaining m.stream) (remaining s)) (sym stream) (keeps_itself (remaining m.stream)) in
      reads_twice a m b first then last reads
      (reads_taken m m b [] then last reading refl refl id unwritten (consumes_nothing (remaining m.stream) (remaining b.stream) unread) t)

  -- only the stream, the session and whether it is to be closed have changed
  pub same_but_read : (a m b : Client S) → m ≡ record a { stream = m.stream; session = m.session; is_closing = m.is_closing; last_active = m.last_active }
      → b ≡ record m { stream = b.stream; session = b.session; is_closing = b.is_closing; last_active = b.last_active }
      → b ≡ record a { stream = b.stream; session = b.session; is_closing = b.is_closing; last_active = b.last_active }
  same_but_read a m b first then =
      then ∙ ap (λ (x : Client S). record x { stream = b.stream; session = b.session; is_closing = b.is_closing; last_active = b.last_active }) first

  pub reads_flag : (a b : Client S) (more : Bool) (first then : List ClientEvent) → Reads remaining contents a b first then
      → Reads remaining contents a (record b { has_more = more }) first then
  reads_flag a b more first then r = record {
    pieces = r.pieces;
    moves = record {
      same = r.moves.same;
      grows = r.moves.grows;
      taken = r.moves.taken;
      left = r.moves.left;
      closing = r.moves.closing;
      unrefused = r.moves.unrefused;
    };
    added = r.added;
  }

  -- bytes were queued
  pub moves_queued : (a b : Client S) (bytes : List ℕ) (waits : Bool) (active : ℕ)
      → b ≡ record a { session = record a.session { queued = a.session.queued ++ bytes }; is_waiting = waits; last_active = active }
      → Moves remaining contents bytes [] a b
  moves_queued a b bytes waits active is = subst (Moves remaining contents bytes [] a) (sym is) (record {
    same = refl;
    grows = queued_behind (contents a.stream) a.session.queued bytes;
    taken = consumes_nothing (remaining a.stream) (remaining a.stream) (keeps_itself (remaining a.stream));
    left = inr refl;
    closing = λ h. (refl, h);
    unrefused = refl;
  })

  pub moves_released : (a b : Client S) → b ≡ record a { is_closing = true; is_released = true } → Moves remaining contents [] [] a b
  moves_released a b is = subst (Moves remaining contents [] [] a) (sym is) (record {
    same = refl;
    grows = grows_by_none (given contents a) (given contents a) (keeps_itself (given contents a));
    taken = consumes_nothing (remaining a.stream) (remaining a.stream) (keeps_itself (remaining a.stream));
    left = inl refl;
    closing = λ h. (refl, refl);
    unrefused = refl;
  })

  pub moves_waiting : (a b : Client S) → b ≡ record a { is_waiting = true; was_served = true } → Moves remaining contents [] [] a b
  moves_waiting a b is = subst (Moves remaining contents [] [] a) (sym is) (record {
    same = refl;
    grows = grows_by_none (given contents a) (given contents a) (keeps_itself (given contents a));
    taken = consumes_nothing (remaining a.stream) (remaining a.stream) (keeps_itself (remaining a.stream));
    left = inr refl;
    closing = λ h. (refl, h);
    unrefused = refl;
  })

  pub moves_put_off : (a b : Client S) → b ≡ record a { has_more = true } → Moves remaining contents [] [] a b
  moves_put_off a b is = subst (Moves remaining contents [] [] a) (sym is) (record {
    same = refl;
    grows = grows_by_none (given contents a) (given contents a) (keeps_itself (given contents a));
    taken = consumes_nothing (remaining a.stream) (remaining a.stream) (keeps_itself (remaining a.stream));
    left = inr refl;
    closing = λ h. (refl, h);
    unrefused = refl;
  })

  -- nothing was read or written of its stream
  pub moves_watched : (a : Client S) (stream : S) (more : Bool) → IsUntouched remaining contents a.stream stream
      → Moves remaining contents [] [] a (record a { stream = stream; has_more = more })
  moves_watched a stream more same = moves_none a (record a { stream = stream; has_more = more }) refl
      (kept_behind (contents a.stream) (contents stream) a.session.queued same.unwritten) same.unread refl (λ h. h) refl

  -- a piece was read, and memory was refused
  pub part_piece : (a b : Client S) (piece : List ℕ) (events after : List ClientEvent) → IsReading a → b.id ≡ a.id
      → Keeps (contents a.stream) (contents b.stream) → Consumes (remaining a.stream) (remaining b.stream) piece → after ≡ events
      → ReadsInPart remaining contents a b events after
  part_piece a b piece events after reading same unwritten taken none = record {
    same = same;
    untaken = a.session.queued;
    unwritten = grows_by_none (given contents a) (append_known (contents b.stream) a.session.queued)
        (kept_behind (contents a.stream) (contents b.stream) a.session.queued unwritten);
    goes_on = reading.goes_on;
    pieces = piece ∷ [];
    taken = subst (Consumes (remaining a.stream) (remaining b.stream)) (sym (append-nil piece)) taken;
    requests = [];
    lost = requests_in_pieces a.session.left (piece ∷ []);
    whole = refl;
    added = none ∙ sym (append-nil events);
  }

  -- pieces were read, and then others, for which memory was refused
  pub part_behind : (a b c : Client S) (first then last : List ClientEvent) → IsReading a
      → Reads remaining contents a b first then → ReadsInPart remaining contents b c then last → ReadsInPart remaining contents a c first last
  part_behind a b c first then last reading p q =
      let one = requests_in_pieces a.session.left p.pieces in
      record {
        same = q.same ∙ p.moves.same;
        untaken = q.untaken;
        unwritten = grows_twice (given contents a) (given contents b) (append_known (contents c.stream) q.untaken) [] [] p.moves.grows q.unwritten;
        goes_on = reading.goes_on;
        pieces = p.pieces ++ q.pieces;
        taken = subst (Consumes (remaining a.stream) (remaining c.stream)) (sym (concat-append p.pieces q.pieces))
            (consumes_twice (remaining a.stream) (remaining b.stream) (remaining c.stream) (concat p.pieces) (concat q.pieces) p.moves.taken q.taken);
        requests = one ++ q.requests;
        lost = q.lost;
        whole = append_assoc one q.requests q.lost ∙ (ap (λ t. one ++ t) q.whole
            ∙ sym (pieces_behind a b [] p.pieces q.pieces p.moves (λ closing. absurd (cc (closing, q.goes_on)))));
        added = q.added ∙ (ap (λ t. t ++ asked_by b.id q.requests) p.added
            ∙ (append_assoc first (asked_by a.id one) (asked_by b.id q.requests)
            ∙ ap (λ t. first ++ t) (ap (λ (n : ℕ). asked_by a.id one ++ asked_by n q.requests) p.moves.same
            ∙ sym (asked_by-append a.id one q.requests))));
      }

  -- pieces were read, and then there was no memory to look whether what has begun is too long
  pub part_looked : (a m b : Client S) (first then last : List ClientEvent) → IsReading a
      → Reads remaining contents a m first then → b ≡ record m { session = b.session; is_closing = b.is_closing } → last ≡ then
      → ReadsInPart remaining contents a b first last
  part_looked a m b first then last reading p same none =
      let stream : b.stream ≡ m.stream = ap (λ (x : Client S). x.stream) same in
      let id : b.id ≡ m.id = ap (λ (x : Client S). x.id) same in
      let one = requests_in_pieces a.session.left p.pieces in
      record {
        same = id ∙ p.moves.same;
        untaken = m.session.queued;
        unwritten = subst (λ (s : S). Keeps (append_known (given contents a) []) (append_known (contents s) m.session.queued)) (sym stream) p.moves.grows;
        goes_on = reading.goes_on;
        pieces = p.pieces;
        taken = subst (λ (s : S). Consumes (remaining a.stream) (remaining s) (concat p.pieces)) (sym stream) p.moves.taken;
        requests = one;
        lost = [];
        whole = append-nil one;
        added = none ∙ p.added;
      }

  pub part_flag : (a b : Client S) (more : Bool) (first then : List ClientEvent) → ReadsInPart remaining contents a b first then
      → ReadsInPart remaining contents a (record b { has_more = more }) first then
  part_flag a b more first then r = record {
    same = r.same;
    untaken = r.untaken;
    unwritten = r.unwritten;
    goes_on = r.goes_on;
    pieces = r.pieces;
    taken = r.taken;
    requests = r.requests;
    lost = r.lost;
    whole = r.whole;
    added = r.added;
  }

before_fault : (asked : List Request) (left : Unread) (refusal : SessionError) → fault_before asked left ≡ Some refusal → asked ≡ []
before_fault [] left refusal h = refl
before_fault (r ∷ rs) left refusal h = absurd (cc h)

-- a piece that is refused for what it has brings no request
pub fault_brings_none : (left : Unread) (piece : List ℕ) (refusal : SessionError) → fault_at left piece ≡ Some refusal → brought left piece ≡ []
unfolding fault_at
fault_brings_none left piece refusal fault = before_fault (brought left piece) (left_by left piece) refusal fault

pub meets_brings_none : (A : Type 0) (left : Unread) (piece : List ℕ) (e : SessionError) → Meets {A = A} (fault_at left piece) (Err e)
    → e ≢ NoMemory → brought left piece ≡ []
meets_brings_none A left piece NoMemory h ne = absurd (ne refl)
meets_brings_none A left piece LineTooLong h ne = fault_brings_none left piece LineTooLong h
meets_brings_none A left piece ListTooLong h ne = fault_brings_none left piece ListTooLong h
meets_brings_none A left piece OutputTooLong h ne = absurd h
