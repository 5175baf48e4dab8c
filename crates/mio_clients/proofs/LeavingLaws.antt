-- Clients that are let go of, in several steps.
use Rattle.std.proofs.Common.{◌≡◌, ◌≢◌, ◌⊎◌, inl, inr, ℕ, ◌≤◌, ◌==◌, List, [], ◌∷◌, ◌++◌, Option, Some, None, Bool, true, false, MatchOption, IsSomeAnd}
use Rattle.std.proofs.Common.{refl, sym, subst, ◌∙◌, ap, append_assoc, arith}
use Rattle.std.specs.Option.{option_to_list}
use Rattle.std.specs.List.{concat, AllByRecursion}
use Rattle.std.specs.Io.KnownBytes.{Keeps, Consumes, append_known}
use Rattle.std.proofs.lemmas.List.{append-nil}
use Rattle.std.proofs.lemmas.List.Folds.{concat-append}
use Rattle.std.proofs.lemmas.Bool.{eqb-true, eqb-false}
use Rattle.slab.specs.Slab.{Slab, get}
use Rattle.command_text.specs.declared.request.Request.{Request}
use Rattle.client_session.specs.Requests.{requests_in_pieces}
use Rattle.client_session.proofs.ByteLaws.{keeps_itself, consumes_nothing, consumes_twice}
use Rattle.mio_clients.specs.declared.client.Client.{Client}
use Rattle.mio_clients.specs.declared.event.ClientEvent.{ClientEvent}
use Rattle.mio_clients.specs.Events.{asked_in}
use Rattle.mio_clients.specs.Given.{given}
use Rattle.mio_clients.specs.Connections.{ConnectionsState, IsVacant, IsMovedAt, ReadsInPart, IsAdmitted}
use Rattle.mio_clients.specs.Later.{GoesOn, IsLater, no_requests}
use Rattle.mio_clients.specs.Leaving.{Leaves, LeavesNew, IsLeft, IsAmong, AllLeave}
use Rattle.mio_clients.proofs.ByteLaws.{grows_by_none, grows_twice, more_behind, queued_behind}
use Rattle.mio_clients.proofs.GivenLaws.{pieces_behind}
use Rattle.mio_clients.proofs.LaterLaws.{kept_of, new_of, gained_own}

pub among_left : {S : Type 0} (c : ℕ) (xs ys : List (Client S)) → IsAmong c xs → IsAmong c (xs ++ ys)
among_left c [] ys h = absurd h
among_left c (x ∷ xs) ys h = elim h [ inl is ↦ inl is | inr more ↦ inr (among_left c xs ys more) ]

pub among_right : {S : Type 0} (c : ℕ) (xs ys : List (Client S)) → IsAmong c ys → IsAmong c (xs ++ ys)
among_right c [] ys h = h
among_right c (x ∷ xs) ys h = inr (among_right c xs ys h)

pub all_of : {A : Type 0} (P Q : A → Type 0) (xs : List A) → ((x : A) → P x → Q x) → AllByRecursion P xs → AllByRecursion Q xs
all_of P Q [] f h = tt
all_of P Q (x ∷ xs) f h = (f x h.0, all_of P Q xs f h.1)

all_join : {A : Type 0} (P : A → Type 0) (xs ys : List A) → AllByRecursion P xs → AllByRecursion P ys → AllByRecursion P (xs ++ ys)
all_join P [] ys h k = k
all_join P (x ∷ xs) ys h k = (h.0, all_join P xs ys h.1 k)

-- what is served of requests, and then of those that waited still
joined : (s t last r u mid before : List Request) → t ++ (last ++ r) ≡ mid → s ++ (mid ++ u) ≡ before
    → (s ++ t) ++ (last ++ (r ++ u)) ≡ before
joined s t last r u mid before p q =
    append_assoc s t (last ++ (r ++ u))
    ∙ (ap (λ v. s ++ v) (ap (λ v. t ++ v) (sym (append_assoc last r u)) ∙ (sym (append_assoc t (last ++ r) u) ∙ ap (λ v. v ++ u) p)) ∙ q)

module _ {S : Type 0} (remaining contents : S → Option (List ℕ)) where
  -- a client that went on, and then was let go of
  leaves_after : (a b c : Client S) (xs ys : List ℕ) (ss ts first then last : List Request)
      → GoesOn remaining contents xs ss first then a b → Leaves remaining contents ys ts then last b c
      → Leaves remaining contents (xs ++ ys) (ss ++ ts) first last a c
  leaves_after a b c xs ys ss ts first then last p q =
      let one = requests_in_pieces a.session.left p.pieces in
      let two = requests_in_pieces b.session.left q.pieces in
      record {
        same = q.same ∙ p.moves.same;
        untaken = q.untaken;
        took = grows_twice (given contents a) (given contents b) (append_known (contents c.stream) q.untaken) xs ys p.moves.grows q.took;
        pieces = p.pieces ++ q.pieces;
        taken = subst (Consumes (remaining a.stream) (remaining c.stream)) (sym (concat-append p.pieces q.pieces))
            (consumes_twice (remaining a.stream) (remaining b.stream) (remaining c.stream) (concat p.pieces) (concat q.pieces) p.moves.taken q.taken);
        closing = λ h.
            let closed = p.moves.closing h in
            ap (λ t. t ++ q.pieces) closed.0 ∙ q.closing closed.1;
        unserved = q.unserved;
        asked = append_assoc ss ts (last ++ q.unserved) ∙ (ap (λ t. ss ++ t) q.asked ∙ (sym (append_assoc ss then two)
            ∙ (ap (λ t. t ++ two) p.asked ∙ (append_assoc first one two
            ∙ ap (λ t. first ++ t) (sym (pieces_behind remaining contents a b xs p.pieces q.pieces p.moves q.closing))))));
      }

  -- a client that was let go of, of which then more was served
  leaves_then : (a c : Client S) (xs ys : List ℕ) (ss ts first then last rest : List Request)
      → Leaves remaining contents xs ss first then a c → ts ++ (last ++ rest) ≡ then
      → Leaves remaining contents (xs ++ ys) (ss ++ ts) first last a c
  leaves_then a c xs ys ss ts first then last rest p more = record {
    same = p.same;
    untaken = p.untaken ++ ys;
    took = more_behind (given contents a) (contents c.stream) xs p.untaken ys p.took;
    pieces = p.pieces;
    taken = p.taken;
    closing = p.closing;
    unserved = rest ++ p.unserved;
    asked = joined ss ts last rest p.unserved then (first ++ requests_in_pieces a.session.left p.pieces) more p.asked;
  }

  -- first some requests were taken
  pub leaves_from : (a c : Client S) (xs : List ℕ) (front ss first then last : List Request)
      → Leaves remaining contents xs ss then last a c → first ≡ front ++ then
      → Leaves remaining contents xs (front ++ ss) first last a c
  leaves_from a c xs front ss first then last p here =
      let more = requests_in_pieces a.session.left p.pieces in
      record {
        same = p.same;
        untaken = p.untaken;
        took = p.took;
        pieces = p.pieces;
        taken = p.taken;
        closing = p.closing;
        unserved = p.unserved;
        asked = append_assoc front ss (last ++ p.unserved) ∙ (ap (λ t. front ++ t) p.asked
            ∙ (sym (append_assoc front then more) ∙ ap (λ t. t ++ more) (sym here)));
      }

  -- all that waited was let go of
  pub leaves_lost : (a c : Client S) (xs : List ℕ) (first then last : List Request)
      → Leaves remaining contents xs [] then last a c → last ≡ [] → Leaves remaining contents xs [] first last a c
  leaves_lost a c xs first then last p none =
      let all = first ++ requests_in_pieces a.session.left p.pieces in
      record {
        same = p.same;
        untaken = p.untaken;
        took = p.took;
        pieces = p.pieces;
        taken = p.taken;
        closing = p.closing;
        unserved = all;
        asked = ap (λ t. t ++ all) none;
      }

  -- a client is let go of as it is
  leaves_now : (x : Client S) (first last : List Request) → last ≡ first → Leaves remaining contents [] [] first last x x
  leaves_now x first last quiet = record {
    same = refl;
    untaken = x.session.queued;
    took = grows_by_none (given contents x) (given contents x) (keeps_itself (given contents x));
    pieces = [];
    taken = consumes_nothing (remaining x.stream) (remaining x.stream) (keeps_itself (remaining x.stream));
    closing = λ h. refl;
    unserved = [];
    asked = ap (λ t. t ++ []) quiet;
  }

  -- a client is let go of to which bytes could not be given
  leaves_refused : (x y : Client S) (bytes : List ℕ) (first last : List Request) → y.id ≡ x.id → y.stream ≡ x.stream → last ≡ first
      → Leaves remaining contents bytes [] first last x y
  leaves_refused x y bytes first last same stream quiet = record {
    same = same;
    untaken = x.session.queued ++ bytes;
    took = subst (λ (s : S). Keeps (append_known (given contents x) bytes) (append_known (contents s) (x.session.queued ++ bytes))) (sym stream)
        (queued_behind (contents x.stream) x.session.queued bytes);
    pieces = [];
    taken = subst (λ (s : S). Consumes (remaining x.stream) (remaining s) []) (sym stream)
        (consumes_nothing (remaining x.stream) (remaining x.stream) (keeps_itself (remaining x.stream)));
    closing = λ h. refl;
    unserved = [];
    asked = ap (λ t. t ++ []) quiet;
  }

  -- a client is let go of for want of memory, behind requests of it that were gathered
  leaves_part : (x y : Client S) (before mid : List ClientEvent) (last : List Request) → ReadsInPart remaining contents x y before mid
      → last ≡ asked_in x.id mid → Leaves remaining contents [] [] (asked_in x.id before) last x y
  leaves_part x y before mid last r quiet =
      let waited = asked_in x.id before in
      record {
        same = r.same;
        untaken = r.untaken;
        took = r.unwritten;
        pieces = r.pieces;
        taken = r.taken;
        closing = λ h. absurd (cc (h, r.goes_on));
        unserved = r.lost;
        asked = ap (λ t. t ++ r.lost) (quiet ∙ gained_own x.id before mid r.requests r.added)
            ∙ (append_assoc waited r.requests r.lost ∙ ap (λ t. waited ++ t) r.whole);
      }

  some_same : (slot : Option (Client S)) (n m : ℕ) → IsSomeAnd slot (λ now. now.id ≡ n) → n ≡ m → IsSomeAnd slot (λ now. now.id ≡ m)
  some_same None n m at same = at
  some_same (Some x) n m at same = at ∙ same

  some_there : (a : ConnectionsState S) (key n : ℕ) (slot : Option (Client S)) → get a.clients key ≡ slot
      → IsSomeAnd slot (λ now. now.id ≡ n) → IsVacant a n → ⊥
  some_there a key n None is at vacant = absurd at
  some_there a key n (Some x) is at vacant = vacant key x is at

  -- a number that is vacant is never given out again
  vacant_on : (b c : ConnectionsState S) (more : ℕ → List ℕ) (then : ℕ → List Request) (n : ℕ) → IsLater remaining contents more then b c
      → IsVacant b n → n ≤ b.last_id → IsVacant c n
  vacant_on b c more then n q vacant known = λ key client there same.
      elim (q.each key client there) [
        | inl k ↦ vacant key k.before k.there (sym k.goes_on.moves.same ∙ same)
        | inr new ↦ absurd (omega (arith, new.later, new.goes_on.moves.same, same, known))
      ]

  none_left : (b c : ConnectionsState S) (more : ℕ → List ℕ) (then : ℕ → List Request) (ys : List (Client S)) (n : ℕ)
      → AllByRecursion (λ last. IsLeft remaining contents (more last.id) (then last.id) b c last) ys → IsVacant b n → n ≤ b.last_id
      → IsAmong n ys → ⊥
  none_left b c more then [] n all vacant known among = absurd among
  none_left b c more then (y ∷ ys) n all vacant known among =
      elim among [
        | inl is ↦ elim all.0.leaves [
          | inl k ↦ vacant k.key k.before k.there (sym k.leaves.same ∙ is)
          | inr new ↦ absurd (omega (arith, new.later, new.leaves.same, is, known))
        ]
        | inr rest ↦ none_left b c more then ys n all.1 vacant known rest
      ]

  -- one that was let go of, and what came behind
  left_then : (a b c : ConnectionsState S) (sent more : ℕ → List ℕ) (served then : ℕ → List Request) (ys : List (Client S)) (x : Client S)
      → IsLater remaining contents more then b c → AllLeave remaining contents more then b c ys
      → IsLeft remaining contents (sent x.id) (served x.id) a b x
      → IsLeft remaining contents (sent x.id ++ more x.id) (served x.id ++ then x.id) a c x
  left_then a b c sent more served then ys x q l p =
      let vacant : IsVacant c x.id = vacant_on b c more then x.id q p.vacant p.known in
      let rest = l.absent x.id p.vacant vacant (none_left b c more then ys x.id l.each p.vacant p.known) in
      record {
        vacant = vacant;
        known = omega (arith, p.known, q.last_id);
        leaves = elim p.leaves [
          | inl k ↦ inl (record {
            key = k.key;
            before = k.before;
            there = k.there;
            leaves = leaves_then k.before x (sent x.id) (more x.id) (served x.id) (then x.id) (asked_in x.id a.events) (asked_in x.id b.events)
                (asked_in x.id c.events) rest.0 k.leaves rest.1;
          })
          | inr new ↦ inr (record {
            first = new.first;
            later = new.later;
            session = new.session;
            leaves = leaves_then new.first x (sent x.id) (more x.id) (served x.id) (then x.id) [] (asked_in x.id b.events)
                (asked_in x.id c.events) rest.0 new.leaves rest.1;
          })
        ];
      }

  -- one that was let go of, and what came before
  left_before : (a b c : ConnectionsState S) (sent more : ℕ → List ℕ) (served then : ℕ → List Request) (y : Client S)
      → IsLater remaining contents sent served a b
      → (IsLeft remaining contents (more y.id) (then y.id) b c y
      → LeavesNew remaining contents (more y.id) (then y.id) (asked_in y.id c.events) b.last_id y
      → LeavesNew remaining contents (sent y.id ++ more y.id) (served y.id ++ then y.id) (asked_in y.id c.events) a.last_id y)
      → IsLeft remaining contents (more y.id) (then y.id) b c y
      → IsLeft remaining contents (sent y.id ++ more y.id) (served y.id ++ then y.id) a c y
  left_before a b c sent more served then y p new_ones l =
      record {
        vacant = l.vacant;
        known = l.known;
        leaves = elim l.leaves [
          | inl k ↦
              (let is : k.before.id ≡ y.id = sym k.leaves.same in
              elim (p.each k.key k.before k.there) [
                | inl kept ↦ (let here = kept_of remaining contents a b sent served k.key y.id k.before is kept in
                    inl (record {
                      key = k.key;
                      before = here.before;
                      there = here.there;
                      leaves = leaves_after here.before k.before y (sent y.id) (more y.id) (served y.id) (then y.id) (asked_in y.id a.events)
                          (asked_in y.id b.events) (asked_in y.id c.events)
                          (subst (λ (n : ℕ). GoesOn remaining contents (sent y.id) (served y.id) (asked_in n a.events) (asked_in n b.events) here.before k.before)
                          is here.goes_on) k.leaves;
                    }))
                | inr new ↦ (let here = new_of remaining contents sent served b.events a.last_id y.id k.before is new in
                    inr (record {
                      first = here.first;
                      later = here.later;
                      session = here.session;
                      leaves = leaves_after here.first k.before y (sent y.id) (more y.id) (served y.id) (then y.id) []
                          (asked_in y.id b.events) (asked_in y.id c.events) here.goes_on k.leaves;
                    }))
              ])
          | inr new ↦ inr (new_ones l new)
        ];
      }

  stay_on : (a b c : ConnectionsState S) (more : ℕ → List ℕ) (then : ℕ → List Request) (xs ys : List (Client S)) (key n : ℕ)
      (slot : Option (Client S)) → AllLeave remaining contents more then b c ys → get b.clients key ≡ slot
      → IsSomeAnd slot (λ now. now.id ≡ n) → IsSomeAnd (get c.clients key) (λ now. now.id ≡ n) ⊎ IsAmong n (xs ++ ys)
  stay_on a b c more then xs ys key n None q is at = absurd at
  stay_on a b c more then xs ys key n (Some x) q is at =
      elim (q.stay key x is) [
        | inl now ↦ inl (some_same (get c.clients key) x.id n now at)
        | inr among ↦ inr (subst (λ (m : ℕ). IsAmong m (xs ++ ys)) at (among_right x.id xs ys among))
      ]

  -- clients are let go of, and then others
  pub leave_twice : (a b c : ConnectionsState S) (sent more : ℕ → List ℕ) (served then : ℕ → List Request) (xs ys : List (Client S))
      → IsLater remaining contents sent served a b → IsLater remaining contents more then b c
      → ((y : Client S) → IsLeft remaining contents (more y.id) (then y.id) b c y
      → LeavesNew remaining contents (more y.id) (then y.id) (asked_in y.id c.events) b.last_id y
      → LeavesNew remaining contents (sent y.id ++ more y.id) (served y.id ++ then y.id) (asked_in y.id c.events) a.last_id y)
      → AllLeave remaining contents sent served a b xs → AllLeave remaining contents more then b c ys
      → AllLeave remaining contents (λ i. sent i ++ more i) (λ i. served i ++ then i) a c (xs ++ ys)
  leave_twice a b c sent more served then xs ys p q new_ones l m = record {
    each = all_join (λ last. IsLeft remaining contents (sent last.id ++ more last.id) (served last.id ++ then last.id) a c last) xs ys
        (all_of (λ last. IsLeft remaining contents (sent last.id) (served last.id) a b last)
        (λ last. IsLeft remaining contents (sent last.id ++ more last.id) (served last.id ++ then last.id) a c last) xs
        (λ x h. left_then a b c sent more served then ys x q m h) l.each)
        (all_of (λ last. IsLeft remaining contents (more last.id) (then last.id) b c last)
        (λ last. IsLeft remaining contents (sent last.id ++ more last.id) (served last.id ++ then last.id) a c last) ys
        (λ y h. left_before a b c sent more served then y p (new_ones y) h) m.each);
    stay = λ key client there. elim (l.stay key client there) [
      | inl at ↦ stay_on a b c more then xs ys key client.id (get b.clients key) m refl at
      | inr among ↦ inr (among_left client.id xs ys among)
    ];
    absent = λ n first last apart.
        let between : IsVacant b n = λ key client there same.
        elim (m.stay key client there) [
          | inl at ↦ some_there c key n (get c.clients key) refl (some_same (get c.clients key) client.id n at same) last
          | inr among ↦ apart (among_right n xs ys (subst (λ (k : ℕ). IsAmong k ys) same among))
        ] in
        let one = l.absent n first between (λ h. apart (among_left n xs ys h)) in
        let two = m.absent n between last (λ h. apart (among_right n xs ys h)) in
        (two.0 ++ one.0, joined (served n) (then n) (asked_in n c.events) two.0 one.0 (asked_in n b.events) (asked_in n a.events) two.1 one.1);
  }

  left_same : (a b : ConnectionsState S) (xs ys : List ℕ) (ss ts : List Request) (x : Client S) → xs ≡ ys → ss ≡ ts
      → IsLeft remaining contents xs ss a b x → IsLeft remaining contents ys ts a b x
  left_same a b xs ys ss ts x e f l =
      subst (λ (t : List Request). IsLeft remaining contents ys t a b x) f
      (subst (λ (t : List ℕ). IsLeft remaining contents t ss a b x) e l)

  pub leave_same : (a b : ConnectionsState S) (sent more : ℕ → List ℕ) (served then : ℕ → List Request) (xs : List (Client S))
      → ((i : ℕ) → sent i ≡ more i) → ((i : ℕ) → served i ≡ then i) → AllLeave remaining contents sent served a b xs
      → AllLeave remaining contents more then a b xs
  leave_same a b sent more served then xs e f l = record {
    each = all_of (λ last. IsLeft remaining contents (sent last.id) (served last.id) a b last)
        (λ last. IsLeft remaining contents (more last.id) (then last.id) a b last) xs
        (λ x h. left_same a b (sent x.id) (more x.id) (served x.id) (then x.id) x (e x.id) (f x.id) h) l.each;
    stay = l.stay;
    absent = λ n first last apart.
        let rest = l.absent n first last apart in
        (rest.0, ap (λ t. t ++ (asked_in n b.events ++ rest.0)) (sym (f n)) ∙ rest.1);
  }

  -- nobody is let go of
  pub leave_none : (a b : ConnectionsState S) (sent : ℕ → List ℕ)
      → ((key : ℕ) (client : Client S) → get a.clients key ≡ Some client → IsSomeAnd (get b.clients key) (λ now. now.id ≡ client.id))
      → ((n : ℕ) → IsVacant a n → asked_in n b.events ≡ asked_in n a.events) → AllLeave remaining contents sent no_requests a b []
  leave_none a b sent stays quiet = record {
    each = tt;
    stay = λ key client there. inl (stays key client there);
    absent = λ n first last apart. ([], append-nil (asked_in n b.events) ∙ quiet n first);
  }

  stays_same : (a b : ConnectionsState S) (key : ℕ) (client : Client S) → get b.clients key ≡ get a.clients key
      → get a.clients key ≡ Some client → IsSomeAnd (get b.clients key) (λ now. now.id ≡ client.id)
  stays_same a b key client same there =
      subst (λ (o : Option (Client S)). IsSomeAnd o (λ now. now.id ≡ client.id)) (sym (same ∙ there)) refl

  -- the clients stay as they are
  pub leave_still : (a b : ConnectionsState S) (sent : ℕ → List ℕ) → b.clients ≡ a.clients → b.events ≡ a.events
      → AllLeave remaining contents sent no_requests a b []
  leave_still a b sent clients events =
      leave_none a b sent (λ key client there. stays_same a b key client (ap (λ (s : Slab (Client S)). get s key) clients) there)
      (λ n vacant. ap (asked_in n) events)

  forgotten : (a b : ConnectionsState S) (id n : ℕ) (t : Bool) → (id == n) ≡ t → asked_in id b.events ≡ []
      → ((m : ℕ) → id ≢ m → asked_in m b.events ≡ asked_in m a.events)
      → (unserved : List Request) × (asked_in n b.events ++ unserved ≡ asked_in n a.events)
  forgotten a b id n true e none quiet =
      (asked_in n a.events, ap (λ t. t ++ asked_in n a.events) (subst (λ (m : ℕ). asked_in m b.events ≡ []) (eqb-true id n e) none))
  forgotten a b id n false e none quiet = ([], append-nil (asked_in n b.events) ∙ quiet n (eqb-false id n e))

  -- the requests of a client were let go of
  pub leave_forgotten : (a b : ConnectionsState S) (sent : ℕ → List ℕ) (id : ℕ) → b.clients ≡ a.clients → asked_in id b.events ≡ []
      → ((n : ℕ) → id ≢ n → asked_in n b.events ≡ asked_in n a.events) → AllLeave remaining contents sent no_requests a b []
  leave_forgotten a b sent id clients none quiet = record {
    each = tt;
    stay = λ key client there. inl (stays_same a b key client (ap (λ (s : Slab (Client S)). get s key) clients) there);
    absent = λ n first last apart. forgotten a b id n (id == n) refl none quiet;
  }

  stays_at : (P : Client S → Client S → Type 0) (slot after : Option (Client S)) (client : Client S) → slot ≡ Some client
      → MatchOption slot (after ≡ None) (λ x. IsSomeAnd after (λ y. P x y)) → ((x y : Client S) → P x y → y.id ≡ x.id)
      → IsSomeAnd after (λ now. now.id ≡ client.id)
  stays_at P None after client is moved ids = absurd (cc is)
  stays_at P (Some x) None client is moved ids = absurd moved
  stays_at P (Some x) (Some y) client is moved ids =
      let same : x ≡ client = cc is in
      ids x y moved ∙ ap (λ (t : Client S). t.id) same

  stays_moved : (P : Client S → Client S → Type 0) (a b : ConnectionsState S) (key k : ℕ) (client : Client S) (t : Bool) → (k == key) ≡ t
      → IsMovedAt P key a.clients b.clients → ((x y : Client S) → P x y → y.id ≡ x.id)
      → ((other : ℕ) → other ≢ key → get b.clients other ≡ get a.clients other) → get a.clients k ≡ Some client
      → IsSomeAnd (get b.clients k) (λ now. now.id ≡ client.id)
  stays_moved P a b key k client true e moved ids others there =
      let same : k ≡ key = eqb-true k key e in
      subst (λ (n : ℕ). IsSomeAnd (get b.clients n) (λ now. now.id ≡ client.id)) (sym same)
      (stays_at P (get a.clients key) (get b.clients key) client (ap (get a.clients) (sym same) ∙ there) moved ids)
  stays_moved P a b key k client false e moved ids others there = stays_same a b k client (others k (eqb-false k key e)) there

  -- the client at a key moved
  pub leave_moved : (P : Client S → Client S → Type 0) (a b : ConnectionsState S) (sent : ℕ → List ℕ) (key : ℕ)
      → IsMovedAt P key a.clients b.clients → ((x y : Client S) → P x y → y.id ≡ x.id)
      → ((other : ℕ) → other ≢ key → get b.clients other ≡ get a.clients other)
      → ((n : ℕ) → IsVacant a n → asked_in n b.events ≡ asked_in n a.events) → AllLeave remaining contents sent no_requests a b []
  leave_moved P a b sent key moved ids others quiet =
      leave_none a b sent (λ k client there. stays_moved P a b key k client (k == key) refl moved ids others there) quiet

  stays_but : (a b : ConnectionsState S) (key k : ℕ) (x last client : Client S) (t : Bool) → (k == key) ≡ t → get a.clients key ≡ Some x
      → last.id ≡ x.id → ((other : ℕ) → other ≢ key → get b.clients other ≡ get a.clients other) → get a.clients k ≡ Some client
      → IsSomeAnd (get b.clients k) (λ now. now.id ≡ client.id) ⊎ IsAmong client.id (last ∷ [])
  stays_but a b key k x last client true e was same others there =
      let is : k ≡ key = eqb-true k key e in
      let both : x ≡ client = cc (was, ap (get a.clients) is, there) in
      inr (inl (same ∙ ap (λ (t : Client S). t.id) both))
  stays_but a b key k x last client false e was same others there = inl (stays_same a b k client (others k (eqb-false k key e)) there)

  -- one client is let go of
  pub leave_one : (a b : ConnectionsState S) (sent : ℕ → List ℕ) (key : ℕ) (x last : Client S) → get a.clients key ≡ Some x
      → get b.clients key ≡ None → ((other : ℕ) → other ≢ key → get b.clients other ≡ get a.clients other)
      → ((c d : ℕ) (u v : Client S) → get a.clients c ≡ Some u → get a.clients d ≡ Some v → u.id ≡ v.id → c ≡ d)
      → x.id ≤ b.last_id → Leaves remaining contents (sent x.id) [] (asked_in x.id a.events) (asked_in x.id b.events) x last
      → ((n : ℕ) → x.id ≢ n → asked_in n b.events ≡ asked_in n a.events) → AllLeave remaining contents sent no_requests a b (last ∷ [])
  leave_one a b sent key x last was gone others distinct known leaves quiet =
      let same : x.id ≡ last.id = sym leaves.same in
      let away : IsVacant b x.id = λ k client there is.
      let apart : k ≢ key = λ e. absurd (cc (gone, there, ap (get b.clients) e)) in
      apart (distinct k key client x (sym (others k apart) ∙ there) was is) in
      record {
        each = (
          subst (λ (n : ℕ). IsLeft remaining contents (sent n) [] a b last) same (record {
            vacant = subst (λ (n : ℕ). IsVacant b n) same away;
            known = omega (arith, known, same);
            leaves = inl (record {
              key = key;
              before = x;
              there = was;
              leaves = subst (λ (n : ℕ). Leaves remaining contents (sent x.id) [] (asked_in n a.events) (asked_in n b.events) x last) same leaves;
            });
          }),
          tt,
        );
        stay = λ k client there. stays_but a b key k x last client (k == key) refl was leaves.same others there;
        absent = λ n first then apart. ([], append-nil (asked_in n b.events) ∙ quiet n (λ e. first key x was e));
      }

  -- the client at a key was let go of as it was, if there is one
  pub leave_dropped : (a b : ConnectionsState S) (key : ℕ) (slot : Option (Client S)) → get a.clients key ≡ slot
      → get b.clients key ≡ None → ((other : ℕ) → other ≢ key → get b.clients other ≡ get a.clients other)
      → ((c d : ℕ) (u v : Client S) → get a.clients c ≡ Some u → get a.clients d ≡ Some v → u.id ≡ v.id → c ≡ d)
      → ((k : ℕ) (client : Client S) → get a.clients k ≡ Some client → client.id ≤ b.last_id)
      → ((n : ℕ) → asked_in n b.events ≡ asked_in n a.events)
      → AllLeave remaining contents (λ i. []) no_requests a b (option_to_list slot)
  leave_dropped a b key None was gone others distinct known quiet =
      leave_moved (λ x y. y.id ≡ x.id) a b (λ i. []) key
      (subst (λ (o : Option (Client S)). MatchOption o (get b.clients key ≡ None) (λ x. IsSomeAnd (get b.clients key) (λ y. y.id ≡ x.id))) (sym was) gone)
      (λ x y same. same) others (λ n vacant. quiet n)
  leave_dropped a b key (Some x) was gone others distinct known quiet =
      leave_one a b (λ i. []) key x x was gone others distinct (known key x was)
      (leaves_now x (asked_in x.id a.events) (asked_in x.id b.events) (quiet x.id)) (λ n ne. quiet n)

  -- the client at a key was let go of where bytes could not be given to it
  pub leave_refused : (a b : ConnectionsState S) (sent : ℕ → List ℕ) (key : ℕ) (x y : Client S) → get a.clients key ≡ Some x
      → y.id ≡ x.id → y.stream ≡ x.stream
      → get b.clients key ≡ None → ((other : ℕ) → other ≢ key → get b.clients other ≡ get a.clients other)
      → ((c d : ℕ) (u v : Client S) → get a.clients c ≡ Some u → get a.clients d ≡ Some v → u.id ≡ v.id → c ≡ d)
      → ((k : ℕ) (client : Client S) → get a.clients k ≡ Some client → client.id ≤ b.last_id)
      → ((n : ℕ) → asked_in n b.events ≡ asked_in n a.events)
      → AllLeave remaining contents sent no_requests a b (y ∷ [])
  leave_refused a b sent key x y was same stream gone others distinct known quiet =
      leave_one a b sent key x y was gone others distinct (known key x was)
      (leaves_refused x y (sent x.id) (asked_in x.id a.events) (asked_in x.id b.events) same stream (quiet x.id)) (λ n ne. quiet n)

  -- the client at a key was let go of where memory was refused for what was read of it
  pub leave_part : (a b : ConnectionsState S) (key : ℕ) (x y : Client S) (mid : List ClientEvent) → get a.clients key ≡ Some x
      → ReadsInPart remaining contents x y a.events mid
      → get b.clients key ≡ None → ((other : ℕ) → other ≢ key → get b.clients other ≡ get a.clients other)
      → ((c d : ℕ) (u v : Client S) → get a.clients c ≡ Some u → get a.clients d ≡ Some v → u.id ≡ v.id → c ≡ d)
      → ((k : ℕ) (client : Client S) → get a.clients k ≡ Some client → client.id ≤ b.last_id)
      → ((n : ℕ) → x.id ≢ n → asked_in n b.events ≡ asked_in n a.events) → asked_in x.id b.events ≡ asked_in x.id mid
      → AllLeave remaining contents (λ i. []) no_requests a b (y ∷ [])
  leave_part a b key x y mid was part gone others distinct known quiet told =
      leave_one a b (λ i. []) key x y was gone others distinct (known key x was)
      (leaves_part x y a.events mid (asked_in x.id b.events) part told) quiet

  -- a client was taken in
  pub leave_admitted : (stream : S) (a b : ConnectionsState S) (sent : ℕ → List ℕ) → IsAdmitted stream a b
      → ((n : ℕ) → asked_in n b.events ≡ asked_in n a.events) → AllLeave remaining contents sent no_requests a b []
  leave_admitted stream a b sent ad quiet =
      leave_none a b sent (λ k client there.
      stays_same a b k client (ad.there.others k (λ e. absurd (cc (ad.vacant, there, ap (get a.clients) e)))) there)
      (λ n vacant. quiet n)
