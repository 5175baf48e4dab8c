-- From one moment to another, in several steps.
use Rattle.std.proofs.Common.{◌≡◌, ◌≢◌, ◌⊎◌, inl, inr, ℕ, ◌+◌, ◌≤◌, ◌<◌, ◌==◌, List, [], ◌∷◌, ◌++◌, Option, Some, None, Bool, true, false, cond, MatchOption, IsSomeAnd, IfNone, IfSome, IsSome}
use Rattle.std.proofs.Common.{refl, sym, subst, ◌∙◌, ap, append_assoc, arith, eq-eqb}
use Rattle.std.proofs.lemmas.List.{append-nil}
use Rattle.std.proofs.lemmas.Bool.{ne_eqb, eqb-true, eqb-false}
use Rattle.slab.specs.Slab.{Slab, get, slab_len, Updates}
use Rattle.command_text.specs.declared.request.Request.{Request}
use Rattle.client_session.specs.Requests.{requests_in_pieces}
use Rattle.mio_clients.specs.declared.client.Client.{Client}
use Rattle.mio_clients.specs.declared.event.ClientEvent.{ClientEvent}
use Rattle.mio_clients.specs.declared.event.ClientEvent.TheVariants as events
use Rattle.mio_clients.specs.Events.{asked_by_event, asked_in, asked_by, AsksNothing}
use Rattle.mio_clients.specs.Given.{Moves}
use Rattle.mio_clients.specs.Connections.{ConnectionsState, QueueState, AreConnections, IsToldGone, IsMovedAt, Reads, IsReadAt, IsAdmitted, IsFailedAt, client_limit}
use Rattle.mio_clients.specs.Later.{GoesOn, IsNew, IsKept, AllGoOn, IsLater, IsFault, Loses, no_bytes, no_requests, bytes_for}
use Rattle.mio_clients.specs.declared.refusal.ClientsError.{ClientsError}
use Rattle.mio_clients.specs.declared.refusal.ClientsError.TheVariants.{NetFault}
use Rattle.mio_clients.specs.declared.client.Reading.{Reading}
use Rattle.mio_clients.specs.declared.client.Reading.TheVariants.{Refused}
use Rattle.mio_clients.proofs.GivenLaws.{reads_none, moves_itself, moves_twice, pieces_asked}

pub asked_in-append : (c : ℕ) (es fs : List ClientEvent) → asked_in c (es ++ fs) ≡ asked_in c es ++ asked_in c fs
asked_in-append c [] fs = refl
asked_in-append c (e ∷ es) fs =
    ap (λ t. asked_by_event c e ++ t) (asked_in-append c es fs) ∙ sym (append_assoc (asked_by_event c e) (asked_in c es) (asked_in c fs))

-- the requests of a client are its own
pub asked_in-own : (c : ℕ) (rs : List Request) → asked_in c (asked_by c rs) ≡ rs
asked_in-own c [] = refl
asked_in-own c (r ∷ rs) =
    ap (λ (t : Bool). cond t (r ∷ []) [] ++ asked_in c (asked_by c rs)) (eq-eqb c c refl) ∙ ap (λ t. r ∷ t) (asked_in-own c rs)

pub asked_in-other : (c d : ℕ) (rs : List Request) → d ≢ c → asked_in c (asked_by d rs) ≡ []
asked_in-other c d [] ne = refl
asked_in-other c d (r ∷ rs) ne =
    ap (λ (t : Bool). cond t (r ∷ []) [] ++ asked_in c (asked_by d rs)) (ne_eqb d c ne) ∙ asked_in-other c d rs ne

pub bytes_for_own : (c : ℕ) (bytes : List ℕ) → bytes_for c bytes c ≡ bytes
bytes_for_own c bytes = ap (λ (t : Bool). cond t bytes []) (eq-eqb c c refl)

pub bytes_for_other : (c d : ℕ) (bytes : List ℕ) → c ≢ d → bytes_for c bytes d ≡ []
bytes_for_other c d bytes ne = ap (λ (t : Bool). cond t bytes []) (ne_eqb c d ne)

-- a client's own requests are added
pub gained_own : (c : ℕ) (before after : List ClientEvent) (requests : List Request) → after ≡ before ++ asked_by c requests
    → asked_in c after ≡ asked_in c before ++ requests
gained_own c before after requests added =
    ap (asked_in c) added ∙ (asked_in-append c before (asked_by c requests) ∙ ap (λ t. asked_in c before ++ t) (asked_in-own c requests))

pub gained_other : (c d : ℕ) (before after : List ClientEvent) (requests : List Request) → d ≢ c → after ≡ before ++ asked_by d requests
    → asked_in c after ≡ asked_in c before
gained_other c d before after requests ne added =
    ap (asked_in c) added ∙ (asked_in-append c before (asked_by d requests)
    ∙ (ap (λ t. asked_in c before ++ t) (asked_in-other c d requests ne) ∙ append-nil (asked_in c before)))

told_one : (released : Bool) (n : ℕ) (before : List ClientEvent) (c : ℕ)
    → asked_in c (cond released before (before ++ events.Gone n ∷ [])) ≡ asked_in c before
told_one true n before c = refl
told_one false n before c = asked_in-append c before (events.Gone n ∷ []) ∙ append-nil (asked_in c before)

both_none : (b : Bool) → (let none : List ℕ = [] in cond b none none ≡ none)
both_none true = refl
both_none false = refl

behind_none : (rs ss : List Request) → rs ++ ss ≡ [] → ss ≡ []
behind_none [] ss e = e
behind_none (r ∷ rs) ss e = absurd (cc (e))

-- what an event left behind it asks for nothing where all did
pub popped_none : (result : Option ClientEvent) (old new : List ClientEvent)
    → MatchOption result ((old ≡ []) × (new ≡ [])) (λ event. old ≡ event ∷ new) → (c : ℕ) → asked_in c old ≡ [] → asked_in c new ≡ []
popped_none None old new popped c none = ap (asked_in c) popped.1
popped_none (Some event) old new popped c none =
    behind_none (asked_by_event c event) (asked_in c new) (sym (ap (asked_in c) popped) ∙ none)

pub asks_nothing : (event : ClientEvent) (c : ℕ) → AsksNothing event → asked_by_event c event ≡ []
asks_nothing (events.Connect client) c h = refl
asks_nothing (events.Request client request) c h = absurd h
asks_nothing (events.Seeking client request) c h = absurd h
asks_nothing (events.Picture client told) c h = refl
asks_nothing (events.Gone client) c h = refl

pub not_full : (n : ℕ) → ((100 ≤ n) → ⊥) → n + 1 ≤ 100
not_full n never = omega (arith, never)

module _ {S : Type 0} (remaining contents : S → Option (List ℕ)) where
  -- a client to which nothing happens
  goes_on_itself : (a : Client S) (waits : List Request) → GoesOn remaining contents [] [] waits waits a a
  goes_on_itself a waits = record { pieces = []; moves = moves_itself remaining contents a; asked = sym (append-nil waits) }

  goes_on_twice : (a b c : Client S) (xs ys : List ℕ) (ss ts first then last : List Request)
      → GoesOn remaining contents xs ss first then a b → GoesOn remaining contents ys ts then last b c
      → GoesOn remaining contents (xs ++ ys) (ss ++ ts) first last a c
  goes_on_twice a b c xs ys ss ts first then last p q =
      let one = requests_in_pieces a.session.left p.pieces in
      let two = requests_in_pieces b.session.left q.pieces in
      record {
        pieces = p.pieces ++ q.pieces;
        moves = moves_twice remaining contents a b c xs ys p.pieces q.pieces p.moves q.moves;
        asked = append_assoc ss ts last ∙ (ap (λ t. ss ++ t) q.asked ∙ (sym (append_assoc ss then two)
            ∙ (ap (λ t. t ++ two) p.asked ∙ (append_assoc first one two
            ∙ ap (λ t. first ++ t) (sym (pieces_asked remaining contents a b c xs ys p.pieces q.pieces p.moves q.moves))))));
      }

  kept_twice : (a b c : ConnectionsState S) (xs ys : List ℕ) (ss ts : List Request) (key : ℕ) (x y : Client S)
      → get b.clients key ≡ Some x → IsKept remaining contents xs ss a b key x → x.id ≡ y.id
      → GoesOn remaining contents ys ts (asked_in x.id b.events) (asked_in y.id c.events) x y
      → IsKept remaining contents (xs ++ ys) (ss ++ ts) a c key y
  kept_twice a b c xs ys ss ts key x y there p same q = record {
    before = p.before;
    there = p.there;
    goes_on = subst (λ (n : ℕ). GoesOn remaining contents (xs ++ ys) (ss ++ ts) (asked_in n a.events) (asked_in y.id c.events) p.before y) same
        (goes_on_twice p.before x y xs ys ss ts (asked_in x.id a.events) (asked_in x.id b.events) (asked_in y.id c.events) p.goes_on q);
  }

  -- what is said of the client of a number, said of the same number
  pub kept_of : (a b : ConnectionsState S) (sent : ℕ → List ℕ) (served : ℕ → List Request) (key n : ℕ) (x : Client S) → x.id ≡ n
      → IsKept remaining contents (sent x.id) (served x.id) a b key x → IsKept remaining contents (sent n) (served n) a b key x
  kept_of a b sent served key n x is kept =
      subst (λ (i : ℕ). IsKept remaining contents (sent i) (served i) a b key x) is kept

  pub new_of : (sent : ℕ → List ℕ) (served : ℕ → List Request) (events : List ClientEvent) (last n : ℕ) (x : Client S) → x.id ≡ n
      → IsNew remaining contents (sent x.id) (served x.id) (asked_in x.id events) last x
      → IsNew remaining contents (sent n) (served n) (asked_in n events) last x
  new_of sent served events last n x is new =
      subst (λ (i : ℕ). IsNew remaining contents (sent i) (served i) (asked_in i events) last x) is new

  pub go_itself : (a : ConnectionsState S) → AllGoOn remaining contents no_bytes no_requests a a
  go_itself a = record {
    last_id = refl;
    each = λ key client there. record { before = client; there = there; goes_on = goes_on_itself client (asked_in client.id a.events) };
  }

  pub go_twice : (a b c : ConnectionsState S) (sent more : ℕ → List ℕ) (served then : ℕ → List Request)
      → AllGoOn remaining contents sent served a b → AllGoOn remaining contents more then b c
      → AllGoOn remaining contents (λ i. sent i ++ more i) (λ i. served i ++ then i) a c
  go_twice a b c sent more served then p q = record {
    last_id = q.last_id ∙ p.last_id;
    each = λ key client there.
        let k = q.each key client there in
        let same : k.before.id ≡ client.id = sym k.goes_on.moves.same in
        kept_twice a b c (sent client.id) (more client.id) (served client.id) (then client.id) key k.before client k.there
        (kept_of a b sent served key client.id k.before same (p.each key k.before k.there)) same
        (subst (λ (n : ℕ). GoesOn remaining contents (more client.id) (then client.id) (asked_in n b.events) (asked_in client.id c.events) k.before client) (sym same) k.goes_on);
  }

  kept_same : (a b : ConnectionsState S) (xs ys : List ℕ) (ss ts : List Request) (key : ℕ) (x : Client S) → xs ≡ ys → ss ≡ ts
      → IsKept remaining contents xs ss a b key x → IsKept remaining contents ys ts a b key x
  kept_same a b xs ys ss ts key x e f k =
      subst (λ (t : List Request). IsKept remaining contents ys t a b key x) f
      (subst (λ (t : List ℕ). IsKept remaining contents t ss a b key x) e k)

  pub go_same : (a b : ConnectionsState S) (sent more : ℕ → List ℕ) (served then : ℕ → List Request) → ((i : ℕ) → sent i ≡ more i)
      → ((i : ℕ) → served i ≡ then i) → AllGoOn remaining contents sent served a b → AllGoOn remaining contents more then a b
  go_same a b sent more served then e f p = record {
    last_id = p.last_id;
    each = λ key client there.
        kept_same a b (sent client.id) (more client.id) (served client.id) (then client.id) key client (e client.id) (f client.id)
        (p.each key client there);
  }

  -- and then nothing more
  pub go_then_none : (a b c : ConnectionsState S) (sent : ℕ → List ℕ) (served : ℕ → List Request)
      → AllGoOn remaining contents sent served a b → AllGoOn remaining contents no_bytes no_requests b c
      → AllGoOn remaining contents sent served a c
  go_then_none a b c sent served p q =
      go_same a c (λ i. sent i ++ []) sent (λ i. served i ++ []) served (λ i. append-nil (sent i)) (λ i. append-nil (served i))
      (go_twice a b c sent no_bytes served no_requests p q)

  new_twice : (a b c : ConnectionsState S) (xs ys : List ℕ) (ss ts : List Request) (x y : Client S) (waits : List Request)
      → IsNew remaining contents xs ss waits a.last_id x → GoesOn remaining contents ys ts waits (asked_in y.id c.events) x y
      → IsNew remaining contents (xs ++ ys) (ss ++ ts) (asked_in y.id c.events) a.last_id y
  new_twice a b c xs ys ss ts x y waits p q = record {
    first = p.first;
    later = p.later;
    session = p.session;
    goes_on = goes_on_twice p.first x y xs ys ss ts [] waits (asked_in y.id c.events) p.goes_on q;
  }

  pub is_later_then : (a b c : ConnectionsState S) (sent more : ℕ → List ℕ) (served then : ℕ → List Request)
      → IsLater remaining contents sent served a b → AllGoOn remaining contents more then b c
      → IsLater remaining contents (λ i. sent i ++ more i) (λ i. served i ++ then i) a c
  is_later_then a b c sent more served then p q = record {
    last_id = subst (λ (n : ℕ). a.last_id ≤ n) (sym q.last_id) p.last_id;
    each = λ key client there.
        let k = q.each key client there in
        let same : k.before.id ≡ client.id = sym k.goes_on.moves.same in
        let goes : GoesOn remaining contents (more client.id) (then client.id) (asked_in k.before.id b.events) (asked_in client.id c.events) k.before client =
        subst (λ (n : ℕ). GoesOn remaining contents (more client.id) (then client.id) (asked_in n b.events) (asked_in client.id c.events) k.before client) (sym same) k.goes_on in
        elim (p.each key k.before k.there) [
          | inl kept ↦ inl (kept_twice a b c (sent client.id) (more client.id) (served client.id) (then client.id) key k.before client k.there
              (kept_of a b sent served key client.id k.before same kept) same goes)
          | inr new ↦ inr (new_twice a b c (sent client.id) (more client.id) (served client.id) (then client.id) k.before client
              (asked_in client.id b.events) (new_of sent served b.events a.last_id client.id k.before same new) k.goes_on)
        ];
  }

  pub is_later_itself : (a : ConnectionsState S) → IsLater remaining contents no_bytes no_requests a a
  is_later_itself a = record {
    last_id = omega arith;
    each = λ key client there.
        inl (record { before = client; there = there; goes_on = goes_on_itself client (asked_in client.id a.events) });
  }

  -- nothing is given or served, and more clients connect
  pub is_later_more : (a b c : ConnectionsState S) → IsLater remaining contents no_bytes no_requests a b
      → IsLater remaining contents no_bytes no_requests b c → IsLater remaining contents no_bytes no_requests a c
  is_later_more a b c p q = record {
    last_id = omega (arith, p.last_id, q.last_id);
    each = λ key client there. elim (q.each key client there) [
      | inl k ↦
          (let same : k.before.id ≡ client.id = sym k.goes_on.moves.same in
          let goes : GoesOn remaining contents [] [] (asked_in k.before.id b.events) (asked_in client.id c.events) k.before client =
          subst (λ (n : ℕ). GoesOn remaining contents [] [] (asked_in n b.events) (asked_in client.id c.events) k.before client) (sym same) k.goes_on in
          elim (p.each key k.before k.there) [
            | inl kept ↦ inl (kept_twice a b c [] [] [] [] key k.before client k.there kept same goes)
            | inr new ↦ inr (new_twice a b c [] [] [] [] k.before client (asked_in k.before.id b.events) new goes)
          ])
      | inr new ↦ inr (record {
        first = new.first;
        later = omega (arith, p.last_id, new.later);
        session = new.session;
        goes_on = new.goes_on;
      })
    ];
  }

  at_moved : (a b : ConnectionsState S) (key : ℕ) (x y : Client S) (bytes : List ℕ) (pieces : List (List ℕ)) (requests : List Request)
      → get a.clients key ≡ Some x → Moves remaining contents bytes pieces x y → requests ≡ requests_in_pieces x.session.left pieces
      → b.events ≡ a.events ++ asked_by x.id requests → IsKept remaining contents (bytes_for x.id bytes y.id) [] a b key y
  at_moved a b key x y bytes pieces requests was moves brought added = record {
    before = x;
    there = was;
    goes_on = subst (λ (n : ℕ). GoesOn remaining contents (bytes_for x.id bytes n) [] (asked_in n a.events) (asked_in n b.events) x y) (sym moves.same)
        (record {
          pieces = pieces;
          moves = subst (λ (t : List ℕ). Moves remaining contents t pieces x y) (sym (bytes_for_own x.id bytes)) moves;
          asked = gained_own x.id a.events b.events requests added ∙ ap (λ t. asked_in x.id a.events ++ t) brought;
        });
  }

  at_other : (a b : ConnectionsState S) (k n : ℕ) (client : Client S) (bytes : List ℕ) (requests : List Request)
      → get a.clients k ≡ Some client → n ≢ client.id → b.events ≡ a.events ++ asked_by n requests
      → IsKept remaining contents (bytes_for n bytes client.id) [] a b k client
  at_other a b k n client bytes requests was ne added = record {
    before = client;
    there = was;
    goes_on = record {
      pieces = [];
      moves = subst (λ (t : List ℕ). Moves remaining contents t [] client client) (sym (bytes_for_other n client.id bytes ne))
          (moves_itself remaining contents client);
      asked = gained_other client.id n a.events b.events requests ne added ∙ sym (append-nil (asked_in client.id a.events));
    };
  }

  at_key : (a b : ConnectionsState S) (key k : ℕ) (x y client : Client S) (bytes : List ℕ) (pieces : List (List ℕ)) (requests : List Request)
      (t : Bool) → (k == key) ≡ t
      → ((c d : ℕ) (u v : Client S) → get a.clients c ≡ Some u → get a.clients d ≡ Some v → u.id ≡ v.id → c ≡ d)
      → get a.clients key ≡ Some x → get b.clients key ≡ Some y
      → ((other : ℕ) → other ≢ key → get b.clients other ≡ get a.clients other)
      → Moves remaining contents bytes pieces x y → requests ≡ requests_in_pieces x.session.left pieces
      → b.events ≡ a.events ++ asked_by x.id requests → get b.clients k ≡ Some client
      → IsKept remaining contents (bytes_for x.id bytes client.id) [] a b k client
  at_key a b key k x y client bytes pieces requests true e distinct was is others moves brought added there =
      let same : k ≡ key = eqb-true k key e in
      let both : y ≡ client = cc (is, ap (get b.clients) same, there) in
      subst (λ (n : ℕ). IsKept remaining contents (bytes_for x.id bytes client.id) [] a b n client) (sym same)
      (subst (λ (c : Client S). IsKept remaining contents (bytes_for x.id bytes c.id) [] a b key c) both
      (at_moved a b key x y bytes pieces requests was moves brought added))
  at_key a b key k x y client bytes pieces requests false e distinct was is others moves brought added there =
      let apart : k ≢ key = eqb-false k key e in
      let before : get a.clients k ≡ Some client = sym (others k apart) ∙ there in
      at_other a b k x.id client bytes requests before (λ same. apart (distinct k key client x before was (sym same))) added

  -- One client moves, and its requests are added to the events that wait; the others stay.
  pub go_at : (a b : ConnectionsState S) (key : ℕ) (x y : Client S) (bytes : List ℕ) (pieces : List (List ℕ)) (requests : List Request)
      → ((c d : ℕ) (u v : Client S) → get a.clients c ≡ Some u → get a.clients d ≡ Some v → u.id ≡ v.id → c ≡ d)
      → get a.clients key ≡ Some x → get b.clients key ≡ Some y
      → ((other : ℕ) → other ≢ key → get b.clients other ≡ get a.clients other) → b.last_id ≡ a.last_id
      → Moves remaining contents bytes pieces x y → requests ≡ requests_in_pieces x.session.left pieces
      → b.events ≡ a.events ++ asked_by x.id requests → AllGoOn remaining contents (bytes_for x.id bytes) no_requests a b
  go_at a b key x y bytes pieces requests distinct was is others last moves brought added = record {
    last_id = last;
    each = λ k client there.
        at_key a b key k x y client bytes pieces requests (k == key) refl distinct was is others moves brought added there;
  }

  -- These bytes are for a client that isn't there in the end; the others stay, and ask for nothing.
  pub go_others : (a b : ConnectionsState S) (n : ℕ) (bytes : List ℕ) → b.last_id ≡ a.last_id
      → ((k : ℕ) (client : Client S) → get b.clients k ≡ Some client
      → (get a.clients k ≡ Some client) × (n ≢ client.id) × (asked_in client.id b.events ≡ asked_in client.id a.events))
      → AllGoOn remaining contents (bytes_for n bytes) no_requests a b
  go_others a b n bytes last stay = record {
    last_id = last;
    each = λ k client there.
        let s = stay k client there in
        record {
          before = client;
          there = s.0;
          goes_on = record {
            pieces = [];
            moves = subst (λ (t : List ℕ). Moves remaining contents t [] client client) (sym (bytes_for_other n client.id bytes s.1))
                (moves_itself remaining contents client);
            asked = s.2 ∙ sym (append-nil (asked_in client.id a.events));
          };
        };
  }

  -- clients stay or go, and those that stay ask for nothing
  pub go_quiet : (a b : ConnectionsState S) → b.last_id ≡ a.last_id
      → ((k : ℕ) (client : Client S) → get b.clients k ≡ Some client
      → (get a.clients k ≡ Some client) × (asked_in client.id b.events ≡ asked_in client.id a.events))
      → AllGoOn remaining contents no_bytes no_requests a b
  go_quiet a b last stay = record {
    last_id = last;
    each = λ k client there.
        let s = stay k client there in
        record {
          before = client;
          there = s.0;
          goes_on = record {
            pieces = [];
            moves = moves_itself remaining contents client;
            asked = s.1 ∙ sym (append-nil (asked_in client.id a.events));
          };
        };
  }

  -- A client was let go of: of the others nothing changed but that events of this one were added.
  pub go_without : (a b : ConnectionsState S) (key : ℕ) (x : Client S) (more : List ClientEvent) (n : ℕ) (bytes : List ℕ) → n ≡ x.id
      → ((c d : ℕ) (u v : Client S) → get a.clients c ≡ Some u → get a.clients d ≡ Some v → u.id ≡ v.id → c ≡ d)
      → get a.clients key ≡ Some x → get b.clients key ≡ None
      → ((other : ℕ) → other ≢ key → get b.clients other ≡ get a.clients other) → b.last_id ≡ a.last_id
      → ((c : ℕ) → x.id ≢ c → asked_in c b.events ≡ asked_in c a.events)
      → AllGoOn remaining contents (bytes_for n bytes) no_requests a b
  go_without a b key x more n bytes same distinct was gone others last quiet =
      go_others a b n bytes last (λ k client there.
      let apart : k ≢ key = λ e. absurd (cc (gone, there, ap (get b.clients) e)) in
      let before : get a.clients k ≡ Some client = sym (others k apart) ∙ there in
      let ne : x.id ≢ client.id = λ e. apart (distinct k key client x before was (sym e)) in
      (before, (λ e. ne (sym same ∙ e)), quiet client.id ne))

  -- What holds of all connections holds of those that go on.
  pub are_after : (a b : ConnectionsState S) (p q : QueueState) (sent : ℕ → List ℕ) (served : ℕ → List Request)
      → AreConnections a.clients p a.last_id a.places → AllGoOn remaining contents sent served a b → q.spare ≡ slab_len b.clients
      → slab_len b.clients ≤ b.places → client_limit ≤ b.clients.capacity → slab_len b.clients ≤ client_limit
      → ((c : ℕ) → a.last_id < c → asked_in c q.events ≡ []) → AreConnections b.clients q b.last_id b.places
  are_after a b p q sent served are on spare places slots few none = record {
    spare = spare;
    places = places;
    slots = slots;
    few = few;
    distinct = λ c d x y at_c at_d same.
        let u = on.each c x at_c in
        let v = on.each d y at_d in
        are.distinct c d u.before v.before u.there v.there (sym u.goes_on.moves.same ∙ (same ∙ v.goes_on.moves.same));
    unrefused = λ key client there.
        let u = on.each key client there in
        u.goes_on.moves.unrefused ∙ are.unrefused key u.before u.there;
    known = λ key client there.
        let u = on.each key client there in
        let before = are.known key u.before u.there in
        omega (arith, u.goes_on.moves.same, on.last_id, before);
    none_later = λ c later. none c (omega (arith, later, on.last_id));
  }

  -- requests of a client that has connected are none of a later one
  pub none_added : (before after : List ClientEvent) (n last : ℕ) (requests : List Request) → after ≡ before ++ asked_by n requests → n ≤ last
      → ((c : ℕ) → last < c → asked_in c before ≡ []) → (c : ℕ) → last < c → asked_in c after ≡ []
  none_added before after n last requests added known none c later =
      gained_other c n before after requests (λ e. absurd (omega (arith, e, known, later))) added ∙ none c later

  -- a last event asks for nothing
  pub told_quiet : (slot : Option (Client S)) (before after : List ClientEvent) → IsToldGone slot before after → (c : ℕ)
      → asked_in c after ≡ asked_in c before
  told_quiet None before after told c = ap (asked_in c) told
  told_quiet (Some x) before after told c = ap (asked_in c) told ∙ told_one x.is_released x.id before c

  -- the client at a key was let go of
  pub go_dropped : (a b : ConnectionsState S) (key : ℕ) → get b.clients key ≡ None
      → ((other : ℕ) → other ≢ key → get b.clients other ≡ get a.clients other) → b.last_id ≡ a.last_id
      → IsToldGone (get a.clients key) a.events b.events → AllGoOn remaining contents no_bytes no_requests a b
  go_dropped a b key gone others last told =
      go_quiet a b last (λ k client there.
      let apart : k ≢ key = λ e. absurd (cc (gone, there, ap (get b.clients) e)) in
      (sym (others k apart) ∙ there, told_quiet (get a.clients key) a.events b.events told client.id))

  no_bytes_for : (n i : ℕ) → bytes_for n [] i ≡ []
  no_bytes_for n i = both_none (n == i)

  moved_some : (P : Client S → Client S → Type 0) (a b : ConnectionsState S) (key : ℕ) (slot after : Option (Client S))
      → get a.clients key ≡ slot → get b.clients key ≡ after
      → MatchOption slot (after ≡ None) (λ x. IsSomeAnd after (λ y. P x y))
      → ((x y : Client S) → P x y → Reads remaining contents x y a.events b.events)
      → ((c d : ℕ) (u v : Client S) → get a.clients c ≡ Some u → get a.clients d ≡ Some v → u.id ≡ v.id → c ≡ d)
      → ((other : ℕ) → other ≢ key → get b.clients other ≡ get a.clients other) → b.last_id ≡ a.last_id
      → (slot ≡ None → b.events ≡ a.events) → AllGoOn remaining contents no_bytes no_requests a b
  moved_some P a b key None after was is moved reads distinct others last quiet =
      go_quiet a b last (λ k client there.
      let apart : k ≢ key = λ e. absurd (cc (is, moved, there, ap (get b.clients) e)) in
      (sym (others k apart) ∙ there, ap (asked_in client.id) (quiet refl)))
  moved_some P a b key (Some x) None was is moved reads distinct others last quiet = absurd moved
  moved_some P a b key (Some x) (Some y) was is moved reads distinct others last quiet =
      let r = reads x y moved in
      go_same a b (bytes_for x.id []) no_bytes no_requests no_requests (no_bytes_for x.id) (λ i. refl)
      (go_at a b key x y [] r.pieces (requests_in_pieces x.session.left r.pieces) distinct was is others last r.moves refl r.added)

  -- the client at a key, if there is one, was read or written
  pub go_moved : (P : Client S → Client S → Type 0) (a b : ConnectionsState S) (key : ℕ) → IsMovedAt P key a.clients b.clients
      → ((x y : Client S) → P x y → Reads remaining contents x y a.events b.events)
      → ((c d : ℕ) (u v : Client S) → get a.clients c ≡ Some u → get a.clients d ≡ Some v → u.id ≡ v.id → c ≡ d)
      → ((other : ℕ) → other ≢ key → get b.clients other ≡ get a.clients other) → b.last_id ≡ a.last_id
      → (get a.clients key ≡ None → b.events ≡ a.events) → AllGoOn remaining contents no_bytes no_requests a b
  go_moved P a b key moved reads distinct others last quiet =
      moved_some P a b key (get a.clients key) (get b.clients key) refl refl moved reads distinct others last quiet

  -- what is read of a client that has connected are no requests of a later one
  none_read : (P : Client S → Client S → Type 0) (clients : Slab (Client S)) (key last : ℕ) (before after : List ClientEvent)
      (slot now : Option (Client S)) → get clients key ≡ slot → MatchOption slot (now ≡ None) (λ x. IsSomeAnd now (λ y. P x y))
      → ((x y : Client S) → P x y → Reads remaining contents x y before after)
      → ((k : ℕ) (client : Client S) → get clients k ≡ Some client → client.id ≤ last)
      → ((c : ℕ) → last < c → asked_in c before ≡ []) → (slot ≡ None → after ≡ before) → (c : ℕ) → last < c → asked_in c after ≡ []
  none_read P clients key last before after None now was moved reads known none quiet c later =
      ap (asked_in c) (quiet refl) ∙ none c later
  none_read P clients key last before after (Some x) None was moved reads known none quiet c later = absurd moved
  none_read P clients key last before after (Some x) (Some y) was moved reads known none quiet c later =
      let r = reads x y moved in
      none_added before after x.id last (requests_in_pieces x.session.left r.pieces) r.added (known key x was) none c later

  pub none_moved : (P : Client S → Client S → Type 0) (old new : Slab (Client S)) (key last : ℕ) (before after : List ClientEvent)
      → IsMovedAt P key old new → ((x y : Client S) → P x y → Reads remaining contents x y before after)
      → ((k : ℕ) (client : Client S) → get old k ≡ Some client → client.id ≤ last)
      → ((c : ℕ) → last < c → asked_in c before ≡ []) → (get old key ≡ None → after ≡ before) → (c : ℕ) → last < c → asked_in c after ≡ []
  none_moved P old new key last before after moved reads known none quiet =
      none_read P old key last before after (get old key) (get new key) refl moved reads known none quiet

  -- the client of a number isn't there
  pub go_vacant : (a : ConnectionsState S) (n : ℕ) (bytes : List ℕ)
      → ((k : ℕ) (client : Client S) → get a.clients k ≡ Some client → client.id ≢ n)
      → AllGoOn remaining contents (bytes_for n bytes) no_requests a a
  go_vacant a n bytes vacant =
      go_others a a n bytes refl (λ k client there. (there, (λ e. vacant k client there (sym e)), refl))

  given_some : (a b : ConnectionsState S) (key n : ℕ) (bytes : List ℕ) (slot after : Option (Client S)) → get a.clients key ≡ slot
      → get b.clients key ≡ after → IsSomeAnd slot (λ x. x.id ≡ n)
      → MatchOption slot (after ≡ None) (λ x. IsSomeAnd after (λ y. Moves remaining contents bytes [] x y))
      → ((c d : ℕ) (u v : Client S) → get a.clients c ≡ Some u → get a.clients d ≡ Some v → u.id ≡ v.id → c ≡ d)
      → ((other : ℕ) → other ≢ key → get b.clients other ≡ get a.clients other) → b.last_id ≡ a.last_id → b.events ≡ a.events
      → AllGoOn remaining contents (bytes_for n bytes) no_requests a b
  given_some a b key n bytes None after was is number moved distinct others last same = absurd number
  given_some a b key n bytes (Some x) None was is number moved distinct others last same = absurd moved
  given_some a b key n bytes (Some x) (Some y) was is number moved distinct others last same =
      subst (λ (m : ℕ). AllGoOn remaining contents (bytes_for m bytes) no_requests a b) number
      (go_at a b key x y bytes [] [] distinct was is others last moved refl (same ∙ sym (append-nil a.events)))

  -- bytes were queued for the client of a number
  pub go_given : (a b : ConnectionsState S) (key n : ℕ) (bytes : List ℕ) → IsSomeAnd (get a.clients key) (λ x. x.id ≡ n)
      → IsMovedAt (λ x y. Moves remaining contents bytes [] x y) key a.clients b.clients
      → ((c d : ℕ) (u v : Client S) → get a.clients c ≡ Some u → get a.clients d ≡ Some v → u.id ≡ v.id → c ≡ d)
      → ((other : ℕ) → other ≢ key → get b.clients other ≡ get a.clients other) → b.last_id ≡ a.last_id → b.events ≡ a.events
      → AllGoOn remaining contents (bytes_for n bytes) no_requests a b
  go_given a b key n bytes number moved distinct others last same =
      given_some a b key n bytes (get a.clients key) (get b.clients key) refl refl number moved distinct others last same

  refused_some : (a b : ConnectionsState S) (key n : ℕ) (bytes : List ℕ) (slot : Option (Client S)) → get a.clients key ≡ slot
      → IsSomeAnd slot (λ x. x.id ≡ n) → get b.clients key ≡ None
      → ((c d : ℕ) (u v : Client S) → get a.clients c ≡ Some u → get a.clients d ≡ Some v → u.id ≡ v.id → c ≡ d)
      → ((other : ℕ) → other ≢ key → get b.clients other ≡ get a.clients other) → b.last_id ≡ a.last_id
      → ((c : ℕ) → n ≢ c → asked_in c b.events ≡ asked_in c a.events) → AllGoOn remaining contents (bytes_for n bytes) no_requests a b
  refused_some a b key n bytes None was number gone distinct others last quiet = absurd number
  refused_some a b key n bytes (Some x) was number gone distinct others last quiet =
      go_without a b key x [] n bytes (sym number) distinct was gone others last (λ c ne. quiet c (λ e. ne (number ∙ e)))

  -- the client of a number was let go of
  pub go_refused : (a b : ConnectionsState S) (key n : ℕ) (bytes : List ℕ) → IsSomeAnd (get a.clients key) (λ x. x.id ≡ n)
      → get b.clients key ≡ None
      → ((c d : ℕ) (u v : Client S) → get a.clients c ≡ Some u → get a.clients d ≡ Some v → u.id ≡ v.id → c ≡ d)
      → ((other : ℕ) → other ≢ key → get b.clients other ≡ get a.clients other) → b.last_id ≡ a.last_id
      → ((c : ℕ) → n ≢ c → asked_in c b.events ≡ asked_in c a.events) → AllGoOn remaining contents (bytes_for n bytes) no_requests a b
  go_refused a b key n bytes number gone distinct others last quiet =
      refused_some a b key n bytes (get a.clients key) refl number gone distinct others last quiet

  moved_some_as : (P Q : Client S → Client S → Type 0) (slot after : Option (Client S)) → ((x y : Client S) → P x y → Q x y)
      → MatchOption slot (after ≡ None) (λ x. IsSomeAnd after (λ y. P x y)) → MatchOption slot (after ≡ None) (λ x. IsSomeAnd after (λ y. Q x y))
  moved_some_as P Q None after f moved = moved
  moved_some_as P Q (Some x) None f moved = moved
  moved_some_as P Q (Some x) (Some y) f moved = f x y moved

  pub moved_as : (P Q : Client S → Client S → Type 0) (key : ℕ) (old new : Slab (Client S)) → ((x y : Client S) → P x y → Q x y)
      → IsMovedAt P key old new → IsMovedAt Q key old new
  moved_as P Q key old new f moved = moved_some_as P Q (get old key) (get new key) f moved

  stays_some : (Q : Client S → Client S → Type 0) (slot : Option (Client S)) → ((x : Client S) → Q x x)
      → MatchOption slot (slot ≡ None) (λ x. IsSomeAnd slot (λ y. Q x y))
  stays_some Q None f = refl
  stays_some Q (Some x) f = f x

  pub some_is : {A : Type 0} {P : Type 0} (result : Option A) (r : A) → result ≡ Some r → IfSome result (λ _. P) → P
  some_is None r is there = absurd (cc is)
  some_is (Some s) r is there = there

  -- what reading one client comes to, where memory was there
  pub read_some : (result : Option Reading) (key : ℕ) (old new : Slab (Client S)) (before after : List ClientEvent)
      → IfNone result ((new ≡ old) × (after ≡ before))
      → IfSome result (λ r. r ≢ Refused → IsReadAt remaining contents key old new before after) → result ≢ Some Refused
      → IsReadAt remaining contents key old new before after
  read_some None key old new before after none some ne =
      subst (λ (s : Slab (Client S)). IsReadAt remaining contents key old s before after) (sym none.0)
      (subst (λ (t : List ClientEvent). IsReadAt remaining contents key old old before t) (sym none.1)
      (stays_some (λ x y. Reads remaining contents x y before before) (get old key)
      (λ x. reads_none remaining contents x x before (moves_itself remaining contents x))))
  read_some (Some r) key old new before after none some ne = some (λ e. ne (ap Some e))

  pub read_quiet : (result : Option Reading) (clients new : Slab (Client S)) (key : ℕ) (before after : List ClientEvent)
      → IfNone result ((new ≡ clients) × (after ≡ before)) → IfSome result (λ _. IsSome (get clients key)) → get clients key ≡ None
      → after ≡ before
  read_quiet None clients new key before after none there gone = none.1
  read_quiet (Some r) clients new key before after none there gone = absurd (cc (subst (λ (o : Option (Client S)). IsSome o) gone there))

  -- a client was let go of for want of memory, behind requests of it that were gathered before
  pub go_lost : (a b : ConnectionsState S) (key : ℕ) (x : Client S) (requests : List Request) (before : List ClientEvent)
      → get a.clients key ≡ Some x → before ≡ a.events ++ asked_by x.id requests → get b.clients key ≡ None
      → ((c d : ℕ) (u v : Client S) → get a.clients c ≡ Some u → get a.clients d ≡ Some v → u.id ≡ v.id → c ≡ d)
      → ((other : ℕ) → other ≢ key → get b.clients other ≡ get a.clients other) → b.last_id ≡ a.last_id
      → ((c : ℕ) → asked_in c b.events ≡ asked_in c before) → AllGoOn remaining contents no_bytes no_requests a b
  go_lost a b key x requests before was added gone distinct others last quiet =
      go_same a b (bytes_for x.id []) no_bytes no_requests no_requests (no_bytes_for x.id) (λ i. refl)
      (go_without a b key x [] x.id [] refl distinct was gone others last
      (λ c ne. quiet c ∙ gained_other c x.id a.events before requests ne added))

  -- the clients stay as they are
  pub are_same : (clients : Slab (Client S)) (p q : QueueState) (last places : ℕ) → AreConnections clients p last places → q.spare ≡ p.spare
      → ((c : ℕ) → last < c → asked_in c q.events ≡ []) → AreConnections clients q last places
  are_same clients p q last places are spare none = record {
    spare = spare ∙ are.spare;
    places = are.places;
    slots = are.slots;
    few = are.few;
    distinct = are.distinct;
    unrefused = are.unrefused;
    known = are.known;
    none_later = none;
  }

  -- what stands where, after one more was put in
  stands : (old new : Slab (Client S)) (key k : ℕ) (x client : Client S) (t : Bool) → (k == key) ≡ t → Updates old new key (Some x)
      → get new k ≡ Some client → ((k ≡ key) × (x ≡ client)) ⊎ (get old k ≡ Some client)
  stands old new key k x client true e up there =
      let same : k ≡ key = eqb-true k key e in
      inl (same, cc (up.changed, there, ap (get new) same))
  stands old new key k x client false e up there = inr (sym (up.others k (eqb-false k key e)) ∙ there)

  pub are_admitted : (old new : Slab (Client S)) (p q : QueueState) (last places key : ℕ) (x : Client S) → AreConnections old p last places
      → Updates old new key (Some x) → x.id ≡ last + 1 → x.session.closed ≡ None → q.spare ≡ slab_len new → slab_len new ≤ places
      → client_limit ≤ new.capacity
      → slab_len new ≤ client_limit → q.events ≡ p.events ++ events.Connect (last + 1) ∷ [] → AreConnections new q (last + 1) places
  are_admitted old new p q last places key x are up number unrefused spare room slots few gathered = record {
    spare = spare;
    places = room;
    slots = slots;
    few = few;
    distinct = λ c d u v at_c at_d same.
        elim (stands old new key c x u (c == key) refl up at_c) [
          | inl one ↦ elim (stands old new key d x v (d == key) refl up at_d) [
            | inl other ↦ one.0 ∙ sym other.0
            | inr other ↦ absurd (let low = are.known d v other in let e = ap (λ (t : Client S). t.id) one.1 in omega (arith, low, e, number, same))
          ]
          | inr one ↦ elim (stands old new key d x v (d == key) refl up at_d) [
            | inl other ↦ absurd (let low = are.known c u one in let e = ap (λ (t : Client S). t.id) other.1 in omega (arith, low, e, number, same))
            | inr other ↦ are.distinct c d u v one other same
          ]
        ];
    unrefused = λ k client there.
        elim (stands old new key k x client (k == key) refl up there) [
          | inl one ↦ subst (λ (t : Client S). t.session.closed ≡ None) one.1 unrefused
          | inr one ↦ are.unrefused k client one
        ];
    known = λ k client there.
        elim (stands old new key k x client (k == key) refl up there) [
          | inl one ↦ (let e = ap (λ (t : Client S). t.id) one.1 in omega (arith, e, number))
          | inr one ↦ (let low = are.known k client one in omega (arith, low))
        ];
    none_later = λ c later.
        ap (asked_in c) gathered ∙ (asked_in-append c p.events (events.Connect (last + 1) ∷ [])
        ∙ (append-nil (asked_in c p.events) ∙ are.none_later c (omega (arith, later))));
  }

  -- a client that was taken in is new; the others go on
  pub is_later_admitted : (stream : S) (a b : ConnectionsState S) → IsAdmitted stream a b
      → ((c : ℕ) → a.last_id < c → asked_in c a.events ≡ []) → IsLater remaining contents no_bytes no_requests a b
  is_later_admitted stream a b ad none = record {
    last_id = omega (arith, ad.last_id);
    each = λ k client there.
        let quiet : (c : ℕ) → asked_in c b.events ≡ asked_in c a.events =
        λ c. ap (asked_in c) ad.gathered ∙ (asked_in-append c a.events (events.Connect (a.last_id + 1) ∷ []) ∙ append-nil (asked_in c a.events)) in
        elim (stands a.clients b.clients ad.key k ad.client client (k == ad.key) refl ad.there there) [
          | inl one ↦ inr (subst (λ (t : Client S). IsNew remaining contents [] [] (asked_in t.id b.events) a.last_id t) one.1 (record {
            first = ad.client;
            later = omega (arith, ad.number);
            session = ad.session;
            goes_on = record {
              pieces = [];
              moves = moves_itself remaining contents ad.client;
              asked = quiet ad.client.id ∙ none ad.client.id (omega (arith, ad.number));
            };
          }))
          | inr one ↦ inl (record {
            before = client;
            there = one;
            goes_on = record {
              pieces = [];
              moves = moves_itself remaining contents client;
              asked = quiet client.id ∙ sym (append-nil (asked_in client.id a.events));
            };
          })
        ];
  }

  pub go_is_later : (a b : ConnectionsState S) (sent : ℕ → List ℕ) (served : ℕ → List Request) → AllGoOn remaining contents sent served a b
      → IsLater remaining contents sent served a b
  go_is_later a b sent served p = record {
    last_id = omega (arith, p.last_id);
    each = λ key client there. inl (p.each key client there);
  }

  -- how much room there is matters to no client
  pub is_later_room : (a b : ConnectionsState S) → b ≡ record a { room = b.room; places = b.places } → IsLater remaining contents no_bytes no_requests a b
  is_later_room a b same =
      subst (λ (s : ConnectionsState S). IsLater remaining contents no_bytes no_requests a s) (sym same) (record {
        last_id = omega arith;
        each = λ key client there.
            inl (record { before = client; there = there; goes_on = goes_on_itself client (asked_in client.id a.events) });
      })

  failed_some : (failed : S → Bool) (P : Client S → Client S → Type 0) (key : ℕ) (a b : ConnectionsState S) (slot after : Option (Client S))
      → get a.clients key ≡ slot → get b.clients key ≡ after → MatchOption slot (after ≡ None) (λ x. IsSomeAnd after (λ y. P x y))
      → ((x y : Client S) → P x y → Reads remaining contents x y a.events b.events) → IsSomeAnd after (λ y. failed y.stream ≡ true)
      → ((other : ℕ) → other ≢ key → get b.clients other ≡ get a.clients other) → IsFailedAt remaining contents failed key a b
  failed_some failed P key a b slot None was is moved reads faulty others = absurd faulty
  failed_some failed P key a b None (Some y) was is moved reads faulty others = absurd (cc (moved))
  failed_some failed P key a b (Some x) (Some y) was is moved reads faulty others = record {
    before = x;
    there = was;
    last = y;
    stands = is;
    reads = reads x y moved;
    faulty = faulty;
    others = others;
  }

  -- the stream of the client at a key has failed
  pub failed_at : (failed : S → Bool) (P : Client S → Client S → Type 0) (key : ℕ) (a b : ConnectionsState S)
      → IsMovedAt P key a.clients b.clients → ((x y : Client S) → P x y → Reads remaining contents x y a.events b.events)
      → IsSomeAnd (get b.clients key) (λ y. failed y.stream ≡ true)
      → ((other : ℕ) → other ≢ key → get b.clients other ≡ get a.clients other) → IsFailedAt remaining contents failed key a b
  failed_at failed P key a b moved reads faulty others =
      failed_some failed P key a b (get a.clients key) (get b.clients key) refl refl moved reads faulty others

  -- and then it was let go of
  pub fault_of : (failed : S → Bool) (key : ℕ) (error : ClientsError) (a b c : ConnectionsState S)
      → IsFailedAt remaining contents failed key a b → IfSome (get b.clients key) (λ client. error ≡ NetFault client.id) → Loses key b c
      → IsFault remaining contents failed key error a c
  fault_of failed key error a b c fails number loses = record {
    between = b;
    fails = fails;
    number = subst (λ (o : Option (Client S)). IfSome o (λ client. error ≡ NetFault client.id)) fails.stands number;
    loses = loses;
  }
