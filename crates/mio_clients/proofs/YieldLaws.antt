-- Who was active when, and who gives way first.
use Rattle.std.proofs.Common.{◌≡◌, ◌≢◌, ◌⊎◌, inl, inr, ℕ, ◌+◌, ◌<◌, ◌≤◌, ◌==◌, List, [], ◌∷◌, Option, None, Some, Bool, true, false}
use Rattle.std.proofs.Common.{refl, sym, subst, ◌∙◌, ap, length, arith}
use Rattle.std.specs.Prelude.{MatchOption, IsSome, IsSomeAnd}
use Rattle.std.specs.Io.KnownBytes.{Keeps}
use Rattle.std.proofs.lemmas.Bool.{eqb-true, eqb-false}
use Rattle.slab.specs.Slab.{get}
use Rattle.slab.proofs.SlabLemmas.{ContainsKey-within}
use Rattle.mio_clients.specs.declared.client.Client.{Client}
use Rattle.client_session.proofs.ByteLaws.{keeps_itself}
use Rattle.mio_clients.specs.Connections.{ConnectionsState, IsVacant, IsAt, IsAlone, IsMovedAt}
use Rattle.mio_clients.specs.Yielding.{IsHeard, MayYield, IsFirstBelow, IsFoundBelow, IsFound, NowWaits, WasGiven, active_at, still_waits, StaysServed, keeps_until}

below_or_at : (k key : ℕ) (t : Bool) → (k == key) ≡ t → k < key + 1 → (k ≡ key) ⊎ (k < key)
below_or_at k key true e within = inl (eqb-true k key e)
below_or_at k key false e within = (let ne = eqb-false k key e in inr (omega (arith, ne, within)))

keeps_twice : (first now after : Option (List ℕ)) → Keeps first now → Keeps now after → Keeps first after
keeps_twice None now after h k = tt
keeps_twice (Some xs) (Some ys) (Some zs) h k = k ∙ h
keeps_twice (Some xs) (Some ys) None h k = k
keeps_twice (Some xs) None after h k = absurd h

module _ {S : Type 0} where
  -- a client that is given something
  pub waits_no_more : (bytes : List ℕ) (x : Client S) → bytes ≢ [] → still_waits bytes x ≡ false
  waits_no_more [] x some = absurd (some refl)
  waits_no_more (b ∷ bytes) x some = refl

  pub active_now : (now : ℕ) (bytes : List ℕ) (x : Client S) → bytes ≢ [] → active_at now bytes x ≡ now
  active_now now [] x some = absurd (some refl)
  active_now now (b ∷ bytes) x some = refl

  pub waits_still : (bytes : List ℕ) (x : Client S) → bytes ≡ [] → still_waits bytes x ≡ x.is_waiting
  waits_still bytes x none = ap (λ (l : List ℕ). still_waits l x) none

  pub active_before : (now : ℕ) (bytes : List ℕ) (x : Client S) → bytes ≡ [] → active_at now bytes x ≡ x.last_active
  active_before now bytes x none = ap (λ (l : List ℕ). active_at now l x) none

  waits_at : (x y : Option (Client S)) (client : Client S)
      → MatchOption x (y ≡ None) (λ u. IsSomeAnd y (λ v. v ≡ record u { is_waiting = true; was_served = true })) → x ≡ Some client
      → y ≡ Some (record client { is_waiting = true; was_served = true })
  waits_at None y client moved there = absurd (cc there)
  waits_at (Some x) None client moved there = absurd moved
  waits_at (Some x) (Some y) client moved there =
      let same : x ≡ client = cc there in
      ap Some moved ∙ ap (λ (t : Client S). Some (record t { is_waiting = true; was_served = true })) same

  number_at : (id : ℕ) (slot : Option (Client S)) (client : Client S) → IsSomeAnd slot (λ x. x.id ≡ id) → slot ≡ Some client → client.id ≡ id
  number_at id None client at there = absurd at
  number_at id (Some x) client at there =
      let same : x ≡ client = cc there in
      ap (λ (t : Client S). t.id) (sym same) ∙ at

  -- a client of another number stands at another key
  apart : (a : ConnectionsState S) (id key k : ℕ) (client : Client S) → IsAt a id key → get a.clients k ≡ Some client → client.id ≢ id → k ≢ key
  apart a id key k client at there ne = λ here. ne (number_at id (get a.clients key) client at (sym (ap (get a.clients) here) ∙ there))

  -- the client of this number, at this key, waits
  pub now_waits : (a b : ConnectionsState S) (id key : ℕ) → b ≡ record a { clients = b.clients } → IsAt a id key → IsAlone a id key
      → IsMovedAt (λ x y. y ≡ record x { is_waiting = true; was_served = true }) key a.clients b.clients
      → ((other : ℕ) → other ≢ key → get b.clients other ≡ get a.clients other) → NowWaits id a b
  now_waits a b id key same at alone moved others = record {
    same = same;
    waits = λ k client there is.
        let here : k ≡ key = alone k client there is in
        ap (get b.clients) here ∙ waits_at (get a.clients key) (get b.clients key) client moved (sym (ap (get a.clients) here) ∙ there);
    others = λ k client there ne. others k (apart a id key k client at there ne) ∙ there;
  }

  -- nobody has this number
  pub nobody_waits : (a : ConnectionsState S) (id : ℕ) → IsVacant a id → NowWaits id a a
  nobody_waits a id vacant = record {
    same = refl;
    waits = λ k client there is. absurd (vacant k client there is);
    others = λ k client there ne. there;
  }

  -- a client that was read
  pub served_moved : (u v : Option (Client S)) (x y : Client S) → MatchOption u (v ≡ None) (λ s. IsSomeAnd v (λ t. StaysServed s t))
      → u ≡ Some x → v ≡ Some y → StaysServed x y
  served_moved None v x y moved was is = absurd (cc was)
  served_moved (Some s) None x y moved was is = absurd moved
  served_moved (Some s) (Some t) x y moved was is =
      let p : s ≡ x = cc was in
      let q : t ≡ y = cc is in
      subst (λ (c : Client S). StaysServed x c) q (subst (λ (c : Client S). StaysServed c t) p moved)

  given_moved : (bytes : List ℕ) (now : ℕ) (u v : Option (Client S)) (x y : Client S)
      → MatchOption u (v ≡ None) (λ s. IsSomeAnd v (λ t. t ≡ record s {
        session = t.session;
        is_waiting = still_waits bytes s;
        last_active = active_at now bytes s;
      })) → u ≡ Some x → v ≡ Some y
      → y ≡ record x { session = y.session; is_waiting = still_waits bytes x; last_active = active_at now bytes x }
  given_moved bytes now None v x y moved was is = absurd (cc was)
  given_moved bytes now (Some s) None x y moved was is = absurd moved
  given_moved bytes now (Some s) (Some t) x y moved was is =
      let p : s ≡ x = cc was in
      let q : t ≡ y = cc is in
      subst (λ (c : Client S). c ≡ record x { session = c.session; is_waiting = still_waits bytes x; last_active = active_at now bytes x }) q
      (subst (λ (c : Client S). t ≡ record c { session = t.session; is_waiting = still_waits bytes c; last_active = active_at now bytes c }) p moved)

  -- the client of this number, at this key, was given bytes, or was let go of
  pub given_at : (a b : ConnectionsState S) (id key : ℕ) (bytes : List ℕ) → IsAt a id key → IsAlone a id key
      → IsMovedAt (λ s t. t ≡ record s {
        session = t.session;
        is_waiting = still_waits bytes s;
        last_active = active_at a.time bytes s;
      }) key a.clients b.clients → ((other : ℕ) → other ≢ key → get b.clients other ≡ get a.clients other) → WasGiven id bytes a b
  given_at a b id key bytes at alone moved others = record {
    given = λ k x y was is of.
        let here : k ≡ key = alone k x was of in
        given_moved bytes a.time (get a.clients key) (get b.clients key) x y moved (sym (ap (get a.clients) here) ∙ was)
        (sym (ap (get b.clients) here) ∙ is);
    others = λ k x was ne. others k (apart a id key k x at was ne) ∙ was;
  }

  pub given_lost : (a b : ConnectionsState S) (id key : ℕ) (bytes : List ℕ) → IsAt a id key → IsAlone a id key → get b.clients key ≡ None
      → ((other : ℕ) → other ≢ key → get b.clients other ≡ get a.clients other) → WasGiven id bytes a b
  given_lost a b id key bytes at alone gone others = record {
    given = λ k x y was is of. absurd (cc (gone, sym (ap (get b.clients) (alone k x was of)) ∙ is));
    others = λ k x was ne. others k (apart a id key k x at was ne) ∙ was;
  }

  -- nobody has this number
  pub nobody_given : (a : ConnectionsState S) (id : ℕ) (bytes : List ℕ) → IsVacant a id → WasGiven id bytes a a
  nobody_given a id bytes vacant = record {
    given = λ k x y was is of. absurd (vacant k x was of);
    others = λ k x was ne. was;
  }

module _ {S : Type 0} (remaining : S → Option (List ℕ)) where
  -- nothing came of a client
  pub heard_itself : (now : ℕ) (a : Client S) → IsHeard remaining now a a
  heard_itself now a = inr (refl, keeps_itself (remaining a.stream))

  pub heard_as : (now : ℕ) (a b : Client S) → b.last_active ≡ a.last_active → b.stream ≡ a.stream → IsHeard remaining now a b
  heard_as now a b active same =
      inr (active, subst (λ (s : S). Keeps (remaining a.stream) (remaining s)) (sym same) (keeps_itself (remaining a.stream)))

  pub heard_twice : (now : ℕ) (a b c : Client S) → IsHeard remaining now a b → IsHeard remaining now b c → IsHeard remaining now a c
  heard_twice now a b c p (inl here) = inl here
  heard_twice now a b c (inl here) (inr (same, kept)) = inl (same ∙ here)
  heard_twice now a b c (inr (before, keeps)) (inr (same, kept)) =
      inr (same ∙ before, keeps_twice (remaining a.stream) (remaining b.stream) (remaining c.stream) keeps kept)

  -- then only the session and whether it is to be closed have changed
  pub heard_looked : (now : ℕ) (a b c : Client S) → IsHeard remaining now a b
      → c ≡ record b { session = c.session; is_closing = c.is_closing } → IsHeard remaining now a c
  heard_looked now a b c p is =
      heard_twice now a b c p (heard_as now b c (ap (λ (t : Client S). t.last_active) is) (ap (λ (t : Client S). t.stream) is))

  -- the client at a key
  pub heard_moved : (now : ℕ) (u v : Option (Client S)) (x y : Client S)
      → MatchOption u (v ≡ None) (λ s. IsSomeAnd v (λ t. IsHeard remaining now s t)) → u ≡ Some x → v ≡ Some y
      → IsHeard remaining now x y
  heard_moved now None v x y moved was is = absurd (cc was)
  heard_moved now (Some s) None x y moved was is = absurd moved
  heard_moved now (Some s) (Some t) x y moved was is =
      let p : s ≡ x = cc was in
      let q : t ≡ y = cc is in
      subst (λ (c : Client S). IsHeard remaining now x c) q (subst (λ (c : Client S). IsHeard remaining now c t) p moved)

is_there : {X : Type 0} (o : Option X) (x : X) → o ≡ Some x → IsSome o
is_there None x is = absurd (cc is)
is_there (Some y) x is = refl

at_most_itself : (n : ℕ) → n ≤ n
at_most_itself n = omega arith

pub at_most_both : (x y z : ℕ) → x ≤ y → y ≤ z → x ≤ z
at_most_both x y z low high = omega (arith, low, high)

module _ {S : Type 0} (remote : S → Bool) (to_remote : Bool) (a : ConnectionsState S) where
  -- none that may give way stands at this key
  pub found_still : (key : ℕ) (found : Option ℕ)
      → ((client : Client S) → get a.clients key ≡ Some client → MayYield remote to_remote a client → ⊥)
      → IsFoundBelow remote to_remote a key found → IsFoundBelow remote to_remote a (key + 1) found
  found_still key None none p = λ k client within there may.
      elim (below_or_at k key (k == key) refl within) [
        | inl here ↦ none client (sym (ap (get a.clients) here) ∙ there) may
        | inr before ↦ p k client before there may
      ]
  found_still key (Some at) none p = record {
    client = p.client;
    there = p.there;
    may = p.may;
    first = λ k other within there may.
        elim (below_or_at k key (k == key) refl within) [
          | inl here ↦ absurd (none other (sym (ap (get a.clients) here) ∙ there) may)
          | inr before ↦ p.first k other before there may
        ];
  }

  -- the time of the one that was found is over as soon
  pub found_before : (key at : ℕ) (client : Client S) → get a.clients key ≡ Some client → (p : IsFirstBelow remote to_remote a key at)
      → keeps_until a p.client ≤ keeps_until a client → IsFirstBelow remote to_remote a (key + 1) at
  found_before key at client there p less =
      record {
        client = p.client;
        there = p.there;
        may = p.may;
        first = λ k other within stands may.
            elim (below_or_at k key (k == key) refl within) [
              | inl here ↦ (let both : client ≡ other = cc (there, ap (get a.clients) here, stands) in
                  subst (λ (t : Client S). keeps_until a p.client ≤ keeps_until a t) both less)
              | inr earlier ↦ p.first k other earlier stands may
            ];
      }

  -- the time of the one at this key is over sooner, or it is the first
  pub found_here : (key : ℕ) (client : Client S) → get a.clients key ≡ Some client → MayYield remote to_remote a client
      → ((k : ℕ) (other : Client S) → k < key → get a.clients k ≡ Some other → MayYield remote to_remote a other
      → keeps_until a client ≤ keeps_until a other)
      → IsFirstBelow remote to_remote a (key + 1) key
  found_here key client there may first = record {
    client = client;
    there = there;
    may = may;
    first = λ k other within stands yields.
        elim (below_or_at k key (k == key) refl within) [
          | inl here ↦ (let both : client ≡ other = cc (there, ap (get a.clients) here, stands) in
              subst (λ (t : Client S). keeps_until a client ≤ keeps_until a t) both (at_most_itself (keeps_until a client)))
          | inr earlier ↦ first k other earlier stands yields
        ];
  }

  within_slots : (capacity k : ℕ) (client : Client S) → length a.clients.slots ≤ capacity → get a.clients k ≡ Some client → k < capacity
  within_slots capacity k client fits there =
      let low = ContainsKey-within a.clients k (is_there (get a.clients k) client there) in
      omega (arith, low, fits)

  pub found_all : (capacity : ℕ) (found : Option ℕ) → length a.clients.slots ≤ capacity → IsFoundBelow remote to_remote a capacity found
      → IsFound remote to_remote a found
  found_all capacity None fits p = λ k client there may. p k client (within_slots capacity k client fits there) there may
  found_all capacity (Some at) fits p = record {
    client = p.client;
    there = p.there;
    may = p.may;
    first = λ k other there may. p.first k other (within_slots capacity k other fits there) there may;
  }
