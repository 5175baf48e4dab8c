-- Who is let go of, and of whom nothing is read.
use Rattle.std.proofs.Common.{◌≡◌, ◌≢◌, ◌⊎◌, ℕ, zero, suc, ◌+◌, ◌<◌, ◌≤◌, length, arith, drop, [], ◌∷◌, ◌++◌, List, Option, Some, None, Bool, true, false, sym, refl, subst, ◌∙◌, ap}
use Rattle.std.specs.Prelude.{get_or, IfSome, IsSomeAnd, MatchOption}
use Rattle.std.specs.List.{AllByRecursion}
use Rattle.slab.specs.Slab.{Slab, get}
use Rattle.mio_clients.specs.declared.client.Client.{Client}
use Rattle.mio_clients.specs.declared.event.ClientEvent.{ClientEvent}
use Rattle.mio_clients.specs.Events.{asked_in, has_request_of}
use Rattle.mio_clients.specs.Connections.{ConnectionsState, IsVacant}
use Rattle.mio_clients.specs.Leaving.{IsForgotten, IsLeftAt}
use Rattle.mio_clients.specs.Yielding.{is_over}

module _ {S : Type 0} where
  pub over_goes : (X : Type 0) (slot : Option (Client S)) (events : List ClientEvent) (r : Bool)
      → MatchOption slot (r ≡ false) (λ client. r ≡ is_over events client) → r ≡ true
      → MatchOption slot X (λ client. is_over events client ≡ false → X)
  over_goes X None events r is over = absurd (cc (is, over))
  over_goes X (Some client) events r is over = λ stays. absurd (cc (is, over, stays))

  pub others_stay : (X : Type 0) (slot : Option (Client S)) (events : List ClientEvent) → X
      → MatchOption slot X (λ client. is_over events client ≡ false → X)
  others_stay X None events x = x
  others_stay X (Some client) events x = λ stays. x

  -- who is there is not vacant
  pub is_there : (slot : Option (Client S)) (id : ℕ) → IsSomeAnd slot (λ client. client.id ≡ id)
      → ((client : Client S) → slot ≡ Some client → client.id ≢ id) → ⊥
  is_there None id at none = at
  is_there (Some client) id at none = none client refl at

  -- who is forgotten stays so, where others are
  pub forgotten_still : (a b : ConnectionsState S) (xs : List (Client S)) → b.clients ≡ a.clients
      → ((c : ℕ) → asked_in c a.events ≡ [] → asked_in c b.events ≡ []) → AllByRecursion (λ last. IsForgotten last.id a) xs
      → AllByRecursion (λ last. IsForgotten last.id b) xs
  forgotten_still a b [] same others all = tt
  forgotten_still a b (x ∷ xs) same others all = (
    λ vacant. others x.id (all.0 (λ key client there. vacant key client (ap (λ (s : Slab (Client S)). get s key) same ∙ there))),
    forgotten_still a b xs same others all.1,
  )

  drop_next : (k : ℕ) (xs : List (Client S)) → k < length xs
      → (x : Client S) × (drop k xs ≡ x ∷ drop (suc k) xs) × ((d : Client S) → get_or xs k d ≡ x)
  drop_next zero [] below = absurd (omega (arith, below))
  drop_next zero (x ∷ xs) below = (x, refl, λ d. refl)
  drop_next (suc k) [] below = absurd (omega (arith, below))
  drop_next (suc k) (x ∷ xs) below = drop_next k xs (omega (arith, below))

  -- the one before those that were looked at is forgotten too
  pub forgotten_next : (a b : ConnectionsState S) (k n id : ℕ) (xs : List (Client S)) → n ≡ suc k → b.clients ≡ a.clients
      → ((c : ℕ) → asked_in c a.events ≡ [] → asked_in c b.events ≡ []) → IsLeftAt k id xs → IsForgotten id b
      → AllByRecursion (λ last. IsForgotten last.id a) (drop n xs) → AllByRecursion (λ last. IsForgotten last.id b) (drop k xs)
  forgotten_next a b k n id xs count same others at one all =
      let next = drop_next k xs at.0 in
      let number : next.0.id ≡ id = sym (ap (λ (x : Client S). x.id) (next.2 next.0)) ∙ at.1 next.0 in
      subst (λ (l : List (Client S)). AllByRecursion (λ last. IsForgotten last.id b) l) (sym next.1) (
        subst (λ (m : ℕ). IsForgotten m b) (sym number) one,
        forgotten_still a b (drop (suc k) xs) same others
            (subst (λ (m : ℕ). AllByRecursion (λ last. IsForgotten last.id a) (drop m xs)) count all),
      )

  drop_whole : (xs : List (Client S)) → drop (length xs) xs ≡ []
  drop_whole [] = refl
  drop_whole (x ∷ xs) = drop_whole xs

  pub forgotten_none : (a : ConnectionsState S) (n : ℕ) (xs : List (Client S)) → n ≡ length xs
      → AllByRecursion (λ last. IsForgotten last.id a) (drop n xs)
  forgotten_none a n xs count =
      subst (λ (m : ℕ). AllByRecursion (λ last. IsForgotten last.id a) (drop m xs)) (sym count)
      (subst (λ (l : List (Client S)). AllByRecursion (λ last. IsForgotten last.id a) l) (sym (drop_whole xs)) tt)

  pub forgotten_all : (a : ConnectionsState S) (n : ℕ) (xs : List (Client S)) → n ≤ 0
      → AllByRecursion (λ last. IsForgotten last.id a) (drop n xs) → AllByRecursion (λ last. IsForgotten last.id a) xs
  forgotten_all a zero xs none all = all
  forgotten_all a (suc n) xs none all = absurd (omega (arith, none))
