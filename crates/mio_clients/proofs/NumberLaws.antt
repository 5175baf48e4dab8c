-- A client that stays where it is keeps its number.
use Rattle.std.proofs.Common.{◌≡◌, ℕ, Option, None, Some, ◌∙◌, IsSomeAnd, MatchOption}
use Rattle.slab.specs.Slab.{get}
use Rattle.mio_clients.specs.declared.client.Client.{Client}
use Rattle.mio_clients.specs.Connections.{ConnectionsState, IsVacant}

module _ {S : Type 0} where
  -- it has become another of the same number
  pub number_kept : (id : ℕ) (old new : Option (Client S)) → IsSomeAnd old (λ x. x.id ≡ id)
      → MatchOption old (new ≡ None) (λ x. IsSomeAnd new (λ y. y.id ≡ x.id)) → IsSomeAnd new (λ y. y.id ≡ id)
  number_kept id None new at moved = absurd at
  number_kept id (Some x) None at moved = absurd moved
  number_kept id (Some x) (Some y) at moved = moved ∙ at

  -- where a client has a number, it is not vacant
  pub number_there : (b : ConnectionsState S) (id key : ℕ) (slot : Option (Client S)) → get b.clients key ≡ slot
      → IsSomeAnd slot (λ y. y.id ≡ id) → IsVacant b id → ⊥
  number_there b id key None there at vacant = absurd at
  number_there b id key (Some y) there at vacant = vacant key y there at
