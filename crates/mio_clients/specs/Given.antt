-- What was read of a client, and what it was given.
use Rattle.std.specs.Prelude.{◌≡◌, ◌⊎◌, ℕ, List, [], ◌∷◌, Option, true}
use Rattle.std.specs.List.{concat}
use Rattle.std.specs.Io.KnownBytes.{Keeps, Consumes, append_known}
use Rattle.client_session.specs.Requests.{Unread, left_by}
use Rattle.mio_clients.specs.declared.client.Client.{Client}

-- what the pieces of a stream leave, one after the other
abbrev pub left_in_pieces : Unread → List (List ℕ) → Unread
left_in_pieces left [] = left
left_in_pieces left (piece ∷ pieces) = left_in_pieces (left_by left piece) pieces

-- all that a client was given: what its stream took, and then what is queued
abbrev pub given : {S : Type 0} → (S → Option (List ℕ)) → Client S → Option (List ℕ)
given contents client = append_known (contents client.stream) client.session.queued

-- These bytes were given to a client, and these pieces of its stream were read. Of one that is to be closed nothing is read any more.
pub record Moves {S : Type 0} (remaining contents : S → Option (List ℕ)) (bytes : List ℕ) (pieces : List (List ℕ))
    (before after : Client S) : Type 0 where
  pub same : after.id ≡ before.id
  pub grows : Keeps (append_known (given contents before) bytes) (given contents after)
  pub taken : Consumes (remaining before.stream) (remaining after.stream) (concat pieces)
  pub left : (after.is_closing ≡ true) ⊎ (after.session.left ≡ left_in_pieces before.session.left pieces)
  pub closing : before.is_closing ≡ true → (pieces ≡ []) × (after.is_closing ≡ true)
  pub unrefused : after.session.closed ≡ before.session.closed
