use Rattle.std.proofs.Common.{rules}
use Rattle.std.proofs.lemmas.List.Sorted.{answers_always}
use Rattle.client_messages.specs.declared.listener.Listener.{Listener}
use Rattle.client_messages.proofs.Place.{searched}
use Rattle.client_messages.proofs.client_messages.search.Goals as goal

-- the closure gives a client's number
pub returns : goal.returns
returns c =
    let facts = c.binary_search_by_key.ensures in
    let by_number = facts.position (λ (l : Listener). l.client) (answers_always _ _ _ (λ f a r g called. search rules)) in
    let place = searched c.args.listeners.now c.requires c.args.client c.binary_search_by_key.result facts.bound by_number in
    record { found = place.found; absent = place.absent }
