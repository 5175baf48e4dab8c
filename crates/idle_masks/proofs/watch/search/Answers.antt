use Rattle.std.proofs.Common.{rules, ◌≡◌, Ok, Err, None, IfOk, IfErr, OnOk, OnErr, IsSome, refl}
use Rattle.std.proofs.lemmas.List.Sorted.{answers_always}
use Rattle.idle_masks.specs.declared.watch.Watched.{Watched}
use Rattle.idle_masks.specs.Watched.{newcomer, IsAt, IsGapFor, watched}
use Rattle.idle_masks.proofs.Place.{searched}
use Rattle.idle_masks.proofs.Rising.{watched_at, watched_gap}
use Rattle.idle_masks.proofs.watch.search.Goals as goal

-- the closure gives a client's number
pub returns : goal.returns
returns c =
    let facts = c.binary_search_by_key.ensures in
    let by_number = facts.position (λ (w : Watched). w.client) (answers_always _ _ _ (λ f a r g called. search rules)) in
    let place = searched c.args.clients.now c.requires c.args.client c.binary_search_by_key.result facts.bound by_number in
    record {
      found = place.found;
      known = elim c.binary_search_by_key.result as (λ r. IfOk r (IsAt c.args.clients.now c.args.client)
          → OnOk r (IsSome (watched c.args.clients.now c.args.client))) [
            | Ok at ↦ λ is_at. rw (watched_at _ c.requires _ at is_at (newcomer 0)) refl
            | Err at ↦ λ _. tt
          ] place.found;
      absent = place.absent;
      unknown = elim c.binary_search_by_key.result as (λ r. IfErr r (IsGapFor c.args.clients.now c.args.client)
          → OnErr r (watched c.args.clients.now c.args.client ≡ None)) [
            | Ok at ↦ λ _. tt
            | Err at ↦ λ gap. watched_gap _ _ at gap
          ] place.absent;
    }
