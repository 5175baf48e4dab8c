-- A replay goes on by one call.
use Rattle.std.proofs.Common.{◌≡◌, ◌⊎◌, inl, inr, ℕ, ◌+◌, ◌≤◌, Bool, List, [], ◌∷◌, ◌++◌, length, sym, ap, subst, ◌∙◌}
use Rattle.std.specs.Prelude.{IsTrue, ◌↔◌}
use Rattle.disk_model.specs.declared.call.Call.{Call}
use Rattle.disk_model.specs.CallsMade.{bytes_after, content_of, change_of, history_of}
use Rattle.disk_model.specs.History.{Change}
use Rattle.disk_model.specs.Images.{Window, window, window_after, IsImage}
use Rattle.disk_model.specs.Moments.{LeftSince}
use Rattle.disk_model.specs.Replayed.{IsReplayed}
use Rattle.disk_model.proofs.Replay.{content_of-push, history_of-one, length-history_of}

-- the answer of the moments so far
left_step : (change : Change) (earlier : List Change) (moment n : ℕ) (image : List ℕ) (since : Window) (now before left : Bool)
    → since ≡ window (change ∷ earlier) → n ≡ length earlier → (IsTrue now ↔ IsImage since image)
    → (IsTrue before ↔ LeftSince earlier moment image) → (IsTrue left ↔ (IsTrue now ⊎ ((moment ≤ n) × IsTrue before)))
    → IsTrue left ↔ LeftSince (change ∷ earlier) moment image
left_step change earlier moment n image since now before left here count is_now is_before is_left =
    let there : IsImage since image → IsImage (window (change ∷ earlier)) image = subst (λ w. IsImage w image) here in
    let back : IsImage (window (change ∷ earlier)) image → IsImage since image = subst (λ w. IsImage w image) (sym here) in (
      λ yes. elim (is_left.0 yes) as (λ _. LeftSince (change ∷ earlier) moment image) [
        | inl a ↦ inl (there (is_now.0 a))
        | inr b ↦ inr
            (rw (← count) b.0, is_before.0 b.1)
      ],
      λ at. elim at as (λ _. IsTrue left) [
        | inl a ↦ is_left.1 (inl (is_now.1 (back a)))
        | inr b ↦ is_left.1 (inr
            (rw count b.0, is_before.1 b.1))
      ],
    )

pub replayed-more : (first : List ℕ) (calls more : List Call) (call : Call) (moment n : ℕ) (image content content' : List ℕ)
    (since since' : Window) (now left left' : Bool) → more ≡ calls ++ call ∷ [] → n ≡ length calls + 1
    → IsReplayed first calls moment image content since left → content' ≡ bytes_after call content
    → since' ≡ window_after (change_of call content) since → (IsTrue now ↔ IsImage since' image)
    → (IsTrue left' ↔ (IsTrue now ⊎ ((moment ≤ n) × IsTrue left))) → IsReplayed first more moment image content' since' left'
replayed-more first calls more call moment n image content content' since since' now left left' is_more count replayed bytes noted is_now
    is_left =
    let change : Change = change_of call (content_of first calls) in
    let here : since' ≡ window (change ∷ history_of first calls) =
    noted ∙ ap (λ b. window_after (change_of call b) since) replayed.bytes ∙ ap (window_after change) replayed.window in
    let made : change ∷ history_of first calls ≡ history_of first more =
    sym (history_of-one first calls call) ∙ ap (history_of first) (sym is_more) in
    record {
      bytes = bytes ∙ ap (bytes_after call) replayed.bytes ∙ sym (content_of-push first calls call) ∙ ap (content_of first) (sym is_more);
      window = here ∙ ap window made;
      moments = subst (λ history. IsTrue left' ↔ LeftSince history moment image) made
          (left_step change (history_of first calls) moment n image since' now left left' here (count
          ∙ sym (length-history_of first calls)) is_now replayed.moments is_left);
    }
