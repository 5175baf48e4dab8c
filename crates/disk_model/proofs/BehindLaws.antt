-- What a crash leaves of the bytes before an offset, while all that is done lies behind it.
use Rattle.std.proofs.Common.{◌≡◌, inl, inr, ℕ, ◌≤◌, List, [], ◌∷◌, ◌++◌, length, take, append_assoc, refl, sym, ap, subst, ◌∙◌}
use Rattle.disk_model.specs.Behind.{IsBehind}
use Rattle.disk_model.specs.Calls.{IsMadeOrNothing}
use Rattle.disk_model.specs.History.{Change, Wrote, CutTo, Synced}
use Rattle.disk_model.specs.Images.{settled, window}
use Rattle.disk_model.specs.Moments.{AllSince}
use Rattle.disk_model.proofs.MomentLaws.{all_begin, all_step}
use Rattle.disk_model.proofs.WindowLaws.{settled_all, front_stays}

-- the new history is the old one with changes in front that lie behind this offset
pub record IsBehindSince (k : ℕ) (old new : List Change) : Type 0 where
  pub made : List Change
  pub parts : new ≡ made ++ old
  pub behind : IsBehind k made

-- these bytes begin as those
pub record KeepsBefore (k : ℕ) (bytes image : List ℕ) : Type 0 where
  pub long : k ≤ length image
  pub same : take k image ≡ take k bytes

pub behind_begin : (k : ℕ) (history : List Change) → IsBehindSince k history history
behind_begin k history = record { made = []; parts = refl; behind = tt }

behind_more : (k : ℕ) (later earlier : List Change) → IsBehind k later → IsBehind k earlier → IsBehind k (later ++ earlier)
behind_more k [] earlier is before = before
behind_more k (Wrote at count ∷ later) earlier is before = (is.0, behind_more k later earlier is.1 before)
behind_more k (CutTo len ∷ later) earlier is before = (is.0, behind_more k later earlier is.1 before)
behind_more k (Synced bytes ∷ later) earlier is before = absurd is

pub behind_made : (k : ℕ) (change : Change) (first old new : List Change) → IsBehind k (change ∷ []) → IsBehindSince k first old
    → new ≡ change ∷ old → IsBehindSince k first new
behind_made k change first old new is before made = record {
  made = change ∷ before.made;
  parts = made ∙ ap (λ (l : List Change). change ∷ l) before.parts;
  behind = behind_more k (change ∷ []) before.made is before.behind;
}

pub behind_failed : (k : ℕ) (change : Change) (first old new : List Change) (content after : List ℕ) → IsBehind k (change ∷ [])
    → IsBehindSince k first old → IsMadeOrNothing change old new content after → IsBehindSince k first new
behind_failed k change first old new content after is before (inl made) = behind_made k change first old new is before made
behind_failed k change first old new content after is before (inr nothing) =
    subst (λ (l : List Change). IsBehindSince k first l) (sym nothing.0) before

rest_behind : (k : ℕ) (change : Change) (made : List Change) → IsBehind k (change ∷ made) → IsBehind k made
rest_behind k (Wrote at count) made is = is.1
rest_behind k (CutTo len) made is = is.1
rest_behind k (Synced bytes) made is = absurd is

behind_all : (k : ℕ) (bytes : List ℕ) (made history : List Change) → window history ≡ settled bytes → k ≤ length bytes
    → IsBehind k made → AllSince (KeepsBefore k bytes) (made ++ history) (length history)
behind_all k bytes [] history is_settled within is =
    all_begin (KeepsBefore k bytes) history (settled_all (KeepsBefore k bytes) history bytes is_settled (record {
      long = within;
      same = refl;
    }))
behind_all k bytes (change ∷ made) history is_settled within is =
    all_step (KeepsBefore k bytes) change (made ++ history) (length history)
    (λ image left. let front = front_stays (change ∷ made) history k bytes image is_settled within is left in record {
      long = front.0;
      same = front.1;
    })
    (behind_all k bytes made history is_settled within (rest_behind k change made is))

-- Each image since then begins as the settled file did.
pub behind_since : (k : ℕ) (bytes : List ℕ) (old new : List Change) → window old ≡ settled bytes → k ≤ length bytes
    → IsBehindSince k old new → AllSince (KeepsBefore k bytes) new (length old)
behind_since k bytes old new is_settled within run =
    subst (λ (l : List Change). AllSince (KeepsBefore k bytes) l (length old)) (sym run.parts)
    (behind_all k bytes run.made old is_settled within run.behind)
