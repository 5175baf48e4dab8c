-- What calls of a disk keep, one after the other.
use Rattle.std.proofs.Common.{◌≡◌, inl, inr, ℕ, ◌≤◌, List, [], ◌∷◌, refl, arith}
use Rattle.std.specs.Prelude.{◌↔◌}
use Rattle.disk_model.specs.Calls.{IsMadeOrNothing, IsSameOrAdds}
use Rattle.disk_model.specs.History.{Change}
use Rattle.disk_model.specs.Later.{IsLater, AreLater}
use Rattle.disk_model.specs.Moments.{Continues}
use Rattle.disk_model.proofs.MomentLaws.{continues_join}

pub same_or_adds : (change : Change) (old new : List Change) (before after : List ℕ) → IsMadeOrNothing change old new before after
    → IsSameOrAdds change old new
same_or_adds change old new before after (inl made) = inr made
same_or_adds change old new before after (inr nothing) = inl nothing.0

continues_failed : (change : Change) (old new : List Change) (before after : List ℕ) → IsMadeOrNothing change old new before after
    → Continues old new
continues_failed change old new before after (inl made) = (change ∷ [], made)
continues_failed change old new before after (inr nothing) = ([], nothing.0)

module _ {D : Type 0} (honest : D → Type 0) (history : D → List Change) (faults : D
    → ℕ) (old new : D) (honesty : honest old ↔ honest new) (counted : faults old ≤ faults new) where
  pub later_same : (honest old → history new ≡ history old) → IsLater honest history faults old new
  later_same same = record { honesty = honesty; done = λ h. ([], same h); counted = counted }

  pub later_made : (change : Change) → (honest old → history new ≡ change ∷ history old) → IsLater honest history faults old new
  later_made change made = record { honesty = honesty; done = λ h. (change ∷ [], made h); counted = counted }

  pub later_failed : (change : Change) (before after : List ℕ) → (honest old
      → IsMadeOrNothing change (history old) (history new) before after) → IsLater honest history faults old new
  later_failed change before after failed = record {
    honesty = honesty;
    done = λ h. continues_failed change (history old) (history new) before after (failed h);
    counted = counted;
  }

  pub later_adds : (change : Change) → (honest old → IsSameOrAdds change (history old) (history new))
      → IsLater honest history faults old new
  later_adds change adds = record {
    honesty = honesty;
    done = λ h. elim (adds h) as (λ _. Continues (history old)
        (history new)) [ inl same ↦ ([], same) | inr made ↦ (change ∷ [], made) ];
    counted = counted;
  }

pub later_begin : {D : Type 0} (honest : D → Type 0) (history : D → List Change) (faults : D → ℕ) (disk : D)
    → IsLater honest history faults disk disk
later_begin honest history faults disk = later_same honest history faults disk disk (λ h. h, λ h. h) (omega arith) (λ h. refl)

pub later_on : {D : Type 0} {honest : D → Type 0} {history : D → List Change} {faults : D → ℕ} {old between new : D}
    → IsLater honest history faults old between → IsLater honest history faults between new → IsLater honest history faults old new
later_on {history = history} {old = old} {between = between} {new = new} p q = record {
  honesty = (λ h. q.honesty.0 (p.honesty.0 h), λ h. p.honesty.1 (q.honesty.1 h));
  done = λ h. continues_join (history old) (history between) (history new) (p.done h) (q.done (p.honesty.0 h));
  counted = omega (arith, p.counted, q.counted);
}

pub pair_begin : {D : Type 0} (honest : D → Type 0) (history : D → List Change) (faults : D → ℕ) (a b : D)
    → AreLater honest history faults a b a b
pair_begin honest history faults a b = record { a = later_begin honest history faults a; b = later_begin honest history faults b }

pub pair_on : {D : Type 0} {honest : D → Type 0} {history : D → List Change} {faults : D → ℕ} {old_a old_b a b new_a new_b : D}
    → AreLater honest history faults old_a old_b a b → AreLater honest history faults a b new_a new_b
    → AreLater honest history faults old_a old_b new_a new_b
pair_on p q = record { a = later_on p.a q.a; b = later_on p.b q.b }
