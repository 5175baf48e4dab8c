-- What a read gives stays one of the images.
use Rattle.std.proofs.Common.{◌≡◌, inl, inr, ℕ, ◌<◌, ◌≤◌, List, ◌∷◌, length, take, get_or, arith, refl, ◌∙◌}
use Rattle.std.specs.Prelude.{All}
use Rattle.std.proofs.lemmas.Grind.{common_steps}
use Rattle.disk_model.specs.Calls.{overwritten}
use Rattle.disk_model.specs.History.{Change, Wrote, CutTo}
use Rattle.disk_model.specs.Images.{settled, window, IsImage}
use Rattle.disk_model.proofs.Overwrites.{length-overwritten, get_or-overwritten_before, get_or-overwritten_after}

-- bytes that are synced
pub settled_image : (bytes : List ℕ) → All (λ b. b < 256) bytes → IsImage (settled bytes) bytes
settled_image bytes fit = record { bytes = fit; no_shorter = omega arith; no_longer = omega arith; kept = λ i below free. refl }

-- bytes that are cut
pub cut_image : (history : List Change) (content : List ℕ) (len : ℕ) → len ≤ length content → IsImage (window history) content
    → IsImage (window (CutTo len ∷ history)) (take len content)
cut_image history content len within image = record {
  bytes = grind (arith, common_steps, image.bytes);
  no_shorter = grind (arith, common_steps);
  no_longer = grind (arith, common_steps);
  kept = λ i below free. grind (arith, common_steps, image.kept i (omega arith) free);
}

-- bytes that are written over
pub write_image : (history : List Change) (content : List ℕ) (at : ℕ) (bytes : List ℕ) → at ≤ length content
    → All (λ b. b < 256) (overwritten content at bytes) → IsImage (window history) content
    → IsImage (window (Wrote at (length bytes) ∷ history)) (overwritten content at bytes)
write_image history content at bytes within fit image = record {
  bytes = fit;
  no_shorter = omega (arith, length-overwritten content at bytes within, image.no_shorter);
  no_longer = omega (arith, length-overwritten content at bytes within, image.no_longer);
  kept = λ i below free. elim free.0 as (λ _. get_or (overwritten content at bytes) i 0 ≡ get_or (window history).base i 0) [
    | inl before ↦ get_or-overwritten_before content at bytes i 0 within before ∙ image.kept i below free.1
    | inr after ↦ get_or-overwritten_after content at bytes i 0 within after ∙ image.kept i below free.1
  ];
}
