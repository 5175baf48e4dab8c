-- Crashes at the moments of a run: now, since a moment, and over two runs.
use Rattle.std.proofs.Common.{◌⊎◌, inl, inr, ℕ, List, [], ◌∷◌, ◌++◌, length, length-append, append_assoc, arith, refl, sym, ap, subst}
use Rattle.std.proofs.Common.{◌∙◌}
use Rattle.disk_model.specs.Calls.{IsSameOrAdds}
use Rattle.disk_model.specs.History.{Change}
use Rattle.disk_model.specs.Images.{window, IsImage}
use Rattle.disk_model.specs.Moments.{LeftSince, AllSince, AllNow, Continues}

-- since this moment there is no other
pub now_only : (history : List Change) (image : List ℕ) → LeftSince history (length history) image → IsImage (window history) image
now_only [] image left = left
now_only (change ∷ earlier) image (inl now) = now
now_only (change ∷ earlier) image (inr before) = absurd (omega (arith, before.0))

-- this moment is one of those since an earlier one
pub counts_now : (history : List Change) (t : ℕ) (image : List ℕ) → IsImage (window history) image → LeftSince history t image
counts_now [] t image now = now
counts_now (change ∷ earlier) t image now = inl now

-- a run begins
pub all_begin : (P : List ℕ → Type 0) (history : List Change) → AllNow P history → AllSince P history (length history)
all_begin P history now image left = now image (now_only history image left)

-- a call is made
pub all_step : (P : List ℕ → Type 0) (change : Change) (earlier : List Change) (t : ℕ) → AllNow P (change ∷ earlier)
    → AllSince P earlier t → AllSince P (change ∷ earlier) t
all_step P change earlier t now before image (inl left) = now image left
all_step P change earlier t now before image (inr left) = before image left.1

-- a call counts as made, or not
pub all_step_or : (P : List ℕ → Type 0) (change : Change) (old new : List Change) (t : ℕ) → IsSameOrAdds change old new
    → AllNow P (change ∷ old) → AllSince P old t → AllSince P new t
all_step_or P change old new t (inl same) now before = subst (λ h. AllSince P h t) (sym same) before
all_step_or P change old new t (inr adds) now before = subst (λ h. AllSince P h t) (sym adds) (all_step P change old t now before)

-- what holds since a moment holds now
pub all_now : (P : List ℕ → Type 0) (history : List Change) (t : ℕ) → AllSince P history t → AllNow P history
all_now P history t since image now = since image (counts_now history t image now)

pub all_weaker : (P Q : List ℕ → Type 0) (history : List Change) (t : ℕ) → ((image : List ℕ) → P image → Q image)
    → AllSince P history t → AllSince Q history t
all_weaker P Q history t weaker since image left = weaker image (since image left)

-- A crash since a moment before a run was before the run or in it.
pub left_split : (made history : List Change) (t : ℕ) (image : List ℕ) → LeftSince (made ++ history) t image
    → LeftSince (made ++ history) (length history) image ⊎ LeftSince history t image
left_split [] history t image left = inr left
left_split (change ∷ made) history t image (inl now) = inl (inl now)
left_split (change ∷ made) history t image (inr before) = elim (left_split made history t image before.1) [
  | inl during ↦ inl (inr (omega (arith, length-append made history), during))
  | inr earlier ↦ inr earlier
]

-- one run after another
pub all_join : (P : List ℕ → Type 0) (old new : List Change) (t : ℕ) → Continues old new → AllSince P old t
    → AllSince P new (length old) → AllSince P new t
all_join P old new t run before during image left =
    elim (left_split run.0 old t image (subst (λ h. LeftSince h t image) run.1 left)) [
      | inl since ↦ during image (subst (λ h. LeftSince h (length old) image) (sym run.1) since)
      | inr earlier ↦ before image earlier
    ]

pub continues_same : (history : List Change) → Continues history history
continues_same history = ([], refl)

pub continues_join : (old between new : List Change) → Continues old between → Continues between new → Continues old new
continues_join old between new first second =
    (second.0 ++ first.0, second.1 ∙ ap (λ h. second.0 ++ h) first.1 ∙ sym (append_assoc second.0 first.0 old))
