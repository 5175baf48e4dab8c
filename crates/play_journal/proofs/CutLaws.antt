-- What a crash leaves while the end of a file is cut off.
use Rattle.std.proofs.Common.{◌≡◌, inr, ℕ, ◌≤◌, List, [], ◌∷◌, ◌++◌, length, take, drop, refl, sym, ap, ◌∙◌}
use Rattle.std.proofs.lemmas.List.{append-nil, take-append-drop}
use Rattle.disk_model.specs.Calls.{IsSameOrAdds}
use Rattle.disk_model.specs.History.{Change, CutTo, Synced}
use Rattle.disk_model.specs.Images.{settled, window}
use Rattle.disk_model.specs.Moments.{AllSince, AllNow}
use Rattle.disk_model.proofs.MomentLaws.{all_begin, all_step_or}
use Rattle.disk_model.proofs.WindowLaws.{settled_all, cut_leaves}

-- the bytes up to the cut, and any others behind them
abbrev pub BeginsWith : List ℕ → List ℕ → Type 0
BeginsWith front image = (rest : List ℕ) × (image ≡ front ++ rest)

module _ (s : List ℕ) (len : ℕ) (within : len ≤ length s) where
  parts : (image : List ℕ) → take len image ≡ take len s → BeginsWith (take len s) image
  parts image front = (drop len image, sym (take-append-drop len image) ∙ ap (λ (l : List ℕ). l ++ drop len image) front)

  pub begins : (h : List Change) → window h ≡ settled s → AllSince (BeginsWith (take len s)) h (length h)
  begins h is_settled = all_begin (BeginsWith (take len s)) h (settled_all (BeginsWith (take len s)) h s is_settled (parts s refl))

  pub cuts : (h h' : List Change) (t : ℕ) → window h ≡ settled s → IsSameOrAdds (CutTo len) h h'
      → AllSince (BeginsWith (take len s)) h t → AllSince (BeginsWith (take len s)) h' t
  cuts h h' t is_settled step since =
      let now : AllNow (BeginsWith (take len s)) (CutTo len ∷ h) = λ image left. parts image
      (cut_leaves h len s image is_settled within left).0 in
      all_step_or (BeginsWith (take len s)) (CutTo len) h h' t step now since

  pub syncs : (h h' : List Change) (c : List ℕ) (t : ℕ) → c ≡ take len s → h' ≡ Synced c ∷ h → AllSince (BeginsWith (take len s)) h t
      → AllSince (BeginsWith (take len s)) h' t
  syncs h h' c t is made since =
      all_step_or (BeginsWith (take len s)) (Synced c) h h' t (inr made) (settled_all (BeginsWith (take len s)) (Synced c ∷ h) c refl
      ([], is ∙ sym (append-nil (take len s)))) since
