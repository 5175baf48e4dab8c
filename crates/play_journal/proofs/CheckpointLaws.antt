-- A journal whose next snapshot is laid down in the file that isn't in use.
use Rattle.std.proofs.Common.{◌≡◌, inl, inr, ℕ, ◌+◌, ◌^◌, ◌<◌, List, [], ◌∷◌, ◌++◌, length, Some, arith, sym, ap, subst, ◌∙◌}
use Rattle.disk_model.specs.History.{Change}
use Rattle.disk_model.specs.Images.{window, settled, IsImage}
use Rattle.disk_model.specs.Moments.{AllSince}
use Rattle.disk_model.proofs.MomentLaws.{now_only}
use Rattle.disk_model.proofs.WindowLaws.{settled_only}
use Rattle.play_journal.specs.Content.{Content, with_snapshot, IsOldOrNew, IsWrittenLayout}
use Rattle.play_journal.specs.File.{open_gate, head, IsFile, IsOpenAt}
use Rattle.play_journal.specs.JournalState.{content_in, IsInUse, IsKept}
use Rattle.play_journal.specs.Laying.{IsLaidDown}
use Rattle.play_journal.specs.Pair.{found, IsBelow, AllPairsSince}
use Rattle.play_journal.proofs.FileLaws.{open_at-file}
use Rattle.play_journal.proofs.InUseLaws.{content-file, laid_file, laid_in_use, laid_content}
use Rattle.play_journal.proofs.PairLaws.{found_first, found_second}

module _ (here there : List ℕ) (end layout generation base count : ℕ) (used : IsInUse here there end layout generation base count)
    (written : ℕ) (known : IsWrittenLayout written) (new snapshot : List ℕ) (is_new : new ≡ open_gate ∷ head written (generation + 1) (base + count) (length snapshot)
    ++ snapshot ++ 0 ∷ [])
    (next : generation + 1 < 2 ^ 64) (numbers : base + count < 2 ^ 64) (short : length snapshot < 2 ^ 32) where
  abbrev next_file : Content
  next_file = record { layout = written; generation = generation + 1; base = base + count; snapshot = snapshot; records = [] }

  old_is : used.file ≡ content_in here
  old_is = sym (content-file here used.file used.is_file)

  next_is : next_file ≡ with_snapshot (content_in here) written snapshot
  next_is =
      ap (λ (n : ℕ). record {
        layout = written;
        generation = n + 1;
        base = base + count;
        snapshot = snapshot;
        records = [];
      }) (sym used.numbered)
      ∙ ap (λ (n : ℕ). record {
        layout = written;
        generation = used.file.generation + 1;
        base = n + count;
        snapshot = snapshot;
        records = [];
      }) (sym used.before)
      ∙ ap (λ (n : ℕ). record {
        layout = written;
        generation = used.file.generation + 1;
        base = used.file.base + n;
        snapshot = snapshot;
        records = [];
      }) (sym used.counted)
      ∙ ap (λ (c : Content). with_snapshot c written snapshot) old_is

  -- the file from before doesn't count beside the new one
  pub old_below : IsBelow (generation + 1) here
  old_below = inr (generation, omega arith, subst (λ (n : ℕ). IsOpenAt here n) used.numbered (open_at-file here used.file used.is_file))

  is_next : IsFile new next_file
  is_next = laid_file new snapshot written (generation + 1) (base + count) known is_new next numbers short

  first_found : (image : List ℕ) → IsLaidDown there new image → IsOldOrNew (content_in here) written snapshot (found here image)
  first_found image (inl (inl same)) = inl (found_first here image used.file used.is_file (subst (λ
      (l : List ℕ). IsBelow used.file.generation l) (sym same) used.other) ∙ ap Some old_is)
  first_found image (inl (inr shut)) = inl (found_first here image used.file used.is_file (inl shut) ∙ ap Some old_is)
  first_found image (inr is) = inr (ap (λ (l : List ℕ). found here l) is ∙ found_second new here next_file is_next old_below
      ∙ ap Some next_is)

  second_found : (image : List ℕ) → IsLaidDown there new image → IsOldOrNew (content_in here) written snapshot (found image here)
  second_found image (inl (inl same)) = inl (found_second here image used.file used.is_file (subst (λ
      (l : List ℕ). IsBelow used.file.generation l) (sym same) used.other) ∙ ap Some old_is)
  second_found image (inl (inr shut)) = inl (found_second here image used.file used.is_file (inl shut) ∙ ap Some old_is)
  second_found image (inr is) = inr (ap (λ (l : List ℕ). found l here) is ∙ found_first new here next_file is_next old_below
      ∙ ap Some next_is)

  -- whatever crashes leave while it is laid down
  pub first_laid : (h o o' : List Change) → window h ≡ settled here → AllSince (IsLaidDown there new) o' (length o)
      → AllPairsSince (IsOldOrNew (content_in here) written snapshot) h (length h) o' (length o)
  first_laid h o o' is_settled since x y left right =
      let x_is : x ≡ here = settled_only here x (subst (λ w. IsImage w x) is_settled (now_only h x left)) in
      subst (λ (l : List ℕ). IsOldOrNew (content_in here) written snapshot (found l y)) (sym x_is) (first_found y (since y right))

  pub second_laid : (h o o' : List Change) → window h ≡ settled here → AllSince (IsLaidDown there new) o' (length o)
      → AllPairsSince (IsOldOrNew (content_in here) written snapshot) o' (length o) h (length h)
  second_laid h o o' is_settled since x y left right =
      let y_is : y ≡ here = settled_only here y (subst (λ w. IsImage w y) is_settled (now_only h y right)) in
      subst (λ (l : List ℕ). IsOldOrNew (content_in here) written snapshot (found x l)) (sym y_is) (second_found x (since x left))

  -- and then it is in use
  pub next_kept : (h o : List Change) (to : ℕ) → to ≡ 32 + length snapshot → window h ≡ settled here → window o ≡ settled new
      → IsKept new here o h to written (generation + 1) (base + count) 0
  next_kept h o to is_end here_settled new_settled = record {
    here_settled = new_settled;
    there_settled = here_settled;
    in_use = laid_in_use new here snapshot to written (generation + 1) (base + count) known is_new is_end next numbers short old_below;
  }

  pub next_content : content_in new ≡ with_snapshot (content_in here) written snapshot
  next_content = laid_content new snapshot written (generation + 1) (base + count) known is_new next numbers short ∙ next_is
