-- The two disks of a journal, whichever of them is in use.
use Rattle.std.proofs.Common.{◌≡◌, inl, ℕ, Bool, true, false, List, length, Option, Some, ap, subst, ◌∙◌}
use Rattle.disk_model.specs.History.{Change}
use Rattle.std.specs.Prelude.{not}
use Rattle.disk_model.specs.Later.{IsLater, AreLater}
use Rattle.disk_model.proofs.LaterLaws.{later_begin}
use Rattle.disk_model.proofs.MomentLaws.{now_only}
use Rattle.play_journal.specs.Content.{Content, IsKnownLayout, IsOldOrNew}
use Rattle.play_journal.specs.JournalState.{at_place, content_in, IsKept}
use Rattle.play_journal.specs.Pair.{AllPairsNow, AllPairsSince}
use Rattle.play_journal.proofs.InUseLaws.{all_first, all_second, content-file}

pub honest_both : {D : Type 0} (honest : D → Type 0) (swapped : Bool) (here there : D) → honest (at_place swapped here there)
    → honest (at_place swapped there here) → honest here × honest there
honest_both honest true here there a b = (b, a)
honest_both honest false here there a b = (a, b)

pub kept_now : {D : Type 0} (content : D → List ℕ) (history : D → List Change) (swapped : Bool) (here there : D)
    (end layout generation base count : ℕ)
    → IsKept (content here) (content there) (history here) (history there) end layout generation base count
    → AllPairsNow (λ f. f ≡ Some (content_in (content here))) (history (at_place swapped here there)) (history
    (at_place swapped there here))
kept_now content history true here there end layout generation base count kept =
    all_second (content here) (content there) end layout generation base count kept.in_use (history here)
    (history there) kept.here_settled kept.there_settled
kept_now content history false here there end layout generation base count kept =
    all_first (content here) (content there) end layout generation base count kept.in_use (history here)
    (history there) kept.here_settled kept.there_settled

pub kept_base : (here there : List ℕ) (h o : List Change) (end layout generation base count : ℕ)
    → IsKept here there h o end layout generation base count → (content_in here).base ≡ base
kept_base here there h o end layout generation base count kept = ap (λ (c : Content). c.base)
    (content-file here kept.in_use.file kept.in_use.is_file) ∙ kept.in_use.before

pub kept_count : (here there : List ℕ) (h o : List Change) (end layout generation base count : ℕ)
    → IsKept here there h o end layout generation base count → length (content_in here).records ≡ count
kept_count here there h o end layout generation base count kept = ap (λ (c : Content). length c.records)
    (content-file here kept.in_use.file kept.in_use.is_file) ∙ kept.in_use.counted

pub kept_generation : (here there : List ℕ) (h o : List Change) (end layout generation base count : ℕ)
    → IsKept here there h o end layout generation base count → (content_in here).generation ≡ generation
kept_generation here there h o end layout generation base count kept = ap (λ (c : Content). c.generation)
    (content-file here kept.in_use.file kept.in_use.is_file) ∙ kept.in_use.numbered

pub kept_layout : (here there : List ℕ) (h o : List Change) (end layout generation base count : ℕ)
    → IsKept here there h o end layout generation base count → (content_in here).layout ≡ layout
kept_layout here there h o end layout generation base count kept = ap (λ (c : Content). c.layout)
    (content-file here kept.in_use.file kept.in_use.is_file) ∙ kept.in_use.laid

pub kept_known : (here there : List ℕ) (h o : List Change) (end layout generation base count : ℕ)
    → IsKept here there h o end layout generation base count → IsKnownLayout layout
kept_known here there h o end layout generation base count kept = subst IsKnownLayout kept.in_use.laid kept.in_use.is_file.fits.layout

-- a record was added to the file in use, or may have been
pub added_since : {D : Type 0} (history : D → List Change) (P : Option Content → Type 0) (swapped : Bool) (here new there : D)
    → AllPairsSince P (history new) (length (history here)) (history there) (length (history there))
    → AllPairsSince P (history there) (length (history there)) (history new) (length (history here))
    → AllPairsSince P (history (at_place swapped new there)) (length (history (at_place swapped here there))) (history
    (at_place swapped there new)) (length (history (at_place swapped there here)))
added_since history P true here new there first second = second
added_since history P false here new there first second = first

-- nothing was done
pub still_since : (P : Option Content → Type 0) (h o : List Change) → AllPairsNow P h o → AllPairsSince P h (length h) o (length o)
still_since P h o now x y left right = now x y (now_only h x left) (now_only o y right)

-- the same, of files a and b
pub placed_now : {D : Type 0} (content : D → List ℕ) (history : D → List Change) (swapped : Bool) (a b : D)
    (end layout generation base count : ℕ)
    → IsKept (content (at_place swapped a b)) (content (at_place swapped b a)) (history (at_place swapped a b)) (history
    (at_place swapped b a)) end layout generation base count
    → AllPairsNow (λ f. f ≡ Some (content_in (content (at_place swapped a b)))) (history a) (history b)
placed_now content history true a b end layout generation base count kept = all_second (content b)
    (content a) end layout generation base count kept.in_use (history b) (history a) kept.here_settled kept.there_settled
placed_now content history false a b end layout generation base count kept = all_first (content a)
    (content b) end layout generation base count kept.in_use (history a) (history b) kept.here_settled kept.there_settled

-- something was done to the file that isn't in use
pub other_since : {D : Type 0} (history : D → List Change) (P : Option Content → Type 0) (swapped : Bool) (here there new : D)
    → AllPairsSince P (history here) (length (history here)) (history new) (length (history there))
    → AllPairsSince P (history new) (length (history there)) (history here) (length (history here))
    → AllPairsSince P (history (at_place swapped here new)) (length (history (at_place swapped here there))) (history
    (at_place swapped new here)) (length (history (at_place swapped there here)))
other_since history P true here there new first second = second
other_since history P false here there new first second = first

-- and then it was taken into use
pub swapped_since : {D : Type 0} (history : D → List Change) (P : Option Content → Type 0) (swapped : Bool) (here there new : D)
    → AllPairsSince P (history here) (length (history here)) (history new) (length (history there))
    → AllPairsSince P (history new) (length (history there)) (history here) (length (history here))
    → AllPairsSince P (history (at_place (not swapped) new here)) (length (history (at_place swapped here there))) (history (at_place
    (not swapped) here new)) (length (history (at_place swapped there here)))
swapped_since history P true here there new first second = second
swapped_since history P false here there new first second = first

module _ {D : Type 0} (honest : D → Type 0) (history : D → List Change) (faults : D → ℕ) where
  pub later_here : (swapped : Bool) (here there new : D) → IsLater honest history faults here new
      → AreLater honest history faults (at_place swapped here there) (at_place swapped there here) (at_place swapped new there)
      (at_place swapped there new)
  later_here true here there new later = record { a = later_begin honest history faults there; b = later }
  later_here false here there new later = record { a = later; b = later_begin honest history faults there }

pub old_or_new : (content : Content) (layout : ℕ) (snapshot : List ℕ) (f : Option Content) → f ≡ Some content
    → IsOldOrNew content layout snapshot f
old_or_new content layout snapshot f is = inl is
