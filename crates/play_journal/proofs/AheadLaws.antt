-- What a crash leaves while zero bytes are put behind a file.
use Rattle.std.proofs.Common.{◌≡◌, inl, inr, ℕ, ◌+◌, ◌<◌, List, [], ◌∷◌, ◌++◌, length, length-append, take, drop, append_assoc}
use Rattle.std.proofs.Common.{Bool, true, false, Option, Some, arith, refl, sym, ap, subst, ◌∙◌}
use Rattle.std.proofs.lemmas.List.{append-nil, length-take, take_at, take-append-drop}
use Rattle.disk_model.specs.Faults.{HasGrown}
use Rattle.disk_model.specs.History.{Change, Synced}
use Rattle.disk_model.specs.Images.{window, settled, IsImage}
use Rattle.disk_model.specs.Later.{AreLater, HasFailed, IsLater}
use Rattle.disk_model.specs.Lengthened.{IsBegunBehind, IsLengthened}
use Rattle.disk_model.specs.Moments.{AllSince}
use Rattle.disk_model.proofs.BehindLaws.{KeepsBefore, behind_since}
use Rattle.disk_model.proofs.LaterLaws.{later_begin}
use Rattle.disk_model.proofs.LengthLaws.{IsWithin}
use Rattle.disk_model.proofs.MomentLaws.{all_step, all_weaker, now_only}
use Rattle.disk_model.proofs.WindowLaws.{settled_all, settled_only}
use Rattle.play_journal.specs.Content.{Content}
use Rattle.play_journal.specs.File.{IsClosed, IsFile, IsShut, spelling}
use Rattle.play_journal.specs.JournalState.{at_place, content_in, IsInUse, IsKept}
use Rattle.play_journal.specs.Laying.{IsSameOrShut}
use Rattle.play_journal.specs.Pair.{AllPairsSince, IsBelow, found}
use Rattle.play_journal.proofs.CutLaws.{BeginsWith}
use Rattle.play_journal.proofs.InUseLaws.{content-file, still_file}
use Rattle.play_journal.proofs.LayLaws.{still_shut}
use Rattle.play_journal.proofs.PairLaws.{found_first, found_second}
use Rattle.play_journal.proofs.PlaceLaws.{added_since, other_since}

-- images that keep all bytes from before begin with them
begins_with : (s image : List ℕ) → KeepsBefore (length s) s image → BeginsWith s image
begins_with s image front = (
  drop (length s) image,
  sym (take-append-drop (length s) image)
      ∙ ap (λ (l : List ℕ). l ++ drop (length s) image) (front.same ∙ whole),
)
  where
    whole : take (length s) s ≡ s
    whole = ap (λ (l : List ℕ). take (length s) l) (sym (append-nil s)) ∙ take_at s [] (length s) refl

pub since_begun : (len : ℕ) (s : List ℕ) (old new : List Change) → window old ≡ settled s → IsBegunBehind len s old new
    → AllSince (BeginsWith s) new (length old)
since_begun len s old new is_settled begun =
    all_weaker _ (BeginsWith s) _ _ (λ image front. begins_with s image front)
    (behind_since (length s) s old new is_settled (omega arith)
    (record { made = begun.made; parts = begun.done; behind = begun.behind }))

pub since_lengthened : (len : ℕ) (s after : List ℕ) (old new : List Change) → window old ≡ settled s → IsLengthened len s after old new
    → AllSince (BeginsWith s) new (length old)
since_lengthened len s after old new is_settled long =
    let begun : IsBegunBehind len s old (long.made ++ old) = record {
      made = long.made;
      done = refl;
      behind = long.behind;
      ends = long.ends;
    } in
    subst (λ (h : List Change). AllSince (BeginsWith s) h (length old)) (sym long.done)
    (all_step (BeginsWith s) (Synced after) (long.made ++ old) (length old)
    (settled_all (BeginsWith s) (Synced after ∷ long.made ++ old) after refl (long.rest, long.front))
    (since_begun len s old (long.made ++ old) is_settled begun))

-- the file in use stays the one in use
module _ (here there : List ℕ) (end layout generation base count : ℕ) (used : IsInUse here there end layout generation base count) where
  pub longer_file : (x : List ℕ) → BeginsWith here x → IsFile x used.file
  longer_file x begins = record {
    fits = used.is_file.fits;
    gate = used.is_file.gate;
    free = used.is_file.free ++ begins.0;
    closed = used.is_file.closed;
    spelled = begins.1 ∙ ap (λ (l : List ℕ). l ++ begins.0) used.is_file.spelled
        ∙ append_assoc (spelling used.file) (used.is_file.gate ∷ used.is_file.free) begins.0;
  }

  pub longer_in_use : (x : List ℕ) → BeginsWith here x → IsInUse x there end layout generation base count
  longer_in_use x begins = record {
    file = used.file;
    is_file = longer_file x begins;
    ends = omega (arith, used.ends, ap (λ (l : List ℕ). length l) begins.1, length-append here begins.0);
    gate = used.gate;
    laid = used.laid;
    numbered = used.numbered;
    before = used.before;
    counted = used.counted;
    other = used.other;
  }

  -- the bytes up to its closing gate, and any others behind them, are the same file
  pub cut_file : (x : List ℕ) → BeginsWith (take (end + 1) here) x → IsFile x used.file
  cut_file x begins =
      let gate = used.is_file.gate in
      let front : take (end + 1) here ≡ spelling used.file ++ gate ∷ [] =
      ap (λ (l : List ℕ). take (end + 1) l)
      (used.is_file.spelled ∙ sym (append_assoc (spelling used.file) (gate ∷ []) used.is_file.free))
      ∙ take_at (spelling used.file ++ gate ∷ []) used.is_file.free (end + 1)
      (omega (arith, used.gate, length-append (spelling used.file) (gate ∷ []))) in
      still_file here there end layout generation base count used x gate begins.0 used.is_file.closed
      (begins.1 ∙ ap (λ (l : List ℕ). l ++ begins.0) front ∙ append_assoc (spelling used.file) (gate ∷ []) begins.0)

-- a file that is shut stays shut
pub shut_begins : (s x : List ℕ) → IsClosed s → BeginsWith s x → IsShut x
shut_begins s x closed begins = still_shut s x closed (record {
  long = omega (arith, closed.stands, ap (λ (l : List ℕ). length l) begins.1, length-append s begins.0);
  same = ap (λ (l : List ℕ). take 1 l) begins.1 ∙ first s begins.0 closed.stands;
})
  where
    first : (s rest : List ℕ) → 0 < length s → take 1 (s ++ rest) ≡ take 1 s
    first [] rest some = absurd (omega (arith, some))
    first (b ∷ bytes) rest some = refl

-- what a file becomes over two steps that leave it or shut it
pub still_or_shut : (old mid image : List ℕ) → IsSameOrShut old mid → IsSameOrShut mid image → IsSameOrShut old image
still_or_shut old mid image before (inl same) = subst (IsSameOrShut old) (sym same) before
still_or_shut old mid image before (inr shut) = inr shut

-- an empty file that gets one byte is too short to be open
pub short_shut : (old image : List ℕ) → IsWithin 1 image → IsSameOrShut old image
short_shut old image short = inr (inl (omega (arith, short)))

-- the file in use, whichever of the two it is
pub in_use_here : {D : Type 0} (swapped : Bool) (here there : D)
    → at_place swapped (at_place swapped here there) (at_place swapped there here) ≡ here
in_use_here true here there = refl
in_use_here false here there = refl

module _ {D : Type 0} (content : D → List ℕ) (history : D → List Change) (swapped : Bool) (here there : D) (end layout generation base
    count : ℕ) (kept : IsKept (content here) (content there) (history here) (history there) end layout generation base count) where
  -- what the journal says
  abbrev Says : Option Content → Type 0
  Says f = f ≡ Some (content_in (content here))

  says_file : Some kept.in_use.file ≡ Some (content_in (content here))
  says_file = ap Some (sym (content-file (content here) kept.in_use.file kept.in_use.is_file))

  pub end_is : length (spelling (content_in (content here))) ≡ end
  end_is = ap (λ (c : Content). length (spelling c)) (content-file (content here) kept.in_use.file kept.in_use.is_file) ∙ kept.in_use.gate

  -- the file in use is longer, or begun to be
  module _ (new : D) where
    here_image : (x : List ℕ) → BeginsWith (content here) x → IsFile x kept.in_use.file
    here_image = longer_file (content here) (content there) end layout generation base count kept.in_use

    -- it is the same file at each moment
    pub file_since : AllSince (λ x. IsFile x kept.in_use.file) (history new) (length (history here))
        → AllPairsSince (λ f. f ≡ Some (content_in (content here)))
        (history (at_place swapped new there)) (length (history (at_place swapped here there)))
        (history (at_place swapped there new)) (length (history (at_place swapped there here)))
    file_since since = added_since history Says swapped here new there first second
      where
        first : AllPairsSince Says (history new) (length (history here)) (history there) (length (history there))
        first x y left right =
            let y_is : y ≡ content there = settled_only (content there) y (subst (λ w. IsImage w y) kept.there_settled
            (now_only (history there) y right)) in
            subst (λ (l : List ℕ). Says (found x l)) (sym y_is)
            (found_first x (content there) kept.in_use.file (since x left) kept.in_use.other ∙ says_file)

        second : AllPairsSince Says (history there) (length (history there)) (history new) (length (history here))
        second x y left right =
            let x_is : x ≡ content there = settled_only (content there) x (subst (λ w. IsImage w x) kept.there_settled
            (now_only (history there) x left)) in
            subst (λ (l : List ℕ). Says (found l y)) (sym x_is)
            (found_second y (content there) kept.in_use.file (since y right) kept.in_use.other ∙ says_file)

    pub ahead_since : AllSince (BeginsWith (content here)) (history new) (length (history here))
        → AllPairsSince (λ f. f ≡ Some (content_in (content here)))
        (history (at_place swapped new there)) (length (history (at_place swapped here there)))
        (history (at_place swapped there new)) (length (history (at_place swapped there here)))
    ahead_since since = file_since (all_weaker (BeginsWith (content here)) (λ x. IsFile x kept.in_use.file) _ _ here_image since)

    -- cut behind its closing gate
    module _ (len : ℕ) (is : len ≡ end + 1) where
      cut_image : (x : List ℕ) → BeginsWith (take len (content here)) x → IsFile x kept.in_use.file
      cut_image x begins = cut_file (content here) (content there) end layout generation base count kept.in_use x
          (subst (λ (n : ℕ). BeginsWith (take n (content here)) x) is begins)

      pub cut_since : AllSince (BeginsWith (take len (content here))) (history new) (length (history here))
          → AllPairsSince (λ f. f ≡ Some (content_in (content here)))
          (history (at_place swapped new there)) (length (history (at_place swapped here there)))
          (history (at_place swapped there new)) (length (history (at_place swapped there here)))
      cut_since since =
          file_since (all_weaker (BeginsWith (take len (content here))) (λ x. IsFile x kept.in_use.file) _ _ cut_image since)

      module _ (cut : content new ≡ take len (content here)) where
        cut_new : IsFile (content new) kept.in_use.file
        cut_new = cut_image (content new) ([], cut ∙ sym (append-nil (take len (content here))))

        pub cut_len : length (content new) ≡ end + 1
        cut_len =
            omega (arith, ap (λ (l : List ℕ). length l) cut, length-take len (content here), kept.in_use.ends, is)

        pub cut_kept : window (history new) ≡ settled (content new)
            → IsKept (content new) (content there) (history new) (history there) end layout generation base count
        cut_kept is_settled = record {
          here_settled = is_settled;
          there_settled = kept.there_settled;
          in_use = record {
            file = kept.in_use.file;
            is_file = cut_new;
            ends = omega (arith, cut_len);
            gate = kept.in_use.gate;
            laid = kept.in_use.laid;
            numbered = kept.in_use.numbered;
            before = kept.in_use.before;
            counted = kept.in_use.counted;
            other = kept.in_use.other;
          };
        }

        pub cut_content : content_in (content new) ≡ content_in (content here)
        cut_content =
            content-file (content new) kept.in_use.file cut_new
            ∙ sym (content-file (content here) kept.in_use.file kept.in_use.is_file)

    module _ (len : ℕ) (long : IsLengthened len (content here) (content new) (history here) (history new)) where
      pub ahead_kept : IsKept (content new) (content there) (history new) (history there) end layout generation base count
      ahead_kept = record {
        here_settled = ap window long.done;
        there_settled = kept.there_settled;
        in_use = longer_in_use (content here) (content there) end layout generation base count kept.in_use (content new)
            (long.rest, long.front);
      }

      pub ahead_content : content_in (content new) ≡ content_in (content here)
      ahead_content =
          content-file (content new) kept.in_use.file (here_image (content new) (long.rest, long.front))
          ∙ sym (content-file (content here) kept.in_use.file kept.in_use.is_file)

  -- the other file is shut, or begun to be
  module _ (new : D) where
    below : (y : List ℕ) → IsSameOrShut (content there) y → IsBelow kept.in_use.file.generation y
    below y (inl same) = subst (IsBelow kept.in_use.file.generation) (sym same) kept.in_use.other
    below y (inr shut) = inl shut

    pub other_images : AllSince (IsSameOrShut (content there)) (history new) (length (history there))
        → AllPairsSince (λ f. f ≡ Some (content_in (content here)))
        (history (at_place swapped here new)) (length (history (at_place swapped here there)))
        (history (at_place swapped new here)) (length (history (at_place swapped there here)))
    other_images since = other_since history Says swapped here there new first second
      where
        first : AllPairsSince Says (history here) (length (history here)) (history new) (length (history there))
        first x y left right =
            let x_is : x ≡ content here = settled_only (content here) x (subst (λ w. IsImage w x) kept.here_settled
            (now_only (history here) x left)) in
            subst (λ (l : List ℕ). Says (found l y)) (sym x_is)
            (found_first (content here) y kept.in_use.file kept.in_use.is_file (below y (since y right)) ∙ says_file)

        second : AllPairsSince Says (history new) (length (history there)) (history here) (length (history here))
        second x y left right =
            let y_is : y ≡ content here = settled_only (content here) y (subst (λ w. IsImage w y) kept.here_settled
            (now_only (history here) y right)) in
            subst (λ (l : List ℕ). Says (found x l)) (sym y_is)
            (found_second (content here) x kept.in_use.file kept.in_use.is_file (below x (since x left)) ∙ says_file)

    pub other_kept : window (history new) ≡ settled (content new) → IsShut (content new)
        → IsKept (content here) (content new) (history here) (history new) end layout generation base count
    other_kept is_settled shut = record {
      here_settled = kept.here_settled;
      there_settled = is_settled;
      in_use = record {
        file = kept.in_use.file;
        is_file = kept.in_use.is_file;
        ends = kept.in_use.ends;
        gate = kept.in_use.gate;
        laid = kept.in_use.laid;
        numbered = kept.in_use.numbered;
        before = kept.in_use.before;
        counted = kept.in_use.counted;
        other = inl shut;
      };
    }

pub later_there : {D : Type 0} (honest : D → Type 0) (history : D → List Change) (faults : D → ℕ) (swapped : Bool) (here there new : D)
    → IsLater honest history faults there new → AreLater honest history faults (at_place swapped here there) (at_place swapped there here)
    (at_place swapped here new) (at_place swapped new here)
later_there honest history faults true here there new later = record { a = later; b = later_begin honest history faults here }
later_there honest history faults false here there new later = record { a = later_begin honest history faults here; b = later }

-- a fault of the file in use is one of the two disks'
pub failed_here : {D : Type 0} (faults : D → ℕ) (swapped : Bool) (here there new : D) → HasGrown (faults here) (faults new)
    → HasFailed faults (at_place swapped here there) (at_place swapped there here) (at_place swapped new there) (at_place swapped there new)
failed_here faults true here there new grown = inr grown
failed_here faults false here there new grown = inl grown
