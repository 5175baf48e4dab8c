-- A journal whose files are settled, and records more.
use Rattle.std.proofs.Common.{◌≡◌, ◌⊎◌, inl, inr, ℕ, ◌+◌, ◌^◌, ◌<◌, ◌≤◌, List, [], ◌∷◌, ◌++◌, length, length-append, take, append_assoc}
use Rattle.std.proofs.Common.{Option, Some, arith, lit<, refl, sym, ap, subst, ◌∙◌}
use Rattle.std.specs.Prelude.{slice_index, flat_map, unwrap_or, All}
use Rattle.std.specs.Result.{result_ok}
use Rattle.std.proofs.lemmas.Bool.{cases_eq}
use Rattle.std.proofs.lemmas.Grind.{flat_map-append}
use Rattle.std.proofs.lemmas.List.{append-nil, take_at, get_or_at}
use Rattle.std.proofs.lemmas.List.Elements.{All-append, All-nil}
use Rattle.disk_model.specs.History.{Change}
use Rattle.disk_model.specs.Images.{window, settled, IsImage}
use Rattle.disk_model.specs.Moments.{AllSince}
use Rattle.disk_model.proofs.MomentLaws.{now_only}
use Rattle.disk_model.proofs.WindowLaws.{settled_only}
use Rattle.play_journal.specs.Content.{Content, IsWrittenLayout, with_records, IsEither}
use Rattle.play_journal.specs.File.{open_gate, longest_body, head, gated, records_len, spelling, Fits, IsFile}
use Rattle.play_journal.specs.JournalState.{no_content, content_in, IsInUse, IsKept}
use Rattle.play_journal.specs.Opening.{IsAppending}
use Rattle.play_journal.specs.Pair.{found, IsBelow, AllPairsNow, AllPairsSince}
use Rattle.play_journal.proofs.FileLaws.{length-spelling, read-file}
use Rattle.play_journal.proofs.PairLaws.{found_first, found_second}

pub content-file : (bytes : List ℕ) (file : Content) → IsFile bytes file → content_in bytes ≡ file
content-file bytes file is = ap (λ r. unwrap_or (result_ok r) no_content) (read-file bytes file is)

module _ (here there : List ℕ) (end layout generation base count : ℕ) (used : IsInUse here there end layout generation base count) where
  -- what stands behind the closing gate is free
  pub parts : here ≡ spelling used.file ++ used.is_file.gate ∷ used.is_file.free
  parts = used.is_file.spelled

  pub front_is : take end here ≡ spelling used.file
  front_is = ap (λ (l : List ℕ). take end l) parts ∙ take_at (spelling used.file) (used.is_file.gate ∷ used.is_file.free) end used.gate

  pub gate_is : slice_index here end ≡ used.is_file.gate
  gate_is =
      ap (λ (l : List ℕ). slice_index l end) parts ∙ get_or_at (spelling used.file) used.is_file.gate used.is_file.free 0 end used.gate

  -- bytes behind the closed gate, or behind one that isn't open
  pub still_file : (x : List ℕ) (gate : ℕ) (rest : List ℕ) → (gate ≡ open_gate → ⊥) → x ≡ spelling used.file ++ gate ∷ rest
      → IsFile x used.file
  still_file x gate rest closed is = record { fits = used.is_file.fits; gate = gate; free = rest; closed = closed; spelled = is }

  module _ (bodies : List (List ℕ)) (added : List ℕ) (is_added : open_gate ∷ added ≡ flat_map gated bodies ++ 0 ∷ [])
      (short : All (λ body. length body ≤ longest_body) bodies) (number : base + count + length bodies < 2 ^ 64) where
    longer_fits : Fits (with_records used.file bodies)
    longer_fits = record {
      layout = used.is_file.fits.layout;
      generation = used.is_file.fits.generation;
      numbers = omega (arith, length-append used.file.records bodies, used.before, used.counted);
      snapshot = used.is_file.fits.snapshot;
      records = All-append (λ (b : List ℕ). length b ≤ longest_body) used.file.records bodies used.is_file.fits.records short;
    }

    longer_spelling : spelling (with_records used.file bodies) ≡ spelling used.file ++ flat_map gated bodies
    longer_spelling =
        let start : List ℕ = open_gate ∷ head used.file.layout used.file.generation used.file.base (length used.file.snapshot)
        ++ used.file.snapshot in
        ap (λ (l : List ℕ). start ++ l) (flat_map-append gated used.file.records bodies)
        ∙ sym (append_assoc start (flat_map gated used.file.records) (flat_map gated bodies))

    -- the records with what follows them
    added_parts : (rest : List ℕ) → open_gate ∷ added ++ rest ≡ flat_map gated bodies ++ 0 ∷ rest
    added_parts rest = ap (λ (l : List ℕ). l ++ rest) is_added ∙ append_assoc (flat_map gated bodies) (0 ∷ []) rest

    pub longer_file : (x rest : List ℕ) → x ≡ spelling used.file ++ (open_gate ∷ added ++ rest) → IsFile x (with_records used.file bodies)
    longer_file x rest is = record {
      fits = longer_fits;
      gate = 0;
      free = rest;
      closed = λ same. omega arith;
      spelled = is ∙ ap (λ (l : List ℕ). spelling used.file ++ l) (added_parts rest)
          ∙ sym (append_assoc (spelling used.file) (flat_map gated bodies) (0 ∷ rest))
          ∙ ap (λ (l : List ℕ). l ++ 0 ∷ rest) (sym longer_spelling);
    }

    -- each image is the file from before, or with all of the records
    pub either : (x : List ℕ) → IsAppending (take end here) (slice_index here end) added x
        → IsFile x used.file ⊎ IsFile x (with_records used.file bodies)
    either x (inl behind) = inl (still_file x used.is_file.gate behind.0 used.is_file.closed (behind.1
        ∙ ap (λ (l : List ℕ). l ++ slice_index here end ∷ behind.0) front_is
        ∙ ap (λ (n : ℕ). spelling used.file ++ n ∷ behind.0) gate_is))
    either x (inr before) =
        let rest : List ℕ = before.1 in
        let spelled : x ≡ spelling used.file ++ (before.0 ∷ added ++ rest) = before.2 ∙ ap (λ (l : List ℕ). l ++ (before.0 ∷ added ++ rest)) front_is in
        elim (cases_eq before.0 open_gate) [
          | inl opened ↦ inr (longer_file x rest (spelled ∙ ap (λ (n : ℕ). spelling used.file ++ (n ∷ added ++ rest)) opened))
          | inr closed ↦ inl (still_file x before.0 (added ++ rest) closed spelled)
        ]

    pub before_content : used.file ≡ content_in here
    before_content = sym (content-file here used.file used.is_file)

    -- the file in use after the last sync
    pub longer_in_use : (x rest : List ℕ) → x ≡ take end here ++ (open_gate ∷ added ++ rest)
        → IsInUse x there (end + records_len bodies) layout generation base (count + length bodies)
    longer_in_use x rest is =
        let spelled : x ≡ spelling used.file ++ (open_gate ∷ added ++ rest) = is ∙ ap (λ (l : List ℕ). l ++ (open_gate ∷ added ++ rest)) front_is in
        let size : length added ≡ records_len bodies = omega (
          arith,
          ap (λ (l : List ℕ). length l) is_added,
          length-append (flat_map gated bodies) (0 ∷ []),
        ) in
        record {
          file = with_records used.file bodies;
          is_file = longer_file x rest spelled;
          ends = omega (
            arith,
            ap (λ (l : List ℕ). length l) spelled,
            length-append (spelling used.file)
                (open_gate ∷ added ++ rest),
            length-append added rest,
            size,
            used.gate,
          );
          gate = omega (
            arith,
            ap (λ (l : List ℕ). length l) longer_spelling,
            length-append (spelling used.file) (flat_map gated bodies),
            used.gate,
          );
          laid = used.laid;
          numbered = used.numbered;
          before = used.before;
          counted = omega (arith, length-append used.file.records bodies, used.counted);
          other = used.other;
        }

    pub longer_content : (x rest : List ℕ) → x ≡ take end here ++ (open_gate ∷ added ++ rest)
        → content_in x ≡ with_records (content_in here) bodies
    longer_content x rest is =
        let spelled : x ≡ spelling used.file ++ (open_gate ∷ added ++ rest) = is ∙ ap (λ (l : List ℕ). l ++ (open_gate ∷ added ++ rest)) front_is in
        content-file x (with_records used.file bodies) (longer_file x rest spelled)
        ∙ ap (λ (c : Content). with_records c bodies) before_content

    -- what a restart finds
    abbrev pub IsOldOrLonger : Option Content → Type 0
    IsOldOrLonger f = IsEither (content_in here) (with_records (content_in here) bodies) f

    first_found : (x : List ℕ) → IsFile x used.file ⊎ IsFile x (with_records used.file bodies) → IsOldOrLonger (found x there)
    first_found x (inl before) = inl (found_first x there used.file before used.other ∙ ap Some before_content)
    first_found x (inr after) = inr (found_first x there (with_records used.file bodies) after used.other
        ∙ ap (λ (c : Content). Some (with_records c bodies)) before_content)

    second_found : (x : List ℕ) → IsFile x used.file ⊎ IsFile x (with_records used.file bodies) → IsOldOrLonger (found there x)
    second_found x (inl before) = inl (found_second x there used.file before used.other ∙ ap Some before_content)
    second_found x (inr after) = inr (found_second x there (with_records used.file bodies) after used.other
        ∙ ap (λ (c : Content). Some (with_records c bodies)) before_content)

    pub first_since : (h h' o : List Change) → window o ≡ settled there
        → AllSince (IsAppending (take end here) (slice_index here end) added) h' (length h)
        → AllPairsSince IsOldOrLonger h' (length h) o (length o)
    first_since h h' o is_settled since x y left right =
        let y_is : y ≡ there = settled_only there y (subst (λ w. IsImage w y) is_settled (now_only o y right)) in
        subst (λ (l : List ℕ). IsOldOrLonger (found x l)) (sym y_is) (first_found x (either x (since x left)))

    pub second_since : (h h' o : List Change) → window o ≡ settled there
        → AllSince (IsAppending (take end here) (slice_index here end) added) h' (length h)
        → AllPairsSince IsOldOrLonger o (length o) h' (length h)
    second_since h h' o is_settled since x y left right =
        let x_is : x ≡ there = settled_only there x (subst (λ w. IsImage w x) is_settled (now_only o x left)) in
        subst (λ (l : List ℕ). IsOldOrLonger (found l y)) (sym x_is) (second_found y (either y (since y right)))

  -- the one pair that a crash leaves of settled files
  now_first : found here there ≡ Some (content_in here)
  now_first = found_first here there used.file used.is_file used.other ∙ ap Some (sym (content-file here used.file used.is_file))

  now_second : found there here ≡ Some (content_in here)
  now_second = found_second here there used.file used.is_file used.other ∙ ap Some (sym (content-file here used.file used.is_file))

  pub all_first : (h o : List Change) → window h ≡ settled here → window o ≡ settled there
      → AllPairsNow (λ f. f ≡ Some (content_in here)) h o
  all_first h o here_settled there_settled x y left right =
      let x_is : x ≡ here = settled_only here x (subst (λ w. IsImage w x) here_settled left) in
      let y_is : y ≡ there = settled_only there y (subst (λ w. IsImage w y) there_settled right) in
      ap (λ (l : List ℕ). found l y) x_is ∙ ap (λ (l : List ℕ). found here l) y_is ∙ now_first

  pub all_second : (h o : List Change) → window h ≡ settled here → window o ≡ settled there
      → AllPairsNow (λ f. f ≡ Some (content_in here)) o h
  all_second h o here_settled there_settled x y left right =
      let x_is : x ≡ there = settled_only there x (subst (λ w. IsImage w x) there_settled left) in
      let y_is : y ≡ here = settled_only here y (subst (λ w. IsImage w y) here_settled right) in
      ap (λ (l : List ℕ). found l y) x_is ∙ ap (λ (l : List ℕ). found there l) y_is ∙ now_second

-- a new file without records
pub laid_file : (here snapshot : List ℕ) (layout generation base : ℕ) → IsWrittenLayout layout → here ≡ open_gate ∷ head layout generation base
    (length snapshot) ++ snapshot ++ 0 ∷ [] → generation < 2 ^ 64 → base < 2 ^ 64 → length snapshot < 2 ^ 32
    → IsFile here (record { layout = layout; generation = generation; base = base; snapshot = snapshot; records = [] })
laid_file here snapshot layout generation base known is generation_fits base_fits short = record {
  fits = record {
    layout = inr known;
    generation = generation_fits;
    numbers = omega arith;
    snapshot = short;
    records = All-nil (λ (b : List ℕ). length b ≤ longest_body);
  };
  gate = 0;
  free = [];
  closed = λ same. omega arith;
  spelled = is ∙ ap (λ (l : List ℕ). l ++ 0 ∷ []) (sym (append-nil (open_gate ∷ head layout generation base (length snapshot)
      ++ snapshot)));
}

-- it is in use beside a file that doesn't count
pub laid_in_use : (here there snapshot : List ℕ) (end layout generation base : ℕ) → IsWrittenLayout layout
    → here ≡ open_gate ∷ head layout generation base (length snapshot) ++ snapshot ++ 0 ∷ [] → end ≡ 32 + length snapshot
    → generation < 2 ^ 64 → base < 2 ^ 64 → length snapshot < 2 ^ 32 → IsBelow generation there
    → IsInUse here there end layout generation base 0
laid_in_use here there snapshot end layout generation base known is is_end generation_fits base_fits short below =
    let file : Content = record { layout = layout; generation = generation; base = base; snapshot = snapshot; records = [] } in
    let is_file = laid_file here snapshot layout generation base known is generation_fits base_fits short in
    let long : length (spelling file) ≡ end = length-spelling file ∙ omega arith in
    let spelled : here ≡ spelling file ++ 0 ∷ [] = is ∙ ap (λ (l : List ℕ). l
    ++ 0 ∷ []) (sym (append-nil (open_gate ∷ head layout generation base (length snapshot) ++ snapshot))) in
    record {
      file = file;
      is_file = is_file;
      ends = omega (arith, ap (λ (l : List ℕ). length l) spelled, length-append (spelling file) (0 ∷ []), long);
      gate = long;
      laid = refl;
      numbered = refl;
      before = refl;
      counted = refl;
      other = below;
    }

pub laid_content : (here snapshot : List ℕ) (layout generation base : ℕ) → IsWrittenLayout layout → here ≡ open_gate ∷ head layout generation base
    (length snapshot) ++ snapshot ++ 0 ∷ [] → generation < 2 ^ 64 → base < 2 ^ 64 → length snapshot < 2 ^ 32
    → content_in here ≡ record { layout = layout; generation = generation; base = base; snapshot = snapshot; records = [] }
laid_content here snapshot layout generation base known is generation_fits base_fits short =
    content-file here (record {
      layout = layout;
      generation = generation;
      base = base;
      snapshot = snapshot;
      records = [];
    }) (laid_file here snapshot layout generation base known is generation_fits base_fits short)

-- a journal that was just made
pub fresh_kept : (here there snapshot : List ℕ) (h o : List Change) (end layout : ℕ) → IsWrittenLayout layout
    → here ≡ open_gate ∷ head layout 1 0 (length snapshot) ++ snapshot ++ 0 ∷ [] → there ≡ [] → end ≡ 32 + length snapshot
    → length snapshot < 2 ^ 32
    → window h ≡ settled here → window o ≡ settled there → IsKept here there h o end layout 1 0 0
fresh_kept here there snapshot h o end layout known is empty is_end short here_settled there_settled = record {
  here_settled = here_settled;
  there_settled = there_settled;
  in_use = laid_in_use here there snapshot end layout 1 0 known is is_end (lit< tt) (lit< tt) short (inl (inl (subst (λ (l : List ℕ). length l < 32)
      (sym empty) (lit< tt))));
}
