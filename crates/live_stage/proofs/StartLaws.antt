-- Two files as a stage is made or opened over them.
use Rattle.std.proofs.Common.{◌≡◌, inl, inr, ℕ, ◌+◌, ◌-◌, ◌^◌, ◌<◌, ◌≤◌, min, List, [], ◌∷◌, length, length-append, Some, None, Bool, cond, Result}
use Rattle.std.proofs.Common.{Ok, Err, true, false, refl, ap, ◌∙◌, arith}
use Rattle.std.specs.Prelude.{IsSome, flat_map, Option, option_map}
use Rattle.std.specs.Option.{ok_or, option_and_then}
use Rattle.std.specs.Result.{result_ok}
use Rattle.play_journal.specs.declared.refusal.JournalError.{JournalError}
use Rattle.play_journal.specs.declared.refusal.JournalError.TheVariants as journal
use Rattle.play_journal.specs.Content.{Content, fresh}
use Rattle.play_journal.specs.Calls.{RefusesInOrder}
use Rattle.play_journal.specs.Errors.{IsRefusalOfCreate, IsRefusalOfCheckpoint}
use Rattle.play_journal.specs.JournalState.{JournalState}
use Rattle.play_journal.specs.File.{IsFile, gated, spelling}
use Rattle.disk_model.specs.History.{Change}
use Rattle.disk_model.specs.Moments.{Continues}
use Rattle.disk_model.proofs.MomentLaws.{now_only, continues_same}
use Rattle.play_journal.specs.Pair.{reading, found, IsPair, KeepsFound}
use Rattle.play_journal.proofs.FileLaws.{length-spelling}
use Rattle.play_journal.proofs.PairLaws.{pair-found}
use Rattle.play_journal.proofs.RecordLaws.{IsBytes}
use Rattle.profile.specs.declared.profile.Profile.{Profile}
use Rattle.profile.specs.declared.profile.Profile.TheVariants.{Named, Wide}
use Rattle.state_codec.specs.Layout.{written_layout}
use Rattle.state_codec.specs.SavedState.{SavedState, IsSavedState}
use Rattle.state_codec.specs.Longest.{longest_snapshot}
use Rattle.state_codec.specs.Spelling.{saved_bytes}
use Rattle.state_codec.specs.Reading.{saved_reading}
use Rattle.state_codec.specs.Steps.{◌>>=◌}
use Rattle.state_codec.proofs.LengthLaws.{snapshot_len}
use Rattle.state_codec.proofs.SavedLaws.{snapshot_again}
use Rattle.live_stage.specs.declared.refusal.StartError.{StartError}
use Rattle.live_stage.specs.declared.refusal.StartError.TheVariants.{NotEmpty, NoJournal, Damaged, NoMemory, NumbersSpent, Broken}
use Rattle.live_stage.specs.Decoding.{GivesState}
use Rattle.live_stage.specs.Numbers.{Numbers, numbers_found}
use Rattle.live_stage.specs.declared.refusal.LiveError.TheVariants as turns
use Rattle.live_stage.specs.Errors.{IsCause, start_error}
use Rattle.live_stage.specs.Found.{after_record, records_reading, stored_reading, content_reading, state_of, found_state, FindsAsBefore}
use Rattle.live_stage.specs.Found.{brought, is_read, taken_state, AllOpenNow, AllOpenSince, KeepsFoundState}
use Rattle.live_stage.proofs.ProfileLaws.{taken_none}

-- a pair that reads so is found so
pub found_as_read : (x y : List ℕ) (content : Content) → reading x y ≡ Ok content → found x y ≡ Some content
unfolding found
found_as_read x y content read = ap result_ok read

-- content whose parts are read so stands for this state
pub stands : (content : Content) (layout : ℕ) (snapshot : List ℕ) (records : List (List ℕ)) (s : SavedState)
    → content.layout ≡ layout → snapshot ≡ content.snapshot → records ≡ content.records → stored_reading layout snapshot records ≡ Ok s
    → state_of (Some content) ≡ Some s
stands content layout snapshot records s own_layout own_snapshot own_records read =
    let whole : content_reading content ≡ Ok s = rw (own_layout, ← own_snapshot, ← own_records) read in
    ap result_ok whole

pub found_so : (p : Profile) (x y : List ℕ) (content : Content) (s : SavedState) → reading x y ≡ Ok content
    → taken_state p content ≡ Some s → found_state p x y ≡ Some s
found_so p x y content s read stood = ap (option_and_then (taken_state p)) (found_as_read x y content read) ∙ stood

-- a new journal stands for the state that its snapshot spells
pub fresh_stands : (content : Content) (layout : ℕ) (snapshot : List ℕ) (s : SavedState) → layout ≡ written_layout s.profile
    → content ≡ fresh layout snapshot → snapshot ≡ saved_bytes s
    → IsSavedState s → state_of (Some content) ≡ Some s
unfolding stored_reading
fresh_stands content layout snapshot s own is spelled good =
    let read : saved_reading layout snapshot ≡ Ok s =
    ap (λ (n : ℕ). saved_reading n snapshot) own ∙ ap (λ b. saved_reading (written_layout s.profile) b) spelled ∙ snapshot_again s good in
    ap (λ c. state_of (Some c)) is ∙ rw read refl

-- ---- how large a file is

-- the gate of the record that stands for none lies in the file
records_within : (layout gate : ℕ) (bodies : List (List ℕ)) (s : SavedState) (at : ℕ) → records_reading layout gate bodies s ≡ Err at
    → at ≤ gate + length (flat_map gated bodies)
records_within layout gate [] s at is = absurd cc
records_within layout gate (body ∷ bodies) s at is =
    (elim (after_record layout body s) as
    (λ o. (ok_or {E = ℕ} o gate >>= λ t. records_reading layout (gate + (5 + length body)) bodies t) ≡ Err at
    → at ≤ gate + length (flat_map gated (body ∷ bodies))) [
      | None ↦ λ e. let same : gate ≡ at = (cc) in omega arith
      | Some t ↦ λ e. let behind = records_within layout (gate + (5 + length body)) bodies t at e in omega (
        arith,
        behind,
        length-append (gated body) (flat_map gated bodies),
      )
    ]) is

stored_within : (layout : ℕ) (snapshot : List ℕ) (bodies : List (List ℕ)) (at : ℕ) → stored_reading layout snapshot bodies ≡ Err at
    → at ≤ 32 + length snapshot + length (flat_map gated bodies)
unfolding stored_reading
stored_within layout snapshot bodies at is =
    (elim (result_ok (saved_reading layout snapshot)) as
    (λ o. (ok_or {E = ℕ} o 32 >>= λ t. records_reading layout (32 + length snapshot) bodies t) ≡ Err at
    → at ≤ 32 + length snapshot + length (flat_map gated bodies)) [
      | None ↦ λ e. let same : 32 ≡ at = (cc) in omega arith
      | Some t ↦ λ e. records_within layout (32 + length snapshot) bodies t at e
    ]) is

-- one of two files is this one
file_size : (bytes : List ℕ) (file : Content) → IsFile bytes file
    → 32 + length file.snapshot + length (flat_map gated file.records) ≤ length bytes
file_size bytes file is =
    omega (arith, ap length is.spelled, length-append (spelling file) (is.gate ∷ is.free), length-spelling file)

pub record IsSmall (content : Content) : Type 0 where
  pub size : 32 + length content.snapshot + length (flat_map gated content.records) < 2 ^ 64
  pub numbers : content.base + length content.records < 2 ^ 64

small_file : (bytes : List ℕ) (file : Content) → length bytes < 2 ^ 63 → IsFile bytes file → IsSmall file
small_file bytes file short is = record { size = omega (arith, file_size bytes file is); numbers = is.fits.numbers }

small_pair : (a b : List ℕ) (file : Content) → length a < 2 ^ 63 → length b < 2 ^ 63 → IsPair a b file → IsSmall file
small_pair a b file short_a short_b (inl first) = small_file a file short_a first.0
small_pair a b file short_a short_b (inr second) = small_file b file short_b second.0

-- content that is found in files that are not too long has small numbers
pub found_small : (a b : List ℕ) (content : Content) → IsBytes a → IsBytes b → length a < 2 ^ 63 → length b < 2 ^ 63
    → reading a b ≡ Ok content → IsSmall content
found_small a b content bytes_a bytes_b short_a short_b read =
    small_pair a b content short_a short_b (pair-found a b content bytes_a bytes_b (found_as_read a b content read))

-- ---- content that stands for no state

damaged_at : (offset : ℕ) (r : Result SavedState ℕ) → GivesState (Err (Damaged offset)) r
    → (at : ℕ) × (r ≡ Err at) × (offset ≡ min at (2 ^ 64 - 1))
damaged_at offset (Ok s) gives = elim gives [ ]
damaged_at offset (Err at) gives = (at, refl, gives)

-- a pair of files that was read as this content
pub record WasRead (a b : List ℕ) (content : Content) (layout : ℕ) (snapshot : List ℕ) (records : List (List ℕ)) : Type 0 where
  pub read : reading a b ≡ Ok content
  pub same_layout : content.layout ≡ layout
  pub same_snapshot : snapshot ≡ content.snapshot
  pub same_records : records ≡ content.records
  pub small : IsSmall content

pub refused_content : (p : Profile) (a b : List ℕ) (content : Content) (layout : ℕ) (snapshot : List ℕ) (records : List (List ℕ)) (e : StartError)
    → WasRead a b content layout snapshot records → is_read p layout ≡ true
    → GivesState (Err e) (stored_reading layout snapshot records) → IsCause p a b e
refused_content p a b content layout snapshot records NotEmpty was known gives = gives
refused_content p a b content layout snapshot records NoJournal was known gives = elim gives [ ]
refused_content p a b content layout snapshot records (Damaged offset) was known gives =
    let told = damaged_at offset (stored_reading layout snapshot records) gives in
    let bad : content_reading content ≡ Err told.0 = rw (was.same_layout, ← was.same_snapshot, ← was.same_records) told.1 in
    let within = stored_within content.layout content.snapshot content.records told.0 bad in
    let same : told.0 ≡ offset = omega (arith, within, was.small.size, told.2) in
    let reads : is_read p content.layout ≡ true = ap (λ (n : ℕ). is_read p n) was.same_layout ∙ known in
    inr (inl (record { content = content; read = was.read; known = reads; bad = bad ∙ ap Err same }))
refused_content p a b content layout snapshot records NoMemory was known gives = tt
refused_content p a b content layout snapshot records NumbersSpent was known gives = elim gives [ ]
refused_content p a b content layout snapshot records Broken was known gives = tt

nothing_of : (b : Bool) (o : Option SavedState) → o ≡ None → cond b o None ≡ None
nothing_of true o is = is
nothing_of false o is = refl

-- content that stands for no state gives none under any profile
nothing_taken : (p : Profile) (content : Content) (at : ℕ) → content_reading content ≡ Err at → taken_state p content ≡ None
nothing_taken p content at bad =
    nothing_of (is_read p content.layout) (option_map (brought p) (state_of (Some content)))
    (ap (λ (r : Result SavedState ℕ). option_map (brought p) (result_ok r)) bad)

-- a layout that isn't read
pub unread_cause : (p : Profile) (a b : List ℕ) (content : Content) (layout : ℕ) → reading a b ≡ Ok content → content.layout ≡ layout
    → is_read p layout ≡ false → IsCause p a b (Damaged 8)
unread_cause p a b content layout read same unread =
    inr (inr (record { content = content; read = read; unread = ap (λ (n : ℕ). is_read p n) same ∙ unread; at = refl }))

pub unread_none : (p : Profile) (a b : List ℕ) (content : Content) (layout : ℕ) → reading a b ≡ Ok content → content.layout ≡ layout
    → is_read p layout ≡ false → IsSome (found_state p a b) → ⊥
unread_none p a b content layout read same unread some =
    let none : found_state p a b ≡ None = ap (option_and_then (taken_state p)) (found_as_read a b content read)
    ∙ taken_none p content (ap (λ (n : ℕ). is_read p n) same ∙ unread) in
    let no : IsSome {T = SavedState} None = rw none at some in
    cc

-- a pair that gives a state is read, unless memory is wanting
pub refused_good : (p : Profile) (a b : List ℕ) (content : Content) (layout : ℕ) (snapshot : List ℕ) (records : List (List ℕ)) (e : StartError)
    → WasRead a b content layout snapshot records → IsSome (found_state p a b) → GivesState (Err e) (stored_reading layout snapshot records)
    → e ≡ NoMemory
refused_good p a b content layout snapshot records NotEmpty was some gives = elim gives [ ]
refused_good p a b content layout snapshot records NoJournal was some gives = elim gives [ ]
refused_good p a b content layout snapshot records (Damaged offset) was some gives =
    let told = damaged_at offset (stored_reading layout snapshot records) gives in
    let bad : content_reading content ≡ Err told.0 = rw (was.same_layout, ← was.same_snapshot, ← was.same_records) told.1 in
    let none : found_state p a b ≡ None = ap (option_and_then (taken_state p)) (found_as_read a b content was.read)
    ∙ nothing_taken p content told.0 bad in
    let no : IsSome {T = SavedState} None = rw none at some in
    absurd cc
refused_good p a b content layout snapshot records NoMemory was some gives = refl
refused_good p a b content layout snapshot records NumbersSpent was some gives = elim gives [ ]
refused_good p a b content layout snapshot records Broken was some gives = elim gives [ ]

-- ---- a snapshot is never too long

within_length : (p : Profile) → longest_snapshot p ≤ 4294967295
within_length Named = omega arith
within_length Wide = omega arith

fault_of_create : (e : JournalError) → IsRefusalOfCreate e → (e ≡ journal.TooLong → ⊥) → start_error e ≡ Broken → e ≡ journal.DiskFault
fault_of_create journal.NotEmpty one short is = cc
fault_of_create journal.NoJournal one short is = cc
fault_of_create (journal.Damaged offset) one short is = cc
fault_of_create journal.DiskFault one short is = refl
fault_of_create journal.NoMemory one short is = cc
fault_of_create journal.TooLong one short is = absurd (short refl)
fault_of_create journal.NumbersSpent one short is = elim one [ ]
fault_of_create journal.OldLayout one short is = elim one [ ]

-- a journal that was not made for want of a disk
pub only_a_fault : (e : JournalError) (snapshot : List ℕ) (s : SavedState) → snapshot ≡ saved_bytes s → IsSavedState s
    → IsRefusalOfCreate e → (e ≡ journal.TooLong → 4294967295 < length snapshot) → start_error e ≡ Broken → e ≡ journal.DiskFault
only_a_fault e snapshot s spelled good one too_long is =
    let short : length (saved_bytes s) ≤ longest_snapshot s.profile = snapshot_len s good in
    fault_of_create e one (λ t. let too = too_long t in omega (arith, too, ap length spelled, short, within_length s.profile)) is

-- a journal that was not made over files that have bytes
pub only_not_empty : (e : JournalError) → start_error e ≡ NotEmpty → e ≡ journal.NotEmpty
only_not_empty journal.NotEmpty is = refl
only_not_empty journal.NoJournal is = cc
only_not_empty (journal.Damaged offset) is = cc
only_not_empty journal.DiskFault is = cc
only_not_empty journal.NoMemory is = cc
only_not_empty journal.TooLong is = cc
only_not_empty journal.NumbersSpent is = cc
only_not_empty journal.OldLayout is = cc

-- ---- the phases of an opening

-- up to its middle a restart finds what it might have found before
found_as_before : (p : Profile) (old_a old_b new_a new_b : List Change) → KeepsFound old_a old_b new_a new_b
    → FindsAsBefore p old_a old_b new_a new_b
found_as_before p old_a old_b new_a new_b kept x y lx ly =
    let was = kept x y lx ly in (was.0, was.1, was.2, was.3, ap (option_and_then (taken_state p)) was.4)

-- nothing was done
pub nothing_done : (p : Profile) (a b : List Change) → KeepsFoundState p a b a b
nothing_done p a b = record {
  middle_a = a;
  middle_b = b;
  in_a = record { before = continues_same a; behind = continues_same a };
  in_b = record { before = continues_same b; behind = continues_same b };
  first = λ x y lx ly. (x, y, now_only a x lx, now_only b y ly, refl);
  second = inl (refl, refl);
}

-- the journal was opened, and nothing was done behind that
pub opening_done : (p : Profile) (old_a old_b new_a new_b : List Change) → Continues old_a new_a → Continues old_b new_b
    → KeepsFound old_a old_b new_a new_b → KeepsFoundState p old_a old_b new_a new_b
opening_done p old_a old_b new_a new_b run_a run_b kept = record {
  middle_a = new_a;
  middle_b = new_b;
  in_a = record { before = run_a; behind = continues_same new_a };
  in_b = record { before = run_b; behind = continues_same new_b };
  first = found_as_before p old_a old_b new_a new_b kept;
  second = inl (refl, refl);
}

-- the journal was opened, and behind that a restart finds this state
pub opening_goes_on : (p : Profile) (old_a old_b middle_a middle_b new_a new_b : List Change) (s : SavedState)
    → Continues old_a middle_a → Continues old_b middle_b → Continues middle_a new_a → Continues middle_b new_b
    → KeepsFound old_a old_b middle_a middle_b → AllOpenNow p (λ f. f ≡ Some s) middle_a middle_b
    → AllOpenSince p (λ f. f ≡ Some s) new_a (length middle_a) new_b (length middle_b) → KeepsFoundState p old_a old_b new_a new_b
opening_goes_on p old_a old_b middle_a middle_b new_a new_b s run_a run_b more_a more_b kept first since = record {
  middle_a = middle_a;
  middle_b = middle_b;
  in_a = record { before = run_a; behind = more_a };
  in_b = record { before = run_b; behind = more_b };
  first = found_as_before p old_a old_b middle_a middle_b kept;
  second = inr (record { state = s; first = first; since = since });
}

-- the numbers of a stage over a journal that was opened
pub numbers_are : (content : Content) (base count : ℕ) → content.base ≡ base → length content.records ≡ count → base + count < 2 ^ 64
    → record { event = 0; last_record = min (base + count) (2 ^ 64 - 1) } ≡ numbers_found content
numbers_are content base count is_base is_count small =
    let numbers : ℕ → Numbers = λ last. record { event = 0; last_record = last } in
    let last : min (base + count) (2 ^ 64 - 1) ≡ content.base + length content.records = omega (arith, is_base, is_count, small) in
    ap (λ (n : ℕ). numbers n) last

-- ---- a checkpoint

only_fault : (e : JournalError) → IsRefusalOfCheckpoint e → (e ≡ journal.TooLong → ⊥) → (e ≡ journal.NumbersSpent → ⊥) → e ≡ journal.DiskFault
only_fault journal.NotEmpty one short next = elim one [ ]
only_fault journal.NoJournal one short next = elim one [ ]
only_fault (journal.Damaged offset) one short next = elim one [ ]
only_fault journal.DiskFault one short next = refl
only_fault journal.NoMemory one short next = elim one [ ]
only_fault journal.TooLong one short next = absurd (short refl)
only_fault journal.NumbersSpent one short next = absurd (next refl)
only_fault journal.OldLayout one short next = elim one [ ]

-- a checkpoint that was not made for want of a disk
pub checkpoint_fault : {D : Type 0} (old new : JournalState D) (e : JournalError) (snapshot : List ℕ) (s : SavedState)
    → snapshot ≡ saved_bytes s → IsSavedState s → old.is_spent ≡ false → (old.generation ≡ 2 ^ 64 - 1 → ⊥) → IsRefusalOfCheckpoint e
    → RefusesInOrder {T = Unit {0}} old new 4294967295 (length snapshot) old.generation (Err e)
    → e ≡ journal.DiskFault
checkpoint_fault old new e snapshot s spelled good usable next one refuses =
    let short : length (saved_bytes s) ≤ longest_snapshot s.profile = snapshot_len s good in
    let fits : length snapshot ≤ 4294967295 = omega (arith, short, ap length spelled, within_length s.profile) in
    only_fault e one (λ t. let too = (refuses.too_long usable).0 (ap Err t) in omega (arith, too, fits))
    (λ t. next ((refuses.numbers_spent usable fits).0 (ap Err t)))
