-- What two files give together.
use Rattle.std.proofs.Common.{◌≡◌, ◌⊎◌, inl, inr, ℕ, ◌<◌, Bool, true, false, eqb, ltb, List, ◌∷◌, length, Some, Result, Ok, Err, arith}
use Rattle.std.proofs.Common.{refl, sym, ap, subst, ◌∙◌}
use Rattle.std.specs.Prelude.{IsSome}
use Rattle.std.specs.Result.{result_ok}
use Rattle.std.proofs.lemmas.Bool.{false≢true, le-ltb, lt-ltb, ne_eqb, eqb-false, ltb-true, ltb-false}
use Rattle.disk_model.specs.Calls.{IsSameOrAdds}
use Rattle.disk_model.specs.History.{Change, Synced}
use Rattle.disk_model.specs.Images.{window, IsImage}
use Rattle.disk_model.specs.Moments.{AllSince, Continues}
use Rattle.disk_model.proofs.MomentLaws.{all_begin, all_step_or, all_join}
use Rattle.disk_model.proofs.WindowLaws.{settled_all}
use Rattle.play_journal.specs.declared.refusal.JournalError.{JournalError}
use Rattle.play_journal.specs.declared.refusal.JournalError.TheVariants.{NotEmpty, NoJournal, Damaged, DiskFault, NoMemory, TooLong}
use Rattle.play_journal.specs.declared.refusal.JournalError.TheVariants.{NumbersSpent, OldLayout}
use Rattle.play_journal.specs.Content.{Content}
use Rattle.play_journal.specs.File.{IsFile}
use Rattle.play_journal.specs.Opening.{ReadsSame, KeepsFile, IsCause}
use Rattle.play_journal.specs.Pair.{told, chosen, reading, found, IsBelow, IsPair, KeepsFound}
use Rattle.play_journal.specs.Reading.{Front, Closed, Bad, Open, front, read}
use Rattle.play_journal.proofs.FileLaws.{front-file, read-file, read-inverse}
use Rattle.play_journal.proofs.HeadLaws.{front-shut, front-open_at, shut-front, open_at-front}
use Rattle.play_journal.proofs.OpenLaws.{same_file}
use Rattle.play_journal.proofs.RecordLaws.{IsBytes}

-- files that read the same give the same
pub found_same : (x y v w : List ℕ) → ReadsSame x v → ReadsSame y w → found x y ≡ found v w
unfolding found
found_same x y v w first second =
    ap (λ f. result_ok (chosen f (front y) (read x) (read y))) first.front
    ∙ ap (λ f. result_ok (chosen (front v) f (read x) (read y))) second.front
    ∙ ap (λ r. result_ok (chosen (front v) (front w) r (read y))) first.read
    ∙ ap (λ r. result_ok (chosen (front v) (front w) (read v) r)) second.read

-- the fronts of files that don't count beside an open one
pub below_front : (generation : ℕ) (bytes : List ℕ) → IsBelow generation bytes
    → (front bytes ≡ Closed) ⊎ ((lower : ℕ) × (lower < generation) × (front bytes ≡ Open lower))
below_front generation bytes (inl shut) = inl (front-shut bytes shut)
below_front generation bytes (inr opened) = inr (opened.0, opened.1, front-open_at bytes opened.0 opened.2)

pub front_below : (generation : ℕ) (bytes : List ℕ) → IsBytes bytes → (front bytes ≡ Closed) ⊎ ((lower : ℕ) × (lower < generation)
    × (front bytes ≡ Open lower)) → IsBelow generation bytes
front_below generation bytes fits (inl shut) = inl (shut-front bytes shut)
front_below generation bytes fits (inr opened) = inr (opened.0, opened.1, open_at-front bytes opened.0 fits opened.2)

chosen_open_first : (generation lower : ℕ) (a b : Result Content ℕ) → lower < generation
    → chosen (Open generation) (Open lower) a b ≡ told a
chosen_open_first generation lower a b below =
    let differ : eqb generation lower ≡ false = ne_eqb generation lower (λ same. omega arith) in
    let less : ltb lower generation ≡ true = lt-ltb lower generation below in
    rw (differ, less) refl

chosen_open_second : (generation lower : ℕ) (a b : Result Content ℕ) → lower < generation
    → chosen (Open lower) (Open generation) b a ≡ told a
chosen_open_second generation lower a b below =
    let differ : eqb lower generation ≡ false = ne_eqb lower generation (λ same. omega arith) in
    let less : ltb generation lower ≡ false = le-ltb generation lower (omega arith) in
    rw (differ, less) refl

-- the first file is the one in use
pub reading_first : (x y : List ℕ) (generation : ℕ) → front x ≡ Open generation → IsBelow generation y → reading x y ≡ told (read x)
reading_first x y generation opened below = elim (below_front generation y below) [
  | inl shut ↦ ap (λ f. chosen f (front y) (read x) (read y)) opened ∙ ap (λ f. chosen (Open generation) f (read x) (read y)) shut
  | inr lower ↦ ap (λ f. chosen f (front y) (read x) (read y)) opened ∙ ap (λ f. chosen (Open generation) f (read x) (read y)) lower.2
      ∙ chosen_open_first generation lower.0 (read x) (read y) lower.1
]

-- the second is
pub reading_second : (x y : List ℕ) (generation : ℕ) → front x ≡ Open generation → IsBelow generation y → reading y x ≡ told (read x)
reading_second x y generation opened below = elim (below_front generation y below) [
  | inl shut ↦ ap (λ f. chosen (front y) f (read y) (read x)) opened ∙ ap (λ f. chosen f (Open generation) (read y) (read x)) shut
  | inr lower ↦ ap (λ f. chosen (front y) f (read y) (read x)) opened ∙ ap (λ f. chosen f (Open generation) (read y) (read x)) lower.2
      ∙ chosen_open_second generation lower.0 (read x) (read y) lower.1
]

pub found_first : (x y : List ℕ) (file : Content) → IsFile x file → IsBelow file.generation y → found x y ≡ Some file
unfolding found
found_first x y file is below =
    ap result_ok (reading_first x y file.generation (front-file x file is) below ∙ ap told (read-file x file is))

pub found_second : (x y : List ℕ) (file : Content) → IsFile x file → IsBelow file.generation y → found y x ≡ Some file
unfolding found
found_second x y file is below =
    ap result_ok (reading_second x y file.generation (front-file x file is) below ∙ ap told (read-file x file is))

-- ---- what each image reads as

pub keeps_pairs : (old_a old_b new_a new_b : List Change) → KeepsFile old_a new_a → KeepsFile old_b new_b
    → KeepsFound old_a old_b new_a new_b
keeps_pairs old_a old_b new_a new_b first second x y left right =
    let v = first x left in
    let w = second y right in
    (v.0, w.0, v.1, w.1, found_same x y v.0 w.0 v.2 w.2)

-- the file was synced, or wasn't
pub keeps_synced : (old new : List Change) (content : List ℕ) → IsImage (window old) content → IsSameOrAdds (Synced content) old new
    → KeepsFile old new
keeps_synced old new content image step =
    let P : List ℕ → Type 0 = λ x. (v : List ℕ) × IsImage (window old) v × ReadsSame x v in
    all_step_or P (Synced content) old new (length old) step (settled_all P (Synced content ∷ old) content refl
    (content, image, same_file content)) (all_begin P old (λ x left. (x, left, same_file x)))

-- and then each image read as what was synced
pub keeps_then : (old mid new : List Change) (content : List ℕ) → IsImage (window old) content → KeepsFile old mid → Continues mid new
    → AllSince (λ x. ReadsSame x content) new (length mid) → KeepsFile old new
keeps_then old mid new content image before run during =
    all_join (λ x. (v : List ℕ) × IsImage (window old) v × ReadsSame x v) mid new (length old) run before (λ x left.
    (content, image, during x left))

-- ---- what is found, and what the files are

told_ok : (r : Result Content ℕ) (content : Content) → result_ok (told r) ≡ Some content → r ≡ Ok content
told_ok (Ok found) content is = cc
told_ok (Err offset) content is = absurd cc

-- which of two files reads as the content
pub record Chosen (a b : Front) (ra rb : Result Content ℕ) (content : Content) : Type 0 where
  pub generation : ℕ
  pub one : ((a ≡ Open generation) × (ra ≡ Ok content) × ((b ≡ Closed) ⊎ ((lower : ℕ) × (lower < generation) × (b ≡ Open lower))))
      ⊎ ((b ≡ Open generation) × (rb ≡ Ok content) × ((a ≡ Closed) ⊎ ((lower : ℕ) × (lower < generation) × (a ≡ Open lower))))

not_told : (e : JournalError) (content : Content) → result_ok {E = JournalError} (Err e) ≡ Some content → ⊥
not_told e content is = cc

newest : (generation other : ℕ) (ra rb : Result Content ℕ) (content : Content) (same newer : Bool) → eqb generation other ≡ same
    → ltb other generation ≡ newer
    → result_ok (chosen (Open generation) (Open other) ra rb) ≡ Some content → Chosen (Open generation) (Open other) ra rb content
newest generation other ra rb content true newer same_is newer_is is =
    let none : result_ok {E = JournalError} (Err (Damaged 12)) ≡ Some content = rw same_is at is in
    absurd (not_told (Damaged 12) content none)
newest generation other ra rb content false true same_is newer_is is =
    let first : result_ok (told ra) ≡ Some content = rw (same_is, newer_is) at is in
    record { generation = generation; one = inl (refl, told_ok ra content first, inr (other, ltb-true other generation newer_is, refl)) }
newest generation other ra rb content false false same_is newer_is is =
    let second : result_ok (told rb) ≡ Some content = rw (same_is, newer_is) at is in
    let differ = eqb-false generation other same_is in
    let least = ltb-false other generation newer_is in
    record { generation = other; one = inr (refl, told_ok rb content second, inr (generation, omega arith, refl)) }

pub chosen-inverse : (a b : Front) (ra rb : Result Content ℕ) (content : Content) → result_ok (chosen a b ra rb) ≡ Some content
    → Chosen a b ra rb content
chosen-inverse (Bad offset) b ra rb content is = absurd (not_told (Damaged offset) content is)
chosen-inverse Closed (Bad offset) ra rb content is = absurd (not_told (Damaged offset) content is)
chosen-inverse (Open generation) (Bad offset) ra rb content is = absurd (not_told (Damaged offset) content is)
chosen-inverse Closed Closed ra rb content is = absurd (not_told NoJournal content is)
chosen-inverse (Open generation) Closed ra rb content is = record {
  generation = generation;
  one = inl (refl, told_ok ra content is, inl refl);
}
chosen-inverse Closed (Open generation) ra rb content is = record {
  generation = generation;
  one = inr (refl, told_ok rb content is, inl refl);
}
chosen-inverse (Open generation) (Open other) ra rb content is = newest generation other ra rb content (eqb generation other)
    (ltb other generation) refl refl is

pub pair-found : (a b : List ℕ) (content : Content) → IsBytes a → IsBytes b → found a b ≡ Some content → IsPair a b content
unfolding found
pair-found a b content first second is =
    let one = chosen-inverse (front a) (front b) (read a) (read b) content is in
    elim one.one [
      | inl here ↦
          let own = read-inverse a one.generation content first here.0 here.1 in
          subst (λ (file : Content). IsPair a b file) own.says
          (inl (own.is_file, subst (λ (n : ℕ). IsBelow n b) (sym own.generation_is) (front_below one.generation b second here.2)))
      | inr there ↦
          let own = read-inverse b one.generation content second there.0 there.1 in
          subst (λ (file : Content). IsPair a b file) own.says
          (inr (own.is_file, subst (λ (n : ℕ). IsBelow n a) (sym own.generation_is) (front_below one.generation a first there.2)))
    ]

pub found-pair : (a b : List ℕ) (file : Content) → IsPair a b file → found a b ≡ Some file
found-pair a b file (inl first) = found_first a b file first.0 first.1
found-pair a b file (inr second) = found_second b a file second.0 second.1

not_some : (e : JournalError) (r : Result Content JournalError) → r ≡ Err e → IsSome (result_ok r) → ⊥
not_some e r is some = false≢true (rw is at some)

-- where something is found, only memory or a disk can be wanting
pub opens : (r : Result Content JournalError) (e : JournalError) → IsSome (result_ok r) → IsCause r e → (e ≡ NoMemory) ⊎ (e ≡ DiskFault)
opens r NotEmpty some cause = absurd cause
opens r NoJournal some cause = absurd (not_some NoJournal r cause some)
opens r (Damaged offset) some cause = absurd (not_some (Damaged offset) r cause some)
opens r DiskFault some cause = inr refl
opens r NoMemory some cause = inl refl
opens r TooLong some cause = absurd cause
opens r NumbersSpent some cause = absurd cause
opens r OldLayout some cause = absurd cause

pub pair_opens : (a b : List ℕ) (e : JournalError) → IsSome (found a b) → IsCause (reading a b) e → (e ≡ NoMemory) ⊎ (e ≡ DiskFault)
unfolding found
pair_opens a b e some cause = opens (reading a b) e some cause

pub found-reading : (a b : List ℕ) (content : Content) → reading a b ≡ Ok content → found a b ≡ Some content
unfolding found
found-reading a b content is = ap result_ok is

same_found : (x y : Content) → Some x ≡ Some y → x ≡ y
same_found x y is = cc

-- what is found is what is read
pub reading-found : (a b : List ℕ) (x y : Content) → reading a b ≡ Ok x → found a b ≡ Some y → x ≡ y
reading-found a b x y is told = same_found x y (sym (found-reading a b x is) ∙ told)
