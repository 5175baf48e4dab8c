-- Which of two files is in use, as the code finds it.
use Rattle.std.proofs.Common.{◌≡◌, ◌⊎◌, inl, inr, ℕ, ◌<◌, Bool, true, false, eqb, ltb, Result, Ok, Err, arith, refl}
use Rattle.std.proofs.lemmas.Bool.{ltb-true, ltb-false, eqb-false}
use Rattle.play_journal.specs.declared.refusal.JournalError.{JournalError}
use Rattle.play_journal.specs.declared.refusal.JournalError.TheVariants.{NoJournal, Damaged, DiskFault}
use Rattle.play_journal.specs.Opening.{chosen_file}
use Rattle.play_journal.specs.Reading.{Front, Closed, Bad, Open}

-- one front is open, and the other doesn't count beside it
pub record IsNewer (one other : Front) : Type 0 where
  pub generation : ℕ
  pub opened : one ≡ Open generation
  pub below : (other ≡ Closed) ⊎ ((lower : ℕ) × (lower < generation) × (other ≡ Open lower))

abbrev pub answer : Bool → Result Bool JournalError
answer b = Ok b

abbrev pub refusal : JournalError → Result Bool JournalError
refusal e = Err e

-- what the answer says of two fronts
abbrev Picks : Bool → Front → Front → Type 0
Picks true a b = IsNewer b a
Picks false a b = IsNewer a b

no_answer : (s : Bool) (e : JournalError) → answer s ≡ refusal e → ⊥
no_answer s e is = cc

same_answer : (s t : Bool) → answer s ≡ answer t → s ≡ t
same_answer s t is = cc

picks_open : (generation other : ℕ) (s same newer : Bool) → eqb generation other ≡ same → ltb generation other ≡ newer
    → answer s ≡ chosen_file (Open generation) (Open other) → Picks s (Open generation) (Open other)
picks_open generation other s true newer same_is newer_is is =
    let none : answer s ≡ refusal (Damaged 12) = rw same_is at is in
    absurd (no_answer s (Damaged 12) none)
picks_open generation other s false true same_is newer_is is =
    let second : answer s ≡ answer true = rw (same_is, newer_is) at is in
    let s_is : s ≡ true = same_answer s true second in
    rw s_is (record { generation = other; opened = refl; below = inr (generation, ltb-true generation other newer_is, refl) })
picks_open generation other s false false same_is newer_is is =
    let first : answer s ≡ answer false = rw (same_is, newer_is) at is in
    let s_is : s ≡ false = same_answer s false first in
    let differ = eqb-false generation other same_is in
    let least = ltb-false generation other newer_is in
    rw s_is (record { generation = generation; opened = refl; below = inr (other, omega arith, refl) })

picks : (a b : Front) (s : Bool) → answer s ≡ chosen_file a b → Picks s a b
picks (Bad offset) b s is = absurd (no_answer s (Damaged offset) is)
picks Closed (Bad offset) s is = absurd (no_answer s (Damaged offset) is)
picks (Open generation) (Bad offset) s is = absurd (no_answer s (Damaged offset) is)
picks Closed Closed s is = absurd (no_answer s NoJournal is)
picks (Open generation) Closed s is =
    let s_is : s ≡ false = same_answer s false is in
    rw s_is (record { generation = generation; opened = refl; below = inl refl })
picks Closed (Open generation) s is =
    let s_is : s ≡ true = same_answer s true is in
    rw s_is (record { generation = generation; opened = refl; below = inl refl })
picks (Open generation) (Open other) s is = picks_open generation other s (eqb generation other) (ltb generation other) refl refl is

picked : (a b : Front) (s : Bool) → (answer s ≡ refusal DiskFault) ⊎ (answer s ≡ chosen_file a b) → Picks s a b
picked a b s (inl failed) = absurd (no_answer s DiskFault failed)
picked a b s (inr is) = picks a b s is

pub second_newer : (a b : Front) (s : Bool) → s ≡ true → (answer s ≡ refusal DiskFault) ⊎ (answer s ≡ chosen_file a b) → IsNewer b a
second_newer a b s is chosen = rw is at (picked a b s chosen)

pub first_newer : (a b : Front) (s : Bool) → s ≡ false → (answer s ≡ refusal DiskFault) ⊎ (answer s ≡ chosen_file a b) → IsNewer a b
first_newer a b s is chosen = rw is at (picked a b s chosen)
