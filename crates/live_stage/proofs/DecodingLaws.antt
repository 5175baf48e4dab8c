-- Records decoded one after the other.
use Rattle.std.proofs.Common.{◌≡◌, ℕ, ◌+◌, ◌-◌, ◌^◌, ◌<◌, ◌∙◌, ap, arith, min, List, [], ◌∷◌, length, get_or, drop, Result, Ok, Err, Some, None, refl, sym, subst}
use Rattle.std.proofs.lemmas.List.{drop_more}
use Rattle.state_codec.specs.SavedState.{SavedState}
use Rattle.state_codec.specs.Answers.{GivesSaved}
use Rattle.state_codec.specs.declared.refusal.CodecError.{CodecError}
use Rattle.state_codec.specs.declared.refusal.CodecError.TheVariants.{NoMemory, BadOp, BadSnapshot}
use Rattle.live_stage.specs.declared.refusal.StartError.{StartError}
use Rattle.live_stage.specs.declared.refusal.StartError.TheVariants as start
use Rattle.live_stage.specs.declared.refusal.StartError.TheVariants.{Damaged}
use Rattle.live_stage.specs.Decoding.{GivesAfter, GivesState, snapshot_error}
use Rattle.state_codec.specs.Reading.{saved_reading}
use Rattle.live_stage.specs.Found.{after_record, records_reading, stored_reading}

-- these records are left, the state is the one before them, and the first one's gate has this offset, as far as offsets are counted
pub record IsReadTo (layout counted : ℕ) (s : SavedState) (rest : List (List ℕ)) (all : Result SavedState ℕ) : Type 0 where
  pub gate : ℕ
  pub counts : counted ≡ min gate (2 ^ 64 - 1)
  pub is : all ≡ records_reading layout gate rest s

pub begins : (layout : ℕ) (snapshot : List ℕ) (records : List (List ℕ)) (s : SavedState) (counted : ℕ)
    → saved_reading layout snapshot ≡ Ok s → counted ≡ min (32 + length snapshot) (2 ^ 64 - 1)
    → IsReadTo layout counted s records (stored_reading layout snapshot records)
unfolding stored_reading
begins layout snapshot records s counted read counts = record { gate = 32 + length snapshot; counts = counts; is = rw read refl }

pub bad_snapshot : (layout : ℕ) (snapshot : List ℕ) (records : List (List ℕ)) (at : ℕ) → saved_reading layout snapshot ≡ Err at
    → stored_reading layout snapshot records ≡ Err 32
unfolding stored_reading
bad_snapshot layout snapshot records at read = rw read refl

-- what reading a snapshot answers, where it is refused
pub refused_snapshot : (layout : ℕ) (snapshot : List ℕ) (records : List (List ℕ)) (e : CodecError)
    → GivesSaved (Err e) (saved_reading layout snapshot) → GivesState (Err (snapshot_error e)) (stored_reading layout snapshot records)
refused_snapshot layout snapshot records NoMemory gives = tt
refused_snapshot layout snapshot records (BadOp at) gives = elim gives [ ]
refused_snapshot layout snapshot records (BadSnapshot at) gives =
    subst (λ r. GivesState (Err (Damaged 32)) r) (sym (bad_snapshot layout snapshot records at gives)) refl

one_more : (layout gate : ℕ) (body : List ℕ) (bodies : List (List ℕ)) (s after : SavedState) → after_record layout body s ≡ Some after
    → records_reading layout gate (body ∷ bodies) s ≡ records_reading layout (gate + (5 + length body)) bodies after
one_more layout gate body bodies s after gives = rw gives refl

-- what is read behind one record more
pub read_on : (layout counted place middle next : ℕ) (records : List (List ℕ)) (body : List ℕ) (s after : SavedState)
    (all : Result SavedState ℕ) → place < length records → body ≡ get_or records place [] → after_record layout body s ≡ Some after
    → middle ≡ min (counted + 5) (2 ^ 64 - 1) → next ≡ min (middle + length body) (2 ^ 64 - 1)
    → IsReadTo layout counted s (drop place records) all → IsReadTo layout next after (drop (place + 1) records) all
read_on layout counted place middle next records body s after all within is gives plus behind read =
    let cut : drop place records ≡ body ∷ drop (place + 1) records =
    drop_more records place [] within ∙ ap (λ b. b ∷ drop (place + 1) records) (sym is) in
    record {
      gate = read.gate + (5 + length body);
      counts = omega (arith, read.counts, plus, behind);
      is = read.is ∙ ap (λ rest. records_reading layout read.gate rest s) cut
          ∙ one_more layout read.gate body (drop (place + 1) records) s after gives;
    }

no_more : (layout gate : ℕ) (body : List ℕ) (bodies : List (List ℕ)) (s : SavedState) → after_record layout body s ≡ None
    → records_reading layout gate (body ∷ bodies) s ≡ Err gate
no_more layout gate body bodies s gives = rw gives refl

-- what reading a record answers, where it is refused
pub refused_record : (layout counted place : ℕ) (records : List (List ℕ)) (body : List ℕ) (s new : SavedState) (e : StartError)
    (all : Result SavedState ℕ) → place < length records → body ≡ get_or records place []
    → GivesAfter counted (Err e) new (after_record layout body s) → IsReadTo layout counted s (drop place records) all
    → GivesState (Err e) all
refused_record layout counted place records body s new start.NotEmpty all within is gives read = elim gives [ ]
refused_record layout counted place records body s new start.NoJournal all within is gives read = elim gives [ ]
refused_record layout counted place records body s new (start.Damaged offset) all within is gives read =
    let cut : drop place records ≡ body ∷ drop (place + 1) records =
    drop_more records place [] within ∙ ap (λ b. b ∷ drop (place + 1) records) (sym is) in
    let whole : all ≡ Err read.gate = read.is ∙ ap (λ rest. records_reading layout read.gate rest s) cut
    ∙ no_more layout read.gate body (drop (place + 1) records) s gives.1 in
    subst (λ r. GivesState (Err (Damaged offset)) r) (sym whole) (gives.0 ∙ read.counts)
refused_record layout counted place records body s new start.NoMemory all within is gives read = tt
refused_record layout counted place records body s new start.NumbersSpent all within is gives read = elim gives [ ]
refused_record layout counted place records body s new start.Broken all within is gives read = elim gives [ ]
