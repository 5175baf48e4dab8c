-- Room that is looked for: a restart finds the same state throughout.
use Rattle.std.proofs.Common.{◌≡◌, ◌≢◌, ◌⊎◌, inl, inr, ℕ, ◌+◌, ◌≤◌, ◌||◌, nat_lt, min, Bool, true, false, not, List, length, Result, Ok, Err}
use Rattle.std.proofs.Common.{Some, refl, sym, ap, subst, ◌∙◌, arith}
use Rattle.std.specs.Prelude.{IfErr, IfOk, MatchBool, OnOk}
use Rattle.std.proofs.lemmas.Bool.{false≢true, ltb-false, ltb-true, or_parts}
use Rattle.disk_model.specs.History.{Change}
use Rattle.disk_model.specs.Moments.{Continues}
use Rattle.play_journal.specs.Calls.{KeepsItsNumbers}
use Rattle.play_journal.specs.Content.{Content}
use Rattle.play_journal.specs.JournalState.{JournalState}
use Rattle.play_journal.specs.Pair.{AllPairsSince}
use Rattle.state_codec.specs.SavedState.{SavedState}
use Rattle.daemon_core.specs.State.{State}
use Rattle.live_stage.specs.declared.refusal.LiveError.{LiveError}
use Rattle.live_stage.specs.declared.refusal.LiveError.TheVariants.{Broken, NoMemory, NumbersSpent}
use Rattle.live_stage.specs.Found.{AllFindSince, state_of}
use Rattle.live_stage.specs.LiveState.{LiveState}
use Rattle.live_stage.specs.Numbers.{FileNumbers, greatest, is_due, most_work, next_file}
use Rattle.live_stage.specs.Turns.{CallsDisksAlone, HasBehind, HasRoom, IsCheckpointed, KeepsFileInUse, LooksForRoom, MakesOrNot}
use Rattle.live_stage.specs.Turns.{room_kept, taken_up}
use Rattle.live_stage.specs.Writing.{file_of}
use Rattle.live_stage.proofs.TurnLaws.{IsOtherKept, join_pairs, one_file, other_join, records_at_least, undue}

-- ---- what the files give

pub since_stands : (a b : List Change) (t u : ℕ) (content : Content) (s : SavedState) → state_of (Some content) ≡ Some s
    → AllPairsSince (λ f. f ≡ Some content) a t b u → AllFindSince (λ f. f ≡ Some s) a t b u
since_stands a b t u content s stands pairs x y at_x at_y = ap state_of (pairs x y at_x at_y) ∙ stands

-- in two phases that leave the same file alone
pub same_in_phases : {D : Type 0} (history : D → List Change) (in_b : Bool) (old between new : LiveState D)
    → IsOtherKept in_b old between → IsOtherKept in_b between new → between.state ≡ old.state
    → Continues (history old.a) (history between.a) → Continues (history between.a) (history new.a)
    → Continues (history old.b) (history between.b) → Continues (history between.b) (history new.b)
    → AllFindSince (λ f. f ≡ Some old.state.machine.saved)
    (history between.a) (length (history old.a)) (history between.b) (length (history old.b))
    → AllFindSince (λ f. f ≡ Some between.state.machine.saved)
    (history new.a) (length (history between.a)) (history new.b) (length (history between.b))
    → AllFindSince (λ f. f ≡ Some old.state.machine.saved)
    (history new.a) (length (history old.a)) (history new.b) (length (history old.b))
same_in_phases history in_b old between new first second same run_a more_a run_b more_b before after =
    join_pairs (λ f. f ≡ Some old.state.machine.saved) (history old.a) (history between.a) (history new.a) (history old.b)
    (history between.b) (history new.b) run_a more_a run_b more_b
    (one_file history in_b old new (other_join in_b old between new first second)) (λ one. before)
    (subst (λ (s : State). AllFindSince (λ f. f ≡ Some s.machine.saved) (history new.a) (length (history between.a)) (history new.b)
    (length (history between.b))) same after)

-- ---- which file is written

kept_at : {D : Type 0} (in_b : Bool) (old new : LiveState D) → MatchBool in_b (new.b ≡ old.b) (new.a ≡ old.a)
    → IsOtherKept (not in_b) old new
kept_at true old new kept = kept
kept_at false old new kept = kept

-- what leaves the file in use alone writes to the other one
pub other_written : {D : Type 0} (old new : LiveState D) → KeepsFileInUse old new → IsOtherKept (not old.is_in_b) old new
other_written old new kept = kept_at old.is_in_b old new kept

-- and from a stage that uses the same file
pub other_written_from : {D : Type 0} (old between new : LiveState D) → between.is_in_b ≡ old.is_in_b → KeepsFileInUse between new
    → IsOtherKept (not old.is_in_b) between new
other_written_from old between new same kept =
    subst (λ (in_b : Bool). IsOtherKept (not in_b) between new) same (other_written between new kept)

back_at : {D : Type 0} (in_b : Bool) (old new : LiveState D) → IsOtherKept (not in_b) old new
    → MatchBool in_b (new.b ≡ old.b) (new.a ≡ old.a)
back_at true old new kept = kept
back_at false old new kept = kept

pub in_use_kept : {D : Type 0} (old between new : LiveState D) → between.is_in_b ≡ old.is_in_b → KeepsFileInUse old between
    → KeepsFileInUse between new → KeepsFileInUse old new
in_use_kept old between new same first second =
    back_at old.is_in_b old new
    (other_join (not old.is_in_b) old between new (other_written old between first) (other_written_from old between new same second))

-- ---- numbers

pub file_stays : {D : Type 0} (old new : JournalState D) → KeepsItsNumbers old new → file_of new ≡ file_of old
file_stays old new is =
    let numbers : ℕ → ℕ → ℕ → ℕ → ℕ → FileNumbers = λ layout generation snapshot_len records bytes. record {
      layout = layout;
      generation = generation;
      snapshot_len = snapshot_len;
      records = records;
      bytes = bytes;
      is_put_off = false;
    } in
    ap (λ (n : ℕ). numbers n new.generation new.snapshot_len new.count new.bytes) is.layout
    ∙ ap (λ (n : ℕ). numbers old.layout n new.snapshot_len new.count new.bytes) is.generation
    ∙ ap (λ (n : ℕ). numbers old.layout old.generation n new.count new.bytes) is.snapshot_len
    ∙ ap (λ (n : ℕ). numbers old.layout old.generation old.snapshot_len n new.bytes) is.count
    ∙ ap (λ (n : ℕ). numbers old.layout old.generation old.snapshot_len old.count n) is.bytes

pub last_stays : {D : Type 0} (old new : JournalState D) → KeepsItsNumbers old new
    → min (new.base + new.count) greatest ≡ min (old.base + old.count) greatest
last_stays old new is =
    ap (λ (n : ℕ). min (n + new.count) greatest) is.base ∙ ap (λ (n : ℕ). min (old.base + n) greatest) is.count

-- ---- checkpoints

-- a checkpoint behind calls of the disks
pub checkpointed_on : {D : Type 0} (old between new : LiveState D) → CallsDisksAlone old between → IsCheckpointed between new
    → IsCheckpointed old new
checkpointed_on old between new same made = record {
  state = made.state ∙ same.state;
  numbers = made.numbers ∙ same.numbers;
  file = made.file ∙ ap (λ (s : State). next_file s.machine.saved between.file) same.state
      ∙ ap (λ (f : FileNumbers). next_file old.state.machine.saved f) same.file;
  work = made.work;
  other_file = made.other_file ∙ ap not same.same_file;
  usable = made.usable;
}

-- a checkpoint was just made
pub made_undue : {D : Type 0} (old between : LiveState D) → IsCheckpointed old between → is_due between.file ≡ false
made_undue old between made =
    let laid = next_file old.state.machine.saved old.file in
    let least = records_at_least laid.layout laid.snapshot_len in
    ap is_due made.file ∙ undue laid (omega (arith, least)) (omega arith)

-- ---- the whole: it begins with no checkpoint that is put off

abbrev pub begun : {D : Type 0} → LiveState D → LiveState D
begun old = record old { file = taken_up old.file }

-- one is to be made: it is due, or the records are much work
abbrev IsToBeMade : {D : Type 0} → LiveState D → Type 0
IsToBeMade live = (is_due live.file || nat_lt most_work live.work) ≡ true

pub due_begun : {D : Type 0} (old first : LiveState D) → first ≡ begun old → IsToBeMade first → is_due (taken_up old.file) ≡ false
    → old.work ≤ most_work → ⊥
due_begun {D} old first is due none light =
    let undue : is_due first.file ≡ false = ap (λ (v : LiveState D). is_due v.file) is ∙ none in
    let work : first.work ≡ old.work = ap (λ (v : LiveState D). v.work) is in
    let much : nat_lt most_work first.work ≡ true = ap (λ (b : Bool). b || nat_lt most_work first.work) (sym undue) ∙ due in
    let more = ltb-true most_work first.work much in
    omega arith

-- none is to be made
pub looks_alone : {D : Type 0} (old first new : LiveState D) → first ≡ begun old → is_due first.file ≡ false → CallsDisksAlone first new
    → LooksForRoom old new
looks_alone {D} old first new is none calls =
    let same : CallsDisksAlone (begun old) new = subst (λ (v : LiveState D). CallsDisksAlone v new) is calls in
    record {
      state = same.state;
      numbers = same.numbers;
      file = inr (same.file ∙ ap (λ (b : Bool). let f : FileNumbers = record old.file { is_put_off = b } in f)
          (sym (ap (λ (f : FileNumbers). f.is_put_off) same.file)));
      undue = ap is_due calls.file ∙ none;
      work = inr same.work;
      kept = λ still light. same.file;
      usable = same.usable;
    }

-- one is, and there is no room for it
pub looks_put_off : {D : Type 0} (old first between new : LiveState D) → first ≡ begun old → IsToBeMade first
    → CallsDisksAlone first between
    → new ≡ record between { file = record between.file { is_put_off = true } } → LooksForRoom old new
looks_put_off {D} old first between new is due calls put =
    let same : CallsDisksAlone (begun old) between = subst (λ (v : LiveState D). CallsDisksAlone v between) is calls in
    let with_it : FileNumbers → FileNumbers = λ f. record f { is_put_off = true } in
    let file : new.file ≡ with_it old.file = ap (λ (v : LiveState D). v.file) put ∙ ap with_it same.file in
    record {
      state = ap (λ (v : LiveState D). v.state) put ∙ same.state;
      numbers = ap (λ (v : LiveState D). v.numbers) put ∙ same.numbers;
      file = inr (file ∙ ap (λ (b : Bool). let f : FileNumbers = record old.file { is_put_off = b } in f)
          (sym (ap (λ (f : FileNumbers). f.is_put_off) file)));
      undue = ap is_due file;
      work = inr (ap (λ (v : LiveState D). v.work) put ∙ same.work);
      kept = λ none light. absurd (due_begun old first is due none light);
      usable = ap (λ (v : LiveState D). v.is_broken) put ∙ same.usable;
    }

-- it was made
pub looks_made : {D : Type 0} (old first between new : LiveState D) → first ≡ begun old → IsToBeMade first
    → IsCheckpointed first between
    → CallsDisksAlone between new → LooksForRoom old new
looks_made {D} old first between new is due laid same =
    let made : IsCheckpointed (begun old) between = subst (λ (v : LiveState D). IsCheckpointed v between) is laid in
    record {
      state = same.state ∙ made.state;
      numbers = same.numbers ∙ made.numbers;
      file = inl (same.file ∙ made.file);
      undue = ap is_due same.file ∙ made_undue (begun old) between made;
      work = inl (same.work ∙ made.work);
      kept = λ none light. absurd (due_begun old first is due none light);
      usable = same.usable;
    }

-- the files give the same since it began
pub since_begun : {D : Type 0} (history : D → List Change) (old first new : LiveState D) → first ≡ begun old
    → AllFindSince (λ f. f ≡ Some first.state.machine.saved)
    (history new.a) (length (history first.a)) (history new.b) (length (history first.b))
    → AllFindSince (λ f. f ≡ Some old.state.machine.saved)
    (history new.a) (length (history old.a)) (history new.b) (length (history old.b))
since_begun {D} history old first new is since =
    subst (λ (v : LiveState D). AllFindSince (λ f. f ≡ Some v.state.machine.saved)
    (history new.a) (length (history v.a)) (history new.b) (length (history v.b))) is since

-- neither is a checkpoint due nor are the records much work
pub record IsNeither (is_due_here : Bool) (work : ℕ) : Type 0 where
  pub undue : is_due_here ≡ false
  pub light : work ≤ most_work

pub neither_due : (is_due_here said : Bool) (work : ℕ) → said ≡ (is_due_here || nat_lt most_work work) → said ≡ false
    → IsNeither is_due_here work
neither_due is_due_here said work is none =
    let both = or_parts is_due_here (nat_lt most_work work) (sym is ∙ none) in
    record { undue = both.0; light = ltb-false most_work work both.1 }

-- and there is room
pub has_room : {D : Type 0} (content : D → List ℕ) (between new : LiveState D) → between.file.is_put_off ≡ false
    → IsNeither (is_due between.file) between.work → CallsDisksAlone between new → HasBehind content room_kept new → HasRoom content new
has_room content between new made neither same behind = record {
  made = ap (λ (f : FileNumbers). f.is_put_off) same.file ∙ made;
  undue = ap is_due same.file ∙ neither.undue;
  light = subst (λ (n : ℕ). n ≤ most_work) (sym same.work) neither.light;
  behind = behind;
}

-- so it is behind a checkpoint
pub made_neither : {D : Type 0} (old between : LiveState D) → IsCheckpointed old between → IsNeither (is_due between.file) between.work
made_neither old between made = record { undue = made_undue old between made; light = omega (arith, made.work) }

-- ---- what an answer says

pub on_ok_then : {T E P Q : Type 0} (r : Result T E) → OnOk r P → (P → Q) → OnOk r Q
on_ok_then (Ok x) p more = more p
on_ok_then (Err e) p more = tt

-- which refusals are left
pub only_these : {T B : Type 0} (r : Result T LiveError) → (r ≡ Err Broken → B) → r ≢ Err NoMemory
    → IfErr r (λ e. (e ≡ NumbersSpent) ⊎ ((e ≡ Broken) × B))
only_these (Ok x) breaks none = tt
only_these (Err Broken) breaks none = inr (refl, breaks refl)
only_these (Err NoMemory) breaks none = absurd (none refl)
only_these (Err NumbersSpent) breaks none = inl refl

-- one that is `true` where there is room
pub room_then : {E P : Type 0} {R S : Bool → Type 0} (r : Result Bool E) → OnOk r P → IfOk r R → ((b : Bool) → P → R b → S b) → IfOk r S
room_then (Ok b) p room more = more b p room
room_then (Err e) p room more = tt

pub was_made : {D : Type 0} (is_made : Bool) (old new : LiveState D) → is_made ≡ true → MakesOrNot is_made old new → IsCheckpointed old new
was_made true old new is made = made
was_made false old new is made = absurd (false≢true is)

pub not_made : {D : Type 0} (is_made : Bool) (old new : LiveState D) → is_made ≡ false → MakesOrNot is_made old new → CallsDisksAlone old new
not_made true old new is made = absurd (false≢true (sym is))
not_made false old new is made = made
