-- A turn in two phases: it makes the checkpoint that is due, if one is, and then handles its event. Both write to the same file alone.
use Rattle.std.proofs.Common.{◌≡◌, ◌⊎◌, inl, inr, ℕ, ◌+◌, ◌<◌, ◌≤◌, min, Bool, true, false, not, ◌&&◌, ◌||◌, nat_le, nat_lt, List, [], ◌∷◌}
use Rattle.std.proofs.Common.{◌++◌, length, length-append, Option, Some}
use Rattle.std.proofs.Common.{Result, Ok, Err, refl, sym, ap, subst, ◌∙◌, arith}
use Rattle.std.specs.Prelude.{MatchBool, ◌/◌, ◌==◌, max, if◌then◌else◌}
use Rattle.std.proofs.lemmas.Bool.{and_right, lt-leb, le-ltb, leb-false, ltb-false, or_from, or_parts}
use Rattle.std.proofs.lemmas.List.{nil_from_length}
use Rattle.disk_model.specs.History.{Change}
use Rattle.disk_model.specs.Moments.{LeftSince, Continues}
use Rattle.disk_model.proofs.MomentLaws.{now_only, left_split}
use Rattle.play_journal.specs.Calls.{IsNew, IsNextGeneration, AreItsNumbers, StaysInFile as StaysInItsFile}
use Rattle.play_journal.specs.Content.{Content, IsEither, third_layout}
use Rattle.play_journal.specs.File.{longest_body}
use Rattle.play_journal.specs.JournalState.{JournalState}
use Rattle.play_journal.specs.Pair.{AllPairsNow, AllPairsSince}
use Rattle.profile.specs.declared.profile.Profile.{Profile}
use Rattle.state_codec.specs.declared.op.Op.{Op}
use Rattle.state_codec.specs.Layout.{written_layout}
use Rattle.state_codec.specs.SavedState.{SavedState}
use Rattle.state_codec.specs.Spelling.{body_bytes}
use Rattle.daemon_core.specs.declared.event.Event.{Event}
use Rattle.daemon_core.specs.State.{State}
use Rattle.daemon_core.specs.Step.{Stepped, step}
use Rattle.live_stage.specs.declared.refusal.LiveError.{LiveError}
use Rattle.live_stage.specs.Answer.{Answer, IsBeforeOrAfter, IsHandled, IsTurn, IsTurnOf, HasNoOps, profile_of_step}
use Rattle.live_stage.specs.Found.{AllFindNow, AllFindSince}
use Rattle.live_stage.specs.LiveState.{LiveState}
use Rattle.live_stage.specs.Numbers.{Numbers, FileNumbers, is_due, most_records, most_bytes, longest_record, next_file}
use Rattle.live_stage.specs.Numbers.{first_file, first_numbers, greatest, next_numbers, ready_file, ready_work, record_bytes, recorded, file_found, snapshot_size}
use Rattle.live_stage.specs.Turns.{IsReady, IsStill, IsStored, IsWritten, StaysInFile, MakesNoCall, WritesAlone, WritesOneFile}
use Rattle.live_stage.specs.Turns.{ready_content, recorded_content, writes_to_b}
use Rattle.live_stage.specs.Writing.{file_of}

-- ---- what is due

cond_least : (b : Bool) (snapshot_len : ℕ) → 4096 ≤ (if b then max 4096 (snapshot_len / 1024) else 4096)
cond_least true snapshot_len = omega arith
cond_least false snapshot_len = omega arith

-- of fewer records than this it never is
pub records_at_least : (layout snapshot_len : ℕ) → 4096 ≤ most_records layout snapshot_len
records_at_least layout snapshot_len = cond_least (layout == third_layout) snapshot_len

-- below the limits nothing is
pub undue : (file : FileNumbers) → file.records < most_records file.layout file.snapshot_len → file.bytes ≤ most_bytes file.snapshot_len
    → is_due file ≡ false
undue file few short =
    and_right (not file.is_put_off) _
    (or_from _ _ (lt-leb (most_records file.layout file.snapshot_len) file.records few) (le-ltb (most_bytes file.snapshot_len) file.bytes short))

-- a file at which no checkpoint is due keeps to the limits, unless one is put off
pub record KeepsTo (file : FileNumbers) : Type 0 where
  pub few : file.records < most_records file.layout file.snapshot_len
  pub short : file.bytes ≤ most_bytes file.snapshot_len

pub keeps_to : (file : FileNumbers) → file.is_put_off ≡ false → is_due file ≡ false → KeepsTo file
keeps_to file made is =
    let most : ℕ = most_records file.layout file.snapshot_len in
    let limits : Bool = nat_le most file.records || nat_lt (most_bytes file.snapshot_len) file.bytes in
    let within : limits ≡ false = ap (λ (put_off : Bool). not put_off && limits) (sym made) ∙ is in
    let both = or_parts _ _ within in
    record {
      few = leb-false most file.records both.0;
      short = ltb-false (most_bytes file.snapshot_len) file.bytes both.1;
    }

pub ready_same : (s : SavedState) (file : FileNumbers) → is_due file ≡ false → ready_file s file ≡ file
ready_same s file is = rw is refl

pub same_work : (file : FileNumbers) (work : ℕ) → is_due file ≡ false → ready_work file work ≡ work
same_work file work is = rw is refl

-- ---- a checkpoint that is put off

put_off_in : (b : Bool) (s : SavedState) (file : FileNumbers) → file.is_put_off ≡ false
    → (let f : FileNumbers = if b then next_file s file else file in f.is_put_off) ≡ false
put_off_in true s file is = refl
put_off_in false s file is = is

-- where none was put off, none is behind the checkpoint that was due
pub ready_made : (s : SavedState) (file : FileNumbers) → file.is_put_off ≡ false → (let f = ready_file s file in f.is_put_off) ≡ false
ready_made s file is = put_off_in (is_due file) s file is

-- a record doesn't change whether one is
pub put_off_recorded : (p : Profile) (file : FileNumbers) (ops : List Op) (put_off : Bool)
    → (let f : FileNumbers = recorded p file ops in let g : FileNumbers = record f { is_put_off = put_off } in g)
    ≡ (let f : FileNumbers = record file { is_put_off = put_off } in recorded p f ops)
put_off_recorded p file [] put_off = refl
put_off_recorded p file (op ∷ ops) put_off = refl

-- ---- records

-- a file with the record of these ops, if there are any
pub record IsOneMore (p : Profile) (before after : FileNumbers) (ops : List Op) : Type 0 where
  pub few : after.records ≤ before.records + 1
  pub short : after.bytes ≤ before.bytes + record_bytes p ops
  pub behind : after.snapshot_len ≡ before.snapshot_len
  pub laid : after.layout ≡ before.layout

pub recorded_one : (p : Profile) (file : FileNumbers) (ops : List Op) → IsOneMore p file (recorded p file ops) ops
recorded_one p file [] = record { few = omega arith; short = omega arith; behind = refl; laid = refl }
recorded_one p file (op ∷ ops) = record { few = omega arith; short = omega arith; behind = refl; laid = refl }

pub record_short : (p : Profile) (ops : List Op) → length (body_bytes p ops) ≤ longest_body → record_bytes p ops ≤ longest_record
record_short p [] short = omega arith
record_short p (op ∷ ops) short = omega (arith, short)

-- the file of a journal behind a record
pub file_recorded : {D : Type 0} (p : Profile) (old new : JournalState D) (ops : List Op) → (ops ≡ [] → ⊥) → StaysInItsFile old new
    → new.count ≡ old.count + 1 → new.bytes ≡ min (old.bytes + (5 + length (body_bytes p ops))) greatest
    → file_of new ≡ recorded p (file_of old) ops
file_recorded p old new [] some stays count bytes = absurd (some refl)
file_recorded p old new (op ∷ ops) some stays count bytes =
    let numbers : ℕ → ℕ → ℕ → ℕ → ℕ → FileNumbers = λ layout generation snapshot_len records bytes. record {
      layout = layout;
      generation = generation;
      snapshot_len = snapshot_len;
      records = records;
      bytes = bytes;
      is_put_off = false;
    } in
    ap (λ (n : ℕ). numbers n new.generation new.snapshot_len new.count new.bytes) stays.layout
    ∙ ap (λ (n : ℕ). numbers old.layout n new.snapshot_len new.count new.bytes) stays.generation
    ∙ ap (λ (n : ℕ). numbers old.layout old.generation n new.count new.bytes) stays.snapshot_len
    ∙ ap (λ (n : ℕ). numbers old.layout old.generation old.snapshot_len n new.bytes) count
    ∙ ap (λ (n : ℕ). numbers old.layout old.generation old.snapshot_len (old.count + 1) n) bytes

pub file_kept : {D : Type 0} (p : Profile) (old new : JournalState D) (ops : List Op) → ops ≡ [] → new ≡ old
    → file_of new ≡ recorded p (file_of old) ops
file_kept {D} p old new ops none same = ap (λ (j : JournalState D). file_of j) same ∙ ap (λ (o : List Op). recorded p (file_of old) o) (sym none)

-- the file that a checkpoint lays down
pub file_laid : {D : Type 0} (faults : D → ℕ) (old new : JournalState D) (s : SavedState)
    → IsNextGeneration faults old new (written_layout s.profile) (snapshot_size s)
    → file_of new ≡ next_file s (file_of old)
file_laid faults old new s is =
    let own : ℕ = written_layout s.profile in
    let numbers : ℕ → ℕ → ℕ → ℕ → ℕ → FileNumbers = λ layout generation snapshot_len records bytes. record {
      layout = layout;
      generation = generation;
      snapshot_len = snapshot_len;
      records = records;
      bytes = bytes;
      is_put_off = false;
    } in
    ap (λ (n : ℕ). numbers n new.generation new.snapshot_len new.count new.bytes) is.layout
    ∙ ap (λ (n : ℕ). numbers own n new.snapshot_len new.count new.bytes) is.generation
    ∙ ap (λ (n : ℕ). numbers own (old.generation + 1) n new.count new.bytes) is.snapshot_len
    ∙ ap (λ (n : ℕ). numbers own (old.generation + 1) (snapshot_size s) n new.bytes) is.count
    ∙ ap (λ (n : ℕ). numbers own (old.generation + 1) (snapshot_size s) 0 n) is.bytes

-- the file and the numbers of a journal that was just made
pub file_made : {D : Type 0} (faults : D → ℕ) (a b : D) (journal : JournalState D) (layout size : ℕ) (s : SavedState)
    → IsNew faults a b journal layout size → layout ≡ written_layout s.profile → size ≡ snapshot_size s → file_of journal ≡ first_file s
file_made faults a b journal layout size s is written long =
    let own : ℕ = written_layout s.profile in
    let numbers : ℕ → ℕ → ℕ → ℕ → ℕ → FileNumbers = λ layout generation snapshot_len records bytes. record {
      layout = layout;
      generation = generation;
      snapshot_len = snapshot_len;
      records = records;
      bytes = bytes;
      is_put_off = false;
    } in
    ap (λ (n : ℕ). numbers n journal.generation journal.snapshot_len journal.count journal.bytes) (is.layout ∙ written)
    ∙ ap (λ (n : ℕ). numbers own n journal.snapshot_len journal.count journal.bytes) is.generation
    ∙ ap (λ (n : ℕ). numbers own 1 n journal.count journal.bytes) (is.snapshot_len ∙ long)
    ∙ ap (λ (n : ℕ). numbers own 1 (snapshot_size s) n journal.bytes) is.count
    ∙ ap (λ (n : ℕ). numbers own 1 (snapshot_size s) 0 n) is.bytes

pub numbers_made : {D : Type 0} (faults : D → ℕ) (a b : D) (journal : JournalState D) (layout size : ℕ)
    → IsNew faults a b journal layout size → record { event = 0; last_record = min (journal.base + journal.count) greatest } ≡ first_numbers
numbers_made faults a b journal layout size is =
    let numbers : ℕ → Numbers = λ last. record { event = 0; last_record = last } in
    let none : min (journal.base + journal.count) greatest ≡ 0 = omega (arith, is.base, is.count) in
    ap (λ (n : ℕ). numbers n) none

-- the numbers behind an event with these ops, whose record was written
pub numbers_next : {D : Type 0} (old new : JournalState D) (event : ℕ) (ops : List Op) → old.base + old.count < greatest
    → new.base ≡ old.base → (ops ≡ [] → new ≡ old) → ((ops ≡ [] → ⊥) → new.count ≡ old.count + 1)
    → record { event = event + 1; last_record = min (new.base + new.count) greatest }
    ≡ next_numbers (record { event = event; last_record = min (old.base + old.count) greatest }) ops
numbers_next {D} old new event [] below base none some =
    ap (λ (j : JournalState D). record { event = event + 1; last_record = min (j.base + j.count) greatest }) (none refl)
numbers_next old new event (op ∷ ops) below base none some =
    let full : op ∷ ops ≡ [] → ⊥ = λ none. omega (arith, ap length none) in
    let last : min (new.base + new.count) greatest ≡ min (old.base + old.count) greatest + 1 =
    omega (arith, below, base, some full) in
    ap (λ (n : ℕ). record { event = event + 1; last_record = n }) last

-- the file that a journal's content says
pub file_is : {D : Type 0} (journal : JournalState D) → AreItsNumbers journal → file_of journal ≡ file_found journal.content
file_is journal is =
    let content = journal.content in
    let numbers : ℕ → ℕ → ℕ → ℕ → ℕ → FileNumbers = λ layout generation snapshot_len records bytes. record {
      layout = layout;
      generation = generation;
      snapshot_len = snapshot_len;
      records = records;
      bytes = bytes;
      is_put_off = false;
    } in
    ap (λ (n : ℕ). numbers n journal.generation journal.snapshot_len journal.count journal.bytes) (sym is.layout)
    ∙ ap (λ (n : ℕ). numbers content.layout n journal.snapshot_len journal.count journal.bytes) (sym is.generation)
    ∙ ap (λ (n : ℕ). numbers content.layout content.generation n journal.count journal.bytes) (sym is.measured.snapshot)
    ∙ ap (λ (n : ℕ). numbers content.layout content.generation (length content.snapshot) n journal.bytes) (sym is.count)
    ∙ ap (λ (n : ℕ). numbers content.layout content.generation (length content.snapshot) (length content.records) n) (sym is.measured.records)

-- behind a turn that made the checkpoint that was due, if one was
pub record IsBounded (file : FileNumbers) : Type 0 where
  pub few : file.records ≤ most_records file.layout file.snapshot_len
  pub short : file.bytes ≤ most_bytes file.snapshot_len + longest_record

pub bounded : (b : Bool) (p : Profile) (s : SavedState) (file after : FileNumbers) (ops : List Op) → file.is_put_off ≡ false → is_due file ≡ b
    → after ≡ recorded p (ready_file s file) ops → record_bytes p ops ≤ longest_record → IsBounded after
bounded true p s file after ops none is made small =
    let ready : ready_file s file ≡ next_file s file = rw is refl in
    let is_after : after ≡ recorded p (next_file s file) ops = made ∙ ap (λ (f : FileNumbers). recorded p f ops) ready in
    let one = recorded_one p (next_file s file) ops in
    subst IsBounded (sym is_after) (record {
      few = (let least = records_at_least (let f : FileNumbers = recorded p (next_file s file) ops in f.layout)
          (let f : FileNumbers = recorded p (next_file s file) ops in f.snapshot_len) in omega (arith, one.few, least));
      short = omega (arith, one.short, small);
    })
bounded false p s file after ops none is made small =
    let is_after : after ≡ recorded p file ops = made ∙ ap (λ (f : FileNumbers). recorded p f ops) (ready_same s file is) in
    let one = recorded_one p file ops in
    let kept = keeps_to file none is in
    subst IsBounded (sym is_after) (record {
      few = omega (
        arith,
        one.few,
        kept.few,
        ap (λ (n : ℕ). most_records n (let f : FileNumbers = recorded p file ops in f.snapshot_len)) one.laid,
        ap (λ (n : ℕ). most_records file.layout n) one.behind,
      );
      short = omega (arith, one.short, small, kept.short, ap most_bytes one.behind);
    })

-- ---- one file

-- the file to which no record goes is as it was
abbrev pub IsOtherKept : {D : Type 0} → Bool → LiveState D → LiveState D → Type 0
IsOtherKept in_b old new = MatchBool in_b (new.a ≡ old.a) (new.b ≡ old.b)

pub other_same : {D : Type 0} (in_b : Bool) (old : LiveState D) → IsOtherKept in_b old old
other_same true old = refl
other_same false old = refl

pub other_join : {D : Type 0} (in_b : Bool) (first old new : LiveState D) → IsOtherKept in_b first old → IsOtherKept in_b old new
    → IsOtherKept in_b first new
other_join true first old new before now = now ∙ before
other_join false first old new before now = now ∙ before

pub still_in_file : {D : Type 0} (v : LiveState D) → StaysInFile v v
still_in_file v = record { same_file = refl; other_file = other_same v.is_in_b v }

pub no_call_made : {D : Type 0} (old new : LiveState D) → new.a ≡ old.a → new.b ≡ old.b → MakesNoCall old new
no_call_made old new same_a same_b = record { same_a = same_a; same_b = same_b }

-- one of the two files wasn't touched
abbrev pub OneFile : List Change → List Change → List Change → List Change → Type 0
OneFile old_a old_b new_a new_b = (new_a ≡ old_a) ⊎ (new_b ≡ old_b)

pub one_file : {D : Type 0} (history : D → List Change) (in_b : Bool) (first now : LiveState D) → IsOtherKept in_b first now
    → OneFile (history first.a) (history first.b) (history now.a) (history now.b)
one_file history true first now kept = inl (ap history kept)
one_file history false first now kept = inr (ap history kept)

-- ---- pairs of images, over one run after another

between : (a b c : List Change) → Continues a b → Continues b c → c ≡ a → b ≡ a
between a b c first second same =
    let none : length first.0 ≡ 0 = omega (
      arith,
      ap length first.1,
      ap length second.1,
      ap length same,
      length-append first.0 a,
      length-append second.0 b,
    ) in
    first.1 ∙ ap (λ (l : List Change). l ++ a) (nil_from_length first.0 none)

left_of : (old new : List Change) (t : ℕ) (x : List ℕ) → Continues old new → LeftSince new t x
    → LeftSince new (length old) x ⊎ LeftSince old t x
left_of old new t x run left = elim (left_split run.0 old t x (subst (λ h. LeftSince h t x) run.1 left)) [
  | inl during ↦ inl (subst (λ h. LeftSince h (length old) x) (sym run.1) during)
  | inr before ↦ inr before
]

pub join_pairs : (P : Option SavedState → Type 0) (a0 a1 a2 b0 b1 b2 : List Change)
    → Continues a0 a1 → Continues a1 a2 → Continues b0 b1 → Continues b1 b2 → OneFile a0 b0 a2 b2
    → (OneFile a0 b0 a1 b1 → AllFindSince P a1 (length a0) b1 (length b0)) → AllFindSince P a2 (length a1) b2 (length b1)
    → AllFindSince P a2 (length a0) b2 (length b0)
join_pairs P a0 a1 a2 b0 b1 b2 run_a more_a run_b more_b (inr still) earlier turn x y at_x at_y =
    let same : b1 ≡ b0 = between b0 b1 b2 run_b more_b still in
    elim (left_of a1 a2 (length a0) x more_a at_x) [
      | inl during ↦ turn x y during (subst (λ (h : List Change). LeftSince b2 (length h) y) (sym same) at_y)
      | inr before ↦ earlier (inr same) x y before (subst (λ (h : List Change). LeftSince h (length b0) y) (still ∙ sym same) at_y)
    ]
join_pairs P a0 a1 a2 b0 b1 b2 run_a more_a run_b more_b (inl still) earlier turn x y at_x at_y =
    let same : a1 ≡ a0 = between a0 a1 a2 run_a more_a still in
    elim (left_of b1 b2 (length b0) y more_b at_y) [
      | inl during ↦ turn x y (subst (λ (h : List Change). LeftSince a2 (length h) x) (sym same) at_x) during
      | inr before ↦ earlier (inl same) x y (subst (λ (h : List Change). LeftSince h (length a0) x) (still ∙ sym same) at_x) before
    ]

-- ---- moments

-- nothing was done
pub found_still : (a b : List Change) (s : State) (event : Event) (k : Option ℕ)
    → AllFindNow (λ f. f ≡ Some s.machine.saved) a b → AllFindSince (IsBeforeOrAfter s event k) a (length a) b (length b)
found_still a b s event k now x y at_x at_y = inl (now x y (now_only a x at_x) (now_only b y at_y))

pub found_same : (a b : List Change) (s : SavedState) → AllFindNow (λ f. f ≡ Some s) a b
    → AllFindSince (λ f. f ≡ Some s) a (length a) b (length b)
found_same a b s now x y at_x at_y = now x y (now_only a x at_x) (now_only b y at_y)

-- the stage got ready, and no more
pub found_ready : (a b : List Change) (t u : ℕ) (s : State) (event : Event) (k : Option ℕ)
    → AllFindSince (λ f. f ≡ Some s.machine.saved) a t b u → AllFindSince (IsBeforeOrAfter s event k) a t b u
found_ready a b t u s event k since x y at_x at_y = inl (since x y at_x at_y)

-- The stage got ready, and then handled its event: the images since the start are those of both phases, since one file wasn't touched.
pub found_in_both : {D : Type 0} (history : D → List Change) (in_b : Bool) (old ready new : LiveState D) (event : Event) (k : Option ℕ)
    → ready.state ≡ old.state → IsOtherKept in_b old ready → IsOtherKept in_b ready new
    → Continues (history old.a) (history ready.a) → Continues (history ready.a) (history new.a)
    → Continues (history old.b) (history ready.b) → Continues (history ready.b) (history new.b)
    → AllFindSince (λ f. f ≡ Some old.state.machine.saved)
    (history ready.a) (length (history old.a)) (history ready.b) (length (history old.b))
    → AllFindSince (IsBeforeOrAfter ready.state event k)
    (history new.a) (length (history ready.a)) (history new.b) (length (history ready.b))
    → AllFindSince (IsBeforeOrAfter old.state event k)
    (history new.a) (length (history old.a)) (history new.b) (length (history old.b))
found_in_both history in_b old ready new event k same first second run_a more_a run_b more_b getting handling =
    join_pairs (IsBeforeOrAfter old.state event k) (history old.a) (history ready.a) (history new.a) (history old.b) (history ready.b)
    (history new.b) run_a more_a run_b more_b (one_file history in_b old new (other_join in_b old ready new first second))
    (λ one. found_ready (history ready.a) (history ready.b) (length (history old.a)) (length (history old.b)) old.state event k getting)
    (subst (λ (s : State). AllFindSince (IsBeforeOrAfter s event k) (history new.a) (length (history ready.a)) (history new.b)
    (length (history ready.b))) same handling)

-- what the files give stays as it is
pub pairs_still : (a b : List Change) (content other : Content) → AllPairsNow (λ f. f ≡ Some content) a b
    → AllPairsSince (IsEither content other) a (length a) b (length b)
pairs_still a b content other now x y at_x at_y = inl (now x y (now_only a x at_x) (now_only b y at_y))

-- ---- refusals

pub still_state : {D : Type 0} (old new : LiveState D) → IsStill old new → new.state ≡ old.state
still_state old new (inl same) = ap (λ v. v.state) same
still_state old new (inr ready) = ready.state

pub still_usable : {D : Type 0} (old new : LiveState D) → old.is_broken ≡ false → IsStill old new → new.is_broken ≡ false
still_usable old new usable (inl same) = ap (λ v. v.is_broken) same ∙ usable
still_usable old new usable (inr ready) = ready.usable

pub error_is : {T : Type 0} (e f : LiveError) → (let r : Result T LiveError = Err e in r ≡ Err f) → e ≡ f
error_is e f is = cc

-- ---- a turn, of its two phases

-- what the files say behind an answer
written_by : {D : Type 0} (history : D → List Change) (old ready new : LiveState D) (p : Profile) (ops : List Op)
    → new.state.machine.saved.profile ≡ p → ready.content ≡ ready_content old → new.content ≡ recorded_content p ready.content ops
    → new.file ≡ recorded p (ready_file old.state.machine.saved old.file) ops → record_bytes p ops ≤ longest_record
    → IsStored history new → IsWritten history old new ops
written_by history old ready new p ops own first more file small stored =
    let bounds : old.file.is_put_off ≡ false → IsBounded new.file =
    λ none. bounded (is_due old.file) p old.state.machine.saved old.file new.file ops none refl file small in
    record {
      says = more ∙ ap (λ (k : Content). recorded_content p k ops) first
          ∙ ap (λ (q : Profile). recorded_content q (ready_content old) ops) (sym own);
      stored = stored;
      few = λ none. (let kept = bounds none in
          subst (λ (f : FileNumbers). f.records ≤ most_records f.layout f.snapshot_len) stored.file kept.few);
      short = λ none. (let kept = bounds none in
          subst (λ (f : FileNumbers). f.bytes ≤ most_bytes f.snapshot_len + longest_record) stored.file kept.short);
    }

module _ {D : Type 0} (old ready new : LiveState D) (event : Event) (got : IsReady old ready) where
  pub turn_made : (t : Answer) → IsHandled ready event t new → IsTurn old event t new
  turn_made t made =
      let asked : State → Stepped = λ (s : State). step s event t.refused_at in
      let file : FileNumbers = ready_file old.state.machine.saved old.file in
      let work : ℕ = ready_work old.file old.work in
      subst (λ (s : State). IsTurnOf (asked s) old.numbers file work t new) got.state
      (subst (λ (n : Numbers). IsTurnOf (asked ready.state) n file work t new) got.numbers
      (subst (λ (f : FileNumbers). IsTurnOf (asked ready.state) ready.numbers f work t new) got.file
      (subst (λ (n : ℕ). IsTurnOf (asked ready.state) ready.numbers ready.file n t new) got.work made)))

  pub written : (history : D → List Change) (t : Answer) → IsHandled ready event t new → ready.content ≡ ready_content old
      → (let now : Stepped = step ready.state event t.refused_at in new.content ≡ recorded_content (profile_of_step now) ready.content now.ops)
      → (let now : Stepped = step ready.state event t.refused_at in record_bytes (profile_of_step now) now.ops ≤ longest_record)
      → IsStored history new → (let now : Stepped = step old.state event t.refused_at in IsWritten history old new now.ops)
  written history t made first more small stored =
      let asked : State → Stepped = λ (s : State). step s event t.refused_at in
      let same : asked ready.state ≡ asked old.state = ap asked got.state in
      let turn = turn_made t made in
      written_by history old ready new (profile_of_step (asked old.state))
      (let now : Stepped = asked old.state in now.ops)
      (ap (λ (s : State). s.machine.saved.profile) turn.state) first
      (more ∙ ap (λ (st : Stepped). recorded_content (profile_of_step st) ready.content st.ops) same) turn.file
      (subst (λ (st : Stepped). record_bytes (profile_of_step st) st.ops ≤ longest_record) same small) stored

  pub none_called : (t : Answer) → (HasNoOps ready event t → MakesNoCall ready new) → is_due old.file ≡ false → HasNoOps old event t
      → MakesNoCall old new
  none_called t none undue no_ops =
      let same : ready ≡ old = got.nothing_made undue in
      subst (λ (v : LiveState D). MakesNoCall v new) same (none (subst (λ (v : LiveState D). HasNoOps v event t) (sym same) no_ops))

  both_alone : WritesAlone old ready → StaysInFile ready new → WritesAlone old new
  both_alone first stays = other_join (writes_to_b old) old ready new first
      (subst (λ (in_b : Bool). IsOtherKept in_b ready new) got.in_b stays.other_file)

  pub one_file_written : (t : Answer) → WritesAlone old ready → StaysInFile ready new → WritesOneFile old new (Ok t)
  one_file_written t first stays = record {
    in_use = stays.same_file ∙ got.in_b;
    same_file = λ is. stays.same_file ∙ ap (λ (v : LiveState D). v.is_in_b) (got.nothing_made is);
    other_file = both_alone first stays;
  }

  pub one_file_refused : (e : LiveError) → WritesAlone old ready → StaysInFile ready new → WritesOneFile old new (Err e)
  one_file_refused e first stays = record {
    in_use = tt;
    same_file = λ is. stays.same_file ∙ ap (λ (v : LiveState D). v.is_in_b) (got.nothing_made is);
    other_file = both_alone first stays;
  }

pub one_file_still : {D : Type 0} (v : LiveState D) (e : LiveError) → WritesOneFile v v (Err e)
one_file_still v e = record {
  in_use = tt;
  same_file = λ is. refl;
  other_file = other_same (writes_to_b v) v;
}

-- the checkpoint that was due met a fault
pub one_file_failed : {D : Type 0} (old new : LiveState D) (e : LiveError) → (is_due old.file ≡ false → ⊥) → WritesAlone old new
    → WritesOneFile old new (Err e)
one_file_failed old new e due first = record {
  in_use = tt;
  same_file = λ is. absurd (due is);
  other_file = first;
}

pub still_on : {D : Type 0} (old ready new : LiveState D) → IsReady old ready → new ≡ ready → IsStill old new
still_on {D} old ready new got same = inr (subst (λ (v : LiveState D). IsReady old v) (sym same) got)
