-- A group in two phases, as a turn: it makes the checkpoint that is due, if one is, and then handles its events.
use Rattle.std.proofs.Common.{◌≡◌, ◌≢◌, ◌⊎◌, inl, inr, ℕ, ◌+◌, ◌<◌, ◌≤◌, min, Bool, true, false, List, [], ◌∷◌, ◌++◌, length, map, drop, take}
use Rattle.std.proofs.Common.{Option, Some, Result, Ok, Err, refl, sym, ap, subst, ◌∙◌, arith}
use Rattle.std.specs.Prelude.{sum_by}
use Rattle.std.specs.List.{AllByRecursion}
use Rattle.std.proofs.lemmas.Bool.{and_left, and_right, lt-leb, le-ltb, or_from}
use Rattle.std.proofs.lemmas.List.{append-nil}
use Rattle.disk_model.specs.History.{Change}
use Rattle.disk_model.specs.Moments.{Continues}
use Rattle.disk_model.proofs.MomentLaws.{now_only}
use Rattle.play_journal.specs.Content.{Content, IsEither, with_records}
use Rattle.play_journal.specs.File.{records_len}
use Rattle.play_journal.specs.Pair.{AllPairsNow, AllPairsSince}
use Rattle.profile.specs.declared.profile.Profile.{Profile}
use Rattle.state_codec.specs.declared.op.Op.{Op}
use Rattle.state_codec.specs.SavedState.{SavedState}
use Rattle.daemon_core.specs.declared.event.Event.{Event}
use Rattle.daemon_core.specs.State.{State}
use Rattle.daemon_core.specs.Step.{Stepped, step}
use Rattle.daemon_core.specs.Replay.{Entry, stepped}
use Rattle.live_stage.specs.declared.refusal.LiveError.{LiveError}
use Rattle.live_stage.specs.declared.refusal.LiveError.TheVariants.{Broken, NoMemory, NumbersSpent}
use Rattle.live_stage.specs.Answer.{Answer, IsNumbered, IsTurn, answer_work, profile_of_step}
use Rattle.live_stage.specs.Found.{AllFindNow, AllFindSince, state_of}
use Rattle.live_stage.specs.Group.{AreParted, BearTheirStates, EndsThere, IsGroup, IsGroupWritten, IsNoneOrAll, IsOfFront, RefusesFront}
use Rattle.live_stage.specs.Group.{TookEach, asked_by, bodies_after, body_of, events_in, file_with, group_content, group_file, group_takes, group_work, history_in, makes_checkpoint}
use Rattle.live_stage.specs.Group.{takes_more}
use Rattle.live_stage.specs.LiveState.{LiveState}
use Rattle.live_stage.specs.Numbers.{FileNumbers, Numbers, is_due, longest_record, most_bytes, most_records, next_file}
use Rattle.live_stage.specs.Numbers.{greatest, ready_file, ready_work, recorded}
use Rattle.live_stage.specs.Staging.{KeepsToBounds}
use Rattle.live_stage.specs.Transcript.{IsStepOf, IsTranscript, entry_of, history_of, numbers_after, replayed}
use Rattle.live_stage.specs.Turns.{IsReady, IsStored, MakesNoCall, StaysInFile, WritesAlone, WritesOneFile, ready_content}
use Rattle.live_stage.proofs.GroupLaws.{Reply, body_takes, file_put_off}
use Rattle.live_stage.proofs.TurnLaws.{IsOtherKept, join_pairs, one_file, one_file_written, other_join, ready_made, ready_same, records_at_least, same_work, undue}

-- ---- refusals

front_of : (events rest : List Event) → rest ≡ drop 1 events → events ≡ take 1 events ++ rest
front_of [] rest is = sym is
front_of (event ∷ events) rest is = ap (λ (l : List Event). event ∷ l) (sym is)

first_some : (events : List Event) → events ≢ [] → take 1 events ≢ []
first_some [] some = absurd (some refl)
first_some (event ∷ events) some = λ none. cc

first_alone : (events : List Event) → length (take 1 events) ≤ 1
first_alone [] = omega arith
first_alone (event ∷ events) = omega arith

-- the first event alone is refused
pub refuses_first : {D : Type 0} (old : LiveState D) (events : List Event) (error : LiveError) (rest : List Event) → rest ≡ drop 1 events
    → RefusesFront old events error rest
refuses_first old events error rest is = record {
  front = take 1 events;
  parted = front_of events rest is;
  some = first_some events;
  alone = λ _. first_alone events;
}

pub of_none : (events rest : List Event) → rest ≡ drop 1 events → IsOfFront [] events rest
of_none events rest is = (take 1 events, front_of events rest is)

-- what was refused when the stage was ready was refused from the start
pub refuses_from : {D : Type 0} (old ready : LiveState D) (events : List Event) (error : LiveError) (rest : List Event)
    → old.is_broken ≡ false → RefusesFront ready events error rest → RefusesFront old events error rest
refuses_from old ready events error rest usable r = record {
  front = r.front;
  parted = r.parted;
  some = r.some;
  alone = λ why. elim why [
    | inl was ↦ absurd cc
    | inr other ↦ r.alone (inr other)
  ];
}

-- ---- moments

-- nothing was done
pub none_found : (a b : List Change) (s : State) (whole : List Entry) → AllFindNow (λ f. f ≡ Some s.machine.saved) a b
    → AllFindSince (IsNoneOrAll s whole) a (length a) b (length b)
none_found a b s whole now x y at_x at_y = inl (now x y (now_only a x at_x) (now_only b y at_y))

-- the stage got ready, and no more
pub ready_found : (a b : List Change) (t u : ℕ) (s : State) (whole : List Entry)
    → AllFindSince (λ f. f ≡ Some s.machine.saved) a t b u → AllFindSince (IsNoneOrAll s whole) a t b u
ready_found a b t u s whole since x y at_x at_y = inl (since x y at_x at_y)

-- records were written, or none
pub records_found : (a b : List Change) (t u : ℕ) (content : Content) (bodies : List (List ℕ)) (s after : State) (whole : List Entry)
    → state_of (Some content) ≡ Some s.machine.saved → state_of (Some (with_records content bodies)) ≡ Some after.machine.saved
    → after ≡ replayed s whole → AllPairsSince (IsEither content (with_records content bodies)) a t b u
    → AllFindSince (IsNoneOrAll s whole) a t b u
records_found a b t u content bodies s after whole stands stands_after is pairs x y at_x at_y = elim (pairs x y at_x at_y) [
  | inl before ↦ inl (ap state_of before ∙ stands)
  | inr added ↦ inr (ap state_of added ∙ stands_after ∙ ap (λ (c : State). Some c.machine.saved) is)
]

-- The stage got ready, and then handled its events: the images since the start are those of both phases, since one file wasn't touched.
pub found_in_phases : {D : Type 0} (history : D → List Change) (in_b : Bool) (old ready new : LiveState D) (whole : List Entry)
    → ready.state ≡ old.state → IsOtherKept in_b old ready → IsOtherKept in_b ready new
    → Continues (history old.a) (history ready.a) → Continues (history ready.a) (history new.a)
    → Continues (history old.b) (history ready.b) → Continues (history ready.b) (history new.b)
    → AllFindSince (λ f. f ≡ Some old.state.machine.saved)
    (history ready.a) (length (history old.a)) (history ready.b) (length (history old.b))
    → AllFindSince (IsNoneOrAll ready.state whole)
    (history new.a) (length (history ready.a)) (history new.b) (length (history ready.b))
    → AllFindSince (IsNoneOrAll old.state whole)
    (history new.a) (length (history old.a)) (history new.b) (length (history old.b))
found_in_phases history in_b old ready new whole same first second run_a more_a run_b more_b getting handling =
    join_pairs (IsNoneOrAll old.state whole) (history old.a) (history ready.a) (history new.a) (history old.b) (history ready.b)
    (history new.b) run_a more_a run_b more_b (one_file history in_b old new (other_join in_b old ready new first second))
    (λ one. ready_found (history ready.a) (history ready.b) (length (history old.a)) (length (history old.b)) old.state whole getting)
    (subst (λ (s : State). AllFindSince (IsNoneOrAll s whole) (history new.a) (length (history ready.a)) (history new.b)
    (length (history ready.b))) same handling)

-- ---- the file of a group

-- none is due at the file that a checkpoint lays down
laid_undue : (b : Bool) (s : SavedState) (file : FileNumbers) → is_due file ≡ b → is_due (ready_file s file) ≡ false
laid_undue true s file is =
    let made : ready_file s file ≡ next_file s file = rw is refl in
    let laid = next_file s file in
    ap is_due made ∙ undue laid (omega (arith, records_at_least laid.layout laid.snapshot_len)) (omega arith)
laid_undue false s file is = ap is_due (ready_same s file is) ∙ is

-- a stage that is ready has no checkpoint due
pub ready_due : {D : Type 0} (old ready : LiveState D) → IsReady old ready → is_due ready.file ≡ false
ready_due old ready got = ap is_due got.file ∙ laid_undue (is_due old.file) old.state.machine.saved old.file refl

-- the file and the content of a group that has an answer are those that are ready
pub group_file_of : {D : Type 0} (old : LiveState D) (turns : List Answer) → turns ≢ []
    → group_file old turns ≡ ready_file old.state.machine.saved old.file
group_file_of old [] some = absurd (some refl)
group_file_of old (t ∷ turns) some = refl

pub group_work_of : {D : Type 0} (old : LiveState D) (turns : List Answer) → turns ≢ [] → group_work old turns ≡ ready_work old.file old.work
group_work_of old [] some = absurd (some refl)
group_work_of old (t ∷ turns) some = refl

group_content_of : {D : Type 0} (old : LiveState D) (turns : List Answer) → turns ≢ [] → group_content old turns ≡ ready_content old
group_content_of old [] some = absurd (some refl)
group_content_of old (t ∷ turns) some = refl

makes_of : (file : FileNumbers) (turns : List Answer) → turns ≢ [] → makes_checkpoint file turns ≡ is_due file
makes_of file [] some = absurd (some refl)
makes_of file (t ∷ turns) some = refl

-- ---- a group that was handled is one from the start

transcript_from : {D : Type 0} (first other : LiveState D) (earlier : List Entry) (turns : List Answer) → first.state ≡ other.state
    → first.numbers ≡ other.numbers
    → (let oks : List Reply = map Ok turns in IsTranscript first earlier (asked_by turns) oks)
    → (let oks : List Reply = map Ok turns in IsTranscript other earlier (asked_by turns) oks)
transcript_from first other earlier [] state numbers told = tt
transcript_from first other earlier (t ∷ turns) state numbers told =
    let one = told.0 in
    let same : stepped (replayed first.state earlier) (entry_of t.asked t) ≡ stepped (replayed other.state earlier) (entry_of t.asked t) =
    ap (λ (s : State). stepped (replayed s earlier) (entry_of t.asked t)) state in
    let before : numbers_after first.state first.numbers earlier ≡ numbers_after other.state other.numbers earlier =
    ap (λ (s : State). numbers_after s first.numbers earlier) state ∙ ap (λ (n : Numbers). numbers_after other.state n earlier) numbers in (
      record {
        outputs = one.outputs ∙ ap (λ (st : Stepped). st.outputs) same;
        closes = one.closes ∙ ap (λ (st : Stepped). st.closes) same;
        ended = one.ended ∙ ap (λ (st : Stepped). st.ended) same;
        refused_at = one.refused_at ∙ ap (λ (st : Stepped). st.refused_at) same;
        numbered = subst (λ (n : Numbers). let st = stepped (replayed other.state earlier) (entry_of t.asked t) in IsNumbered n st.ops t) before
            (subst (λ (st : Stepped). IsNumbered (numbers_after first.state first.numbers earlier) st.ops t) same one.numbered);
      },
      transcript_from first other (entry_of t.asked t ∷ earlier) turns state numbers told.1,
    )

pub took_same : (takes other : List Answer → Bool) (before turns : List Answer) → ((front : List Answer) → takes front ≡ other front)
    → TookEach takes before turns → TookEach other before turns
took_same takes other before [] same took = tt
took_same takes other before (t ∷ turns) same took =
    (sym (same before) ∙ took.0, took_same takes other (before ++ t ∷ []) turns same took.1)

module _ {D : Type 0} (old ready new : LiveState D) (got : IsReady old ready) (turns : List Answer) (some : turns ≢ []) where
  same_file : group_file ready turns ≡ group_file old turns
  same_file =
      group_file_of ready turns some ∙ ready_same ready.state.machine.saved ready.file (ready_due old ready got) ∙ got.file
      ∙ sym (group_file_of old turns some)

  same_work_in : group_work ready turns ≡ group_work old turns
  same_work_in =
      group_work_of ready turns some ∙ same_work ready.file ready.work (ready_due old ready got) ∙ got.work
      ∙ sym (group_work_of old turns some)

  pub group_from : IsGroup ready turns new → IsGroup old turns new
  group_from made = record {
    transcript = transcript_from ready old [] turns got.state got.numbers made.transcript;
    before = subst (λ (s : State). BearTheirStates s [] turns) got.state made.before;
    state = made.state ∙ ap (λ (s : State). replayed s (history_in turns)) got.state;
    event = made.event ∙ ap (λ (n : Numbers). n.event + length turns) got.numbers;
    numbers = made.numbers ∙ ap (λ (s : State). numbers_after s ready.numbers (history_in turns)) got.state
        ∙ ap (λ (n : Numbers). numbers_after old.state n (history_in turns)) got.numbers;
    file = made.file ∙ ap (λ (f : FileNumbers). file_with f (bodies_after ready.state (history_in turns))) same_file
        ∙ ap (λ (s : State). file_with (group_file old turns) (bodies_after s (history_in turns))) got.state;
    work = λ more. made.work more ∙ ap (λ (n : ℕ). min (n + sum_by answer_work turns) greatest) same_work_in;
    none = λ none. absurd (some none);
  }

  takes_same : (front : List Answer) → group_takes ready turns front ≡ group_takes old turns front
  takes_same front = ap (λ (f : FileNumbers). takes_more ready.state ready.numbers f front) same_file
      ∙ ap (λ (s : State). takes_more s ready.numbers (group_file old turns) front) got.state
      ∙ ap (λ (n : Numbers). takes_more old.state n (group_file old turns) front) got.numbers

  pub ends_from : (events : List Event) (is_refused : Bool) (rest : List Event) → EndsThere ready events turns is_refused rest
      → EndsThere old events turns is_refused rest
  ends_from events is_refused rest ends = record {
    parted = ends.parted;
    took = took_same (group_takes ready turns) (group_takes old turns) [] turns takes_same ends.took;
    refused = λ is. ((ends.refused is).0, sym (takes_same turns) ∙ (ends.refused is).1);
    full = λ is more. sym (takes_same turns) ∙ ends.full is more;
  }

  -- where no checkpoint was put off, none is
  put_off_from : IsGroup ready turns new → old.file.is_put_off ≡ false → new.file.is_put_off ≡ false
  put_off_from made none =
      ap (λ (f : FileNumbers). f.is_put_off) made.file ∙ file_put_off (group_file ready turns) (bodies_after ready.state (history_in turns))
      ∙ ap (λ (f : FileNumbers). f.is_put_off) (same_file ∙ group_file_of old turns some) ∙ ready_made old.state.machine.saved old.file none

  pub written_from : IsGroup ready turns new → (history : D → List Change) → ready.content ≡ ready_content old
      → new.content ≡ with_records ready.content (bodies_after ready.state (history_in turns)) → KeepsToBounds new.file
      → IsStored history new → IsGroupWritten history old new turns
  written_from made history first more bounds stored = record {
    says = more ∙ ap (λ (k : Content). with_records k (bodies_after ready.state (history_in turns))) first
        ∙ ap (λ (s : State). with_records (ready_content old) (bodies_after s (history_in turns))) got.state
        ∙ ap (λ (k : Content). with_records k (bodies_after old.state (history_in turns))) (sym (group_content_of old turns some));
    stored = stored;
    few = λ _ none. subst (λ (f : FileNumbers). f.records ≤ most_records f.layout f.snapshot_len) stored.file
        (bounds.few (put_off_from made none));
    short = λ _ none. subst (λ (f : FileNumbers). f.bytes ≤ most_bytes f.snapshot_len + longest_record) stored.file
        (bounds.short (put_off_from made none));
  }

  pub none_called_from : (bodies_after ready.state (history_in turns) ≡ [] → MakesNoCall ready new)
      → makes_checkpoint old.file turns ≡ false → bodies_after old.state (history_in turns) ≡ [] → MakesNoCall old new
  none_called_from none made no_records =
      let same : ready ≡ old = got.nothing_made (sym (makes_of old.file turns some) ∙ made) in
      subst (λ (v : LiveState D). MakesNoCall v new) same
      (none (ap (λ (s : State). bodies_after s (history_in turns)) got.state ∙ no_records))

pub files_written : {D : Type 0} (old ready new : LiveState D) → IsReady old ready → (turns : List Answer) → WritesAlone old ready
    → StaysInFile ready new → AllByRecursion (λ (t : Answer). WritesOneFile old new (Ok t)) turns
files_written old ready new got [] first stays = tt
files_written old ready new got (t ∷ turns) first stays =
    (one_file_written old ready new t.asked got t first stays, files_written old ready new got turns first stays)

-- ---- no event

-- of no event nothing is done
pub no_group : {D : Type 0} (old : LiveState D) (turns : List Answer) → turns ≡ [] → IsGroup old turns old
no_group old turns none = subst (λ (l : List Answer). IsGroup old l old) (sym none) (record {
  transcript = tt;
  before = tt;
  state = refl;
  event = omega arith;
  numbers = refl;
  file = refl;
  work = λ some. absurd (some refl);
  none = λ _. refl;
})

pub no_events : {D : Type 0} (old : LiveState D) (events : List Event) (turns : List Answer) → turns ≡ [] → events ≡ []
    → EndsThere old events turns false events
no_events old events turns none empty = subst (λ (l : List Answer). EndsThere old events l false events) (sym none) (record {
  parted = refl;
  took = tt;
  refused = λ is. absurd cc;
  full = λ is some. absurd (some empty);
})

-- ---- a group of one answer

one_recorded : (p : Profile) (file : FileNumbers) (ops : List Op) → file_with file (body_of p ops) ≡ recorded p file ops
one_recorded p file [] = refl
one_recorded p file (op ∷ ops) = ap (λ (n : ℕ). let f : FileNumbers = record file { records = file.records + 1; bytes = min (file.bytes + n) greatest } in f)
    (body_takes p (op ∷ ops))

-- it is a turn
pub one_is_a_turn : {D : Type 0} (old new : LiveState D) (t : Answer) → IsGroup old (t ∷ []) new → IsTurn old t.asked t new
one_is_a_turn old new t made =
    let one = made.transcript.0 in
    let asked : Stepped = step old.state t.asked t.refused_at in
    let one_alone : sum_by answer_work (t ∷ []) ≡ answer_work t = omega arith in
    record {
      state = made.state;
      outputs = one.outputs;
      closes = one.closes;
      ended = one.ended;
      refused_at = one.refused_at;
      numbered = one.numbered;
      numbers = made.numbers;
      file = made.file ∙ one_recorded (profile_of_step asked) (ready_file old.state.machine.saved old.file) asked.ops;
      work = made.work (λ none. cc) ∙ ap (λ (n : ℕ). min (ready_work old.file old.work + n) greatest) one_alone;
    }
