-- A run, one event more at a time.
use Rattle.std.proofs.Common.{◌≡◌, ◌≢◌, ◌⊎◌, inl, inr, ◌↔◌, ℕ, ◌+◌, ◌≤◌, Bool, true, false, List, [], ◌∷◌, ◌++◌, length, length-append}
use Rattle.std.proofs.Common.{Option, Some, None, Result, Ok, Err, refl, sym, ap, subst, ◌∙◌, arith}
use Rattle.std.specs.Prelude.{IfOk, OnOk, OnErr, MatchBool}
use Rattle.disk_model.specs.Faults.{HasGrown}
use Rattle.disk_model.specs.History.{Change}
use Rattle.disk_model.specs.Moments.{LeftSince, Continues}
use Rattle.disk_model.proofs.MomentLaws.{now_only, counts_now, continues_join, continues_same}
use Rattle.daemon_core.specs.declared.event.Event.{Event}
use Rattle.state_codec.specs.SavedState.{SavedState}
use Rattle.daemon_core.specs.State.{State, start}
use Rattle.daemon_core.specs.Step.{Stepped, step}
use Rattle.daemon_core.specs.Replay.{Entry, stepped, replay}
use Rattle.daemon_core.proofs.HistoryLaws.{outputs_are_replies}
use Rattle.live_stage.specs.declared.refusal.LiveError.{LiveError}
use Rattle.live_stage.specs.declared.refusal.LiveError.TheVariants.{Broken, NoMemory, NumbersSpent}
use Rattle.live_stage.specs.Answer.{Answer, IsTurn, IsNumbered, profile_of_step}
use Rattle.live_stage.specs.Numbers.{Numbers, FileNumbers, next_numbers, is_due, most_bytes, most_records, record_bytes, recorded, AreSpent}
use Rattle.live_stage.specs.Turns.{WritesOneFile, RefusesInOrder, IsReady, IsStill, writes_to_b}
use Rattle.state_codec.specs.declared.op.Op.{Op}
use Rattle.live_stage.specs.LiveState.{LiveState}
use Rattle.live_stage.specs.Found.{given_state, AllFindNow, AllFindSince}
use Rattle.live_stage.specs.Transcript.{entry_of, history_of, replayed, numbers_after, IsTranscript, broken_by, broken_after}
use Rattle.live_stage.specs.Transcript.{FileGoesOn, AreNumbersSpent, SpendsNumbers, HasRoomFor, bytes_after}
use Rattle.live_stage.specs.Transcript.{AreReplies, StaysBroken, first_broken, IsWhole, FindsWhole, FindsPrefix}
use Rattle.live_stage.proofs.TurnLaws.{IsOtherKept, other_same, other_join, one_file, join_pairs, undue, ready_same}
use Rattle.live_stage.proofs.TurnLaws.{recorded_one}

abbrev Reply : Type 0
Reply = Result Answer LiveError

broken_or_not : (was : Bool) → (was ≡ true) ⊎ (was ≡ false)
broken_or_not true = inl refl
broken_or_not false = inr refl

-- ---- one event more

pub history_more : (earlier : List Entry) (events : List Event) (answers : List Reply) (event : Event) (answer : Reply)
    → length answers ≡ length events
    → history_of earlier (events ++ event ∷ []) (answers ++ answer ∷ [])
    ≡ history_of (history_of earlier events answers) (event ∷ []) (answer ∷ [])
history_more earlier [] [] event answer same = refl
history_more earlier [] (a ∷ answers) event answer same = absurd (omega arith)
history_more earlier (e ∷ events) [] event answer same = absurd (omega arith)
history_more earlier (e ∷ events) (Ok t ∷ answers) event answer same =
    history_more (entry_of e t ∷ earlier) events answers event answer (omega arith)
history_more earlier (e ∷ events) (Err x ∷ answers) event answer same = history_more earlier events answers event answer (omega arith)

pub transcript_more : {D : Type 0} (first : LiveState D) (earlier : List Entry) (events : List Event) (answers : List Reply) (event : Event)
    (answer : Reply)
    → IsTranscript first earlier events answers → IsTranscript first (history_of earlier events answers) (event ∷ []) (answer ∷ [])
    → IsTranscript first earlier (events ++ event ∷ []) (answers ++ answer ∷ [])
transcript_more first earlier [] [] event answer so_far one = one
transcript_more first earlier [] (a ∷ answers) event answer so_far one = elim so_far [ ]
transcript_more first earlier (e ∷ events) [] event answer so_far one = elim so_far [ ]
transcript_more first earlier (e ∷ events) (Ok t ∷ answers) event answer so_far one =
    (so_far.0, transcript_more first (entry_of e t ∷ earlier) events answers event answer so_far.1 one)
transcript_more first earlier (e ∷ events) (Err x ∷ answers) event answer so_far one =
    transcript_more first earlier events answers event answer so_far one

broken_after_more : (was : Bool) (answers : List Reply) (answer : Reply)
    → broken_after was (answers ++ answer ∷ []) ≡ broken_by (broken_after was answers) answer
broken_after_more was [] answer = refl
broken_after_more was (a ∷ answers) answer = broken_after_more (broken_by was a) answers answer

stays_more : (was : Bool) (answers : List Reply) (answer : Reply) → StaysBroken was answers
    → (broken_after was answers ≡ true → answer ≡ Err Broken) → StaysBroken was (answers ++ answer ∷ [])
stays_more was [] answer so_far one = (one, tt)
stays_more was (a ∷ answers) answer so_far one = (so_far.0, stays_more (broken_by was a) answers answer so_far.1 one)

-- an answer more, behind which the file has other numbers
spends_more : {D : Type 0} (first : LiveState D) (earlier : List Entry) (was : Bool) (file between last : FileNumbers) (events : List Event)
    (answers : List Reply) (event : Event) (answer : Reply) → length answers ≡ length events
    → SpendsNumbers first earlier was file between events answers
    → (broken_after was answers ≡ false
    → ((answer ≡ Err NumbersSpent) ↔ AreNumbersSpent first (history_of earlier events answers) between))
    → FileGoesOn (replayed first.state (history_of earlier events answers)) event between answer last
    → SpendsNumbers first earlier was file last (events ++ event ∷ []) (answers ++ answer ∷ [])
spends_more first earlier was file between last [] [] event answer same so_far one goes = (
  λ fine. subst (λ (f : FileNumbers). (answer ≡ Err NumbersSpent) ↔ AreNumbersSpent first earlier f) so_far (one fine),
  (last, subst (λ (f : FileNumbers). FileGoesOn (replayed first.state earlier) event f answer last) so_far goes, refl),
)
spends_more first earlier was file between last [] (a ∷ answers) event answer same so_far one goes = absurd (omega arith)
spends_more first earlier was file between last (e ∷ events) [] event answer same so_far one goes = absurd (omega arith)
spends_more first earlier was file between last (e ∷ events) (Ok t ∷ answers) event answer same so_far one goes = (
  so_far.0,
  (
    so_far.1.0,
    so_far.1.1,
    spends_more first (entry_of e t ∷ earlier) was so_far.1.0 between last events answers event answer (omega arith) so_far.1.2 one goes,
  ),
)
spends_more first earlier was file between last (e ∷ events) (Err x ∷ answers) event answer same so_far one goes = (
  so_far.0,
  (
    so_far.1.0,
    so_far.1.1,
    spends_more first earlier (broken_by was (Err x)) so_far.1.0 between last events answers event answer (omega arith) so_far.1.2 one goes,
  ),
)

first_kept : (events : List Event) (answers : List Reply) (event : Event) (answer : Reply) (found : Event)
    → first_broken events answers ≡ Some found → first_broken (events ++ event ∷ []) (answers ++ answer ∷ []) ≡ Some found
first_kept [] answers event answer found is = absurd cc
first_kept (e ∷ events) [] event answer found is = absurd cc
first_kept (e ∷ events) (Ok t ∷ answers) event answer found is = first_kept events answers event answer found is
first_kept (e ∷ events) (Err Broken ∷ answers) event answer found is = is
first_kept (e ∷ events) (Err NoMemory ∷ answers) event answer found is = first_kept events answers event answer found is
first_kept (e ∷ events) (Err NumbersSpent ∷ answers) event answer found is = first_kept events answers event answer found is

first_more : (events : List Event) (answers : List Reply) (event : Event) (answer : Reply) → length answers ≡ length events
    → first_broken events answers ≡ None
    → first_broken (events ++ event ∷ []) (answers ++ answer ∷ []) ≡ first_broken (event ∷ []) (answer ∷ [])
first_more [] [] event answer same is = refl
first_more [] (a ∷ answers) event answer same is = absurd (omega arith)
first_more (e ∷ events) [] event answer same is = absurd (omega arith)
first_more (e ∷ events) (Ok t ∷ answers) event answer same is = first_more events answers event answer (omega arith) is
first_more (e ∷ events) (Err Broken ∷ answers) event answer same is = absurd cc
first_more (e ∷ events) (Err NoMemory ∷ answers) event answer same is = first_more events answers event answer (omega arith) is
first_more (e ∷ events) (Err NumbersSpent ∷ answers) event answer same is = first_more events answers event answer (omega arith) is

-- ---- what one turn says

pub record IsTurnMade {D : Type 0} (honest : D → Type 0) (history : D → List Change) (old new : LiveState D) (event : Event)
    (answer : Reply) : Type 0 where
  pub made : IfOk answer (λ t. IsTurn old event t new)
  pub any_moment : honest old.a → honest old.b → old.is_broken ≡ false
      → (k : Option ℕ) × IfOk answer (λ t. t.refused_at ≡ k)
      × AllFindSince (λ f. (f ≡ Some old.state.machine.saved) ⊎ (let now = step old.state event k in f ≡ Some now.after.machine.saved))
      (history new.a) (length (history old.a)) (history new.b) (length (history old.b))
  pub kept : honest old.a → honest old.b → new.is_broken ≡ false
      → AllFindNow (λ f. f ≡ Some new.state.machine.saved) (history new.a) (history new.b)
  pub usable : OnOk answer (new.is_broken ≡ false)
  pub one_file : WritesOneFile old new answer
  pub file : FileGoesOn old.state event old.file answer new.file
  pub broken : old.is_broken ≡ true → (answer ≡ Err Broken) × (new ≡ old)
  pub breaks : answer ≡ Err Broken → new.is_broken ≡ true
  pub nothing_done : answer ≡ Err NumbersSpent → new ≡ old
  pub stays : OnErr answer (answer ≢ Err Broken → IsStill old new)
  pub not_counted : OnErr answer (new.numbers.event ≡ old.numbers.event)
  pub numbers_spent : old.is_broken ≡ false → ((answer ≡ Err NumbersSpent) ↔ AreSpent old.numbers old.file)
  pub continues_a : honest old.a → Continues (history old.a) (history new.a)
  pub continues_b : honest old.b → Continues (history old.b) (history new.b)
  pub honest_a : honest old.a ↔ honest new.a
  pub honest_b : honest old.b ↔ honest new.b

-- a turn before which no checkpoint is due writes to the file that is in use
turn_in_file : {D : Type 0} (honest : D → Type 0) (history : D → List Change) (old new : LiveState D) (event : Event) (answer : Reply)
    → IsTurnMade honest history old new event answer → is_due old.file ≡ false → IsOtherKept old.is_in_b old new
turn_in_file honest history old new event answer m is =
    let one = m.one_file.other_file in
    subst (λ in_b. IsOtherKept in_b old new) (let same : writes_to_b old ≡ old.is_in_b = (rw is refl) in same) one

-- how the numbers of the file go on by a turn
pub file_goes_on : {D : Type 0} (old new : LiveState D) (event : Event) (answer : Reply) → IfOk answer (λ t. IsTurn old event t new)
    → RefusesInOrder old new answer → FileGoesOn old.state event old.file answer new.file
file_goes_on old new event (Ok t) made refuses = made.file
file_goes_on old new event (Err Broken) made refuses = tt
file_goes_on old new event (Err NoMemory) made refuses = elim (refuses.stays (λ is. cc)) [
  | inl same ↦ inl (ap (λ v. v.file) same)
  | inr ready ↦ inr ready.file
]
file_goes_on old new event (Err NumbersSpent) made refuses = ap (λ v. v.file) (refuses.nothing_done refl)

-- ---- a run so far

-- its history
abbrev pub whole_of : List Event → List Reply → List Entry
whole_of events answers = history_of [] events answers

-- A run in which no checkpoint can be due writes to one file, in which a record stands for each event at most, and no bytes but theirs.
pub record IsInFile {D : Type 0} (first now : LiveState D) (events : List Event) (answers : List Reply) : Type 0 where
  pub other_file : MatchBool first.is_in_b (now.a ≡ first.a) (now.b ≡ first.b)
  pub same_file : now.is_in_b ≡ first.is_in_b
  pub few : now.is_broken ≡ false → now.file.records ≤ first.file.records + length events
  pub short : now.is_broken ≡ false → now.file.bytes ≤ first.file.bytes + bytes_after first.state (whole_of events answers)
  pub behind : now.is_broken ≡ false → now.file.snapshot_len ≡ first.file.snapshot_len
  pub laid : now.is_broken ≡ false → now.file.layout ≡ first.file.layout

pub record IsRunSoFar {D : Type 0} (honest : D → Type 0) (history : D → List Change) (first now : LiveState D) (events : List Event)
    (answers : List Reply) : Type 0 where
  pub counted : length answers ≡ length events
  pub transcript : IsTranscript first [] events answers
  pub orderly : StaysBroken first.is_broken answers
  pub broken : now.is_broken ≡ broken_after first.is_broken answers
  pub unbroken : now.is_broken ≡ false → (first_broken events answers ≡ None) × (first.is_broken ≡ false)
  pub state : now.is_broken ≡ false → now.state ≡ replayed first.state (history_of [] events answers)
  pub spends : SpendsNumbers first [] first.is_broken first.file now.file events answers
  pub event : now.numbers.event ≡ first.numbers.event + length (history_of [] events answers)
  pub numbers : now.is_broken ≡ false → now.numbers ≡ numbers_after first.state first.numbers (history_of [] events answers)
  pub in_file : HasRoomFor first events answers → IsInFile first now events answers
  pub kept : honest first.a → honest first.b → now.is_broken ≡ false
      → AllFindNow (λ f. f ≡ Some now.state.machine.saved) (history now.a) (history now.b)
  pub given_out : honest first.a → honest first.b → first.is_broken ≡ false → now.is_broken ≡ true
      → AllFindNow (FindsWhole first.state events answers) (history now.a) (history now.b)
  pub any_moment : honest first.a → honest first.b → first.is_broken ≡ false → HasRoomFor first events answers
      → AllFindSince (FindsPrefix first.state events answers) (history now.a) (length (history first.a)) (history now.b)
      (length (history first.b))
  pub continues_a : honest first.a → Continues (history first.a) (history now.a)
  pub continues_b : honest first.b → Continues (history first.b) (history now.b)
  pub honest_a : honest first.a ↔ honest now.a
  pub honest_b : honest first.b ↔ honest now.b

pub finds_prefix_of_whole : (s : State) (events : List Event) (answers : List Reply) (f : Option SavedState) → FindsWhole s events answers f
    → FindsPrefix s events answers f
finds_prefix_of_whole s events answers f w =
    record { whole = w.whole; is_whole = w.is_whole; later = []; prefix = w.whole; parts = refl; finds = w.finds }

-- nothing has happened yet
pub begins : {D : Type 0} (honest : D → Type 0) (history : D → List Change) (first : LiveState D)
    → (honest first.a → honest first.b → first.is_broken ≡ false
    → AllFindNow (λ f. f ≡ Some first.state.machine.saved) (history first.a) (history first.b))
    → IsRunSoFar honest history first first [] []
begins honest history first kept = record {
  counted = refl;
  transcript = tt;
  orderly = tt;
  broken = refl;
  unbroken = λ is. (refl, is);
  state = λ is. refl;
  spends = refl;
  event = omega arith;
  numbers = λ is. refl;
  in_file = λ room. record {
    other_file = other_same first.is_in_b first;
    same_file = refl;
    few = λ is. omega arith;
    short = λ is. omega arith;
    behind = λ is. refl;
    laid = λ is. refl;
  };
  kept = kept;
  given_out = λ ha hb usable broken. absurd cc;
  any_moment = λ ha hb usable room x y at_x at_y.
      record {
        whole = [];
        is_whole = inl refl;
        later = [];
        prefix = [];
        parts = refl;
        finds = kept ha hb usable x y (now_only (history first.a) x at_x) (now_only (history first.b) y at_y);
      };
  continues_a = λ ha. continues_same (history first.a);
  continues_b = λ hb. continues_same (history first.b);
  honest_a = (λ h. h, λ h. h);
  honest_b = (λ h. h, λ h. h);
}

-- ---- the whole history grows

whole_refused : (events : List Event) (answers : List Reply) (event : Event) (e : LiveError) (whole : List Entry)
    → length answers ≡ length events
    → IsWhole events answers whole → IsWhole (events ++ event ∷ []) (answers ++ Err e ∷ []) whole
whole_refused events answers event e whole same (inl is) = inl (is ∙ sym (history_more [] events answers event (Err e) same))
whole_refused events answers event e whole same (inr h) = inr (record {
  event = h.event;
  refused = h.refused;
  first = first_kept events answers event (Err e) h.event h.first;
  on_top = h.on_top ∙ ap (λ (w : List Entry). record { event = h.event; refused = h.refused } ∷ w)
      (sym (history_more [] events answers event (Err e) same));
})

prefix_refused : (s : State) (events : List Event) (answers : List Reply) (event : Event) (e : LiveError) (f : Option SavedState)
    → length answers ≡ length events
    → FindsPrefix s events answers f → FindsPrefix s (events ++ event ∷ []) (answers ++ Err e ∷ []) f
prefix_refused s events answers event e f same h = record {
  whole = h.whole;
  is_whole = whole_refused events answers event e h.whole same h.is_whole;
  later = h.later;
  prefix = h.prefix;
  parts = h.parts;
  finds = h.finds;
}

whole_kept_refused : (s : State) (events : List Event) (answers : List Reply) (event : Event) (e : LiveError) (f : Option SavedState)
    → length answers ≡ length events
    → FindsWhole s events answers f → FindsWhole s (events ++ event ∷ []) (answers ++ Err e ∷ []) f
whole_kept_refused s events answers event e f same h = record {
  whole = h.whole;
  is_whole = whole_refused events answers event e h.whole same h.is_whole;
  finds = h.finds;
}

-- an event was answered, and none was broken before
prefix_answered : (s : State) (events : List Event) (answers : List Reply) (event : Event) (t : Answer) (f : Option SavedState)
    → length answers ≡ length events → first_broken events answers ≡ None
    → FindsPrefix s events answers f → FindsPrefix s (events ++ event ∷ []) (answers ++ Ok t ∷ []) f
prefix_answered s events answers event t f same none h = elim h.is_whole [
  | inl is ↦ record {
    whole = entry_of event t ∷ h.whole;
    is_whole = inl (ap (λ (w : List Entry). entry_of event t ∷ w) is ∙ sym (history_more [] events answers event (Ok t) same));
    later = entry_of event t ∷ h.later;
    prefix = h.prefix;
    parts = ap (λ (w : List Entry). entry_of event t ∷ w) h.parts;
    finds = h.finds;
  }
  | inr b ↦ (let first = b.first in absurd cc)
]

-- ---- one turn more

by_refused : (was : Bool) (e : LiveError) → (e ≡ Broken → was ≡ true) → broken_by was (Err e) ≡ was
by_refused was Broken h = sym (h refl)
by_refused was NoMemory h = refl
by_refused was NumbersSpent h = refl

first_refused : (event : Event) (e : LiveError) → (e ≡ Broken → ⊥) → first_broken (event ∷ []) (Err e ∷ []) ≡ None
first_refused event Broken h = absurd (h refl)
first_refused event NoMemory h = refl
first_refused event NumbersSpent h = refl

counts_on : (events : List Event) (answers : List Reply) (event : Event) (answer : Reply) → length answers ≡ length events
    → length (answers ++ answer ∷ []) ≡ length (events ++ event ∷ [])
counts_on events answers event answer same = omega (arith, same, length-append answers (answer ∷ []), length-append events (event ∷ []))

-- an event adds bytes, or none
bytes_more : (s : State) (earlier : List Entry) (event : Event) (answer : Reply)
    → bytes_after s earlier ≤ bytes_after s (history_of earlier (event ∷ []) (answer ∷ []))
bytes_more s earlier event (Ok t) = omega arith
bytes_more s earlier event (Err e) = omega arith

less_bytes : (s : State) (events : List Event) (answers : List Reply) (event : Event) (answer : Reply) → length answers ≡ length events
    → bytes_after s (whole_of events answers) ≤ bytes_after s (whole_of (events ++ event ∷ []) (answers ++ answer ∷ []))
less_bytes s events answers event answer same =
    subst (λ (h : List Entry). bytes_after s (whole_of events answers) ≤ bytes_after s h) (sym (history_more [] events answers event answer same))
    (bytes_more s (whole_of events answers) event answer)

less_room : {D : Type 0} (first : LiveState D) (events : List Event) (answers : List Reply) (event : Event) (answer : Reply)
    → length answers ≡ length events → HasRoomFor first (events ++ event ∷ []) (answers ++ answer ∷ []) → HasRoomFor first events answers
less_room first events answers event answer same room = record {
  records = omega (arith, room.records, length-append events (event ∷ []));
  bytes = omega (arith, room.bytes, less_bytes first.state events answers event answer same);
}

-- where a run has room for one event more, no checkpoint is due
room_undue : {D : Type 0} (first old : LiveState D) (events : List Event) (answers : List Reply) (event : Event) (answer : Reply)
    → length answers ≡ length events → old.is_broken ≡ false → HasRoomFor first (events ++ event ∷ []) (answers ++ answer ∷ [])
    → IsInFile first old events answers → is_due old.file ≡ false
room_undue first old events answers event answer same usable room was =
    let few = was.few usable in
    let short = was.short usable in
    let limit : most_bytes old.file.snapshot_len ≡ most_bytes first.file.snapshot_len = ap most_bytes (was.behind usable) in
    let most : most_records old.file.layout old.file.snapshot_len ≡ most_records first.file.layout first.file.snapshot_len =
    ap (λ (n : ℕ). most_records n old.file.snapshot_len) (was.laid usable)
    ∙ ap (λ (n : ℕ). most_records first.file.layout n) (was.behind usable) in
    undue old.file (omega (arith, room.records, few, most, length-append events (event ∷ [])))
    (omega (arith, room.bytes, short, limit, less_bytes first.state events answers event answer same))

-- an event that changed nothing was refused
refused_still : {D : Type 0} (honest : D → Type 0) (history : D → List Change) (first old : LiveState D) (events : List Event)
    (answers : List Reply) (event : Event) (e : LiveError)
    → IsRunSoFar honest history first old events answers → (old.is_broken ≡ true → e ≡ Broken) → (e ≡ Broken → old.is_broken ≡ true)
    → SpendsNumbers first [] first.is_broken first.file old.file (events ++ event ∷ []) (answers ++ Err e ∷ [])
    → IsRunSoFar honest history first old (events ++ event ∷ []) (answers ++ Err e ∷ [])
refused_still honest history first old events answers event e r so_broken was_broken spends =
    let longer = sym (history_more [] events answers event (Err e) r.counted) in
    record {
      counted = counts_on events answers event (Err e) r.counted;
      transcript = transcript_more first [] events answers event (Err e) r.transcript tt;
      orderly = stays_more first.is_broken answers (Err e) r.orderly (λ b. ap Err (so_broken (r.broken ∙ b)));
      broken = r.broken ∙ sym (by_refused (broken_after first.is_broken answers) e (λ is. sym r.broken ∙ was_broken is))
          ∙ sym (broken_after_more first.is_broken answers (Err e));
      unbroken = λ is. (
        first_more events answers event (Err e) r.counted (r.unbroken is).0
            ∙ first_refused event e (λ b. let no = was_broken b in cc),
        (r.unbroken is).1,
      );
      state = λ is. r.state is ∙ ap (replayed first.state) longer;
      spends = spends;
      event = r.event ∙ ap (λ (h : List Entry). first.numbers.event + length h) longer;
      numbers = λ is. r.numbers is ∙ ap (numbers_after first.state first.numbers) longer;
      in_file = λ room.
          let was = r.in_file (less_room first events answers event (Err e) r.counted room) in
          record {
            other_file = was.other_file;
            same_file = was.same_file;
            few = λ is. (let few = was.few is in omega (arith, few, length-append events (event ∷ [])));
            short = λ is.
                (let short = was.short is in omega (arith, short, less_bytes first.state events answers event (Err e) r.counted));
            behind = was.behind;
            laid = was.laid;
          };
      kept = r.kept;
      given_out = λ ha hb usable b x y at_x at_y. whole_kept_refused first.state events answers event e _ r.counted
          (r.given_out ha hb usable b x y at_x at_y);
      any_moment = λ ha hb usable room x y at_x at_y. prefix_refused first.state events answers event e _ r.counted
          (r.any_moment ha hb usable (less_room first events answers event (Err e) r.counted room) x y at_x at_y);
      continues_a = r.continues_a;
      continues_b = r.continues_b;
      honest_a = r.honest_a;
      honest_b = r.honest_b;
    }

refused : {D : Type 0} (honest : D → Type 0) (history : D → List Change) (first old new : LiveState D) (events : List Event)
    (answers : List Reply) (event : Event) (e : LiveError)
    → new ≡ old → IsRunSoFar honest history first old events answers → (old.is_broken ≡ true → e ≡ Broken)
    → (e ≡ Broken → old.is_broken ≡ true)
    → SpendsNumbers first [] first.is_broken first.file new.file (events ++ event ∷ []) (answers ++ Err e ∷ [])
    → IsRunSoFar honest history first new (events ++ event ∷ []) (answers ++ Err e ∷ [])
refused {D} honest history first old new events answers event e same r so_broken was_broken spends =
    subst (λ v. IsRunSoFar honest history first v (events ++ event ∷ []) (answers ++ Err e ∷ [])) (sym same)
    (refused_still honest history first old events answers event e r so_broken was_broken
    (subst (λ (v : LiveState D). SpendsNumbers first [] first.is_broken first.file v.file (events ++ event ∷ []) (answers ++ Err e ∷ [])) same
    spends))

-- the file goes on by the state that the history has
file_goes : {D : Type 0} (honest : D → Type 0) (history : D → List Change) (first old new : LiveState D) (events : List Event)
    (answers : List Reply) (event : Event) (answer : Reply)
    → IsRunSoFar honest history first old events answers → IsTurnMade honest history old new event answer
    → FileGoesOn (replayed first.state (whole_of events answers)) event old.file answer new.file
file_goes honest history first old new events answers event answer r m = elim (broken_or_not old.is_broken) [
  | inl was ↦ subst (λ (a : Reply). FileGoesOn (replayed first.state (whole_of events answers)) event old.file a new.file)
      (sym (m.broken was).0) tt
  | inr usable ↦ subst (λ (s : State). FileGoesOn s event old.file answer new.file) (r.state usable) m.file
]

-- the numbers of the last event and the last record are those of the history, as long as no disk failed
spends_now : {D : Type 0} (honest : D → Type 0) (history : D → List Change) (first old new : LiveState D) (events : List Event)
    (answers : List Reply) (event : Event) (answer : Reply)
    → IsRunSoFar honest history first old events answers → IsTurnMade honest history old new event answer
    → SpendsNumbers first [] first.is_broken first.file new.file (events ++ event ∷ []) (answers ++ answer ∷ [])
spends_now honest history first old new events answers event answer r m =
    spends_more first [] first.is_broken first.file old.file new.file events answers event answer r.counted r.spends
    (λ fine.
    let usable = r.broken ∙ fine in
    subst (λ (n : Numbers). (answer ≡ Err NumbersSpent) ↔ AreSpent n old.file) (r.numbers usable) (m.numbers_spent usable))
    (file_goes honest history first old new events answers event answer r m)

-- the state before an event, as the history has it, is that from before or after it
found_before : {D : Type 0} (first old : LiveState D) (whole : List Entry) (f : Option SavedState) → old.state ≡ replayed first.state whole
    → f ≡ Some old.state.machine.saved → (let now = replayed first.state whole in f ≡ Some now.machine.saved)
found_before first old whole f is found = found ∙ ap (λ (s : State). Some s.machine.saved) is

found_after : {D : Type 0} (first old : LiveState D) (whole : List Entry) (event : Event) (k : Option ℕ) (f : Option SavedState)
    → old.state ≡ replayed first.state whole → (let now = step old.state event k in f ≡ Some now.after.machine.saved)
    → (let now = stepped (replayed first.state whole) (record { event = event; refused = k }) in f ≡ Some now.after.machine.saved)
found_after first old whole event k f is found =
    found ∙ ap (λ (s : State). let now : Stepped = step s event k in Some now.after.machine.saved) is

-- what an event adds to the file, where no checkpoint is due before it
record AddsOne {D : Type 0} (first old new : LiveState D) (events : List Event) (answers : List Reply) (event : Event) (answer : Reply)
    : Type 0 where
  few : new.file.records ≤ old.file.records + 1
  short : new.file.bytes + bytes_after first.state (whole_of events answers)
      ≤ old.file.bytes + bytes_after first.state (whole_of (events ++ event ∷ []) (answers ++ answer ∷ []))
  behind : new.file.snapshot_len ≡ old.file.snapshot_len
  laid : new.file.layout ≡ old.file.layout

-- a turn more in a run that has room for it
in_file_on : {D : Type 0} (honest : D → Type 0) (history : D → List Change) (first old new : LiveState D) (events : List Event)
    (answers : List Reply) (event : Event) (answer : Reply)
    → old.is_broken ≡ false → IsRunSoFar honest history first old events answers → IsTurnMade honest history old new event answer
    → HasRoomFor first (events ++ event ∷ []) (answers ++ answer ∷ [])
    → (new.is_broken ≡ false → is_due old.file ≡ false → AddsOne first old new events answers event answer)
    → IsInFile first new (events ++ event ∷ []) (answers ++ answer ∷ [])
in_file_on honest history first old new events answers event answer usable r m room one =
    let was = r.in_file (less_room first events answers event answer r.counted room) in
    let few = was.few usable in
    let short = was.short usable in
    let is : is_due old.file ≡ false = room_undue first old events answers event answer r.counted usable room was in
    record {
      other_file = other_join first.is_in_b first old new was.other_file
          (subst (λ in_b. IsOtherKept in_b old new) was.same_file (turn_in_file honest history old new event answer m is));
      same_file = m.one_file.same_file is ∙ was.same_file;
      few = λ fine. (let grown = one fine is in omega (arith, few, grown.few, length-append events (event ∷ [])));
      short = λ fine. (let grown = one fine is in omega (arith, short, grown.short));
      behind = λ fine. (let grown = one fine is in grown.behind ∙ was.behind usable);
      laid = λ fine. (let grown = one fine is in grown.laid ∙ was.laid usable);
    }

-- an event that was answered adds one record at most, where no checkpoint was due
answered_few : {D : Type 0} (honest : D → Type 0) (history : D → List Change) (first old new : LiveState D) (events : List Event)
    (answers : List Reply) (event : Event) (t : Answer)
    → old.is_broken ≡ false → IsRunSoFar honest history first old events answers → IsTurnMade honest history old new event (Ok t)
    → new.is_broken ≡ false → is_due old.file ≡ false → AddsOne first old new events answers event (Ok t)
answered_few honest history first old new events answers event t usable r m fine is =
    let whole : List Entry = whole_of events answers in
    let now : Stepped = step old.state event t.refused_at in
    let asked : Stepped = stepped (replayed first.state whole) (entry_of event t) in
    let after : new.file ≡ recorded (profile_of_step now) old.file now.ops =
    m.file ∙ ap (λ (f : FileNumbers). recorded (profile_of_step now) f now.ops) (ready_same old.state.machine.saved old.file is) in
    let one = recorded_one (profile_of_step now) old.file now.ops in
    let same : record_bytes (profile_of_step now) now.ops ≡ record_bytes (profile_of_step asked) asked.ops =
    ap (λ (s : State). let made : Stepped = step s event t.refused_at in record_bytes (profile_of_step made) made.ops) (r.state usable) in
    let longer : bytes_after first.state (whole_of (events ++ event ∷ []) (answers ++ Ok t ∷ []))
    ≡ bytes_after first.state whole + record_bytes (profile_of_step asked) asked.ops =
    ap (bytes_after first.state) (history_more [] events answers event (Ok t) r.counted) in
    record {
      few = omega (arith, one.few, ap (λ (f : FileNumbers). f.records) after);
      short = omega (arith, one.short, ap (λ (f : FileNumbers). f.bytes) after, same, longer);
      behind = ap (λ (f : FileNumbers). f.snapshot_len) after ∙ one.behind;
      laid = ap (λ (f : FileNumbers). f.layout) after ∙ one.laid;
    }

-- memory was refused behind a checkpoint, or for it
refused_ready : {D : Type 0} (honest : D → Type 0) (history : D → List Change) (first old new : LiveState D) (events : List Event)
    (answers : List Reply) (event : Event)
    → old.is_broken ≡ false → IsReady old new → IsRunSoFar honest history first old events answers
    → IsTurnMade honest history old new event (Err NoMemory)
    → IsRunSoFar honest history first new (events ++ event ∷ []) (answers ++ Err NoMemory ∷ [])
refused_ready {D} honest history first old new events answers event usable ready r m =
    let longer = sym (history_more [] events answers event (Err NoMemory) r.counted) in
    let same : HasRoomFor first (events ++ event ∷ []) (answers ++ Err NoMemory ∷ []) → new ≡ old = λ room.
    let was = r.in_file (less_room first events answers event (Err NoMemory) r.counted room) in
    ready.nothing_made (room_undue first old events answers event (Err NoMemory) r.counted usable room was) in
    record {
      counted = counts_on events answers event (Err NoMemory) r.counted;
      transcript = transcript_more first [] events answers event (Err NoMemory) r.transcript tt;
      orderly = stays_more first.is_broken answers (Err NoMemory) r.orderly (λ b. let was = r.broken in absurd cc);
      broken = ready.usable ∙ sym usable ∙ r.broken ∙ sym (broken_after_more first.is_broken answers (Err NoMemory));
      unbroken = λ is. (first_more events answers event (Err NoMemory) r.counted (r.unbroken usable).0, (r.unbroken usable).1);
      state = λ is. ready.state ∙ r.state usable ∙ ap (replayed first.state) longer;
      spends = spends_now honest history first old new events answers event (Err NoMemory) r m;
      event = (
          let before = r.event in
          let counted = ap (λ (n : Numbers). n.event) ready.numbers in
          omega (arith, counted, before, ap length longer)
          );
      numbers = λ is. ready.numbers ∙ r.numbers usable ∙ ap (numbers_after first.state first.numbers) longer;
      in_file = λ room.
          let was = r.in_file (less_room first events answers event (Err NoMemory) r.counted room) in
          let few = was.few usable in
          let short = was.short usable in
          subst (λ v. IsInFile first v (events ++ event ∷ []) (answers ++ Err NoMemory ∷ [])) (sym (same room)) (record {
            other_file = was.other_file;
            same_file = was.same_file;
            few = λ is. omega (arith, few, length-append events (event ∷ []));
            short = λ is. omega (arith, short, less_bytes first.state events answers event (Err NoMemory) r.counted);
            behind = was.behind;
            laid = was.laid;
          });
      kept = λ ha hb is. m.kept (r.honest_a.0 ha) (r.honest_b.0 hb) is;
      given_out = λ ha hb first_usable b. (let not = ready.usable in absurd cc);
      any_moment = λ ha hb first_usable room x y at_x at_y.
          let was = r.any_moment ha hb first_usable (less_room first events answers event (Err NoMemory) r.counted room) x y in
          prefix_refused first.state events answers event NoMemory (given_state x y) r.counted
          (was (subst (λ (v : LiveState D). LeftSince (history v.a) (length (history first.a)) x) (same room) at_x)
          (subst (λ (v : LiveState D). LeftSince (history v.b) (length (history first.b)) y) (same room) at_y));
      continues_a = λ ha. continues_join (history first.a) (history old.a) (history new.a) (r.continues_a ha)
          (m.continues_a (r.honest_a.0 ha));
      continues_b = λ hb. continues_join (history first.b) (history old.b) (history new.b) (r.continues_b hb)
          (m.continues_b (r.honest_b.0 hb));
      honest_a = (λ h. m.honest_a.0 (r.honest_a.0 h), λ h. r.honest_a.1 (m.honest_a.1 h));
      honest_b = (λ h. m.honest_b.0 (r.honest_b.0 h), λ h. r.honest_b.1 (m.honest_b.1 h));
    }

-- a disk fault came in an event
broke : {D : Type 0} (honest : D → Type 0) (history : D → List Change) (first old new : LiveState D) (events : List Event)
    (answers : List Reply) (event : Event)
    → old.is_broken ≡ false → IsRunSoFar honest history first old events answers → IsTurnMade honest history old new event (Err Broken)
    → IsRunSoFar honest history first new (events ++ event ∷ []) (answers ++ Err Broken ∷ [])
broke {D} honest history first old new events answers event usable r m =
    let now_broken : new.is_broken ≡ true = m.breaks refl in
    let longer = sym (history_more [] events answers event (Err Broken) r.counted) in
    let whole : List Entry = whole_of events answers in
    let finds : (k : Option ℕ) (f : Option SavedState)
    → ((f ≡ Some old.state.machine.saved) ⊎ (let now = step old.state event k in f ≡ Some now.after.machine.saved))
    → FindsWhole first.state (events ++ event ∷ []) (answers ++ Err Broken ∷ []) f =
    λ k f either. elim either [
      | inl before ↦ record { whole = whole; is_whole = inl longer; finds = found_before first old whole f (r.state usable) before }
      | inr after ↦ record {
        whole = record { event = event; refused = k } ∷ whole;
        is_whole = inr (record {
          event = event;
          refused = k;
          first =
              first_more events answers event (Err Broken) r.counted (r.unbroken usable).0;
          on_top =
              ap (λ (w : List Entry). record { event = event; refused = k } ∷ w) longer;
        });
        finds = found_after first old whole event k f (r.state usable) after;
      }
    ] in
    record {
      counted = counts_on events answers event (Err Broken) r.counted;
      transcript = transcript_more first [] events answers event (Err Broken) r.transcript tt;
      orderly = stays_more first.is_broken answers (Err Broken) r.orderly (λ b. refl);
      broken = now_broken ∙ sym (broken_after_more first.is_broken answers (Err Broken));
      unbroken = λ is. absurd cc;
      state = λ is. absurd cc;
      spends = spends_now honest history first old new events answers event (Err Broken) r m;
      event = m.not_counted ∙ r.event ∙ ap (λ (h : List Entry). first.numbers.event + length h) longer;
      numbers = λ is. absurd cc;
      in_file = λ room. in_file_on honest history first old new events answers event (Err Broken) usable r m room (λ is. absurd cc);
      kept = λ ha hb is. absurd cc;
      given_out = λ ha hb first_usable b x y at_x at_y.
          let turn = m.any_moment (r.honest_a.0 ha) (r.honest_b.0 hb) usable in
          finds turn.0 (given_state x y) (turn.2 x y (counts_now (history new.a) (length (history old.a)) x at_x)
          (counts_now (history new.b) (length (history old.b)) y at_y));
      any_moment = λ ha hb first_usable room.
          let turn = m.any_moment (r.honest_a.0 ha) (r.honest_b.0 hb) usable in
          let one = one_file history first.is_in_b first new (in_file_on honest history first old new events answers event (Err Broken) usable r m room
          (λ is. absurd cc)).other_file in
          join_pairs (FindsPrefix first.state (events ++ event ∷ []) (answers ++ Err Broken ∷ [])) (history first.a) (history old.a)
          (history new.a) (history first.b) (history old.b) (history new.b)
          (r.continues_a ha) (m.continues_a (r.honest_a.0 ha)) (r.continues_b hb) (m.continues_b (r.honest_b.0 hb)) one
          (λ still x y at_x at_y. prefix_refused first.state events answers event Broken (given_state x y) r.counted
          (r.any_moment ha hb first_usable (less_room first events answers event (Err Broken) r.counted room) x y at_x at_y))
          (λ x y at_x at_y. finds_prefix_of_whole first.state (events ++ event ∷ []) (answers ++ Err Broken ∷ []) (given_state x y)
          (finds turn.0 (given_state x y) (turn.2 x y at_x at_y)));
      continues_a = λ ha. continues_join (history first.a) (history old.a) (history new.a) (r.continues_a ha)
          (m.continues_a (r.honest_a.0 ha));
      continues_b = λ hb. continues_join (history first.b) (history old.b) (history new.b) (r.continues_b hb)
          (m.continues_b (r.honest_b.0 hb));
      honest_a = (λ h. m.honest_a.0 (r.honest_a.0 h), λ h. r.honest_a.1 (m.honest_a.1 h));
      honest_b = (λ h. m.honest_b.0 (r.honest_b.0 h), λ h. r.honest_b.1 (m.honest_b.1 h));
    }

counts_one : (before : Numbers) (ops : List Op) → (let now : Numbers = next_numbers before ops in now.event) ≡ before.event + 1
counts_one before [] = refl
counts_one before (op ∷ ops) = refl

-- an event was answered
answered : {D : Type 0} (honest : D → Type 0) (history : D → List Change) (first old new : LiveState D) (events : List Event)
    (answers : List Reply) (event : Event) (t : Answer)
    → old.is_broken ≡ false → IsRunSoFar honest history first old events answers → IsTurnMade honest history old new event (Ok t)
    → IsRunSoFar honest history first new (events ++ event ∷ []) (answers ++ Ok t ∷ [])
answered {D} honest history first old new events answers event t usable r m =
    let longer = sym (history_more [] events answers event (Ok t) r.counted) in
    let whole : List Entry = whole_of events answers in
    let same : step old.state event t.refused_at ≡ stepped (replayed first.state whole) (entry_of event t) =
    ap (λ (s : State). step s event t.refused_at) (r.state usable) in
    let made = m.made in
    let finds : (k : Option ℕ) (f : Option SavedState) → t.refused_at ≡ k
    → ((f ≡ Some old.state.machine.saved) ⊎ (let now = step old.state event k in f ≡ Some now.after.machine.saved))
    → FindsPrefix first.state (events ++ event ∷ []) (answers ++ Ok t ∷ []) f =
    λ k f place either. elim either [
      | inl before ↦ record {
        whole = entry_of event t ∷ whole;
        is_whole = inl longer;
        later = entry_of event t ∷ [];
        prefix = whole;
        parts = refl;
        finds = found_before first old whole f (r.state usable) before;
      }
      | inr after ↦ record {
        whole = entry_of event t ∷ whole;
        is_whole = inl longer;
        later = [];
        prefix = entry_of event t ∷ whole;
        parts = refl;
        finds = found_after first old whole event t.refused_at f (r.state usable)
            (after ∙ ap (λ (p : Option ℕ). let now : Stepped = step old.state event p in Some now.after.machine.saved) (sym place));
      }
    ] in
    record {
      counted = counts_on events answers event (Ok t) r.counted;
      transcript = transcript_more first [] events answers event (Ok t) r.transcript (
        record {
          outputs = made.outputs ∙ ap (λ (st : Stepped). st.outputs) same;
          closes = made.closes ∙ ap (λ (st : Stepped). st.closes) same;
          ended = made.ended ∙ ap (λ (st : Stepped). st.ended) same;
          refused_at = made.refused_at ∙ ap (λ (st : Stepped). st.refused_at) same;
          numbered = subst (λ (n : Numbers). let now : Stepped = stepped (replayed first.state whole) (entry_of event t) in IsNumbered n
              now.ops t)
              (r.numbers usable) (subst (λ (st : Stepped). IsNumbered old.numbers st.ops t) same made.numbered);
        },
        tt,
      );
      orderly = stays_more first.is_broken answers (Ok t) r.orderly (λ b. let was = r.broken in absurd cc);
      broken = m.usable ∙ sym usable ∙ r.broken ∙ sym (broken_after_more first.is_broken answers (Ok t));
      unbroken = λ is. (first_more events answers event (Ok t) r.counted (r.unbroken usable).0, (r.unbroken usable).1);
      state = λ is. made.state ∙ ap (λ (st : Stepped). st.after) same ∙ ap (replayed first.state) longer;
      spends = spends_now honest history first old new events answers event (Ok t) r m;
      event = (
          let before = r.event in
          let counted : new.numbers.event ≡ old.numbers.event + 1 = let asked : Stepped = step old.state event t.refused_at in
          ap (λ (n : Numbers). n.event) made.numbers ∙ counts_one old.numbers asked.ops in
          omega (arith, counted, before, ap length longer)
          );
      numbers = λ is. made.numbers
          ∙ ap (λ (n : Numbers). let now : Stepped = step old.state event t.refused_at in next_numbers n now.ops) (r.numbers usable)
          ∙ ap (λ (st : Stepped). next_numbers (numbers_after first.state first.numbers whole) st.ops) same
          ∙ ap (numbers_after first.state first.numbers) longer;
      in_file = λ room. in_file_on honest history first old new events answers event (Ok t) usable r m room
          (answered_few honest history first old new events answers event t usable r m);
      kept = λ ha hb is. m.kept (r.honest_a.0 ha) (r.honest_b.0 hb) is;
      given_out = λ ha hb first_usable b. (let not = m.usable in absurd cc);
      any_moment = λ ha hb first_usable room.
          let turn = m.any_moment (r.honest_a.0 ha) (r.honest_b.0 hb) usable in
          let one = one_file history first.is_in_b first new (in_file_on honest history first old new events answers event (Ok t) usable r m room
          (answered_few honest history first old new events answers event t usable r m)).other_file in
          join_pairs (FindsPrefix first.state (events ++ event ∷ []) (answers ++ Ok t ∷ [])) (history first.a) (history old.a)
          (history new.a) (history first.b) (history old.b) (history new.b)
          (r.continues_a ha) (m.continues_a (r.honest_a.0 ha)) (r.continues_b hb) (m.continues_b (r.honest_b.0 hb)) one
          (λ still x y at_x at_y. prefix_answered first.state events answers event t (given_state x y) r.counted (r.unbroken usable).0
          (r.any_moment ha hb first_usable (less_room first events answers event (Ok t) r.counted room) x y at_x at_y))
          (λ x y at_x at_y. finds turn.0 (given_state x y) turn.1 (turn.2 x y at_x at_y));
      continues_a = λ ha. continues_join (history first.a) (history old.a) (history new.a) (r.continues_a ha)
          (m.continues_a (r.honest_a.0 ha));
      continues_b = λ hb. continues_join (history first.b) (history old.b) (history new.b) (r.continues_b hb)
          (m.continues_b (r.honest_b.0 hb));
      honest_a = (λ h. m.honest_a.0 (r.honest_a.0 h), λ h. r.honest_a.1 (m.honest_a.1 h));
      honest_b = (λ h. m.honest_b.0 (r.honest_b.0 h), λ h. r.honest_b.1 (m.honest_b.1 h));
    }

not_broken : (was : Bool) → (was ≡ true → ⊥) → was ≡ false
not_broken true h = absurd (h refl)
not_broken false h = refl

ok_is_no_err : (t : Answer) (r : Reply) → r ≡ Ok t → r ≡ Err Broken → ⊥
ok_is_no_err t r is is_not = cc

memory_is_no_fault : (let r : Reply = Err NoMemory in r ≡ Err Broken) → ⊥
memory_is_no_fault is = cc

-- a run goes on by one turn
pub goes_on : {D : Type 0} (honest : D → Type 0) (history : D → List Change) (first old new : LiveState D) (events : List Event)
    (answers : List Reply) (event : Event) (answer : Reply)
    → IsRunSoFar honest history first old events answers → IsTurnMade honest history old new event answer
    → IsRunSoFar honest history first new (events ++ event ∷ []) (answers ++ answer ∷ [])
goes_on honest history first old new events answers event (Ok t) r m =
    answered honest history first old new events answers event t (not_broken old.is_broken (λ b. ok_is_no_err t (Ok t) refl (m.broken b).0))
    r m
goes_on honest history first old new events answers event (Err Broken) r m =
    elim (broken_or_not old.is_broken) [
      | inl was ↦ refused honest history first old new events answers event Broken (m.broken was).1 r (λ b. refl) (λ b. was)
          (spends_now honest history first old new events answers event (Err Broken) r m)
      | inr usable ↦ broke honest history first old new events answers event usable r m
    ]
goes_on honest history first old new events answers event (Err NoMemory) r m =
    elim (m.stays (λ is. cc)) [
      | inl same ↦ refused honest history first old new events answers event NoMemory same r (λ b. let no = (m.broken b).0 in cc)
          (λ is. absurd cc) (spends_now honest history first old new events answers event (Err NoMemory) r m)
      | inr ready ↦ refused_ready honest history first old new events answers event
          (not_broken old.is_broken (λ b. memory_is_no_fault (m.broken b).0)) ready r m
    ]
goes_on honest history first old new events answers event (Err NumbersSpent) r m =
    refused honest history first old new events answers event NumbersSpent (m.nothing_done refl) r
    (λ b. let no = (m.broken b).0 in cc) (λ is. absurd cc)
    (spends_now honest history first old new events answers event (Err NumbersSpent) r m)

-- ---- faults

-- a disk has failed since
abbrev pub HasFailed : {D : Type 0} → (D → ℕ) → LiveState D → LiveState D → Type 0
HasFailed faults old new = HasGrown (faults old.a) (faults new.a) ⊎ HasGrown (faults old.b) (faults new.b)

failed_since : {D : Type 0} (faults : D → ℕ) (first old new : LiveState D) → faults first.a ≤ faults old.a → faults first.b ≤ faults old.b
    → HasFailed faults old new → HasFailed faults first new
failed_since faults first old new later_a later_b (inl grown) = inl (λ fits. omega (arith, later_a, grown fits))
failed_since faults first old new later_a later_b (inr grown) = inr (λ fits. omega (arith, later_b, grown fits))

-- a stage that broke in a run has met a disk fault in it
pub fails_on : {D : Type 0} (honest : D → Type 0) (history : D → List Change) (faults : D → ℕ) (first old new : LiveState D) (event : Event)
    (answer : Reply)
    → IsTurnMade honest history old new event answer → faults first.a ≤ faults old.a → faults first.b ≤ faults old.b
    → (old.is_broken ≡ true → HasFailed faults first old) → (old.is_broken ≡ false → answer ≡ Err Broken → HasFailed faults old new)
    → new.is_broken ≡ true → HasFailed faults first new
fails_on honest history faults first old new event (Ok t) m later_a later_b before now broken = (let not = m.usable in absurd cc)
fails_on honest history faults first old new event (Err Broken) m later_a later_b before now broken = elim (broken_or_not old.is_broken) [
  | inl was ↦ subst (λ v. HasFailed faults first v) (sym (m.broken was).1) (before was)
  | inr usable ↦ failed_since faults first old new later_a later_b (now usable refl)
]
fails_on honest history faults first old new event (Err NoMemory) m later_a later_b before now broken =
    elim (m.stays (λ is. cc)) [
      | inl same ↦ subst (λ v. HasFailed faults first v) (sym same) (before (ap (λ v. v.is_broken) (sym same) ∙ broken))
      | inr ready ↦ (let not = ready.usable in absurd cc)
    ]
fails_on honest history faults first old new event (Err NumbersSpent) m later_a later_b before now broken =
    let same : new ≡ old = m.nothing_done refl in
    subst (λ v. HasFailed faults first v) (sym same) (before (ap (λ v. v.is_broken) (sym same) ∙ broken))

-- ---- the whole run

-- at its end a restart finds the whole history
pub run_finds : {D : Type 0} (honest : D → Type 0) (history : D → List Change) (first now : LiveState D) (events : List Event)
    (answers : List Reply)
    → IsRunSoFar honest history first now events answers → honest first.a → honest first.b → first.is_broken ≡ false
    → AllFindNow (FindsWhole first.state events answers) (history now.a) (history now.b)
run_finds honest history first now events answers r ha hb usable x y at_x at_y =
    elim (broken_or_not now.is_broken) [
      | inl broken ↦ r.given_out ha hb usable broken x y at_x at_y
      | inr fine ↦ record {
        whole = whole_of events answers;
        is_whole = inl refl;
        finds =
            r.kept ha hb fine x y at_x at_y ∙ ap (λ (s : State). Some s.machine.saved) (r.state fine);
      }
    ]

-- ---- from the start of a life

pub replayed_from_start : (kept : SavedState) (history : List Entry) → replayed (start kept) history ≡ replay kept history
unfolding replay
replayed_from_start kept [] = refl
replayed_from_start kept (entry ∷ earlier) =
    ap (λ (s : State). let now : Stepped = stepped s entry in now.after) (replayed_from_start kept earlier)

pub run_replies : {D : Type 0} (first : LiveState D) (kept : SavedState) (earlier : List Entry) (events : List Event) (answers : List Reply)
    → first.state ≡ start kept → IsTranscript first earlier events answers → AreReplies kept earlier events answers
run_replies first kept earlier [] [] begun told = tt
run_replies first kept earlier [] (a ∷ answers) begun told = elim told [ ]
run_replies first kept earlier (e ∷ events) [] begun told = elim told [ ]
run_replies first kept earlier (e ∷ events) (Ok t ∷ answers) begun told = (
  told.0.outputs
      ∙ ap (λ (s : State). let now : Stepped = stepped (replayed s earlier) (entry_of e t) in now.outputs) begun
      ∙ ap (λ (s : State). let now : Stepped = stepped s (entry_of e t) in now.outputs) (replayed_from_start kept earlier)
      ∙ outputs_are_replies kept earlier (entry_of e t),
  run_replies first kept (entry_of e t ∷ earlier) events answers begun told.1,
)
run_replies first kept earlier (e ∷ events) (Err x ∷ answers) begun told = run_replies first kept earlier events answers begun told
