-- A group, one event more at a time.
use Rattle.std.proofs.Common.{◌≡◌, ◌≢◌, ◌⊎◌, ℕ, ◌+◌, ◌-◌, ◌*◌, ◌^◌, ◌<◌, ◌≤◌, min, Bool, true, false, not, ◌&&◌, ◌||◌, List, [], ◌∷◌, ◌++◌}
use Rattle.std.proofs.Common.{length, length-append, map, reverse, Option, Some, None, Result, Ok, Err, refl, sym, ap, subst, ◌∙◌}
use Rattle.std.proofs.Common.{append_assoc, arith}
use Rattle.std.specs.Prelude.{sum_by, nat_le, ◌==◌}
use Rattle.std.specs.List.{AllByRecursion, list_any}
use Rattle.std.proofs.lemmas.Bool.{and_parts, not-true, or_parts, leb-true, eqb-false}
use Rattle.std.proofs.lemmas.Bool.Decides.{nat_tests}
use Rattle.std.proofs.lemmas.List.{append-nil, reverse-append}
use Rattle.std.proofs.lemmas.List.Sums.{sum_by-append}
use Rattle.std.proofs.lemmas.List.Folds.{list_any-append}
use Rattle.play_journal.specs.Content.{Content, with_record, with_records}
use Rattle.play_journal.specs.File.{records_len}
use Rattle.play_journal.proofs.GroupLaws.{records_len-one, records_len-append, no_records}
use Rattle.machine_core.specs.Looks.{max_looks}
use Rattle.profile.specs.declared.profile.Profile.{Profile}
use Rattle.state_codec.specs.declared.op.Op.{Op}
use Rattle.state_codec.specs.Layout.{written_layout}
use Rattle.state_codec.specs.SavedState.{SavedState}
use Rattle.state_codec.specs.Applied.{all_applied}
use Rattle.state_codec.specs.Ops.{IsOp}
use Rattle.state_codec.specs.Spelling.{body_bytes}
use Rattle.daemon_core.specs.declared.event.Event.{Event}
use Rattle.daemon_core.specs.State.{State}
use Rattle.daemon_core.specs.Step.{Stepped, step}
use Rattle.daemon_core.specs.Replay.{Entry, stepped}
use Rattle.daemon_core.proofs.LooksLaws.{step_within}
use Rattle.live_stage.specs.declared.staging.Begin.{Begin}
use Rattle.live_stage.specs.declared.refusal.LiveError.{LiveError}
use Rattle.live_stage.specs.Answer.{Answer, IsNumbered, profile_of_step}
use Rattle.live_stage.specs.Found.{state_of}
use Rattle.live_stage.specs.Group.{AreParted, BearTheirStates, EndsThere, TookEach, answer_bytes, answer_looks, are_last, asked_by}
use Rattle.live_stage.specs.Group.{bodies_after, body_of, body_of_step, file_with, group_file, history_in, may_follow, most_answer_bytes, most_looks, takes_more}
use Rattle.live_stage.specs.LiveState.{LiveState}
use Rattle.live_stage.specs.Numbers.{Numbers, FileNumbers, greatest, is_due, longest_record, next_numbers}
use Rattle.live_stage.specs.Numbers.{record_bytes}
use Rattle.live_stage.specs.Staging.{AddsStep, AreStaged, AreTaken, IsAnswerOf, KeepsToBounds, file_begun, numbers_begun, numbers_staged}
use Rattle.live_stage.specs.Transcript.{IsStepOf, IsTranscript, entry_of, history_of, numbers_after, replayed}
use Rattle.live_stage.proofs.FoundLaws.{record_added}
use Rattle.live_stage.proofs.ProfileLaws.{profile_stays}

abbrev pub Reply : Type 0
Reply = Result Answer LiveError

-- ---- one answer more

history_on : (earlier : List Entry) (turns : List Answer) (t : Answer)
    → (let oks : List Reply = map Ok (turns ++ t ∷ []) in history_of earlier (asked_by (turns ++ t ∷ [])) oks)
    ≡ (let oks : List Reply = map Ok turns in entry_of t.asked t ∷ history_of earlier (asked_by turns) oks)
history_on earlier [] t = refl
history_on earlier (a ∷ turns) t = history_on (entry_of a.asked a ∷ earlier) turns t

pub history_more_by : (turns : List Answer) (t : Answer) → history_in (turns ++ t ∷ []) ≡ entry_of t.asked t ∷ history_in turns
history_more_by turns t = history_on [] turns t

history_len : (earlier : List Entry) (turns : List Answer)
    → (let oks : List Reply = map Ok turns in length (history_of earlier (asked_by turns) oks)) ≡ length earlier + length turns
history_len earlier [] = omega arith
history_len earlier (a ∷ turns) = history_len (entry_of a.asked a ∷ earlier) turns ∙ omega arith

pub length-history : (turns : List Answer) → length (history_in turns) ≡ length turns
length-history turns = history_len [] turns ∙ omega arith

transcript_on : {D : Type 0} (first : LiveState D) (earlier : List Entry) (turns : List Answer) (t : Answer)
    → (let oks : List Reply = map Ok turns in IsTranscript first earlier (asked_by turns) oks)
    → (let oks : List Reply = map Ok turns in let whole = history_of earlier (asked_by turns) oks in
    IsStepOf first whole (stepped (replayed first.state whole) (entry_of t.asked t)) t)
    → (let oks : List Reply = map Ok (turns ++ t ∷ []) in IsTranscript first earlier (asked_by (turns ++ t ∷ [])) oks)
transcript_on first earlier [] t so_far one = (one, tt)
transcript_on first earlier (a ∷ turns) t so_far one = (so_far.0, transcript_on first (entry_of a.asked a ∷ earlier) turns t so_far.1 one)

bear_on : (s : State) (earlier : List Entry) (turns : List Answer) (t : Answer) → BearTheirStates s earlier turns
    → (let oks : List Reply = map Ok turns in t.before ≡ replayed s (history_of earlier (asked_by turns) oks))
    → BearTheirStates s earlier (turns ++ t ∷ [])
bear_on s earlier [] t so_far one = (one, tt)
bear_on s earlier (a ∷ turns) t so_far one = (so_far.0, bear_on s (entry_of a.asked a ∷ earlier) turns t so_far.1 one)

all_on : {X : Type 0} (P : X → Type 0) (xs : List X) (x : X) → AllByRecursion P xs → P x → AllByRecursion P (xs ++ x ∷ [])
all_on P [] x all one = (one, tt)
all_on P (y ∷ xs) x all one = (all.0, all_on P xs x all.1 one)

pub asked_on : (turns : List Answer) (t : Answer) → asked_by (turns ++ t ∷ []) ≡ asked_by turns ++ t.asked ∷ []
asked_on [] t = refl
asked_on (a ∷ turns) t = ap (λ (l : List Event). a.asked ∷ l) (asked_on turns t)

pub took_on : (takes : List Answer → Bool) (before turns : List Answer) (t : Answer) → TookEach takes before turns
    → takes (before ++ turns) ≡ true → TookEach takes before (turns ++ t ∷ [])
took_on takes before [] t so_far one = (subst (λ (l : List Answer). takes l ≡ true) (append-nil before) one, tt)
took_on takes before (a ∷ turns) t so_far one = (
  so_far.0,
  took_on takes (before ++ a ∷ []) turns t so_far.1
      (subst (λ (l : List Answer). takes l ≡ true) (sym (append_assoc before (a ∷ []) turns)) one),
)

-- ---- numbers

next_are : (p : Profile) (before : Numbers) (ops : List Op)
    → next_numbers before ops ≡ record { event = before.event + 1; last_record = before.last_record + length (body_of p ops) }
next_are p before [] = ap (λ (n : ℕ). let now : Numbers = record { event = before.event + 1; last_record = n } in now) (omega arith)
next_are p before (op ∷ ops) = refl

pub numbers_are_after : (s : State) (first : Numbers) (whole : List Entry) → numbers_after s first whole
    ≡ record { event = first.event + length whole; last_record = first.last_record + length (bodies_after s whole) }
numbers_are_after s first [] =
    let numbers : ℕ → ℕ → Numbers = λ event last. record { event = event; last_record = last } in
    let event : first.event ≡ first.event + 0 = omega arith in
    let last : first.last_record ≡ first.last_record + 0 = omega arith in
    ap (λ (n : ℕ). numbers n first.last_record) event ∙ ap (λ (n : ℕ). numbers (first.event + 0) n) last
numbers_are_after s first (entry ∷ earlier) =
    let now : Stepped = stepped (replayed s earlier) entry in
    let numbers : ℕ → ℕ → Numbers = λ event last. record { event = event; last_record = last } in
    let bodies = bodies_after s earlier in
    let event : first.event + length earlier + 1 ≡ first.event + length (entry ∷ earlier) = omega arith in
    let last : first.last_record + length bodies + length (body_of_step now) ≡ first.last_record + length (bodies ++ body_of_step now) =
    omega (arith, length-append bodies (body_of_step now)) in
    ap (λ (n : Numbers). next_numbers n now.ops) (numbers_are_after s first earlier)
    ∙ next_are (profile_of_step now) (numbers (first.event + length earlier) (first.last_record + length bodies)) now.ops
    ∙ ap (λ (n : ℕ). numbers n (first.last_record + length bodies + length (body_of_step now))) event
    ∙ ap (λ (n : ℕ). numbers (first.event + length (entry ∷ earlier)) n) last

-- the numbers behind the answers of a group
staged_are : (begin : Begin) (s : State) (turns : List Answer) (bodies : List (List ℕ)) → bodies ≡ bodies_after s (history_in turns)
    → numbers_staged begin (length turns) bodies ≡ numbers_after s (numbers_begun begin) (history_in turns)
staged_are begin s turns bodies is =
    let numbers : ℕ → ℕ → Numbers = λ event last. record { event = event; last_record = last } in
    ap (λ (n : ℕ). numbers (begin.event + n) (begin.last_record + length bodies)) (sym (length-history turns))
    ∙ ap (λ (l : List (List ℕ)). numbers (begin.event + length (history_in turns)) (begin.last_record + length l)) is
    ∙ sym (numbers_are_after s (numbers_begun begin) (history_in turns))

-- ---- records

-- how many records ops make, and how many bytes these take
pub body_few : (p : Profile) (ops : List Op) → length (body_of p ops) ≤ 1
body_few p [] = omega arith
body_few p (op ∷ ops) = omega arith

pub body_takes : (p : Profile) (ops : List Op) → records_len (body_of p ops) ≡ record_bytes p ops
body_takes p [] = refl
body_takes p (op ∷ ops) = records_len-one (body_bytes p (op ∷ ops))

pub file_records : (file : FileNumbers) (bodies : List (List ℕ)) → (let f = file_with file bodies in f.records) ≡ file.records + length bodies
file_records file [] = omega arith
file_records file (body ∷ bodies) = refl

pub file_snapshot : (file : FileNumbers) (bodies : List (List ℕ)) → (let f = file_with file bodies in f.snapshot_len) ≡ file.snapshot_len
file_snapshot file [] = refl
file_snapshot file (body ∷ bodies) = refl

pub file_layout : (file : FileNumbers) (bodies : List (List ℕ)) → (let f = file_with file bodies in f.layout) ≡ file.layout
file_layout file [] = refl
file_layout file (body ∷ bodies) = refl

pub file_bytes : (file : FileNumbers) (bodies : List (List ℕ)) → file.bytes ≤ greatest
    → (let f = file_with file bodies in f.bytes) ≡ min (file.bytes + records_len bodies) greatest
file_bytes file [] fits = omega (arith, fits)
file_bytes file (body ∷ bodies) fits = refl

pub file_put_off : (file : FileNumbers) (bodies : List (List ℕ)) → (let f = file_with file bodies in f.is_put_off) ≡ file.is_put_off
file_put_off file [] = refl
file_put_off file (body ∷ bodies) = refl

pub put_off_with : (file : FileNumbers) (bodies : List (List ℕ)) (put_off : Bool)
    → (let f : FileNumbers = file_with file bodies in let g : FileNumbers = record f { is_put_off = put_off } in g)
    ≡ (let f : FileNumbers = record file { is_put_off = put_off } in file_with f bodies)
put_off_with file [] put_off = refl
put_off_with file (body ∷ bodies) put_off = refl

-- a content with these records stands for the state behind them
stands_on : (p : Profile) (content : Content) (bodies : List (List ℕ)) (ops : List Op) (s after : SavedState) → s.profile ≡ p
    → content.layout ≡ written_layout p → state_of (Some (with_records content bodies)) ≡ Some s → AllByRecursion IsOp ops → all_applied ops s ≡ Some after
    → state_of (Some (with_records content (bodies ++ body_of p ops))) ≡ Some after
stands_on p content bodies [] s after own layout stands valid applies =
    ap (λ (l : List (List ℕ)). state_of (Some (with_records content l))) (append-nil bodies) ∙ stands ∙ applies
stands_on p content bodies (op ∷ ops) s after own layout stands valid applies =
    ap (λ (l : List (List ℕ)). state_of (Some (record content { records = l })))
    (sym (append_assoc content.records bodies (body_of p (op ∷ ops))))
    ∙ record_added p (with_records content bodies) op ops s after own stands layout valid applies

-- ---- an event more is staged

pub none_staged : (D : Type 0) (begin : Begin) (s : State) → AreStaged D begin s [] s []
none_staged D begin s = record {
  transcript = λ old at numbers. tt;
  before = tt;
  state = refl;
  records = refl;
  profile = refl;
  stands = λ content layout stands. ap (λ (c : Content). state_of (Some c)) (no_records content) ∙ stands;
}

module _ (D : Type 0) (begin : Begin) (s : State) (turns : List Answer) (core : State) (bodies : List (List ℕ))
    (so_far : AreStaged D begin s turns core bodies) (event : Event) (t : Answer) (after : State) (more : List (List ℕ))
    (answer : let now = step core event t.refused_at in
    IsAnswerOf now (numbers_staged begin (length turns) bodies) core event t)
    (added : let now = step core event t.refused_at in AddsStep now core after bodies more) where
  abbrev whole : List Entry
  whole = history_in turns

  abbrev made : Stepped
  made = step core event t.refused_at

  same : made ≡ stepped (replayed s whole) (entry_of t.asked t)
  same = ap (λ (c : State). step c event t.refused_at) so_far.state
      ∙ ap (λ (e : Event). step (replayed s whole) e t.refused_at) (sym answer.asked)

  step_profile : profile_of_step made ≡ core.machine.saved.profile
  step_profile = profile_stays made.ops core.machine.saved made.after.machine.saved added.applies

  is_step : (old : LiveState D) → old.state ≡ s → old.numbers ≡ numbers_begun begin
      → IsStepOf old whole (stepped (replayed old.state whole) (entry_of t.asked t)) t
  is_step old at numbers =
      let full : made ≡ stepped (replayed old.state whole) (entry_of t.asked t) =
      same ∙ ap (λ (c : State). stepped (replayed c whole) (entry_of t.asked t)) (sym at) in
      let before : numbers_staged begin (length turns) bodies ≡ numbers_after old.state old.numbers whole =
      staged_are begin s turns bodies so_far.records
      ∙ ap (λ (c : State). numbers_after c (numbers_begun begin) whole) (sym at)
      ∙ ap (λ (n : Numbers). numbers_after old.state n whole) (sym numbers) in
      record {
        outputs = answer.outputs ∙ ap (λ (st : Stepped). st.outputs) full;
        closes = answer.closes ∙ ap (λ (st : Stepped). st.closes) full;
        ended = answer.ended ∙ ap (λ (st : Stepped). st.ended) full;
        refused_at = answer.refused_at ∙ ap (λ (st : Stepped). st.refused_at) full;
        numbered = subst (λ (n : Numbers). let st = stepped (replayed old.state whole) (entry_of t.asked t) in IsNumbered n st.ops t) before
            (subst (λ (st : Stepped). IsNumbered (numbers_staged begin (length turns) bodies) st.ops t) full answer.numbered);
      }

  pub staged_on : AreStaged D begin s (turns ++ t ∷ []) after more
  staged_on = record {
    transcript = λ old at numbers. transcript_on old [] turns t (so_far.transcript old at numbers) (is_step old at numbers);
    before = bear_on s [] turns t so_far.before (answer.state ∙ so_far.state);
    state = added.state ∙ ap (λ (st : Stepped). st.after) same ∙ ap (replayed s) (sym (history_more_by turns t));
    records = added.put ∙ ap (λ (l : List (List ℕ)). l ++ body_of_step made) so_far.records
        ∙ ap (λ (st : Stepped). bodies_after s whole ++ body_of_step st) same
        ∙ ap (bodies_after s) (sym (history_more_by turns t));
    profile = ap (λ (c : State). c.machine.saved.profile) added.state ∙ step_profile ∙ so_far.profile;
    stands = λ content layout stands.
        ap (λ (l : List (List ℕ)). state_of (Some (with_records content l))) added.put
        ∙ stands_on (profile_of_step made) content bodies made.ops core.machine.saved made.after.machine.saved (sym step_profile)
        (layout ∙ ap written_layout (sym (step_profile ∙ so_far.profile))) (so_far.stands content layout stands)
        added.valid added.applies
        ∙ ap (λ (c : State). Some c.machine.saved) (sym added.state);
  }

-- ---- where a group ends

-- bytes that are counted up to the greatest number are within the bound where they are
counted_within : (n : ℕ) → nat_le (min n greatest) most_answer_bytes ≡ nat_le n most_answer_bytes
counted_within n = grind (arith, nat_tests)

looked_within : (n : ℕ) → nat_le (min n greatest) most_looks ≡ nat_le n most_looks
looked_within n = grind (arith, nat_tests)

-- what the code asks is whether another event may follow
pub takes_as : (begin : Begin) (s : State) (turns : List Answer) (bodies : List (List ℕ)) (bytes looks : ℕ) (has_ended : Bool) → turns ≢ []
    → bodies ≡ bodies_after s (history_in turns) → bytes ≡ min (sum_by answer_bytes turns) greatest
    → looks ≡ min (sum_by answer_looks turns) greatest → has_ended ≡ list_any (λ a. a.ended) turns
    → may_follow (file_with (file_begun begin) bodies) (numbers_staged begin (length turns) bodies) (records_len bodies) bytes looks
    has_ended ≡ takes_more s (numbers_begun begin) (file_begun begin) turns
takes_as begin s [] bodies bytes looks has_ended some is given looked ended = absurd (some refl)
takes_as begin s (t ∷ turns) bodies bytes looks has_ended some is given looked ended =
    let all : List Answer = t ∷ turns in
    let file = file_begun begin in
    let numbers = numbers_staged begin (length all) bodies in
    let within : nat_le bytes most_answer_bytes ≡ nat_le (sum_by answer_bytes all) most_answer_bytes =
    ap (λ (n : ℕ). nat_le n most_answer_bytes) given ∙ counted_within (sum_by answer_bytes all) in
    let seen : nat_le looks most_looks ≡ nat_le (sum_by answer_looks all) most_looks =
    ap (λ (n : ℕ). nat_le n most_looks) looked ∙ looked_within (sum_by answer_looks all) in
    let first : Bool = not (is_due (file_with file bodies)) && not (are_last numbers) && nat_le (records_len bodies) longest_record in
    ap (λ (b : Bool). first && b && nat_le looks most_looks && not has_ended) within
    ∙ ap (λ (b : Bool). first && nat_le (sum_by answer_bytes all) most_answer_bytes && b && not has_ended) seen
    ∙ ap (λ (b : Bool). first && nat_le (sum_by answer_bytes all) most_answer_bytes && nat_le (sum_by answer_looks all) most_looks && not b) ended
    ∙ ap (λ (l : List (List ℕ)). may_follow (file_with file l) numbers (records_len l) (sum_by answer_bytes all) (sum_by answer_looks all)
    (list_any (λ a. a.ended) all)) is
    ∙ ap (λ (n : Numbers). may_follow (file_with file (bodies_after s (history_in all))) n (records_len (bodies_after s (history_in all)))
    (sum_by answer_bytes all) (sum_by answer_looks all) (list_any (λ a. a.ended) all)) (staged_are begin s all bodies is)

-- what may follow says
pub record MayFollow (file : FileNumbers) (numbers : Numbers) (bytes looks : ℕ) (has_ended : Bool) : Type 0 where
  pub undue : is_due file ≡ false
  pub event : numbers.event ≢ greatest
  pub last : numbers.last_record ≢ greatest
  pub short : bytes ≤ longest_record
  pub within : looks ≤ most_looks
  pub on : has_ended ≡ false

pub may_follow_says : (file : FileNumbers) (numbers : Numbers) (bytes given looks : ℕ) (has_ended : Bool)
    → may_follow file numbers bytes given looks has_ended ≡ true → MayFollow file numbers bytes looks has_ended
may_follow_says file numbers bytes given looks has_ended may =
    let ended = and_parts (not (is_due file) && not (are_last numbers) && nat_le bytes longest_record && nat_le given most_answer_bytes
    && nat_le looks most_looks) (not has_ended) may in
    let looked = and_parts (not (is_due file) && not (are_last numbers) && nat_le bytes longest_record && nat_le given most_answer_bytes)
    (nat_le looks most_looks) ended.0 in
    let within = and_parts (not (is_due file) && not (are_last numbers) && nat_le bytes longest_record) (nat_le given most_answer_bytes) looked.0 in
    let short = and_parts (not (is_due file) && not (are_last numbers)) (nat_le bytes longest_record) within.0 in
    let last = and_parts (not (is_due file)) (not (are_last numbers)) short.0 in
    let numbers_are = or_parts (numbers.event == greatest) (numbers.last_record == greatest) (not-true (are_last numbers) last.1) in
    record {
      undue = not-true (is_due file) last.0;
      event = eqb-false numbers.event greatest numbers_are.0;
      last = eqb-false numbers.last_record greatest numbers_are.1;
      short = leb-true bytes longest_record short.1;
      within = leb-true looks most_looks looked.1;
      on = not-true has_ended ended.1;
    }

-- ---- what a group looks at

-- behind answers on which another event is taken a group has looked at no more than one request may
front_looks : (s : State) (first : Numbers) (file : FileNumbers) (front : List Answer) → takes_more s first file front ≡ true
    → sum_by answer_looks front ≤ max_looks
front_looks s first file [] takes = omega arith
front_looks s first file (t ∷ turns) takes =
    let all : List Answer = t ∷ turns in
    let whole = history_in all in
    let bodies = bodies_after s whole in
    let says = may_follow_says (file_with file bodies) (numbers_after s first whole) (records_len bodies) (sum_by answer_bytes all)
    (sum_by answer_looks all) (list_any (λ a. a.ended) all) takes in
    says.within

took_looks : (s : State) (first : Numbers) (file : FileNumbers) (before turns : List Answer)
    → TookEach (takes_more s first file) before turns → sum_by answer_looks before ≤ 2 * max_looks
    → sum_by answer_looks (before ++ turns) ≤ 2 * max_looks
took_looks s first file before [] took within = subst (λ (l : List Answer). sum_by answer_looks l ≤ 2 * max_looks) (sym (append-nil before)) within
took_looks s first file before (t ∷ turns) took within =
    subst (λ (l : List Answer). sum_by answer_looks l ≤ 2 * max_looks) (append_assoc before (t ∷ []) turns)
    (took_looks s first file (before ++ t ∷ []) turns took.1
    (omega (
      arith,
      front_looks s first file before took.0,
      step_within t.before t.asked t.refused_at,
      sum_by-append answer_looks before (t ∷ []),
    )))

pub looks_within : {D : Type 0} (old : LiveState D) (events : List Event) (turns : List Answer) (is_refused : Bool) (rest : List Event)
    → EndsThere old events turns is_refused rest → sum_by answer_looks turns ≤ 2 * max_looks
looks_within old events turns is_refused rest ends =
    took_looks old.state old.numbers (group_file old turns) [] turns ends.took (omega arith)
