-- The events of a group, as far as they were staged.
use Rattle.std.proofs.Common.{◌≡◌, ◌≢◌, ◌⊎◌, inl, inr, ℕ, ◌+◌, ◌-◌, ◌^◌, ◌<◌, ◌≤◌, min, Bool, true, false, not, ◌&&◌, ◌||◌, List, [], ◌∷◌, ◌++◌}
use Rattle.std.proofs.Common.{length, length-append, reverse, take, get_or, refl, sym, ap, subst, ◌∙◌, append_assoc, arith}
use Rattle.std.specs.Prelude.{sum_by, ◌==◌}
use Rattle.std.specs.List.{list_any}
use Rattle.std.proofs.lemmas.Bool.{eqb-false, eqb-true, or_cases, or_parts}
use Rattle.std.proofs.lemmas.List.{append-nil, reverse-append}
use Rattle.std.proofs.lemmas.List.Sums.{sum_by-append}
use Rattle.std.proofs.lemmas.List.Folds.{list_any-append}
use Rattle.play_journal.specs.File.{records_len}
use Rattle.play_journal.proofs.GroupLaws.{records_len-append}
use Rattle.profile.specs.declared.profile.Profile.{Profile}
use Rattle.state_codec.specs.declared.op.Op.{Op}
use Rattle.daemon_core.specs.declared.event.Event.{Event}
use Rattle.daemon_core.specs.State.{State}
use Rattle.daemon_core.specs.Step.{Stepped, step}
use Rattle.live_stage.specs.declared.staging.Begin.{Begin}
use Rattle.live_stage.specs.Answer.{Answer, profile_of_step}
use Rattle.live_stage.specs.Group.{AreParted, TookEach, answer_bytes, answer_looks, asked_by, bodies_after, body_of, body_of_step, file_with, history_in}
use Rattle.live_stage.specs.Group.{may_follow, takes_more}
use Rattle.live_stage.specs.Numbers.{FileNumbers, greatest, is_due, longest_record, most_bytes, most_records, record_bytes}
use Rattle.live_stage.specs.Staging.{AddsStep, AreStaged, AreTaken, IsAnswerOf, KeepsToBounds, file_begun, numbers_begun, numbers_staged}
use Rattle.live_stage.proofs.GroupLaws.{MayFollow, asked_on, body_takes, body_few, file_bytes, file_layout, file_put_off, file_records, file_snapshot}
use Rattle.live_stage.proofs.GroupLaws.{may_follow_says, none_staged, staged_on, takes_as, took_on}
use Rattle.live_stage.proofs.TurnLaws.{KeepsTo, keeps_to}

-- ---- bytes

-- bytes are counted up to the greatest number, one output more at a time
pub given_more : (counts counted added : ℕ) → counts ≡ min counted greatest
    → min (counts + added) greatest ≡ min (counted + added) greatest
given_more counts counted added is = omega (arith, is)

pub given_both : (counts counted adds added : ℕ) → counts ≡ min counted greatest → adds ≡ min added greatest
    → min (counts + adds) greatest ≡ min (counted + added) greatest
given_both counts counted adds added is also = omega (arith, is, also)

-- ---- a group so far

-- Events were taken and staged; these are left, the first one last, and another may follow where the last three say so.
pub record IsStagedTo (D : Type 0) (begin : Begin) (s : State) (events : List Event) (turns : List Answer) (core : State)
    (bodies : List (List ℕ)) (left : List Event) (bytes looks : ℕ) (has_ended : Bool) : Type 0 where
  pub staged : AreStaged D begin s turns core bodies
  pub parted : events ≡ asked_by turns ++ reverse left
  pub took : TookEach (takes_more s (numbers_begun begin) (file_begun begin)) [] turns
  pub given : bytes ≡ min (sum_by answer_bytes turns) greatest
  pub looked : looks ≡ min (sum_by answer_looks turns) greatest
  pub ended : has_ended ≡ list_any (λ a. a.ended) turns
  pub bounded : KeepsToBounds (file_with (file_begun begin) bodies)
  pub counted : begin.event + length turns ≤ greatest
  pub numbered : begin.last_record + length bodies ≤ greatest

-- a file at which no checkpoint is due keeps to the bounds, and with one record more too
undue_bounded : (file : FileNumbers) → is_due file ≡ false → KeepsToBounds file
undue_bounded file undue =
    record {
      few = λ made. (let kept = keeps_to file made undue in omega (arith, kept.few));
      short = λ made. (let kept = keeps_to file made undue in omega (arith, kept.short));
    }

put_off_before : (file : FileNumbers) (bodies all : List (List ℕ)) → (let f = file_with file all in f.is_put_off) ≡ false
    → (let f = file_with file bodies in f.is_put_off) ≡ false
put_off_before file bodies all is = file_put_off file bodies ∙ sym (file_put_off file all) ∙ is

one_bounded : (p : Profile) (file : FileNumbers) (bodies : List (List ℕ)) (ops : List Op) → file.bytes ≤ greatest
    → is_due (file_with file bodies) ≡ false → record_bytes p ops ≤ longest_record → KeepsToBounds (file_with file (bodies ++ body_of p ops))
one_bounded p file bodies ops fits undue short =
    let all = bodies ++ body_of p ops in
    let kept = λ (made : (let f = file_with file all in f.is_put_off) ≡ false).
    keeps_to (file_with file bodies) (put_off_before file bodies all made) undue in
    record {
      few = λ made. omega (
        arith,
        (kept made).few,
        file_records file bodies,
        file_records file all,
        length-append bodies (body_of p ops),
        body_few p ops,
        ap (λ (n : ℕ). most_records n (let f : FileNumbers = file_with file bodies in f.snapshot_len)) (file_layout file bodies),
        ap (λ (n : ℕ). most_records file.layout n) (file_snapshot file bodies),
        ap (λ (n : ℕ). most_records n (let f : FileNumbers = file_with file all in f.snapshot_len)) (file_layout file all),
        ap (λ (n : ℕ). most_records file.layout n) (file_snapshot file all),
      );
      short = λ made. omega (
        arith,
        (kept made).short,
        short,
        fits,
        file_bytes file bodies fits,
        file_bytes file all fits,
        records_len-append bodies (body_of p ops),
        body_takes p ops,
        ap most_bytes (file_snapshot file bodies),
        ap most_bytes (file_snapshot file all),
      );
    }

-- what a group begins with
pub record BeginsWell (begin : Begin) : Type 0 where
  pub event : begin.event < greatest
  pub last : begin.last_record < greatest
  pub bytes : begin.bytes ≤ greatest
  pub due : is_due (file_begun begin) ≡ false

pub begins_with : (begin : Begin)
    → (begin.event < 2 ^ 64 - 1) × (begin.last_record < 2 ^ 64 - 1) × (begin.bytes < 2 ^ 64)
    → is_due (file_begun begin) ≡ false → BeginsWell begin
begins_with begin numbers due =
    let fits = numbers.2 in
    record { event = numbers.0; last = numbers.1; bytes = omega (arith, fits); due = due }

none_of_all : (D : Type 0) (begin : Begin) (s : State) (events left : List Event) → BeginsWell begin → events ≡ reverse left
    → IsStagedTo D begin s events [] s [] left 0 0 false
none_of_all D begin s events left well is = record {
  staged = none_staged D begin s;
  parted = is;
  took = tt;
  given = omega arith;
  looked = omega arith;
  ended = refl;
  bounded = undue_bounded (file_begun begin) well.due;
  counted = (let fits = well.event in omega (arith, fits));
  numbered = (let fits = well.last in omega (arith, fits));
}

pub none_yet : (D : Type 0) (begin : Begin) (s : State) (left : List Event) (turns : List Answer) (bodies : List (List ℕ))
    → BeginsWell begin → turns ≡ [] → bodies ≡ [] → IsStagedTo D begin s (reverse left) turns s bodies left 0 0 false
none_yet D begin s left turns bodies well none no_bodies =
    subst (λ (l : List Answer). IsStagedTo D begin s (reverse left) l s bodies left 0 0 false) (sym none)
    (subst (λ (l : List (List ℕ)). IsStagedTo D begin s (reverse left) [] s l left 0 0 false) (sym no_bodies)
    (none_of_all D begin s (reverse left) left well refl))

-- what it takes that another event is taken
pub record HasPlace (begin : Begin) (turns : List Answer) (bodies : List (List ℕ)) (has_ended : Bool) : Type 0 where
  pub undue : is_due (file_with (file_begun begin) bodies) ≡ false
  pub event : begin.event + length turns < greatest
  pub last : begin.last_record + length bodies < greatest
  pub short : records_len bodies ≤ longest_record
  pub on : has_ended ≡ false

place : (D : Type 0) (begin : Begin) (s : State) (events : List Event) (turns : List Answer) (core : State) (bodies : List (List ℕ))
    (left : List Event) (bytes looks : ℕ) (has_ended : Bool) → BeginsWell begin
    → IsStagedTo D begin s events turns core bodies left bytes looks has_ended
    → takes_more s (numbers_begun begin) (file_begun begin) turns ≡ true → HasPlace begin turns bodies has_ended
place D begin s events [] core bodies left bytes looks has_ended well so_far takes =
    let none : bodies ≡ [] = so_far.staged.records in
    record {
      undue = ap (λ (l : List (List ℕ)). is_due (file_with (file_begun begin) l)) none ∙ well.due;
      event = (let fits = well.event in omega (arith, fits));
      last = (let fits = well.last in omega (arith, fits, ap (λ (l : List (List ℕ)). length l) none));
      short = omega (arith, ap records_len none);
      on = so_far.ended;
    }
place D begin s events (t ∷ turns) core bodies left bytes looks has_ended well so_far takes =
    let all : List Answer = t ∷ turns in
    let says = may_follow_says (file_with (file_begun begin) bodies) (numbers_staged begin (length all) bodies) (records_len bodies) bytes
    looks has_ended (takes_as begin s all bodies bytes looks has_ended (λ none. cc) so_far.staged.records so_far.given so_far.looked so_far.ended ∙ takes) in
    let event = says.event in
    let last = says.last in
    record {
      undue = says.undue;
      event = omega (arith, so_far.counted, event);
      last = omega (arith, so_far.numbered, last);
      short = says.short;
      on = says.on;
    }

-- what the code asks before an event
pub record IsAsked (begin : Begin) (turns : List Answer) (bodies : List (List ℕ)) (bytes looks : ℕ) (has_ended says : Bool) : Type 0 where
  pub many : ℕ
  pub count : many ≡ length turns
  pub is : says ≡ (many == 0 || may_follow (file_with (file_begun begin) bodies) (numbers_staged begin many bodies) (records_len bodies)
      bytes looks has_ended)

pub asked_is : (begin : Begin) (turns : List Answer) (bodies : List (List ℕ)) (bytes looks : ℕ) (has_ended says : Bool) (many : ℕ)
    → many ≡ length turns
    → says ≡ (many == 0 || may_follow (file_with (file_begun begin) bodies) (numbers_staged begin many bodies) (records_len bodies) bytes
    looks has_ended)
    → IsAsked begin turns bodies bytes looks has_ended says
asked_is begin turns bodies bytes looks has_ended says many count is = record { many = many; count = count; is = is }

-- the same of the number of the answers
asked_of_all : (begin : Begin) (turns : List Answer) (bodies : List (List ℕ)) (bytes looks : ℕ) (has_ended says : Bool)
    → IsAsked begin turns bodies bytes looks has_ended says
    → says ≡ (length turns == 0 || may_follow (file_with (file_begun begin) bodies) (numbers_staged begin (length turns) bodies)
    (records_len bodies) bytes looks has_ended)
asked_of_all begin turns bodies bytes looks has_ended says asked = asked.is ∙ ap (λ (n : ℕ). n == 0 || may_follow (file_with (file_begun begin) bodies)
    (numbers_staged begin n bodies) (records_len bodies) bytes looks has_ended) asked.count

pub takes_so : (D : Type 0) (begin : Begin) (s : State) (events : List Event) (turns : List Answer) (core : State) (bodies : List (List ℕ))
    (left : List Event) (bytes looks : ℕ) (has_ended : Bool) → IsStagedTo D begin s events turns core bodies left bytes looks has_ended
    → (says : Bool) → IsAsked begin turns bodies bytes looks has_ended says → says ≡ true
    → takes_more s (numbers_begun begin) (file_begun begin) turns ≡ true
takes_so D begin s events [] core bodies left bytes looks has_ended so_far says asked holds = refl
takes_so D begin s events (t ∷ turns) core bodies left bytes looks has_ended so_far says asked holds =
    let all : List Answer = t ∷ turns in
    let may : Bool = may_follow (file_with (file_begun begin) bodies) (numbers_staged begin (length all) bodies) (records_len bodies) bytes
    looks has_ended in
    elim (or_cases (length all == 0) may (sym (asked_of_all begin all bodies bytes looks has_ended says asked) ∙ holds)) [
      | inl none ↦ absurd (omega (arith, eqb-true (length all) 0 none))
      | inr follows ↦ sym (takes_as begin s all bodies bytes looks has_ended (λ none. cc) so_far.staged.records so_far.given so_far.looked so_far.ended) ∙ follows
    ]

pub stops_so : (D : Type 0) (begin : Begin) (s : State) (events : List Event) (turns : List Answer) (core : State) (bodies : List (List ℕ))
    (left : List Event) (bytes looks : ℕ) (has_ended : Bool) → IsStagedTo D begin s events turns core bodies left bytes looks has_ended
    → (says : Bool) → IsAsked begin turns bodies bytes looks has_ended says → says ≡ false
    → takes_more s (numbers_begun begin) (file_begun begin) turns ≡ false
stops_so D begin s events turns core bodies left bytes looks has_ended so_far says asked fails =
    let may : Bool = may_follow (file_with (file_begun begin) bodies) (numbers_staged begin (length turns) bodies) (records_len bodies) bytes
    looks has_ended in
    let neither = or_parts (length turns == 0) may (sym (asked_of_all begin turns bodies bytes looks has_ended says asked) ∙ fails) in
    sym (takes_as begin s turns bodies bytes looks has_ended (λ none. eqb-false (length turns) 0 neither.0 (ap (λ (l : List Answer). length l) none))
    so_far.staged.records so_far.given so_far.looked so_far.ended) ∙ neither.1

pub place_for : (D : Type 0) (begin : Begin) (s : State) (events : List Event) (turns : List Answer) (core : State) (bodies : List (List ℕ))
    (left : List Event) (bytes looks : ℕ) (has_ended : Bool) → BeginsWell begin
    → IsStagedTo D begin s events turns core bodies left bytes looks has_ended
    → (says : Bool) → IsAsked begin turns bodies bytes looks has_ended says → says ≡ true
    → HasPlace begin turns bodies has_ended
place_for D begin s events turns core bodies left bytes looks has_ended well so_far says asked holds =
    place D begin s events turns core bodies left bytes looks has_ended well so_far
    (takes_so D begin s events turns core bodies left bytes looks has_ended so_far says asked holds)

or_none : (b : Bool) → (false || (b || false)) ≡ b
or_none true = refl
or_none false = refl

-- the events that are left, with the first one taken out
left_on : (events : List Event) (turns : List Answer) (left less : List Event) (event : Event) (t : Answer) → t.asked ≡ event
    → left ≡ less ++ event ∷ [] → events ≡ asked_by turns ++ reverse left → events ≡ asked_by (turns ++ t ∷ []) ++ reverse less
left_on events turns left less event t asked is parted =
    parted ∙ ap (λ (l : List Event). asked_by turns ++ reverse l) is
    ∙ ap (λ (l : List Event). asked_by turns ++ l) (reverse-append less (event ∷ []))
    ∙ ap (λ (e : Event). asked_by turns ++ e ∷ reverse less) (sym asked)
    ∙ sym (append_assoc (asked_by turns) (t.asked ∷ []) (reverse less))
    ∙ ap (λ (l : List Event). l ++ reverse less) (sym (asked_on turns t))

pub stage_on : (D : Type 0) (begin : Begin) (s : State) (events : List Event) (turns : List Answer) (core : State) (bodies : List (List ℕ))
    (left : List Event) (bytes looks : ℕ) (has_ended : Bool) → BeginsWell begin
    → IsStagedTo D begin s events turns core bodies left bytes looks has_ended
    → (says : Bool) → IsAsked begin turns bodies bytes looks has_ended says → says ≡ true
    → (less : List Event) (event : Event) (t : Answer) (after : State) (more : List (List ℕ)) (given looked : ℕ) → left ≡ less ++ event ∷ []
    → (let now = step core event t.refused_at in
    IsAnswerOf now (numbers_staged begin (length turns) bodies) core event t)
    → (let now = step core event t.refused_at in AddsStep now core after bodies more) → given ≡ min (bytes + min (answer_bytes t) greatest) greatest
    → looked ≡ min (looks + answer_looks t) greatest
    → IsStagedTo D begin s events (turns ++ t ∷ []) after more less given looked t.ended
stage_on D begin s events turns core bodies left bytes looks has_ended well so_far says asked holds less event t after more given looked is
    answer added gives looks_at =
    let takes = takes_so D begin s events turns core bodies left bytes looks has_ended so_far says asked holds in
    let free = place D begin s events turns core bodies left bytes looks has_ended well so_far takes in
    let made : Stepped = step core event t.refused_at in
    let file = file_begun begin in
    record {
      staged = staged_on D begin s turns core bodies so_far.staged event t after more answer added;
      parted = left_on events turns left less event t answer.asked is so_far.parted;
      took = took_on (takes_more s (numbers_begun begin) file) [] turns t so_far.took takes;
      given = gives ∙ given_both bytes (sum_by answer_bytes turns) (min (answer_bytes t) greatest) (answer_bytes t) so_far.given refl
          ∙ ap (λ (n : ℕ). min n greatest) (omega (arith, sum_by-append answer_bytes turns (t ∷ [])));
      looked = looks_at ∙ given_more looks (sum_by answer_looks turns) (answer_looks t) so_far.looked
          ∙ ap (λ (n : ℕ). min n greatest) (omega (arith, sum_by-append answer_looks turns (t ∷ [])));
      ended = sym (list_any-append (λ (a : Answer). a.ended) turns (t ∷ [])
          ∙ ap (λ (b : Bool). b || (t.ended || false)) (sym so_far.ended ∙ free.on) ∙ or_none t.ended);
      bounded = subst (λ (l : List (List ℕ)). KeepsToBounds (file_with file l)) (sym added.put)
          (one_bounded (profile_of_step made) file bodies made.ops well.bytes free.undue added.short);
      counted = (let event = free.event in omega (arith, event, length-append turns (t ∷ [])));
      numbered = (let last = free.last in omega (
        arith,
        last,
        ap (λ (l : List (List ℕ)). length l) added.put,
        length-append bodies (body_of_step made),
        body_few (profile_of_step made) made.ops,
      ));
    }

-- ---- where it ends

-- no event is left
pub ends_empty : (D : Type 0) (begin : Begin) (s : State) (events : List Event) (turns : List Answer) (core : State) (bodies : List (List ℕ))
    (left : List Event) (bytes looks : ℕ) (has_ended : Bool) → IsStagedTo D begin s events turns core bodies left bytes looks has_ended → left ≡ []
    → AreTaken begin s events turns false (reverse left) bodies
ends_empty D begin s events turns core bodies left bytes looks has_ended so_far none = record {
  parted = so_far.parted;
  took = so_far.took;
  refused = λ is. absurd cc;
  full = λ is some. absurd (some (ap (λ (l : List Event). reverse l) none));
  bounded = so_far.bounded;
  counted = so_far.counted;
  numbered = so_far.numbered;
}

-- no other event may follow
pub ends_full : (D : Type 0) (begin : Begin) (s : State) (events : List Event) (turns : List Answer) (core : State) (bodies : List (List ℕ))
    (left : List Event) (bytes looks : ℕ) (has_ended : Bool) → IsStagedTo D begin s events turns core bodies left bytes looks has_ended
    → (says : Bool) → IsAsked begin turns bodies bytes looks has_ended says → says ≡ false
    → AreTaken begin s events turns false (reverse left) bodies
ends_full D begin s events turns core bodies left bytes looks has_ended so_far says asked fails = record {
  parted = so_far.parted;
  took = so_far.took;
  refused = λ is. absurd cc;
  full = λ is rest. stops_so D begin s events turns core bodies left bytes looks has_ended so_far says asked fails;
  bounded = so_far.bounded;
  counted = so_far.counted;
  numbered = so_far.numbered;
}

-- an event found no memory
pub ends_refused : (D : Type 0) (begin : Begin) (s : State) (events : List Event) (turns : List Answer) (core : State)
    (bodies : List (List ℕ)) (left : List Event) (bytes looks : ℕ) (has_ended : Bool)
    → IsStagedTo D begin s events turns core bodies left bytes looks has_ended
    → (says : Bool) → IsAsked begin turns bodies bytes looks has_ended says → says ≡ true
    → (less : List Event) (event : Event) → left ≡ less ++ event ∷ [] → AreTaken begin s events turns true (reverse less) bodies
ends_refused D begin s events turns core bodies left bytes looks has_ended so_far says asked holds less event is = record {
  parted = (
    event,
    so_far.parted ∙ ap (λ (l : List Event). asked_by turns ++ reverse l) is
        ∙ ap (λ (l : List Event). asked_by turns ++ l) (reverse-append less (event ∷ [])),
  );
  took = so_far.took;
  refused = λ is_so. takes_so D begin s events turns core bodies left bytes looks has_ended so_far says asked holds;
  full = λ is_not. absurd cc;
  bounded = so_far.bounded;
  counted = so_far.counted;
  numbered = so_far.numbered;
}
