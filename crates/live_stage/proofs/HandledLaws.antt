-- A group that was handled.
use Rattle.std.proofs.Common.{◌≡◌, ◌≢◌, ◌⊎◌, inl, inr, ℕ, ◌+◌, ◌≤◌, min, Bool, true, false, not, ◌&&◌, List, [], ◌∷◌, ◌++◌, length, map, reverse}
use Rattle.std.proofs.Common.{append_assoc, Option, Some, Ok, refl, sym, ap, subst, ◌∙◌, arith}
use Rattle.std.specs.Prelude.{sum_by, nat_le}
use Rattle.std.specs.List.{AllByRecursion, list_any}
use Rattle.std.proofs.lemmas.List.{append-nil, reverse-reverse}
use Rattle.disk_model.specs.History.{Change}
use Rattle.play_journal.specs.Content.{Content, IsEither, with_records}
use Rattle.play_journal.specs.File.{records_len}
use Rattle.play_journal.specs.Pair.{AllPairsNow, AllPairsSince}
use Rattle.daemon_core.specs.declared.event.Event.{Event}
use Rattle.daemon_core.specs.State.{State}
use Rattle.daemon_core.specs.Replay.{Entry}
use Rattle.live_stage.specs.declared.refusal.LiveError.{LiveError}
use Rattle.live_stage.specs.declared.refusal.LiveError.TheVariants.{Broken, NoMemory}
use Rattle.live_stage.specs.declared.staging.Begin.{Begin}
use Rattle.live_stage.specs.Answer.{Answer, answer_work}
use Rattle.live_stage.specs.Found.{AllFindNow, AllFindSince, state_of}
use Rattle.live_stage.specs.Group.{AreParted, EndsThere, IsGroup, IsNoneOrAll, IsOfFront, RefusesFront, answer_bytes, answer_looks, are_last}
use Rattle.live_stage.specs.Group.{asked_by, bodies_after, events_in, file_with, group_file, group_takes, group_work, history_in, may_follow}
use Rattle.live_stage.specs.Group.{most_answer_bytes, most_looks, takes_more}
use Rattle.live_stage.specs.LiveState.{LiveState}
use Rattle.live_stage.specs.Numbers.{FileNumbers, Numbers, greatest, is_due, longest_record}
use Rattle.live_stage.specs.Staging.{AreStaged, AreTaken, IsGroupHandled, KeepsToBounds, begin_of, file_begun, numbers_begun}
use Rattle.live_stage.specs.Transcript.{entry_of, history_of, numbers_after, replayed}
use Rattle.live_stage.proofs.GroupLaws.{Reply, length-history, numbers_are_after}
use Rattle.live_stage.proofs.PhaseLaws.{group_file_of, group_work_of, took_same}
use Rattle.live_stage.proofs.TurnLaws.{ready_same, same_work}

-- ---- the generation of a file doesn't count

due_same : (file : FileNumbers) (g : ℕ) (bodies : List (List ℕ))
    → is_due (file_with (record file { generation = g }) bodies) ≡ is_due (file_with file bodies)
due_same file g [] = refl
due_same file g (body ∷ bodies) = refl

takes_any : (s : State) (first : Numbers) (file : FileNumbers) (g : ℕ) (front : List Answer)
    → takes_more s first (record file { generation = g }) front ≡ takes_more s first file front
takes_any s first file g [] = refl
takes_any s first file g (t ∷ turns) =
    let all : List Answer = t ∷ turns in
    let bodies = bodies_after s (history_in all) in
    ap (λ (b : Bool). not b && not (are_last (numbers_after s first (history_in all))) && nat_le (records_len bodies) longest_record
    && nat_le (sum_by answer_bytes all) most_answer_bytes && nat_le (sum_by answer_looks all) most_looks
    && not (list_any (λ a. a.ended) all)) (due_same file g bodies)

bounds_same : (file : FileNumbers) (g : ℕ) (bodies : List (List ℕ)) → KeepsToBounds (file_with (record file { generation = g }) bodies)
    → KeepsToBounds (file_with file bodies)
bounds_same file g [] kept = record { few = kept.few; short = kept.short }
bounds_same file g (body ∷ bodies) kept = record { few = kept.few; short = kept.short }

-- ---- a group that was handled

module _ {D : Type 0} (old : LiveState D) (begin : Begin) (is : begin ≡ begin_of old) (events : List Event) (turns : List Answer)
    (is_refused : Bool) (rest : List Event) (core : State) (bodies : List (List ℕ))
    (staged : AreStaged D begin old.state turns core bodies) (taken : AreTaken begin old.state events turns is_refused rest bodies)
    (due : is_due old.file ≡ false) (some : turns ≢ []) where
  first_numbers : numbers_begun begin ≡ old.numbers
  first_numbers = ap numbers_begun is

  file_same : group_file old turns ≡ old.file
  file_same = group_file_of old turns some ∙ ready_same old.state.machine.saved old.file due

  work_same : group_work old turns ≡ old.work
  work_same = group_work_of old turns some ∙ same_work old.file old.work due

  takes_as_begun : (front : List Answer) → takes_more old.state (numbers_begun begin) (file_begun begin) front ≡ group_takes old turns front
  takes_as_begun front = ap (λ (b : Begin). takes_more old.state (numbers_begun b) (file_begun b) front) is
      ∙ takes_any old.state old.numbers old.file 0 front
      ∙ ap (λ (f : FileNumbers). takes_more old.state old.numbers f front) (sym file_same)

  pub handled : (new : LiveState D) → new.state ≡ core → new.numbers.event ≡ old.numbers.event + length turns
      → new.numbers.last_record ≡ old.numbers.last_record + length bodies → new.file ≡ file_with old.file bodies
      → new.work ≡ min (old.work + sum_by answer_work turns) greatest
      → IsGroupHandled old events turns is_refused rest new
  handled new state event last file work =
      let whole : List Entry = history_in turns in
      let numbers : ℕ → ℕ → Numbers = λ e l. record { event = e; last_record = l } in
      let many : length turns ≡ length whole = sym (length-history turns) in
      record {
        group = record {
          transcript = staged.transcript old refl (sym first_numbers);
          before = staged.before;
          state = state ∙ staged.state;
          event = event;
          numbers = ap (λ (n : ℕ). numbers n new.numbers.last_record) event
              ∙ ap (λ (n : ℕ). numbers (old.numbers.event + length turns) n) last
              ∙ ap (λ (n : ℕ). numbers (old.numbers.event + n) (old.numbers.last_record + length bodies)) many
              ∙ ap (λ (l : List (List ℕ)). numbers (old.numbers.event + length whole) (old.numbers.last_record + length l)) staged.records
              ∙ sym (numbers_are_after old.state old.numbers whole);
          file = file ∙ ap (λ (l : List (List ℕ)). file_with old.file l) staged.records
              ∙ ap (λ (f : FileNumbers). file_with f (bodies_after old.state whole)) (sym file_same);
          work = λ _. work ∙ ap (λ (n : ℕ). min (n + sum_by answer_work turns) greatest) (sym work_same);
          none = λ none. absurd (some none);
        };
        ends = record {
          parted = taken.parted;
          took = took_same (takes_more old.state (numbers_begun begin) (file_begun begin)) (group_takes old turns) [] turns takes_as_begun
              taken.took;
          refused = λ so. (some, sym (takes_as_begun turns) ∙ taken.refused so);
          full = λ so more. sym (takes_as_begun turns) ∙ taken.full so more;
        };
        some = some;
        bounded = subst KeepsToBounds (sym file) (bounds_same old.file 0 bodies
            (subst (λ (b : Begin). KeepsToBounds (file_with (file_begun b) bodies)) is taken.bounded));
      }

-- ---- a group that was refused

-- The first event found no memory.
pub none_answered : {D : Type 0} (old : LiveState D) (begin : Begin) (s : State) (events : List Event) (turns : List Answer) (is_refused : Bool)
    (rest : List Event) (bodies : List (List ℕ)) → AreTaken begin s events turns is_refused rest bodies → turns ≡ [] → events ≢ []
    → RefusesFront old events NoMemory rest
none_answered old begin s events turns true rest bodies taken none some = record {
  front = taken.parted.0 ∷ [];
  parted = taken.parted.1 ∙ ap (λ (l : List Answer). asked_by l ++ taken.parted.0 ∷ rest) none;
  some = λ _ empty. cc;
  alone = λ _. omega arith;
}
none_answered old begin s events turns false rest bodies taken none some =
    let all : events ≡ rest = taken.parted ∙ ap (λ (l : List Answer). asked_by l ++ rest) none in
    let full : takes_more s (numbers_begun begin) (file_begun begin) turns ≡ false =
    taken.full refl (λ empty. some (all ∙ empty)) in
    let takes : takes_more s (numbers_begun begin) (file_begun begin) turns ≡ true =
    ap (λ (l : List Answer). takes_more s (numbers_begun begin) (file_begun begin) l) none in
    absurd cc

-- the events that were begun are a front
begun_of : (events : List Event) (turns : List Answer) (is_refused : Bool) (rest : List Event) → AreParted events turns is_refused rest
    → (more : List Event) × (events ≡ asked_by turns ++ more ++ rest)
begun_of events turns true rest parted = (parted.0 ∷ [], parted.1 ∙ sym (append_assoc (asked_by turns) (parted.0 ∷ []) rest))
begun_of events turns false rest parted = ([], parted ∙ ap (λ (l : List Event). l ++ rest) (sym (append-nil (asked_by turns))))

-- The records of a group met a disk fault.
pub all_refused : {D : Type 0} (old : LiveState D) (events : List Event) (turns : List Answer) (is_refused : Bool) (rest : List Event)
    → old.is_broken ≡ false → AreParted events turns is_refused rest → turns ≢ [] → RefusesFront old events Broken rest
all_refused old events [] is_refused rest usable parted some = absurd (some refl)
all_refused old events (t ∷ turns) is_refused rest usable parted some =
    let begun = begun_of events (t ∷ turns) is_refused rest parted in
    record {
      front = asked_by (t ∷ turns) ++ begun.0;
      parted = begun.1;
      some = λ _ empty. cc;
      alone = λ why. elim why [
        | inl was ↦ absurd cc
        | inr other ↦ absurd (other refl)
      ];
    }

-- the events of the history of the answers
entries_on : (earlier : List Entry) (turns : List Answer)
    → (let oks : List Reply = map Ok turns in events_in (history_of earlier (asked_by turns) oks)) ≡ events_in earlier ++ asked_by turns
entries_on earlier [] = sym (append-nil (events_in earlier))
entries_on earlier (t ∷ turns) = entries_on (entry_of t.asked t ∷ earlier) turns ∙ append_assoc (events_in earlier) (t.asked ∷ []) (asked_by turns)

pub of_begun : (events : List Event) (turns : List Answer) (is_refused : Bool) (rest : List Event) → AreParted events turns is_refused rest
    → IsOfFront (history_in turns) events rest
of_begun events turns is_refused rest parted =
    let begun = begun_of events turns is_refused rest parted in
    (begun.0, begun.1 ∙ ap (λ (l : List Event). l ++ begun.0 ++ rest) (sym (entries_on [] turns)))

-- of no answer
pub of_first : (events : List Event) (rest : List Event) (old_error : LiveError) (D : Type 0) (old : LiveState D)
    → RefusesFront old events old_error rest → IsOfFront [] events rest
of_first events rest error D old r = (r.front, r.parted)

-- events were taken from the end of a list that was turned round
pub taken_of : (begin : Begin) (s : State) (events given left rest : List Event) (turns : List Answer) (is_refused : Bool)
    (bodies : List (List ℕ)) → given ≡ reverse events → rest ≡ reverse left
    → AreTaken begin s (reverse given) turns is_refused (reverse left) bodies → AreTaken begin s events turns is_refused rest bodies
taken_of begin s events given left rest turns is_refused bodies is also taken =
    subst (λ (l : List Event). AreTaken begin s l turns is_refused rest bodies) (ap (λ (l : List Event). reverse l) is ∙ reverse-reverse events)
    (subst (λ (l : List Event). AreTaken begin s (reverse given) turns is_refused l bodies) (sym also) taken)
