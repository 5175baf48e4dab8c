-- What a console of one life or two answers.
use Rattle.std.proofs.Common.{◌≡◌, ◌⊎◌, inl, inr, ◌≤◌, ℕ, Option, Some, None, List, ◌∷◌, Result, Ok, Err, refl, sym, subst, length, ◌∙◌, ap}
use Rattle.std.specs.Prelude.{IsSome}
use Rattle.disk_model.specs.Moments.{LeftSince}
use Rattle.disk_model.proofs.MomentLaws.{counts_now}
use Rattle.profile.specs.declared.profile.Profile.{Profile}
use Rattle.state_codec.specs.SavedState.{SavedState}
use Rattle.disk_model.specs.History.{Change}
use Rattle.daemon_core.specs.Replay.{Entry, replay}
use Rattle.live_stage.specs.Found.{given_state, found_state}
use Rattle.live_stage.specs.declared.refusal.StartError.{StartError}
use Rattle.live_stage.specs.declared.refusal.StartError.TheVariants.{NoMemory, NumbersSpent}
use Rattle.live_stage.specs.Errors.{start_number_of}
use Rattle.mpd_program.specs.Lives.{Moment, AreImages, AllOpen, IsFaulted, IsRefused, IsLife, status_of, IsConsole}
use Rattle.mpd_program.specs.declared.console.Ending.{Ending}
use Rattle.mpd_program.specs.declared.console.Ending.TheVariants.{Whole, Cut, Faulted}
use Rattle.mpd_program.specs.declared.console.Status.{Status}
use Rattle.mpd_program.specs.declared.console.Status.TheVariants.{JournalRefused}
use Rattle.play_journal.proofs.RecordLaws.{IsBytes, bytes_fit}
use Rattle.daemon_core.specs.State.{State, start}
use Rattle.live_stage.specs.Transcript.{replayed}
use Rattle.live_stage.proofs.GivenLaws.{given_open}
use Rattle.live_stage.proofs.RunLaws.{replayed_from_start}
use Rattle.mpd_program.proofs.LifeLaws.{life_under}

-- ---- refused

-- the number of a life whose status is that of a refused journal
number_of_life : (came_to : Result Ending ℕ) (n : ℕ) → status_of came_to ≡ JournalRefused n → came_to ≡ Err n
number_of_life (Ok Whole) n is = absurd (cc)
number_of_life (Ok Cut) n is = absurd (cc)
number_of_life (Ok Faulted) n is = absurd (cc)
number_of_life (Err number) n is = let same : number ≡ n = (cc) in ap Err same

refusal_of_life : (profile : Profile) (Honest : Type 0) (c : ℕ) (came_to : Result Ending ℕ) (status : Status) (n : ℕ) (first last : Moment)
    → IsLife profile Honest c came_to first last → status ≡ status_of came_to → status ≡ JournalRefused n → IsRefused profile Honest n first last
refusal_of_life profile Honest c came_to status n first last life same is =
    subst (λ (r : Result Ending ℕ). IsLife profile Honest c r first last) (number_of_life came_to n (sym same ∙ is)) life

-- ---- each pair gives a state

some_is : (o : Option SavedState) (s : SavedState) → o ≡ Some s → IsSome o
some_is None s is = absurd (cc)
some_is (Some t) s is = refl

-- a state that has this profile is found where the files give it
opens_so : (profile : Profile) (x y : List ℕ) (s : SavedState) → IsBytes x → IsBytes y → s.profile ≡ profile → given_state x y ≡ Some s
    → IsSome (found_state profile x y)
opens_so profile x y s bytes_x bytes_y own is =
    subst (λ (p : Profile). IsSome (found_state p x y)) own (some_is _ s (given_open x y s bytes_x bytes_y is))

-- the profile stays through a history
abbrev pub KeepsProfile : Type 0
KeepsProfile = (s : State) (history : List Entry) → (let now = replayed s history in now.machine.saved.profile) ≡ s.machine.saved.profile

replay_profile : KeepsProfile → (kept : SavedState) (history : List Entry)
    → (let now : State = replay kept history in now.machine.saved.profile) ≡ kept.profile
replay_profile law kept history =
    ap (λ (s : State). s.machine.saved.profile) (sym (replayed_from_start kept history)) ∙ law (start kept) history

-- a fault leaves pairs in which a restart finds a state
still_opens : KeepsProfile → (profile : Profile) (Honest : Type 0) (c : ℕ) (first between : Moment) → Honest
    → IsFaulted profile Honest c first between → AllOpen profile (λ f. IsSome f) first
    → AllOpen profile (λ f. IsSome f) between
still_opens law profile Honest c first between honest fault all = λ x y at_x at_y. elim fault.place [
  | inl opening ↦ (
      let holds = opening.holds honest in
      elim holds.second [
        | inl same ↦ (
            let left_a = subst (λ h. LeftSince h (length first.history_a) x) same.0 (counts_now between.history_a _ x at_x) in
            let left_b = subst (λ h. LeftSince h (length first.history_b) y) same.1 (counts_now between.history_b _ y at_y) in
            let from = holds.first x y left_a left_b in
            subst IsSome (sym from.4) (all from.0 from.1 from.2 from.3))
        | inr one ↦ some_is _ _ (one.since x y (counts_now between.history_a _ x at_x) (counts_now between.history_b _ y at_y))
      ])
  | inr event ↦ (
      let either = event.holds honest in
      let bytes_x = bytes_fit x at_x.bytes in
      let bytes_y = bytes_fit y at_y.bytes in
      elim (either.1 x y at_x at_y) [
        | inl before ↦ opens_so profile x y _ bytes_x bytes_y (replay_profile law event.kept event.history ∙ event.own) before
        | inr after ↦ opens_so profile x y _ bytes_x bytes_y
            (replay_profile law event.kept (record { event = event.event; refused = either.0 } ∷ event.history) ∙ event.own) after
      ])
]

good_number : (n : ℕ) (error : StartError) → n ≡ start_number_of error → (error ≡ NoMemory) ⊎ (error ≡ NumbersSpent)
    → (n ≡ 7) ⊎ (n ≡ 49)
good_number n error is (inl memory) = inl (is ∙ ap start_number_of memory)
good_number n error is (inr spent) = inr (is ∙ ap start_number_of spent)

pub good_files : KeepsProfile → (profile : Profile) (Honest : Type 0) (status : Status) (ending : Ending) (first last : Moment) → IsConsole profile Honest status ending first last
    → Honest
    → AllOpen profile (λ f. IsSome f) first → (n : ℕ) → status ≡ JournalRefused n → (n ≡ 7) ⊎ (n ≡ 49)
good_files law profile Honest status ending first last (inl one) honest all n is =
    let r = refusal_of_life profile Honest 1 one.came_to status n first last one.life one.same_status is in
    good_number n r.error r.number (r.good_files honest all)
good_files law profile Honest status ending first last (inr two) honest all n is =
    let r = refusal_of_life profile Honest 2 two.came_to status n two.between last two.life two.same_status is in
    good_number n r.error r.number (r.good_files honest (still_opens law profile Honest 1 first two.between honest two.fault all))

-- ---- two lives

pub two_lives : (profile : Profile) (Honest Later : Type 0) (first between last : Moment) (before came_to : Result Ending ℕ) (status : Status) (ending : Ending)
    → before ≡ Ok Faulted → IsLife profile Honest 1 before first between → (Honest → Later) → (Later → AreImages between)
    → IsLife profile Later 2 came_to between last
    → between.faults_a ≤ last.faults_a → between.faults_b ≤ last.faults_b
    → status ≡ status_of came_to → ending ≡ Faulted → IsConsole profile Honest status ending first last
two_lives profile Honest Later first between last before came_to status ending is life given read second later_a later_b same_status same_ending =
    inr (record {
      between = between;
      images = λ honest. read (given honest);
      came_to = came_to;
      fault = subst (λ (r : Result Ending ℕ). IsLife profile Honest 1 r first between) is life;
      life = life_under profile Honest Later 2 came_to between last given second;
      later_a = later_a;
      later_b = later_b;
      same_status = same_status;
      same_ending = same_ending;
    })
