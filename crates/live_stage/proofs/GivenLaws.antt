-- Files that give a state are opened with it, and a history keeps the profile of its state.
use Rattle.std.proofs.Common.{◌≡◌, ◌==◌, inl, inr, ℕ, Bool, true, false, cond, List, [], ◌∷◌, Option, Some, None, refl, ap, ◌∙◌}
use Rattle.std.specs.Option.{option_and_then}
use Rattle.disk_model.specs.History.{Change}
use Rattle.machine_core.specs.Happening.{if_room, Happening, nothing_happens}
use Rattle.player_core.specs.Reports.{turned}
use Rattle.machine_core.specs.Keeping.{keep_ops, keeps_place, kept_event, resumes, when_kept, when_resumed}
use Rattle.machine_core.specs.Missing.{is_withheld, misses, goes_ahead, when_missed, withholds}
use Rattle.machine_core.specs.Reports.{when_broken, when_ended}
use Rattle.machine_core.specs.Room.{is_idle, room_back, when_room}
use Rattle.machine_core.specs.Scanning.{changes_rows, ends_scan, finds, is_running, kept_changes, telling, when_found, when_scanned, spared}
use Rattle.machine_core.specs.State.{lacks_room, told_room, MachineState}
use Rattle.player_core.specs.Place.{PlaceState}
use Rattle.player_core.specs.Reports.{counts}
use Rattle.play_journal.specs.Content.{Content, IsKnownLayout}
use Rattle.play_journal.specs.Pair.{found, IsPair}
use Rattle.play_journal.proofs.PairLaws.{pair-found}
use Rattle.play_journal.proofs.RecordLaws.{IsBytes, bytes_fit}
use Rattle.profile.specs.declared.profile.Profile.{Profile}
use Rattle.song_db.specs.declared.change.RowChange.{RowChange}
use Rattle.state_codec.specs.declared.op.Op.{Op}
use Rattle.state_codec.specs.Applied.{after, after_all, all_applied}
use Rattle.state_codec.specs.Layout.{profile_of}
use Rattle.state_codec.specs.SavedState.{SavedState}
use Rattle.state_codec.proofs.AppliedLaws.{same_profile}
use Rattle.daemon_core.specs.declared.event.Event.{Event}
use Rattle.daemon_core.specs.declared.event.Event.TheVariants as events
use Rattle.daemon_core.specs.Replay.{Entry}
use Rattle.daemon_core.specs.State.{State}
use Rattle.daemon_core.specs.Step.{Stepped, step}
use Rattle.daemon_core.proofs.RebuildLaws.{CommandsRebuild, step_rebuilds}
use Rattle.live_stage.specs.Found.{given_state, found_state, is_read, state_of, taken_state, AllFindNow, AllOpenNow}
use Rattle.live_stage.specs.Transcript.{replayed}
use Rattle.live_stage.proofs.ProfileLaws.{brought_own, profile_stays, state_profile, taken_of}

-- ---- files

-- a layout is read under the profile of its states
known_is_read : (layout : ℕ) → IsKnownLayout layout → is_read (profile_of layout) layout ≡ true
known_is_read layout (inl is) = ap (λ (n : ℕ). is_read (profile_of n) n) is
known_is_read layout (inr (inl is)) = ap (λ (n : ℕ). is_read (profile_of n) n) is
known_is_read layout (inr (inr is)) = ap (λ (n : ℕ). is_read (profile_of n) n) is

pair_known : (x y : List ℕ) (content : Content) → IsPair x y content → IsKnownLayout content.layout
pair_known x y content (inl first) = first.0.fits.layout
pair_known x y content (inr second) = second.0.fits.layout

given_from : (x y : List ℕ) (s : SavedState) (o : Option Content) → IsBytes x → IsBytes y → found x y ≡ o → state_of o ≡ Some s
    → option_and_then (taken_state s.profile) o ≡ Some s
given_from x y s None bytes_x bytes_y is stands = absurd cc
given_from x y s (Some content) bytes_x bytes_y is stands =
    let known = pair_known x y content (pair-found x y content bytes_x bytes_y is) in
    let reads : is_read s.profile content.layout ≡ true =
    ap (λ (p : Profile). is_read p content.layout) (state_profile content s stands) ∙ known_is_read content.layout known in
    taken_of s.profile content s reads stands ∙ ap (λ (t : SavedState). Some t) (brought_own s.profile s refl)

pub given_open : (x y : List ℕ) (s : SavedState) → IsBytes x → IsBytes y → given_state x y ≡ Some s → found_state s.profile x y ≡ Some s
given_open x y s bytes_x bytes_y is = given_from x y s (found x y) bytes_x bytes_y refl is

pub given_is_open : (s : SavedState) (a b : List Change) → AllFindNow (λ f. f ≡ Some s) a b → AllOpenNow s.profile (λ f. f ≡ Some s) a b
given_is_open s a b gives x y at_x at_y =
    given_open x y s (bytes_fit x at_x.bytes) (bytes_fit y at_y.bytes) (gives x y at_x at_y)

-- ---- a history

after_all_profile : (ops : List Op) (s : SavedState) → (let t : SavedState = after_all ops s in t.profile) ≡ s.profile
after_all_profile [] s = refl
after_all_profile (op ∷ ops) s = after_all_profile ops (after op s) ∙ same_profile op s

finds_profile : (changes : List RowChange) (m : MachineState) → (let h = finds changes m in h.after.saved.profile) ≡ m.saved.profile
finds_profile [] m = refl
finds_profile (change ∷ changes) m = after_all_profile (let h = changes_rows (change ∷ changes) m in h.ops) m.saved

room_or_not_profile : (h : Happening) (m : MachineState) → h.after.saved.profile ≡ m.saved.profile
    → (let r = if_room m h in r.after.saved.profile) ≡ m.saved.profile
room_or_not_profile h m same =
    elim (lacks_room m) as (λ b. (let r = cond b (nothing_happens m) h in r.after.saved.profile) ≡ m.saved.profile) [
      | true ↦ refl
      | false ↦ same
    ]

found_profile : (job : ℕ) (changes : List RowChange) (m : MachineState)
    → (let h = when_found job changes m in h.after.saved.profile) ≡ m.saved.profile
found_profile job changes m =
    elim (is_running job m) as (λ b.
    (let h = cond b (if_room m (finds (telling m.saved.songs (kept_changes m.saved.profile (spared m changes))) m)) (nothing_happens m)
    in h.after.saved.profile) ≡ m.saved.profile) [
      | true ↦ room_or_not_profile (finds (telling m.saved.songs (kept_changes m.saved.profile (spared m changes))) m) m
          (finds_profile (telling m.saved.songs (kept_changes m.saved.profile (spared m changes))) m)
      | false ↦ refl
    ]

scanned_profile : (job : ℕ) (m : MachineState) → (let h = when_scanned job m in h.after.saved.profile) ≡ m.saved.profile
scanned_profile job m =
    elim (is_running job m) as (λ b. (let h = cond b (ends_scan m) (nothing_happens m) in h.after.saved.profile) ≡ m.saved.profile) [
      | true ↦ refl
      | false ↦ refl
    ]

missed_profile : (job missing : ℕ) (m : MachineState)
    → (let h = when_missed job missing m in h.after.saved.profile) ≡ m.saved.profile
missed_profile job missing m =
    elim (is_running job m) as (λ b. (let h = cond b (misses missing m) (nothing_happens m) in h.after.saved.profile) ≡ m.saved.profile) [
      | true ↦ (elim (is_withheld missing m) as (λ b. (let h = cond b (withholds missing m) (goes_ahead m) in h.after.saved.profile)
          ≡ m.saved.profile) [
            | true ↦ refl
            | false ↦ refl
          ])
      | false ↦ refl
    ]

kept_found_profile : (job : ℕ) (changes : List RowChange) (m : MachineState)
    → (let h = kept_event m (when_found job changes m) in h.after.saved.profile) ≡ m.saved.profile
kept_found_profile job changes m =
    let h : Happening = when_found job changes m in
    after_all_profile (keep_ops m h.after) h.after.saved ∙ found_profile job changes m

kept_profile : (ticket : ℕ) (m : MachineState) → (let h = when_kept ticket m in h.after.saved.profile) ≡ m.saved.profile
kept_profile ticket m =
    elim (counts m.player.state m.player.ticket ticket) as (λ b.
    (let h = cond b (keeps_place m) (nothing_happens m) in h.after.saved.profile)
    ≡ m.saved.profile) [
      | true ↦ after_all_profile (let h = keeps_place m in h.ops) m.saved
      | false ↦ refl
    ]

resumes_profile : (plays : Bool) (m : MachineState) (place : Option PlaceState)
    → (let h = resumes plays m place in h.after.saved.profile) ≡ m.saved.profile
resumes_profile plays m None = refl
resumes_profile plays m (Some place) = refl

resumed_profile : (plays : Bool) (m : MachineState) → (let h = when_resumed plays m in h.after.saved.profile) ≡ m.saved.profile
resumed_profile plays m =
    elim (m.player.ticket == 0) as (λ b. (let h = cond b (resumes plays m m.saved.place) (nothing_happens m) in h.after.saved.profile)
    ≡ m.saved.profile) [
      | true ↦ resumes_profile plays m m.saved.place
      | false ↦ refl
    ]

caught_profile : (b : Bool) (m n : MachineState) → n.saved.profile ≡ m.saved.profile
    → (let h = cond b (nothing_happens m) (keeps_place n) in h.after.saved.profile) ≡ m.saved.profile
caught_profile true m n same = refl
caught_profile false m n same = after_all_profile (let h = keeps_place n in h.ops) n.saved ∙ same

back_profile : (b : Bool) (m : MachineState) → (let h = room_back b m in h.after.saved.profile) ≡ m.saved.profile
back_profile false m = refl
back_profile true m = caught_profile (is_idle m.player) (told_room true m) (record (told_room true m) {
  player = turned m.saved.options.random m.player;
}) refl

room_profile : (is_there : Bool) (m : MachineState) → (let h = when_room is_there m in h.after.saved.profile) ≡ m.saved.profile
room_profile false m = refl
room_profile true m = back_profile (lacks_room m) m

-- what is rebuilt by its ops keeps the profile
by_ops : (s : State) (r : Stepped) → all_applied r.ops s.machine.saved ≡ Some r.after.machine.saved
    → r.after.machine.saved.profile ≡ s.machine.saved.profile
by_ops s r is = profile_stays r.ops s.machine.saved r.after.machine.saved is

-- no event changes the profile
pub step_profile : (law : CommandsRebuild) (s : State) (event : Event) (refused : Option ℕ)
    → (let now : Stepped = step s event refused in now.after.machine.saved.profile) ≡ s.machine.saved.profile
unfolding step
step_profile law s (events.Connect c) refused = by_ops s (step s (events.Connect c) refused) (step_rebuilds law s (events.Connect c) refused tt).state
step_profile law s (events.Request c request) refused = by_ops s (step s (events.Request c request) refused)
    (step_rebuilds law s (events.Request c request) refused tt).state
step_profile law s (events.Gone c) refused = by_ops s (step s (events.Gone c) refused) (step_rebuilds law s (events.Gone c) refused tt).state
step_profile law s (events.Fed ticket frames) refused = refl
step_profile law s (events.Ended ticket) refused =
    let h : Happening = when_ended ticket s.machine in
    after_all_profile (keep_ops s.machine h.after) h.after.saved ∙ after_all_profile h.ops s.machine.saved
step_profile law s (events.Broken ticket cause) refused =
    let h : Happening = when_broken ticket cause s.machine in
    after_all_profile (keep_ops s.machine h.after) h.after.saved ∙ after_all_profile h.ops s.machine.saved
step_profile law s (events.Batch job changes) refused = kept_found_profile job changes s.machine
step_profile law s (events.Missing job songs) refused = missed_profile job songs s.machine
step_profile law s (events.ScanDone job) refused = scanned_profile job s.machine
step_profile law s (events.Clock time) refused = refl
step_profile law s (events.Keep ticket) refused = kept_profile ticket s.machine
step_profile law s (events.Resume plays) refused = resumed_profile plays s.machine
step_profile law s (events.Room is_there) refused = room_profile is_there s.machine
step_profile law s (events.Picture c told) refused = refl

-- nor does a history
pub history_profile : (law : CommandsRebuild) (s : State) (history : List Entry)
    → (let now : State = replayed s history in now.machine.saved.profile) ≡ s.machine.saved.profile
history_profile law s [] = refl
history_profile law s (entry ∷ earlier) =
    step_profile law (replayed s earlier) entry.event entry.refused ∙ history_profile law s earlier
