-- The lives of a console: what was read, written and kept from an opening of the journal on.
use Rattle.std.specs.Prelude.{◌≡◌, ◌≢◌, ◌≤◌, ◌⊎◌, ℕ, List, ◌∷◌, ◌++◌, Option, Some, None, Result, Ok, Err, IsSome}
use Rattle.std.specs.Io.KnownBytes.{Appends, Consumes, Keeps}
use Rattle.disk_model.specs.Faults.{HasGrown}
use Rattle.disk_model.specs.History.{Change}
use Rattle.disk_model.specs.Images.{window, IsImage}
use Rattle.state_codec.specs.SavedState.{SavedState}
use Rattle.daemon_core.specs.declared.event.Event.{Event}
use Rattle.daemon_core.specs.Replay.{Entry, replay}
use Rattle.profile.specs.declared.profile.Profile.{Profile}
use Rattle.live_stage.specs.declared.refusal.StartError.{StartError}
use Rattle.live_stage.specs.declared.refusal.StartError.TheVariants.{NoMemory, NumbersSpent, Broken}
use Rattle.live_stage.specs.Errors.{IsRefusalOfOpen, IsCause, start_number_of}
use Rattle.live_stage.specs.Found.{found_state, AllFindNow, AllOpenNow, KeepsFoundState}
use Rattle.client_session.specs.Requests.{requests_of}
use Rattle.mpd_server.specs.Ends.{refusal_number}
use Rattle.mpd_program.specs.Serving.{IsAllRead}
use Rattle.mpd_program.specs.Console.{asked, asked_in, given, events_of, ClosesNone, ClosesAtLast, ClosesNoneBefore, JobsInTurn, RunsNone}
use Rattle.mpd_program.specs.declared.console.Ending.{Ending}
use Rattle.mpd_program.specs.declared.console.Ending.TheVariants.{Whole, Cut, Faulted}
use Rattle.mpd_program.specs.declared.console.Status.{Status}
use Rattle.mpd_program.specs.declared.console.Status.TheVariants.{Done, JournalRefused, DiskFault}

-- A moment: the bytes, the history and the count of faults of the disks of files a and b, the bytes that the reader has left,
-- and those that the writer holds, where they are known.
pub record Moment : Type 0 where
  pub content_a : List ℕ
  pub content_b : List ℕ
  pub history_a : List Change
  pub history_b : List Change
  pub faults_a : ℕ
  pub faults_b : ℕ
  pub input : Option (List ℕ)
  pub output : Option (List ℕ)

abbrev pub moment_of : {D : Type 0} → (D → List ℕ) → (D → List Change) → (D → ℕ) → D → D → Option (List ℕ) → Option (List ℕ) → Moment
moment_of content history faults a b input output =
    record {
      content_a = content a;
      content_b = content b;
      history_a = history a;
      history_b = history b;
      faults_a = faults a;
      faults_b = faults b;
      input = input;
      output = output;
    }

-- a disk has failed between these moments
abbrev pub HasFailed : Moment → Moment → Type 0
HasFailed first last = HasGrown first.faults_a last.faults_a ⊎ HasGrown first.faults_b last.faults_b

-- what a read gives at this moment is among what a crash may leave at it
abbrev pub AreImages : Moment → Type 0
AreImages now = IsImage (window now.history_a) now.content_a × IsImage (window now.history_b) now.content_b

-- whatever a crash leaves at this moment gives a state with P
abbrev pub AllFind : (Option SavedState → Type 0) → Moment → Type 0
AllFind P now = AllFindNow P now.history_a now.history_b

-- whatever a crash leaves at this moment, a restart finds a state with P
abbrev pub AllOpen : Profile → (Option SavedState → Type 0) → Moment → Type 0
AllOpen profile P now = AllOpenNow profile P now.history_a now.history_b

-- All requests of what was read were served, the last one's job is over, and the reader is at its end.
pub record EndsWithInput (c : ℕ) (kept : SavedState) (read : List ℕ) (history : List Entry) (last : Moment) : Type 0 where
  pub all : asked_in history ≡ events_of c (requests_of read)
  pub stays_open : ClosesNone kept history
  pub idle : let now = replay kept history in RunsNone now.machine.job
  pub at_end : IsAllRead read last.input

-- The requests of what was read were served up to the first that closed the client.
pub record EndsByClose (c : ℕ) (kept : SavedState) (read : List ℕ) (history : List Entry) : Type 0 where
  pub behind : List Event
  pub front : asked_in history ++ behind ≡ events_of c (requests_of read)
  pub closed : ClosesAtLast kept history

-- A life under a profile that ended with the input, or by a request that closed the client: what was written is what the history gives to
-- the client, and the files keep all of it.
pub record IsWhole (profile : Profile) (Honest : Type 0) (c : ℕ) (first last : Moment) : Type 0 where
  pub kept : SavedState
  pub read : List ℕ
  pub history : List Entry
  pub consumed : Consumes first.input last.input read
  pub served : EndsWithInput c kept read history last ⊎ EndsByClose c kept read history
  pub in_turn : JobsInTurn kept history
  pub written : Appends first.output last.output (given c kept history)
  pub found : Honest → found_state profile first.content_a first.content_b ≡ Some kept
  pub own : kept.profile ≡ profile
  pub holds : Honest → AllFind (λ f. let now = replay kept history in f ≡ Some now.machine.saved) last

-- A life that was cut short: a front of the requests of what was read was served, a front of what this gives was written,
-- and the files keep all of it.
pub record IsCut (profile : Profile) (Honest : Type 0) (c : ℕ) (first last : Moment) : Type 0 where
  pub kept : SavedState
  pub read : List ℕ
  pub history : List Entry
  pub behind : List Event
  pub written : List ℕ
  pub unwritten : List ℕ
  pub consumed : Consumes first.input last.input read
  pub front : asked_in history ++ behind ≡ events_of c (requests_of read)
  pub stays_open : ClosesNoneBefore kept history
  pub in_turn : JobsInTurn kept history
  pub parts : written ++ unwritten ≡ given c kept history
  pub appended : Appends first.output last.output written
  pub found : Honest → found_state profile first.content_a first.content_b ≡ Some kept
  pub own : kept.profile ≡ profile
  pub holds : Honest → AllFind (λ f. let now = replay kept history in f ≡ Some now.machine.saved) last

-- A disk failed while an event was handled: all before it was answered and is kept, and the event is kept or not.
pub record FailsInEvent (profile : Profile) (Honest : Type 0) (c : ℕ) (first last : Moment) : Type 0 where
  pub kept : SavedState
  pub read : List ℕ
  pub history : List Entry
  pub event : Event
  pub behind : List Event
  pub consumed : Consumes first.input last.input read
  pub front : asked_in history ++ (asked event ++ behind) ≡ events_of c (requests_of read)
  pub stays_open : ClosesNone kept history
  pub in_turn : JobsInTurn kept (record { event = event; refused = None } ∷ history)
  pub written : Appends first.output last.output (given c kept history)
  pub found : Honest → found_state profile first.content_a first.content_b ≡ Some kept
  pub own : kept.profile ≡ profile
  pub holds : Honest → (refused : Option ℕ) × AllFind (λ f. (let now = replay kept history in f ≡ Some now.machine.saved)
      ⊎ (let now = replay kept (record { event = event; refused = refused } ∷ history) in f ≡ Some now.machine.saved)) last

-- A disk failed while the journal was opened: nothing was read or written, and a restart finds what it might have found.
pub record FailsInOpening (profile : Profile) (first last : Moment) (Honest : Type 0) : Type 0 where
  pub input : Keeps first.input last.input
  pub output : Keeps first.output last.output
  pub holds : Honest → KeepsFoundState profile first.history_a first.history_b last.history_a last.history_b

-- a life that a disk fault ended
pub record IsFaulted (profile : Profile) (Honest : Type 0) (c : ℕ) (first last : Moment) : Type 0 where
  pub place : FailsInOpening profile first last Honest ⊎ FailsInEvent profile Honest c first last
  pub failed : Honest → HasFailed first last

-- The journal was refused with this number: nothing was read or written.
pub record IsRefused (profile : Profile) (Honest : Type 0) (n : ℕ) (first last : Moment) : Type 0 where
  pub error : StartError
  pub refusal : IsRefusalOfOpen error
  pub not_a_fault : error ≢ Broken
  pub number : n ≡ start_number_of error
  pub cause : Honest → IsCause profile first.content_a first.content_b error
  pub good_files : Honest → AllOpen profile (λ f. IsSome f) first → (error ≡ NoMemory) ⊎ (error ≡ NumbersSpent)
  pub input : Keeps first.input last.input
  pub output : Keeps first.output last.output
  pub holds : Honest → KeepsFoundState profile first.history_a first.history_b last.history_a last.history_b

-- what a life of this client came to: how it ended, or the number with which the journal was refused
abbrev pub IsLife : Profile → Type 0 → ℕ → Result Ending ℕ → Moment → Moment → Type 0
IsLife profile Honest c (Ok Whole) first last = IsWhole profile Honest c first last
IsLife profile Honest c (Ok Cut) first last = IsCut profile Honest c first last
IsLife profile Honest c (Ok Faulted) first last = IsFaulted profile Honest c first last
IsLife profile Honest c (Err number) first last = IsRefused profile Honest number first last

-- what a life came to whose journal was refused with this number, or in whose opening a disk failed
abbrev pub came_to_of : Option ℕ → Result Ending ℕ
came_to_of None = Ok Faulted
came_to_of (Some number) = Err number

-- what a life whose journal was not opened came to
abbrev pub refusal_of : StartError → Result Ending ℕ
refusal_of error = came_to_of (refusal_number error)

-- the status of a console whose last life came to this
abbrev pub status_of : Result Ending ℕ → Status
status_of (Ok Whole) = Done
status_of (Ok Cut) = Done
status_of (Ok Faulted) = DiskFault
status_of (Err number) = JournalRefused number

-- the ending of a console of one life
abbrev pub ending_of : Result Ending ℕ → Ending
ending_of (Ok ending) = ending
ending_of (Err number) = Faulted

-- one life, which no disk fault ended
pub record IsOneLife (profile : Profile) (Honest : Type 0) (status : Status) (ending : Ending) (first last : Moment) : Type 0 where
  pub came_to : Result Ending ℕ
  pub no_fault : came_to ≢ Ok Faulted
  pub life : IsLife profile Honest 1 came_to first last
  pub same_status : status ≡ status_of came_to
  pub same_ending : ending ≡ ending_of came_to

-- A life of client 1 that a disk fault ended, and then one of client 2, over what the files give: where a crash leaves one state at that
-- moment alone, over that.
pub record IsTwoLives (profile : Profile) (Honest : Type 0) (status : Status) (ending : Ending) (first last : Moment) : Type 0 where
  pub between : Moment
  pub images : Honest → AreImages between
  pub came_to : Result Ending ℕ
  pub fault : IsFaulted profile Honest 1 first between
  pub life : IsLife profile Honest 2 came_to between last
  pub later_a : between.faults_a ≤ last.faults_a
  pub later_b : between.faults_b ≤ last.faults_b
  pub same_status : status ≡ status_of came_to
  pub same_ending : ending ≡ Faulted

-- what a console came to
abbrev pub IsConsole : Profile → Type 0 → Status → Ending → Moment → Moment → Type 0
IsConsole profile Honest status ending first last =
    IsOneLife profile Honest status ending first last ⊎ IsTwoLives profile Honest status ending first last
