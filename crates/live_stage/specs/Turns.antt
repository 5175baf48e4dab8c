-- How a stage goes on from one call to the next.
use Rattle.std.specs.Prelude.{◌≡◌, ◌≢◌, ◌⊎◌, ◌↔◌, ◌≤◌, true, false, not, Bool, ℕ, ◌+◌, ◌*◌, ◌==◌, List, [], ◌∷◌, length, Some, Result, Err}
use Rattle.std.specs.Prelude.{IfOk, OnOk, OnErr, IfErr, MatchBool, ◌||◌, nat_lt, if◌then◌else◌}
use Rattle.disk_model.specs.History.{Change}
use Rattle.disk_model.specs.Later.{HasFailed}
use Rattle.play_journal.specs.Calls.{SameFaults}
use Rattle.play_journal.specs.Content.{Content, last_record, with_record, with_snapshot, IsEither}
use Rattle.play_journal.specs.File.{records_len, spelling}
use Rattle.play_journal.specs.JournalState.{JournalState}
use Rattle.play_journal.specs.Pair.{AllPairsNow, AllPairsSince}
use Rattle.profile.specs.declared.profile.Profile.{Profile}
use Rattle.profile.specs.declared.profile.Profile.TheVariants.{Named, Wide}
use Rattle.state_codec.specs.declared.op.Op.{Op}
use Rattle.state_codec.specs.Layout.{written_layout}
use Rattle.state_codec.specs.SavedState.{SavedState}
use Rattle.state_codec.specs.Spelling.{body_bytes, saved_bytes}
use Rattle.daemon_core.specs.State.{start}
use Rattle.live_stage.specs.declared.refusal.LiveError.{LiveError}
use Rattle.live_stage.specs.declared.refusal.LiveError.TheVariants.{Broken, NoMemory, NumbersSpent}
use Rattle.live_stage.specs.Answer.{Answer}
use Rattle.live_stage.specs.Found.{state_of}
use Rattle.live_stage.specs.LiveState.{LiveState}
use Rattle.live_stage.specs.Numbers.{AreSpent, FileNumbers, greatest, is_due, most_records, most_bytes, longest_record, next_file}
use Rattle.live_stage.specs.Numbers.{ready_file, ready_work, file_found, most_work, numbers_found}

-- a stage that begins with what was kept, and had no event yet
pub record IsBegun {D : Type 0} (kept : SavedState) (live : LiveState D) : Type 0 where
  pub state : live.state ≡ start kept
  pub event : live.numbers.event ≡ 0
  pub work : live.work ≡ 0
  pub usable : live.is_broken ≡ false

-- whatever a crash now leaves of the files gives the content of the stage, in the layout that its profile writes, which stands for its
-- state, and its numbers are those that the stage counts
pub record IsStored {D : Type 0} (history : D → List Change) (live : LiveState D) : Type 0 where
  pub kept : AllPairsNow (λ f. f ≡ Some live.content) (history live.a) (history live.b)
  pub layout : live.content.layout ≡ written_layout live.state.machine.saved.profile
  pub state : state_of (Some live.content) ≡ Some live.state.machine.saved
  pub file : live.file ≡ record (file_found live.content) { is_put_off = live.file.is_put_off }
  pub numbered : live.numbers.last_record ≡ last_record live.content

-- whether a journal of this layout is brought to the one that is written when it is opened
abbrev pub is_old : Profile → ℕ → Bool
is_old profile layout = not (layout == written_layout profile)

-- the content with this state as its snapshot, in the layout that the state's profile writes
abbrev pub with_state : Content → SavedState → Content
with_state content s = with_snapshot content (written_layout s.profile) (saved_bytes s)

-- what the files say once they were opened, in which this state was found: the same, or the state as a snapshot
abbrev pub migrated : Content → SavedState → Content
migrated content s = if is_old s.profile content.layout then with_state content s else content

-- A stage that was opened over files that gave this: it goes on from their numbers, which are those of the files now too.
pub record IsOver {D : Type 0} (history : D → List Change) (content : Content) (live : LiveState D) : Type 0 where
  pub numbers : live.numbers ≡ numbers_found content
  pub says : live.content ≡ migrated content live.state.machine.saved
  pub stored : IsStored history live
  pub told : live.was_migrated ≡ is_old live.state.machine.saved.profile content.layout

-- what the files of a stage say once its state is their snapshot
abbrev pub as_snapshot : {D : Type 0} → LiveState D → Content
as_snapshot live = with_state live.content live.state.machine.saved

-- ---- checkpoints

-- After a checkpoint the state and its numbers are as they were, and records go to the other file, which has none yet.
pub record IsCheckpointed {D : Type 0} (old new : LiveState D) : Type 0 where
  pub state : new.state ≡ old.state
  pub numbers : new.numbers ≡ old.numbers
  pub file : new.file ≡ next_file old.state.machine.saved old.file
  pub work : new.work ≡ 0
  pub other_file : new.is_in_b ≡ not old.is_in_b
  pub usable : new.is_broken ≡ false

-- While a checkpoint is made the files give what they gave before, or the state as a snapshot without records.
pub record IsCheckpointing {D : Type 0} (history : D → List Change) (old new : LiveState D) : Type 0 where
  pub before : AllPairsNow (λ f. f ≡ Some old.content) (history old.a) (history old.b)
  pub during : AllPairsSince (IsEither old.content (as_snapshot old))
      (history new.a) (length (history old.a)) (history new.b) (length (history old.b))

-- so many calls of the two disks were made at most
abbrev pub CallsAtMost : ℕ → List Change → List Change → List Change → List Change → Type 0
CallsAtMost most old_a old_b new_a new_b = length new_a + length new_b ≤ length old_a + length old_b + most

-- From its `Ok` on they give the latter alone.
pub record HoldsSnapshot {D : Type 0} (history : D → List Change) (old new : LiveState D) : Type 0 where
  pub says : new.content ≡ as_snapshot old
  pub kept : AllPairsNow (λ f. f ≡ Some new.content) (history new.a) (history new.b)

-- A stage that was broken refuses a checkpoint; then a generation that is spent is refused. A disk fault breaks the stage, any other
-- refusal leaves it as it was. Memory never wants.
pub record RefusesCheckpoint {D T : Type 0} (old new : LiveState D) (result : Result T LiveError) : Type 0 where
  pub broken : old.is_broken ≡ true → (result ≡ Err Broken) × (new ≡ old)
  pub numbers_spent : old.is_broken ≡ false → ((result ≡ Err NumbersSpent) ↔ (old.file.generation ≡ greatest))
  pub no_memory : result ≢ Err NoMemory
  pub breaks : result ≡ Err Broken → new.is_broken ≡ true
  pub stays : OnErr result (result ≢ Err Broken → new ≡ old)
  pub not_counted : new.numbers.event ≡ old.numbers.event

-- ---- turns

-- whether a turn writes to file b: it is in use, or the other one is and a checkpoint is made
abbrev pub writes_to_b : {D : Type 0} → LiveState D → Bool
writes_to_b live = if is_due live.file then not live.is_in_b else live.is_in_b

-- what the files say when a turn's record is written
abbrev pub ready_content : {D : Type 0} → LiveState D → Content
ready_content live = if is_due live.file then as_snapshot live else live.content

-- the same with the record of these ops, if there are any
abbrev pub recorded_content : Profile → Content → List Op → Content
recorded_content profile content [] = content
recorded_content profile content (op ∷ ops) = with_record content (body_bytes profile (op ∷ ops))

-- What a turn does before it handles its event: it makes the checkpoint that is due, if one is.
pub record IsReady {D : Type 0} (old ready : LiveState D) : Type 0 where
  pub state : ready.state ≡ old.state
  pub numbers : ready.numbers ≡ old.numbers
  pub file : ready.file ≡ ready_file old.state.machine.saved old.file
  pub work : ready.work ≡ ready_work old.file old.work
  pub in_b : ready.is_in_b ≡ writes_to_b old
  pub usable : ready.is_broken ≡ false
  pub nothing_made : is_due old.file ≡ false → ready ≡ old

-- nothing was done, or the checkpoint that was due
abbrev pub IsStill : {D : Type 0} → LiveState D → LiveState D → Type 0
IsStill old new = (new ≡ old) ⊎ IsReady old new

-- records go to the same file as before, and the other file isn't touched
pub record StaysInFile {D : Type 0} (old new : LiveState D) : Type 0 where
  pub same_file : new.is_in_b ≡ old.is_in_b
  pub other_file : MatchBool old.is_in_b (new.a ≡ old.a) (new.b ≡ old.b)

-- a turn, or what it does before its event, writes to one file alone, by whether a checkpoint is due
abbrev pub WritesAlone : {D : Type 0} → LiveState D → LiveState D → Type 0
WritesAlone old new = MatchBool (writes_to_b old) (new.a ≡ old.a) (new.b ≡ old.b)

-- A turn writes to one file alone, to which records go once it has answered.
pub record WritesOneFile {D : Type 0} (old new : LiveState D) (result : Result Answer LiveError) : Type 0 where
  pub in_use : IfOk result (λ t. new.is_in_b ≡ writes_to_b old)
  pub same_file : is_due old.file ≡ false → new.is_in_b ≡ old.is_in_b
  pub other_file : WritesAlone old new

-- `Broken` is told only where one of the two disks has failed, or the stage was broken, and any other answer only where neither has.
pub record TellsFaults {D T : Type 0} (honest : D → Type 0) (faults : D → ℕ) (old new : LiveState D) (result : Result T LiveError)
    : Type 0 where
  pub failed : honest old.a → honest old.b → old.is_broken ≡ false → result ≡ Err Broken → HasFailed faults old.a old.b new.a new.b
  pub met_none : result ≢ Err Broken → SameFaults faults old.a old.b new.a new.b

-- no disk was called
pub record MakesNoCall {D : Type 0} (old new : LiveState D) : Type 0 where
  pub same_a : new.a ≡ old.a
  pub same_b : new.b ≡ old.b

-- From its `Ok` on whatever a crash leaves says the record of its ops, behind the snapshot that was due, if one was. There are at most so
-- many records, and they take no more bytes than the bound and one record, unless a checkpoint is put off for want of room.
pub record IsWritten {D : Type 0} (history : D → List Change) (old new : LiveState D) (ops : List Op) : Type 0 where
  pub says : new.content ≡ recorded_content new.state.machine.saved.profile (ready_content old) ops
  pub stored : IsStored history new
  pub few : old.file.is_put_off ≡ false → length new.content.records ≤ most_records new.content.layout (length new.content.snapshot)
  pub short : old.file.is_put_off ≡ false
      → records_len new.content.records ≤ most_bytes (length new.content.snapshot) + longest_record

-- A disk fault breaks a stage, any other refusal leaves it as it was, and no refused event is counted.
pub record LeavesAsIs {D T : Type 0} (old new : LiveState D) (result : Result T LiveError) : Type 0 where
  pub never : result ≢ Err NumbersSpent
  pub usable : OnOk result (new.is_broken ≡ false)
  pub breaks : result ≡ Err Broken → new.is_broken ≡ true
  pub stays : OnErr result (result ≢ Err Broken → new ≡ old)
  pub not_counted : OnErr result (new.numbers.event ≡ old.numbers.event)

-- A stage that was broken refuses; then numbers that are spent are refused, before anything is done. A disk fault breaks the stage,
-- any other refusal leaves it as it was, but for the checkpoint that was due, and no refused event is counted.
pub record RefusesInOrder {D T : Type 0} (old new : LiveState D) (result : Result T LiveError) : Type 0 where
  pub broken : old.is_broken ≡ true → (result ≡ Err Broken) × (new ≡ old)
  pub numbers_spent : old.is_broken ≡ false → ((result ≡ Err NumbersSpent) ↔ AreSpent old.numbers old.file)
  pub nothing_done : result ≡ Err NumbersSpent → new ≡ old
  pub usable : OnOk result (new.is_broken ≡ false)
  pub breaks : result ≡ Err Broken → new.is_broken ≡ true
  pub stays : OnErr result (result ≢ Err Broken → IsStill old new)
  pub not_counted : OnErr result (new.numbers.event ≡ old.numbers.event)

-- What is only told is refused where the stage is broken, and else for want of memory alone.
pub record RefusesToTell {D T : Type 0} (live : LiveState D) (result : Result T LiveError) : Type 0 where
  pub broken : (result ≡ Err Broken) ↔ (live.is_broken ≡ true)
  pub nothing_else : IfErr result (λ e. (e ≡ Broken) ⊎ (e ≡ NoMemory))

-- ---- room

-- how many bytes of records there is room for behind what the files say: those of two groups, each of two records at most
abbrev pub room_kept : ℕ
room_kept = 4 * longest_record

-- and with how many a record may be added, and a group behind it
abbrev pub room_enough : ℕ
room_enough = 3 * longest_record

-- the file in use has so many bytes behind its closing gate
abbrev pub HasBehind : {D : Type 0} → (D → List ℕ) → ℕ → LiveState D → Type 0
HasBehind content bytes live = length (spelling live.content) + 1 + bytes ≤ length (content (if live.is_in_b then live.b else live.a))

-- all but the disks is as it was
pub record CallsDisksAlone {D : Type 0} (old new : LiveState D) : Type 0 where
  pub state : new.state ≡ old.state
  pub numbers : new.numbers ≡ old.numbers
  pub file : new.file ≡ old.file
  pub work : new.work ≡ old.work
  pub same_file : new.is_in_b ≡ old.is_in_b
  pub usable : new.is_broken ≡ false

-- the file in use isn't touched
abbrev pub KeepsFileInUse : {D : Type 0} → LiveState D → LiveState D → Type 0
KeepsFileInUse old new = MatchBool old.is_in_b (new.b ≡ old.b) (new.a ≡ old.a)

-- a checkpoint was made, or there was no room for it, and all but the disks is as it was
abbrev pub MakesOrNot : {D : Type 0} → Bool → LiveState D → LiveState D → Type 0
MakesOrNot is_made old new = MatchBool is_made (IsCheckpointed old new) (CallsDisksAlone old new)

-- as if no checkpoint were put off
abbrev pub taken_up : FileNumbers → FileNumbers
taken_up file = record file { is_put_off = false }

-- Under the wide profile room is given back where a checkpoint is due or put off.
abbrev pub gives_room : Profile → FileNumbers → ℕ → Bool
gives_room Named file work = false
gives_room Wide file work = is_due (taken_up file) || nat_lt most_work work

-- the file in use ends with its closing gate
abbrev pub HasNoneBehind : {D : Type 0} → (D → List ℕ) → LiveState D → LiveState D → Type 0
HasNoneBehind content old new = length (content (if new.is_in_b then new.b else new.a)) ≡ length (spelling old.content) + 1

-- It is refused where the stage is broken, and by a disk fault, which breaks it.
pub record RefusesToGive {D T : Type 0} (old new : LiveState D) (result : Result T LiveError) : Type 0 where
  pub broken : old.is_broken ≡ true → (result ≡ Err Broken) × (new ≡ old)
  pub fault : OnErr result (result ≡ Err Broken)
  pub breaks : result ≡ Err Broken → new.is_broken ≡ true
  pub not_counted : new.numbers.event ≡ old.numbers.event

-- Room was looked for: the checkpoint that was due was made, or is put off, so that none is due; where none was, and the events of the
-- records looked at no more than they may, all but the disks is as it was, and none is put off.
pub record LooksForRoom {D : Type 0} (old new : LiveState D) : Type 0 where
  pub state : new.state ≡ old.state
  pub numbers : new.numbers ≡ old.numbers
  pub file : (new.file ≡ next_file old.state.machine.saved old.file) ⊎ (new.file ≡ record old.file { is_put_off = new.file.is_put_off })
  pub undue : is_due new.file ≡ false
  pub work : (new.work ≡ 0) ⊎ (new.work ≡ old.work)
  pub kept : is_due (taken_up old.file) ≡ false → old.work ≤ most_work → new.file ≡ taken_up old.file
  pub usable : new.is_broken ≡ false

-- Room could not be looked for: the stage was broken, and is as it was; or the last generation is spent, and the state stays; or a disk
-- failed, which breaks the stage.
pub record RefusesToLook {D T : Type 0} (old new : LiveState D) (result : Result T LiveError) : Type 0 where
  pub broken : old.is_broken ≡ true → (result ≡ Err Broken) × (new ≡ old)
  pub nothing_else : IfErr result (λ e. (e ≡ NumbersSpent) ⊎ ((e ≡ Broken) × (new.is_broken ≡ true)))
  pub stays : OnErr result (result ≢ Err Broken → (new.state ≡ old.state) × (new.is_broken ≡ false))
  pub not_counted : new.numbers.event ≡ old.numbers.event

-- There is room: no checkpoint is due, or is put off, the events of the records looked at no more than they may, and the file in use has
-- so many bytes behind its closing gate.
pub record HasRoom {D : Type 0} (content : D → List ℕ) (live : LiveState D) : Type 0 where
  pub made : live.file.is_put_off ≡ false
  pub undue : is_due live.file ≡ false
  pub light : live.work ≤ most_work
  pub behind : HasBehind content room_kept live
