-- The queue, and the rule by which its version and the stamps of its entries follow a change.
use Rattle.std.specs.Prelude.{◌≡◌, ◌≢◌, ◌↔◌, ℕ, ◌+◌, ◌<◌, ◌≤◌, Bool, true, false, not, ◌==◌, ◌&&◌, ◌||◌, nat_lt}
use Rattle.std.specs.Prelude.{filter, List, [], ◌∷◌, length, map, if◌then◌else◌}
use Rattle.std.specs.List.{All, AllPairs, enumerate_from}
use Rattle.std.specs.Str.{bytes_eq}
use Rattle.play_queue.specs.declared.entry.Entry.{Entry}
use Rattle.play_queue.specs.Limits.{MAX_ENTRIES, MAX_ID, MAX_VERSION}
use Rattle.play_queue.specs.Entries.{Uris, is_among}

-- the entries in order, the version, and the id that the next entry gets (one above the greatest id once all are spent)
pub record QueueState : Type 0 where
  pub entries : List Entry
  pub version : ℕ
  pub next_id : ℕ

-- an entry's id is used up and its stamp is no later than the version
pub record IsEntry (next_id version : ℕ) (entry : Entry) : Type 0 where
  pub id_low : 1 ≤ entry.id
  pub id_used : entry.id < next_id
  pub stamp_low : 1 ≤ entry.stamp
  pub stamp_high : entry.stamp ≤ version

-- the ids in order
abbrev pub ids_of : List Entry → List ℕ
ids_of entries = map (λ entry. entry.id) entries

-- no number stands there twice
abbrev pub AllDiffer : List ℕ → Type 0
AllDiffer ids = AllPairs (λ one other. one ≢ other) ids

-- no two entries have the same id
abbrev pub HaveOwnIds : List Entry → Type 0
HaveOwnIds entries = AllDiffer (ids_of entries)

-- what every queue keeps
pub record IsQueue (queue : QueueState) : Type 0 where
  pub few : length queue.entries ≤ MAX_ENTRIES
  pub version_low : 1 ≤ queue.version
  pub version_high : queue.version ≤ MAX_VERSION
  pub next_low : 1 ≤ queue.next_id
  pub next_high : queue.next_id ≤ MAX_ID + 1
  pub entry : All (IsEntry queue.next_id queue.version) queue.entries
  pub own_ids : HaveOwnIds queue.entries

-- nothing has changed at a position: id, priority and URI are as before, and so is the row of the URI
abbrev pub is_same : Uris → Entry → Entry → Bool
is_same changed before after =
    before.id == after.id && (before.priority == after.priority && (bytes_eq before.uri after.uri && not (is_among changed after.uri)))

-- nothing has changed at any position, and the lists are equally long
abbrev pub is_unchanged : Uris → List Entry → List Entry → Bool
is_unchanged changed [] [] = true
is_unchanged changed [] (after ∷ afters) = false
is_unchanged changed (before ∷ befores) [] = false
is_unchanged changed (before ∷ befores) (after ∷ afters) = is_same changed before after && is_unchanged changed befores afters

abbrev pub with_stamp : ℕ → Entry → Entry
with_stamp stamp entry = record entry { stamp = stamp }

-- exactly the positions that differ get the stamp
abbrev pub stamped : Uris → ℕ → List Entry → List Entry → List Entry
stamped changed stamp befores [] = []
stamped changed stamp [] (after ∷ afters) = with_stamp stamp after ∷ stamped changed stamp [] afters
stamped changed stamp (before ∷ befores) (after ∷ afters) =
    (if is_same changed before after then before else with_stamp stamp after) ∷ stamped changed stamp befores afters

-- The stamp rule. `changed` has the URIs whose row is another one than before.
-- Where no position differs, the version and all stamps stay. Else the version grows by one and is the stamp of the
-- positions that differ; past the greatest version it begins again at 1, and so do all stamps.
abbrev pub ruled : QueueState → List Entry → Uris → QueueState
ruled before afters changed =
    if is_unchanged changed before.entries afters then before
    else if before.version == MAX_VERSION then record before { entries = map (with_stamp 1) afters; version = 1 }
    else record before { entries = stamped changed (before.version + 1) before.entries afters; version = before.version + 1 }

-- the version stays exactly where nothing has changed at any position (and then, by the rule, the whole queue does)
abbrev pub VersionTellsChanges : QueueState → Type 0
VersionTellsChanges before =
    (afters : List Entry) (changed : Uris) →
    ((ruled before afters changed).version ≡ before.version) ↔ (is_unchanged changed before.entries afters ≡ true)

-- the positions whose stamp is later than a version, and all where the version is later than the queue's
abbrev pub changed_since : QueueState → ℕ → List ℕ
changed_since queue version =
    map (λ at. at.0) (filter (λ at. nat_lt queue.version version || nat_lt version at.1.stamp) (enumerate_from 0 queue.entries))
