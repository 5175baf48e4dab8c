-- What the stamp rule leaves where a range of positions has changed and no other, or two positions.
use Rattle.std.specs.Prelude.{ℕ, ◌≤◌, ◌+◌, ◌==◌, ◌||◌, Bool, List, ◌++◌, map, take, drop, slice_range, if◌then◌else◌}
use Rattle.std.specs.List.{All, enumerate_from}
use Rattle.play_queue.specs.declared.entry.Entry.{Entry}
use Rattle.play_queue.specs.Limits.{MAX_VERSION}
use Rattle.play_queue.specs.Entries.{Uris, is_among, is_in_some}
use Rattle.play_queue.specs.Queue.{with_stamp}

abbrev pub next_version : ℕ → ℕ
next_version version = if version == MAX_VERSION then 1 else version + 1

abbrev pub restamped : ℕ → ℕ → ℕ → List Entry → List Entry
restamped version start end entries =
    if version == MAX_VERSION then map (with_stamp 1) entries
    else take start entries ++ (map (with_stamp (version + 1)) (slice_range entries start end) ++ drop end entries)

-- the entries at the positions that pass a test get the stamp
abbrev pub stamped_where : (ℕ → Bool) → ℕ → List Entry → List Entry
stamped_where test stamp entries = map (λ at. if test at.0 then with_stamp stamp at.1 else at.1) (enumerate_from 0 entries)

abbrev pub restamped_pair : ℕ → ℕ → ℕ → List Entry → List Entry
restamped_pair version one other entries =
    if version == MAX_VERSION then map (with_stamp 1) entries
    else stamped_where (λ at. at == one || at == other) (version + 1) entries

-- the entries of some URIs get the stamp
abbrev pub marked_one : Uris → ℕ → Entry → Entry
marked_one uris stamp entry = if is_among uris entry.uri then with_stamp stamp entry else entry

abbrev pub marked : Uris → ℕ → List Entry → List Entry
marked uris stamp entries = map (marked_one uris stamp) entries

-- two blocks that follow each other change places
abbrev pub exchanged : {T : Type 0} → List T → ℕ → ℕ → ℕ → List T
exchanged list low middle high = take low list ++ ((slice_range list middle high ++ slice_range list low middle) ++ drop high list)

abbrev pub restamped_batch : ℕ → ℕ → Uris → List Entry → List Entry
restamped_batch version first changed entries =
    if version == MAX_VERSION then map (with_stamp 1) entries
    else marked changed (version + 1) (take first entries) ++ map (with_stamp (version + 1)) (drop first entries)

-- an entry that has another priority gets this one and the stamp
abbrev pub raised : ℕ → ℕ → Entry → Entry
raised priority stamp entry = if entry.priority == priority then entry else record entry { priority = priority; stamp = stamp }

-- the same for the entries of some ranges
abbrev pub raised_in : List (ℕ × ℕ) → ℕ → ℕ → List Entry → List Entry
raised_in ranges priority stamp entries =
    map (λ at. if is_in_some ranges at.0 then raised priority stamp at.1 else at.1) (enumerate_from 0 entries)

abbrev pub reprioritized : ℕ → List (ℕ × ℕ) → ℕ → List Entry → List Entry
reprioritized version ranges priority entries =
    if version == MAX_VERSION then map (with_stamp 1) (raised_in ranges priority 1 entries)
    else raised_in ranges priority (version + 1) entries

-- the ranges lie within a list
abbrev pub AreRanges : List (ℕ × ℕ) → ℕ → Type 0
AreRanges ranges length = All (λ range. (range.0 ≤ range.1) × (range.1 ≤ length)) ranges
