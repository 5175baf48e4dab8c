-- The stored playlists: a list of names with their songs, rising by the bytes of the name, and what each call makes of it.
use Rattle.std.specs.Prelude.{◌≡◌, ℕ, ◌+◌, ◌≤◌, Bool, not, ◌||◌, nat_lt, nat_le, List, [], ◌++◌, length, Option, Some}
use Rattle.std.specs.Prelude.{None, is_some, IsTrue, unwrap_or, sum_by, if◌then◌else◌}
use Rattle.std.specs.Cmp.Lexicographic.{slice_cmp}
use Rattle.std.specs.Ordering.{nat_cmp}
use Rattle.std.specs.List.{AllByRecursion}
use Rattle.std.specs.List.Sorted.{IsStrictlySortedBy}
use Rattle.std.specs.Map.{keys_of, lookup, remove_entry, set_value}
use Rattle.std.specs.BTreeMap.{insert_entry}
use Rattle.std.specs.Str.{bytes_eq}
use Rattle.stored_lists.specs.Limits.{MAX_LISTS, MAX_ENTRIES}
use Rattle.stored_lists.specs.declared.refusal.ListsError.{ListsError}
use Rattle.stored_lists.specs.declared.refusal.ListsError.TheVariants.{BadIndex, BadName, NoSuchList, ListExists, ListsFull}
use Rattle.stored_lists.specs.Name.{is_good_name}
use Rattle.stored_lists.specs.Songs.{Uris, AreUris}

-- names with their songs
abbrev pub Stored : Type 0
Stored = List (List ℕ × Uris)

-- the names, in order
abbrev pub names_of : Stored → List (List ℕ)
names_of lists = keys_of lists

-- the songs under a name, if there is such a playlist
abbrev pub songs_of : Stored → List ℕ → Option Uris
songs_of lists name = lookup (bytes_eq name) lists

-- how many entries all playlists have together
abbrev pub total : Stored → ℕ
total lists = sum_by (λ list. length list.1) lists

-- the names rise by their bytes, so none comes twice
abbrev pub IsRising : Stored → Type 0
IsRising lists = IsStrictlySortedBy (slice_cmp nat_cmp) (names_of lists)

-- the limits on playlists and entries, names that playlists may have, and songs that have the form of URIs
pub record IsWithinLimits (lists : Stored) : Type 0 where
  pub few_lists : length lists ≤ MAX_LISTS
  pub few_entries : total lists ≤ MAX_ENTRIES
  pub good_lists : AllByRecursion (λ list. IsTrue (is_good_name list.0) × AreUris list.1) lists

-- the playlists with a count of their entries
pub record IsCounted (lists : Stored) (entries : ℕ) : Type 0 where
  pub counted : entries ≡ total lists
  pub within : IsWithinLimits lists

-- with these songs under a name: a new name takes its place by bytes
abbrev pub with_list : Stored → List ℕ → Uris → Stored
with_list lists name songs = insert_entry (slice_cmp nat_cmp) lists name songs

-- without a name
abbrev pub without_list : Stored → List ℕ → Stored
without_list lists name = remove_entry (bytes_eq name) lists

-- with other songs under a name that is there
abbrev pub with_songs : Stored → List ℕ → Uris → Stored
with_songs lists name songs = set_value (bytes_eq name) lists songs

-- the songs under a name, or none where the playlist is missing
abbrev pub songs_or_none : Stored → List ℕ → Uris
songs_or_none lists name = unwrap_or (songs_of lists name) []

-- the songs added at the end of a playlist that has some, or in a new one
abbrev pub added_to : Option Uris → Stored → List ℕ → Uris → Stored
added_to None lists name songs = with_list lists name songs
added_to (Some old) lists name songs = with_songs lists name (old ++ songs)

-- the songs added at the end of a playlist, which is made if missing
abbrev pub added : Stored → List ℕ → Uris → Stored
added lists name songs = added_to (songs_of lists name) lists name songs

-- the songs of one playlist under another name
abbrev pub renamed : Stored → List ℕ → List ℕ → Stored
renamed lists from to = with_list (without_list lists from) to (songs_or_none lists from)

-- so many more entries would pass the limit
abbrev pub is_full_for : Stored → ℕ → Bool
is_full_for lists n = nat_lt MAX_ENTRIES (total lists + n)

-- no playlist can have the name, or none has it
abbrev pub name_refusal : Stored → List ℕ → Option ListsError
name_refusal lists name =
    if not (is_good_name name) then Some BadName
    else if not (is_some (songs_of lists name)) then Some NoSuchList
    else None

-- a new playlist with so many entries would pass a limit
abbrev pub new_list_refusal : Stored → ℕ → Option ListsError
new_list_refusal lists n = if nat_le MAX_LISTS (length lists) || is_full_for lists n then Some ListsFull else None

abbrev pub save_refusal : Stored → List ℕ → ℕ → Option ListsError
save_refusal lists name n =
    if not (is_good_name name) then Some BadName
    else if is_some (songs_of lists name) then Some ListExists
    else new_list_refusal lists n

abbrev pub add_refusal : Stored → List ℕ → ℕ → Option ListsError
add_refusal lists name n =
    if not (is_good_name name) then Some BadName
    else if is_some (songs_of lists name) then (if is_full_for lists n then Some ListsFull else None)
    else new_list_refusal lists n

-- with so many entries in place of those of the playlist, all together would pass the limit
abbrev pub replace_refusal : Stored → List ℕ → ℕ → Option ListsError
replace_refusal lists name n =
    if not (is_good_name name) then Some BadName
    else if not (is_some (songs_of lists name)) then Some NoSuchList
    else if is_full_for (without_list lists name) n then Some ListsFull
    else None

-- the range ends before it begins, or past the end of the playlist
abbrev pub remove_refusal : Stored → List ℕ → ℕ → ℕ → Option ListsError
remove_refusal lists name start end =
    if not (is_good_name name) then Some BadName
    else if not (is_some (songs_of lists name)) then Some NoSuchList
    else if nat_lt end start || nat_lt (length (songs_or_none lists name)) end then Some BadIndex
    else None

-- a place is past the end of the playlist
abbrev pub move_refusal : Stored → List ℕ → ℕ → ℕ → Option ListsError
move_refusal lists name from to =
    if not (is_good_name name) then Some BadName
    else if not (is_some (songs_of lists name)) then Some NoSuchList
    else if nat_le (length (songs_or_none lists name)) from || nat_le (length (songs_or_none lists name)) to then Some BadIndex
    else None

abbrev pub rename_refusal : Stored → List ℕ → List ℕ → Option ListsError
rename_refusal lists from to =
    if not (is_good_name from) || not (is_good_name to) then Some BadName
    else if not (is_some (songs_of lists from)) then Some NoSuchList
    else if is_some (songs_of lists to) then Some ListExists
    else None
