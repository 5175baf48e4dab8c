-- What a call of the playlists that isn't refused can rely on.
use Rattle.std.specs.Prelude.{◌≡◌, ℕ, ◌+◌, ◌<◌, ◌≤◌, List, length, Some, None, is_some, true, IsTrue}
use Rattle.stored_lists.specs.Limits.{MAX_LISTS, MAX_ENTRIES}
use Rattle.stored_lists.specs.Name.{is_good_name}
use Rattle.stored_lists.specs.Lists.{Stored, songs_of, songs_or_none, total, without_list}

-- a name that a playlist can have, room for so many entries more, and for the playlist where it is missing
pub record HasRoom (lists : Stored) (name : List ℕ) (count : ℕ) : Type 0 where
  pub good : IsTrue (is_good_name name)
  pub few_entries : total lists + count ≤ MAX_ENTRIES
  pub few_lists : songs_of lists name ≡ None → length lists < MAX_LISTS

-- a playlist that is there, and room for so many entries in place of its own
pub record CanReplace (lists : Stored) (name : List ℕ) (count : ℕ) : Type 0 where
  pub found : songs_of lists name ≡ Some (songs_or_none lists name)
  pub few_entries : total (without_list lists name) + count ≤ MAX_ENTRIES

-- a range of a playlist that is there
pub record IsRangeOf (lists : Stored) (name : List ℕ) (start end : ℕ) : Type 0 where
  pub found : songs_of lists name ≡ Some (songs_or_none lists name)
  pub forward : start ≤ end
  pub within : end ≤ length (songs_or_none lists name)

-- two places of a playlist that is there
pub record ArePlacesOf (lists : Stored) (name : List ℕ) (from to : ℕ) : Type 0 where
  pub found : songs_of lists name ≡ Some (songs_or_none lists name)
  pub from_within : from < length (songs_or_none lists name)
  pub to_within : to < length (songs_or_none lists name)

-- a playlist that is there, and a name that is free
pub record CanRename (lists : Stored) (from to : List ℕ) : Type 0 where
  pub found : is_some (songs_of lists from) ≡ true
  pub free : songs_of lists to ≡ None
  pub good : IsTrue (is_good_name to)
