-- When stored playlists were last changed.
use Rattle.std.specs.Prelude.{ℕ, ◌<◌, ◌≤◌, ◌^◌, Bool, not, ◌==◌, nat_lt, List, [], ◌∷◌, ◌++◌, length, filter, map}
use Rattle.std.specs.Prelude.{if◌then◌else◌}
use Rattle.std.specs.List.{All, list_all, list_any}
use Rattle.std.specs.Str.{bytes_eq}
use Rattle.stored_lists.specs.Limits.{MAX_LISTS}
use Rattle.stored_lists.specs.Name.{IsListName}
use Rattle.stored_lists.specs.declared.times.ListTime.{ListTime}

-- playlists that were changed, by their last change; the seconds since the beginning of 1970, or 0 where no clock has told them yet
abbrev pub Times : Type 0
Times = List ListTime

-- a name that a playlist may have, and seconds in 64 bits
pub record IsListTime (time : ListTime) : Type 0 where
  pub name : IsListName time.name
  pub seconds : time.seconds < 2 ^ 64

-- no more of them than there may be playlists
pub record AreTimes (times : Times) : Type 0 where
  pub few : length times ≤ MAX_LISTS
  pub each : All IsListTime times

-- the seconds under a name, 0 where it isn't known
abbrev pub time_of : List ℕ → Times → ℕ
time_of name [] = 0
time_of name (time ∷ times) = if bytes_eq time.name name then time.seconds else time_of name times

-- without a name
abbrev pub without_time : List ℕ → Times → Times
without_time name times = filter (λ time. not (bytes_eq time.name name)) times

-- one more behind the others, where there may be more
abbrev pub with_last_time : ListTime → Times → Times
with_last_time time others = if nat_lt (length others) MAX_LISTS then others ++ time ∷ [] else others

-- a name goes to the end, with these seconds
abbrev pub with_time : List ℕ → ℕ → Times → Times
with_time name seconds times = with_last_time (record { name = name; seconds = seconds }) (without_time name times)

-- whether a playlist's last change is among them
abbrev pub has_time : List ℕ → Times → Bool
has_time name times = list_any (λ time. bytes_eq time.name name) times

-- a playlist goes on under another name, and keeps its time; of one whose last change isn't known nothing is known then either
abbrev pub renamed_time : List ℕ → List ℕ → Times → Times
renamed_time from to times =
    if has_time from times then with_time to (time_of from times) (without_time from times) else without_time to times

-- a change that no clock has timed was made at this time
abbrev pub timed_one : ℕ → ListTime → ListTime
timed_one seconds time = record { name = time.name; seconds = if time.seconds == 0 then seconds else time.seconds }

abbrev pub timed : ℕ → Times → Times
timed seconds times = map (timed_one seconds) times

-- a clock has told the time of each
abbrev pub are_timed : Times → Bool
are_timed times = list_all (λ time. not (time.seconds == 0)) times
