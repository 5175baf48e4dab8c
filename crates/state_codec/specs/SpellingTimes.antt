-- The spelling of the times of the playlists' last change in the fields behind the parts of a snapshot, and of all fields.
use Rattle.std.specs.Prelude.{ℕ, ◌+◌, Bool, true, false, List, [], ◌∷◌, ◌++◌, length, if◌then◌else◌}
use Rattle.std.specs.List.{flat_map}
use Rattle.player_core.specs.Place.{PlaceState}
use Rattle.stored_lists.specs.Times.{Times}
use Rattle.stored_lists.specs.declared.times.ListTime.{ListTime}
use Rattle.state_codec.specs.SpellingFields.{byte_bytes, u32_bytes, u64_bytes, text_bytes, list_bytes}
use Rattle.state_codec.specs.SpellingPlace.{field_count, place_bytes}

-- a playlist's name, and the seconds
abbrev pub time_bytes : ListTime → List ℕ
time_bytes time = text_bytes time.name ++ u64_bytes time.seconds

abbrev pub has_none : Times → Bool
has_none [] = true
has_none (time ∷ times) = false

-- what stands in front of the times of field 1, which is left out where there are none: the field's number and length, and their number
abbrev pub times_front : Times → List ℕ
times_front times = if has_none times then [] else 1 ∷ (u32_bytes (length (list_bytes time_bytes times)) ++ u32_bytes (length times))

-- how many fields there are
abbrev pub count_of_fields : Times → PlaceState → ℕ
count_of_fields times place = (if has_none times then 0 else 1) + field_count place

-- the number of fields, and the front of field 1
abbrev pub times_head : Times → PlaceState → List ℕ
times_head times place = byte_bytes (count_of_fields times place) ++ times_front times

-- all fields, behind their number in one byte
abbrev pub fields_bytes : Times → PlaceState → List ℕ
fields_bytes times place = times_head times place ++ (flat_map time_bytes times ++ place_bytes place)
