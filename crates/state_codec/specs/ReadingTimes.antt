-- The reading of the times of the playlists' last change, and of all fields behind the parts of a snapshot.
use Rattle.std.specs.Prelude.{ℕ, Bool, false, ◌==◌, List, [], length, Ok, Err, if◌then◌else◌}
use Rattle.std.specs.Int.{is_in_range}
use Rattle.player_core.specs.Place.{PlaceState}
use Rattle.profile.specs.declared.profile.Profile.{Profile}
use Rattle.profile.specs.declared.profile.Profile.TheVariants.{Named, Wide}
use Rattle.stored_lists.specs.Limits.{MAX_LISTS}
use Rattle.stored_lists.specs.Name.{is_good_name}
use Rattle.stored_lists.specs.Times.{Times}
use Rattle.stored_lists.specs.declared.times.ListTime.{ListTime}
use Rattle.state_codec.specs.Fields.{Field, such, byte_at, u64_at, number_within, text_at}
use Rattle.state_codec.specs.Items.{counted_at}
use Rattle.state_codec.specs.Longest.{longest_times}
use Rattle.state_codec.specs.ReadingPlace.{field_at, spot_field_at, round_field_at}
use Rattle.state_codec.specs.Steps.{◌>>=◌}

-- the number of the op that tells a time, which the wide profile alone has
abbrev pub is_time_kind : Profile → ℕ → Bool
is_time_kind Named kind = false
is_time_kind Wide kind = kind == 21

-- a name that a playlist may have, and the seconds
unfoldable pub time_at : List ℕ → Field ListTime
time_at bytes = do
  name ← such is_good_name text_at bytes
  seconds ← u64_at name.1
  Ok (record { name = name.0; seconds = seconds.0 }, seconds.1)

-- the times, one at least
abbrev pub times_at : List ℕ → Field Times
times_at bytes = counted_at (number_within 1 MAX_LISTS) (λ known. time_at) bytes

-- field 1
abbrev pub times_field_at : ℕ → List ℕ → Field (Times × ℕ)
times_field_at left bytes = field_at 1 (is_in_range 4 longest_times) (λ len. times_at) [] left bytes

-- the fields, behind their number in one byte; one that isn't known, or doesn't rise, is at fault
unfoldable pub fields_at : List ℕ → Field (Times × PlaceState)
fields_at bytes = do
  count ← byte_at bytes
  times ← times_field_at count.0 count.1
  spot ← spot_field_at times.0.1 times.1
  round ← round_field_at spot.0.1 spot.1
  if round.0.1 == 0 then
      Ok ((times.0.0, record { state = spot.0.0.0; song = spot.0.0.1.0; frame = spot.0.0.1.1; played = round.0.0 }), round.1)
      else Err (length round.1)
