-- The spelling of the player's place in the fields behind the parts of a snapshot: a field's number, its length in 32 bits, and its value.
-- One that has nothing to say is left out.
use Rattle.std.specs.Prelude.{ℕ, ◌+◌, ◌*◌, List, [], ◌∷◌, ◌++◌, length, if◌then◌else◌}
use Rattle.std.specs.List.{flat_map}
use Rattle.player_core.specs.Place.{PlaceState, no_place}
use Rattle.state_codec.specs.OpsPlace.{is_empty, stays_by}
use Rattle.state_codec.specs.SpellingFields.{u32_bytes, u64_bytes, state_bytes}
use Rattle.state_codec.specs.declared.op.place_op.PlaceOp.TheVariants.{Put}

-- where the player was: state, song and frame position
abbrev pub spot_bytes : PlaceState → List ℕ
spot_bytes place = state_bytes place.state ++ (u32_bytes place.song ++ u64_bytes place.frame)

-- field 2
abbrev pub told_spot : PlaceState → List ℕ
told_spot place = 2 ∷ (u32_bytes 13 ++ spot_bytes place)

-- which is left out of a place that is stopped without a song
abbrev pub spot_field : PlaceState → List ℕ
spot_field place = if stays_by (Put place.state place.song place.frame) no_place then [] else told_spot place

-- what stands in front of the ids of field 3
abbrev pub round_head : List ℕ → List ℕ
round_head ids = if is_empty ids then [] else 3 ∷ u32_bytes (4 * length ids)

-- how many of the two there are
abbrev pub field_count : PlaceState → ℕ
field_count place = (if stays_by (Put place.state place.song place.frame) no_place then 0 else 1) + (if is_empty place.played then 0 else 1)

-- field 2 and the front of field 3
abbrev pub place_head : PlaceState → List ℕ
place_head place = spot_field place ++ round_head place.played

-- both fields
abbrev pub place_bytes : PlaceState → List ℕ
place_bytes place = place_head place ++ flat_map u32_bytes place.played
