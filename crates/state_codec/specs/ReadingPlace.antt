-- The reading of the player's place, in ops and in the fields of a snapshot.
use Rattle.std.specs.Prelude.{ℕ, zero, suc, ◌+◌, ◌-◌, ◌*◌, ◌/◌, Bool, false, not, ◌==◌, ◌&&◌, List, [], ◌∷◌, length, drop, Ok, Err}
use Rattle.std.specs.Prelude.{if◌then◌else◌}
use Rattle.std.specs.Int.{is_in_range}
use Rattle.player_core.specs.Place.{longest_round, no_place}
use Rattle.player_core.specs.declared.playing.PlayState.{PlayState}
use Rattle.player_core.specs.declared.playing.PlayState.TheVariants.{Stop, Play, Pause}
use Rattle.profile.specs.declared.profile.Profile.{Profile}
use Rattle.profile.specs.declared.profile.Profile.TheVariants.{Named, Wide}
use Rattle.state_codec.specs.Fields.{Field, made, such, both, u32_at, u64_at}
use Rattle.state_codec.specs.Items.{items_at}
use Rattle.state_codec.specs.OpsPlace.{stays_by}
use Rattle.state_codec.specs.Steps.{◌>>=◌}
use Rattle.state_codec.specs.declared.op.place_op.PlaceOp.{PlaceOp}
use Rattle.state_codec.specs.declared.op.place_op.PlaceOp.TheVariants.{Put, Played, Begins, Leaves}

-- stop, pause or play
unfoldable pub state_at : List ℕ → Field PlayState
state_at (zero ∷ rest) = Ok (Stop, rest)
state_at (suc zero ∷ rest) = Ok (Pause, rest)
state_at (suc (suc zero) ∷ rest) = Ok (Play, rest)
state_at bytes = Err (length bytes)

-- where the player was: state, song and frame position
abbrev pub Spot : Type 0
Spot = PlayState × (ℕ × ℕ)

abbrev pub spot_at : List ℕ → Field Spot
spot_at bytes = both state_at (both u32_at u64_at) bytes

-- the numbers of ops on the place, which the wide profile alone has
abbrev pub is_place_kind : Profile → ℕ → Bool
is_place_kind Named kind = false
is_place_kind Wide kind = is_in_range 22 25 kind

-- the fields of an op on the place, whose number was read, from 22 to 25
unfoldable pub place_op_at : ℕ → List ℕ → Field PlaceOp
place_op_at kind bytes =
    if kind == 22 then made (λ x. Put x.0 x.1.0 x.1.1) (spot_at bytes)
    else if kind == 23 then made Played (u32_at bytes)
    else if kind == 24 then Ok (Begins, bytes)
    else made Leaves (u32_at bytes)

abbrev pub begins_with : ℕ → List ℕ → Bool
begins_with number [] = false
begins_with number (b ∷ rest) = b == number

-- of so many fields that are left, the next one has this number
abbrev pub is_next : ℕ → ℕ → List ℕ → Bool
is_next number left bytes = not (left == 0) && begins_with number bytes

-- a length in 32 bits, and a value that has just so many bytes
unfoldable pub measured : {A : Type 0} → (ℕ → Bool) → (ℕ → List ℕ → Field A) → List ℕ → Field A
measured fits value bytes = do
  len ← such fits u32_at bytes
  x ← value len.0 len.1
  if length len.1 == len.0 + length x.1 then Ok x else Err (length bytes)

-- the value of the field of a number, if that is the next one, or else this value; and how many fields are then left
unfoldable pub field_at : {A : Type 0} → ℕ → (ℕ → Bool) → (ℕ → List ℕ → Field A) → A → ℕ → List ℕ → Field (A × ℕ)
field_at number fits value other left bytes =
    if is_next number left bytes then made (λ x. (x, left - 1)) (measured fits value (drop 1 bytes)) else Ok ((other, left), bytes)

abbrev pub no_spot : Spot
no_spot = (Stop, (0, 0))

-- a spot other than that one
abbrev pub is_spot : Spot → Bool
is_spot spot = not (stays_by (Put spot.0 spot.1.0 spot.1.1) no_place)

-- field 2
abbrev pub spot_field_at : ℕ → List ℕ → Field (Spot × ℕ)
spot_field_at left bytes = field_at 2 (is_in_range 13 13) (λ len. such is_spot spot_at) no_spot left bytes

-- field 3: the ids of a round, one at least
abbrev pub round_field_at : ℕ → List ℕ → Field (List ℕ × ℕ)
round_field_at left bytes =
    field_at 3 (is_in_range 4 (4 * longest_round)) (λ len. items_at (λ known. u32_at) (len / 4) []) [] left bytes
