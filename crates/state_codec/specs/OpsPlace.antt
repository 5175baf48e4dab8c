-- What the ops of the player's place do.
use Rattle.std.specs.Prelude.{ℕ, Bool, true, false, not, ◌==◌, ◌&&◌, ◌||◌, nat_le, List, [], ◌∷◌, length, Option, Some, None, option_map}
use Rattle.std.specs.List.{list_any}
use Rattle.player_core.specs.Place.{PlaceState, longest_round, with_id, without_id}
use Rattle.player_core.specs.declared.playing.PlayState.{PlayState}
use Rattle.player_core.specs.declared.playing.PlayState.TheVariants.{Stop, Play, Pause}
use Rattle.profile.specs.declared.profile.Profile.{Profile}
use Rattle.profile.specs.declared.profile.Profile.TheVariants.{Named, Wide}
use Rattle.song_db.specs.declared.refusal.SongDbError.TheVariants.{DbFull}
use Rattle.state_codec.specs.SavedState.{SavedState}
use Rattle.state_codec.specs.declared.op.place_op.PlaceOp.{PlaceOp}
use Rattle.state_codec.specs.declared.op.place_op.PlaceOp.TheVariants.{Put, Played, Begins, Leaves}
use Rattle.state_codec.specs.declared.refusal.OpRefusal.{OpRefusal}
use Rattle.state_codec.specs.declared.refusal.OpRefusal.TheVariants.{Songs}

-- what refuses it: under the named profile no place is kept, as no row that has no place there
abbrev pub place_refusal : Profile → Option OpRefusal
place_refusal Named = Some (Songs DbFull)
place_refusal Wide = None

abbrev pub place_after : PlaceOp → PlaceState → PlaceState
place_after (Put state song frame) place = record place { state = state; song = song; frame = frame }
place_after (Played id) place = record place { played = with_id id place.played }
place_after Begins place = record place { played = [] }
place_after (Leaves id) place = record place { played = without_id id place.played }

-- the state after it
abbrev pub after_place : PlaceOp → SavedState → SavedState
after_place op s = record s { place = option_map (place_after op) s.place }

abbrev pub same_state : PlayState → PlayState → Bool
same_state Stop Stop = true
same_state Stop Play = false
same_state Stop Pause = false
same_state Play Stop = false
same_state Play Play = true
same_state Play Pause = false
same_state Pause Stop = false
same_state Pause Play = false
same_state Pause Pause = true

abbrev pub stands_in : ℕ → List ℕ → Bool
stands_in id ids = list_any (λ other. id == other) ids

-- the id is the last one, and stands nowhere else
abbrev pub ends_in : ℕ → List ℕ → Bool
ends_in id [] = false
ends_in id (other ∷ []) = id == other
ends_in id (other ∷ next ∷ ids) = not (id == other) && ends_in id (next ∷ ids)

abbrev pub is_full : List ℕ → Bool
is_full ids = nat_le longest_round (length ids)

abbrev pub is_empty : List ℕ → Bool
is_empty [] = true
is_empty (id ∷ ids) = false

abbrev pub stays_by : PlaceOp → PlaceState → Bool
stays_by (Put state song frame) place = same_state state place.state && (song == place.song && frame == place.frame)
stays_by (Played id) place = ends_in id place.played || is_full place.played && not (stands_in id place.played)
stays_by Begins place = is_empty place.played
stays_by (Leaves id) place = not (stands_in id place.played)

-- whether it changes nothing
abbrev pub leaves_place : PlaceOp → Option PlaceState → Bool
leaves_place op None = true
leaves_place op (Some place) = stays_by op place
