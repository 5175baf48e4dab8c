-- What an op does to the saved state.
use Rattle.std.specs.Prelude.{ℕ, suc, Bool, ◌==◌, List, [], ◌∷◌, Option, Some, None, Result, Ok}
use Rattle.std.specs.Option.{ok_or}
use Rattle.std.specs.Result.{result_ok}
use Rattle.state_codec.specs.declared.op.Op.{Op}
use Rattle.state_codec.specs.declared.op.Op.TheVariants.{SetOption, SetVolume, SetOrder, Queue, List as Lists, Sticker, Batch, Place, Timed}
use Rattle.state_codec.specs.OpsLists.{list_refusal, after_list, leaves_lists}
use Rattle.state_codec.specs.OpsPlace.{place_refusal, after_place, leaves_place}
use Rattle.state_codec.specs.OpsQueue.{queue_refusal, after_queue, leaves_queue}
use Rattle.state_codec.specs.OpsRows.{rows_refusal, after_rows, leaves_rows}
use Rattle.state_codec.specs.OpsSettings.{with_setting, is_set}
use Rattle.state_codec.specs.OpsStickers.{sticker_refusal, after_sticker, leaves_stickers}
use Rattle.state_codec.specs.OpsTimes.{after_timed, leaves_times}
use Rattle.state_codec.specs.SavedState.{SavedState}
use Rattle.state_codec.specs.Steps.{◌>>=◌}
use Rattle.state_codec.specs.declared.refusal.OpRefusal.{OpRefusal}

-- what refuses the op
abbrev pub refusal_of : Op → SavedState → Option OpRefusal
refusal_of (SetOption setting) s = None
refusal_of (SetVolume volume) s = None
refusal_of (SetOrder order) s = None
refusal_of (Queue op) s = queue_refusal op s
refusal_of (Lists op) s = list_refusal op s
refusal_of (Sticker op) s = sticker_refusal op s
refusal_of (Batch changes) s = rows_refusal changes s
refusal_of (Place op) s = place_refusal s.profile
refusal_of (Timed seconds) s = place_refusal s.profile

-- the state after it, where nothing refuses it
abbrev pub after : Op → SavedState → SavedState
after (SetOption setting) s = record s { options = with_setting setting s.options }
after (SetVolume volume) s = record s { volume = volume }
after (SetOrder order) s = record s { order = order }
after (Queue op) s = after_queue op s
after (Lists op) s = after_list op s
after (Sticker op) s = after_sticker op s
after (Batch changes) s = after_rows changes s
after (Place op) s = after_place op s
after (Timed seconds) s = after_timed seconds s

-- whether it changes nothing; of a batch, whether no change of it does at its turn
abbrev pub changes_nothing : Op → SavedState → Bool
changes_nothing (SetOption setting) s = is_set setting s.options
changes_nothing (SetVolume volume) s = volume == s.volume
changes_nothing (SetOrder order) s = order == s.order
changes_nothing (Queue op) s = leaves_queue op s
changes_nothing (Lists op) s = leaves_lists op s
changes_nothing (Sticker op) s = leaves_stickers op s
changes_nothing (Batch changes) s = leaves_rows changes s
changes_nothing (Place op) s = leaves_place op s.place
changes_nothing (Timed seconds) s = leaves_times seconds s.changed

-- a state, unless it is refused
abbrev pub unless_refused : Option OpRefusal → SavedState → Option SavedState
unless_refused None s = Some s
unless_refused (Some refusal) s = None

-- the state after the op, where the op applies
abbrev pub applied : Op → SavedState → Option SavedState
applied op s = unless_refused (refusal_of op s) (after op s)

-- The state after the ops one after the other, or the place of the first that does not apply, where the first op has the place i.
abbrev pub applied_from : ℕ → List Op → SavedState → Result SavedState ℕ
applied_from i [] s = Ok s
applied_from i (op ∷ ops) s = do
  next ← ok_or (applied op s) i
  applied_from (suc i) ops next

abbrev pub all_applied : List Op → SavedState → Option SavedState
all_applied ops s = result_ok (applied_from 0 ops s)

-- the state after ops of which none is refused
abbrev pub after_all : List Op → SavedState → SavedState
after_all [] s = s
after_all (op ∷ ops) s = after_all ops (after op s)
