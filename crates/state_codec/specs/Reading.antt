-- What the body of a record and a snapshot spell, or the offset of the first field at fault.
use Rattle.std.specs.Prelude.{ℕ, ◌-◌, List, length, Result, Ok, Err, ◌==◌, if◌then◌else◌}
use Rattle.state_codec.specs.declared.layout.Layout.{Layout}
use Rattle.state_codec.specs.declared.op.Op.{Op}
use Rattle.state_codec.specs.Layout.{layout_of}
use Rattle.state_codec.specs.Fields.{Field}
use Rattle.state_codec.specs.ReadingOps.{ops_at}
use Rattle.state_codec.specs.ReadingSaved.{saved_at}
use Rattle.state_codec.specs.SavedState.{SavedState}
use Rattle.state_codec.specs.Sealed.{unsealed}
use Rattle.state_codec.specs.Steps.{◌>>=◌}

-- nothing may stand after the value
abbrev pub alone : {A : Type 0} → Field A → Result A ℕ
alone field = do
  x ← field
  if length x.1 == 0 then Ok x.0 else Err (length x.1)

-- the fault's offset from the front of these bytes
abbrev pub in_bytes : {A : Type 0} → List ℕ → Result A ℕ → Result A ℕ
in_bytes bytes (Ok x) = Ok x
in_bytes bytes (Err left) = Err (length bytes - left)

-- the ops that bytes without their checksum spell in a layout
abbrev pub front_ops : Layout → List ℕ → Result (List Op) ℕ
front_ops layout bytes = if length bytes == 0 then Err 0 else in_bytes bytes (ops_at layout (length bytes) bytes)

-- the state that bytes without their checksum spell in a layout
abbrev pub front_state : Layout → List ℕ → Result SavedState ℕ
front_state layout bytes = in_bytes bytes (alone (saved_at layout bytes))

-- the ops that the body of a record spells in a layout
abbrev pub ops_reading_in : Layout → List ℕ → Result (List Op) ℕ
ops_reading_in layout bytes = unsealed layout.profile bytes >>= front_ops layout

-- the state that a snapshot spells in a layout
abbrev pub saved_reading_in : Layout → List ℕ → Result SavedState ℕ
saved_reading_in layout bytes = unsealed layout.profile bytes >>= front_state layout

-- the same in the layout of a number
abbrev pub ops_reading : ℕ → List ℕ → Result (List Op) ℕ
ops_reading number bytes = ops_reading_in (layout_of number) bytes

abbrev pub saved_reading : ℕ → List ℕ → Result SavedState ℕ
saved_reading number bytes = saved_reading_in (layout_of number) bytes
