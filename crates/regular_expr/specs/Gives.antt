-- What a call answered is what reading gives, unless it found no memory.
use Rattle.std.specs.Prelude.{◌≡◌, List, [], ◌∷◌, Option, Some, None, Result, Ok, Err}
use Rattle.regular_expr.specs.declared.byte_set.ByteRange.{ByteRange}
use Rattle.regular_expr.specs.declared.classes.Item as kept
use Rattle.regular_expr.specs.declared.classes.Item.TheVariants as items
use Rattle.regular_expr.specs.declared.classes.Ranges.{Ranges}
use Rattle.regular_expr.specs.declared.classes.Ranges.TheVariants as ranges
use Rattle.regular_expr.specs.declared.fault.Fault.{Fault}
use Rattle.regular_expr.specs.declared.fault.Fault.TheVariants as faults
use Rattle.regular_expr.specs.Classes.{Item}
use Rattle.regular_expr.specs.Classes.Item.{Byte, Class}

abbrev pub Stops : {Y : Type 0} → Fault → Option Y → Type 0
Stops faults.NoPattern read = read ≡ None
Stops faults.NoMemory read = Unit {0}

abbrev pub Gives : {X Y : Type 0} → (X → Y) → Result X Fault → Option Y → Type 0
Gives view (Ok x) read = read ≡ Some (view x)
Gives view (Err fault) read = Stops fault read

-- what stands within brackets, wherever its ranges lie
abbrev pub item_in : kept.Item → Item
item_in (items.Byte byte) = Byte byte
item_in (items.Class ranges) = Class ranges.now

abbrev pub ranges_in : Ranges → List ByteRange
ranges_in (ranges.One range) = range ∷ []
ranges_in (ranges.Class listed) = listed.now
