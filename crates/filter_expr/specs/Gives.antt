-- What a call answered is what reading gives, unless it found no memory.
use Rattle.std.specs.Prelude.{◌≡◌, Result, Ok, Err}
use Rattle.filter_expr.specs.declared.parts.Stop.{Stop}
use Rattle.filter_expr.specs.declared.parts.Stop.TheVariants as stops
use Rattle.filter_expr.specs.Parts.{Fault}
use Rattle.filter_expr.specs.Parts.Fault.{Bad, Unknown, Deep}

abbrev pub Stops : {Y : Type 0} → Stop → Result Y Fault → Type 0
Stops (stops.Bad left) read = read ≡ Err (Bad left)
Stops (stops.Unknown name) read = read ≡ Err (Unknown name.now)
Stops (stops.Deep left) read = read ≡ Err (Deep left)
Stops stops.NoMemory read = Unit {0}

abbrev pub Gives : {X Y : Type 0} → (X → Y) → Result X Stop → Result Y Fault → Type 0
Gives view (Ok x) read = read ≡ Ok (view x)
Gives view (Err stop) read = Stops stop read
