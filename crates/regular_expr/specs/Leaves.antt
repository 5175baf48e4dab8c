-- How many leaves parts have, as they are counted along.
use Rattle.std.specs.Prelude.{◌≡◌, ℕ, ◌+◌, min, Option, Some, None}
use Rattle.regular_expr.specs.Shape.{Shape, leaves}
use Rattle.regular_expr.specs.Shape.Shape.{Nothing}

-- of parts with one more behind them, where they have so many, and it has so many
abbrev pub leaves_behind : Shape → ℕ → ℕ → ℕ
leaves_behind Nothing count own = own
leaves_behind now count own = count + own

-- of alternatives, of which there may be none
abbrev pub leaves_before : Option Shape → ℕ
leaves_before None = 0
leaves_before (Some others) = leaves others

-- it has so many, or more than are counted
abbrev pub IsCounted : ℕ → Shape → Type 0
IsCounted count shape = min count 65535 ≡ min (leaves shape) 65535
