-- The room for one record.
use Rattle.std.specs.Prelude.{ℕ}

-- its length field, its body, and the gate behind it
abbrev pub room : ℕ
room = 2097157
