-- The positions that a RANGE names among so many.
use Rattle.std.specs.Prelude.{◌≡◌, ℕ, suc, ◌-◌, Bool, ◌&&◌, min, nat_le, nat_lt, List, [], ◌∷◌, Option, Some, None}
use Rattle.std.specs.Prelude.{Result, Ok, Err, if◌then◌else◌}
use Rattle.std.specs.List.{range_with_len}
use Rattle.command_text.specs.declared.range.PositionRange.{PositionRange}
use Rattle.command_text.specs.declared.range.PositionRange.TheVariants.{One, From, Between}
use Rattle.command_text.specs.declared.refusal.CommandRefusal.{CommandRefusal}
use Rattle.command_text.specs.declared.refusal.CommandRefusal.TheVariants.{BadIndex}
use Rattle.std.specs.Global.{Vec}
use Rattle.state_codec.specs.Steps.{◌>>=◌}
use Rattle.machine_core.specs.Named.{IsNotFound}
use Rattle.machine_core.specs.declared.work.Failure.{Failure}
use Rattle.machine_core.specs.declared.span.Span.{Span}

abbrev pub unless_past : ℕ → ℕ → ℕ → Result Span CommandRefusal
unless_past start end length = if nat_le start length then Ok (record { start = start; end = min end length }) else Err BadIndex

-- its end is cut to the length; a start past the length is refused, and a single position at it
unfoldable pub span_in : PositionRange → ℕ → Result Span CommandRefusal
span_in (One position) length = if nat_lt position length then Ok (record { start = position; end = suc position }) else Err BadIndex
span_in (From start) length = unless_past start length length
span_in (Between start end) length = unless_past start end length

abbrev pub whole : ℕ → Span
whole length = record { start = 0; end = length }

-- all positions, where no RANGE is given
abbrev pub span_or_all : Option PositionRange → ℕ → Result Span CommandRefusal
span_or_all None length = Ok (whole length)
span_or_all (Some range) length = span_in range length

-- how many positions they are
abbrev pub count_of : Span → ℕ
count_of span = span.end - span.start

abbrev pub positions_in : Span → List ℕ
positions_in span = range_with_len span.start (count_of span)

-- a position is one of them
abbrev pub holds : Span → ℕ → Bool
holds span position = nat_le span.start position && nat_lt position span.end

-- the positions of several RANGEs, each as its start and its end, or the first refusal
abbrev pub spans_in : List PositionRange → ℕ → Result (List (ℕ × ℕ)) CommandRefusal
spans_in [] length = Ok []
spans_in (range ∷ ranges) length = do
  span ← span_in range length
  spans ← spans_in ranges length
  Ok ((span.start, span.end) ∷ spans)

-- a look-up gives a vector of what is there, or its refusal, or it finds no memory
abbrev pub FindsItems : {A : Type 0} → Result (List A) CommandRefusal → Result (Vec A) Failure → Type 0
FindsItems looked (Ok found) = looked ≡ Ok found.items
FindsItems looked (Err failure) = IsNotFound looked failure
