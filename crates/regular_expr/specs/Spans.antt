-- What a pattern means: the parts of texts that it spans.
use Rattle.std.specs.Prelude.{◌≡◌, ◌⊎◌, ◌↔◌, ℕ, zero, suc, ◌+◌, ◌≤◌, Bool, true, List, length, Option, Some, None, slice_get}
use Rattle.regular_expr.specs.declared.place.Here.{Here}
use Rattle.regular_expr.specs.Marks.{place_at, stands_in}
use Rattle.regular_expr.specs.Places.{is_place}
use Rattle.regular_expr.specs.Sets.{is_in}
use Rattle.regular_expr.specs.Shape.{Shape}
use Rattle.regular_expr.specs.Shape.Shape.{Nothing, One, At, Then, Either, Again, Times}

abbrev pub before : List ℕ → ℕ → Option ℕ
before text zero = None
before text (suc place) = slice_get text place

-- the place of this number, from 0 on
abbrev pub here_in : Bool → List ℕ → ℕ → Here
here_in fold text place = place_at fold (before text place) (slice_get text place)

-- so many, one behind the other
abbrev pub SpansAll : (ℕ → ℕ → Type 0) → ℕ → ℕ → ℕ → Type 0
SpansAll spans zero start end = start ≡ end
SpansAll spans (suc count) start end = (middle : ℕ) × spans start middle × SpansAll spans count middle end

-- the text from one place to another is as the pattern says
unfoldable pub Spans : Bool → List ℕ → Shape → ℕ → ℕ → Type 0
Spans fold text Nothing start end = start ≡ end
Spans fold text (One set) start end =
    (byte : ℕ) × (slice_get text start ≡ Some byte) × (is_in fold set byte ≡ true) × (end ≡ suc start)
Spans fold text (At place) start end = (start ≡ end) × (is_place place (here_in fold text start) ≡ true)
Spans fold text (Then p q) start end = (middle : ℕ) × Spans fold text p start middle × Spans fold text q middle end
Spans fold text (Either p q) start end = Spans fold text p start end ⊎ Spans fold text q start end
Spans fold text (Again p) start end = (more : ℕ) × SpansAll (Spans fold text p) (suc more) start end
Spans fold text (Times least more p) start end =
    (count : ℕ) × (count ≤ more) × SpansAll (Spans fold text p) (least + count) start end

-- a pattern stands in a text just where it spans a part of it
abbrev pub IsFoundWhereItSpans : Type 0
IsFoundWhereItSpans =
    (fold : Bool) (text : List ℕ) (shape : Shape)
    → (stands_in fold shape text ≡ true) ↔ ((start end : ℕ) × (end ≤ length text) × Spans fold text shape start end)
