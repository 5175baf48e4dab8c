-- How a pattern is looked for in a text, one byte after the other. Of each leaf there is a mark: whether a way into the pattern, begun at
-- some place before, has taken the last byte with it. The marks stand in the order of the leaves; one that is missing isn't set.
use Rattle.std.specs.Prelude.{ℕ, zero, suc, ◌*◌, Bool, true, false, ◌&&◌, ◌||◌, List, [], ◌∷◌, ◌++◌, drop, Option, Some, None}
use Rattle.regular_expr.specs.declared.place.Here.{Here}
use Rattle.regular_expr.specs.Places.{is_place}
use Rattle.regular_expr.specs.Sets.{Bytes, is_in}
use Rattle.regular_expr.specs.Shape.{Shape, leaves}
use Rattle.regular_expr.specs.Shape.Shape.{Nothing, One, At, Then, Either, Again, Times}

abbrev pub first_mark : List Bool → Bool
first_mark [] = false
first_mark (mark ∷ marks) = mark

-- the next byte is there, and in the set
abbrev pub takes : Bool → Bytes → Option ℕ → Bool
takes fold set None = false
takes fold set (Some byte) = is_in fold set byte

-- through so many, one behind the other, each with so many marks
abbrev pub through : (Bool → List Bool → Bool) → ℕ → ℕ → Bool → List Bool → Bool
through ends each zero reached marks = reached
through ends each (suc count) reached marks = through ends each count (ends reached marks) (drop each marks)

-- the same, where each may be the last
abbrev pub through_some : (Bool → List Bool → Bool) → ℕ → ℕ → Bool → List Bool → Bool
through_some ends each zero reached marks = reached
through_some ends each (suc count) reached marks =
    reached || through_some ends each count (ends reached marks) (drop each marks)

-- Whether the end of a pattern is reached at a place: from its beginning, where that is reached there, or from a marked leaf.
unfoldable pub ends : Here → Shape → Bool → List Bool → Bool
ends here Nothing reached marks = reached
ends here (One set) reached marks = first_mark marks
ends here (At place) reached marks = reached && is_place place here
ends here (Then p q) reached marks = ends here q (ends here p reached marks) (drop (leaves p) marks)
ends here (Either p q) reached marks = ends here p reached marks || ends here q reached (drop (leaves p) marks)
ends here (Again p) reached marks = ends here p reached marks
ends here (Times least more p) reached marks =
    through_some (ends here p) (leaves p) more (through (ends here p) (leaves p) least reached marks) (drop (least * leaves p) marks)

-- the marks of so many, one behind the other
abbrev pub all_moved :
    (Bool → List Bool → Bool) → (Bool → List Bool → List Bool) → ℕ → ℕ → Bool → List Bool → List Bool
all_moved ends moved each zero reached marks = []
all_moved ends moved each (suc count) reached marks =
    moved reached marks ++ all_moved ends moved each count (ends reached marks) (drop each marks)

-- the marks behind the next byte
unfoldable pub moved : Here → Shape → Bool → List Bool → List Bool
moved here Nothing reached marks = false ∷ []
moved here (One set) reached marks = (reached && takes here.fold set here.next) ∷ []
moved here (At place) reached marks = false ∷ []
moved here (Then p q) reached marks = moved here p reached marks ++ moved here q (ends here p reached marks) (drop (leaves p) marks)
moved here (Either p q) reached marks = moved here p reached marks ++ moved here q reached (drop (leaves p) marks)
moved here (Again p) reached marks = moved here p (reached || ends here p reached marks) marks
moved here (Times least more p) reached marks =
    all_moved (ends here p) (moved here p) (leaves p) least reached marks
    ++ all_moved (ends here p) (moved here p) (leaves p) more (through (ends here p) (leaves p) least reached marks)
    (drop (least * leaves p) marks)

abbrev pub place_at : Bool → Option ℕ → Option ℕ → Here
place_at fold before next = record { fold = fold; before = before; next = next }

-- it ends at this place or behind it, where it may begin at each
unfoldable pub is_behind : Bool → Shape → Option ℕ → List Bool → List ℕ → Bool
is_behind fold shape before marks [] = ends (place_at fold before None) shape true marks
is_behind fold shape before marks (b ∷ text) =
    ends (place_at fold before (Some b)) shape true marks
    || is_behind fold shape (Some b) (moved (place_at fold before (Some b)) shape true marks) text

-- it stands somewhere in the text
abbrev pub stands_in : Bool → Shape → List ℕ → Bool
stands_in fold shape text = is_behind fold shape None [] text
