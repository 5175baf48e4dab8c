use Rattle.std.proofs.Common.{◌≡◌, ◌+◌, ◌-◌, ◌*◌, ◌≤◌, ℕ, length, option_map}
use Rattle.regular_expr.specs.Reading.{body_at, body_from}
use Rattle.regular_expr.specs.Leaves.{leaves_before}
use Rattle.regular_expr.specs.Shape.{shape_of, leaves}
use Rattle.regular_expr.proofs.reading.+body.Given as goal

-- of the parentheses that may be open, then from the body down to a part of it
abbrev pub decreases-body_at : goal.decreases-body_at
decreases-body_at l = 5 * l.room

abbrev pub decreases-part_behind : goal.decreases-part_behind
decreases-part_behind l = 5 * l.room + 4

abbrev pub decreases-piece_at : goal.decreases-piece_at
decreases-piece_at l = 5 * l.room + 3

abbrev pub decreases-atom_at : goal.decreases-atom_at
decreases-atom_at l = 5 * l.room + 2

abbrev pub decreases-group_at : goal.decreases-group_at
decreases-group_at l = 5 * l.room + 1

-- with as many more steps as bytes are left, what is left leads to the same body; and the leaves are counted
abbrev pub invariant-body_at-parts : goal.invariant-body_at-parts
invariant-body_at-parts l =
    (length l.rest ≤ length l.text)
    × ((most : ℕ) × (length l.rest ≤ most)
    × (body_from (body_at (l.room - 1)) most (option_map shape_of l.others) (shape_of l.now) l.rest ≡ body_at l.room l.text))
    × (((l.before ≡ leaves_before (option_map shape_of l.others)) × (l.before ≤ 512))
    × ((l.count ≡ leaves (shape_of l.now)) × (l.count ≤ 512)))

abbrev pub decreases-body_at-parts : goal.decreases-body_at-parts
decreases-body_at-parts l = length l.rest
