use Rattle.std.proofs.Common.{◌≡◌, ◌+◌, ◌-◌, ◌*◌, ◌||◌, drop}
use Rattle.regular_expr.specs.declared.part.Part.{size-Part}
use Rattle.regular_expr.specs.Marks.{ends, through, through_some}
use Rattle.regular_expr.specs.Shape.{shape_of, leaves}
use Rattle.regular_expr.proofs.part.Part.+looking.Given as goal

abbrev pub decreases-ends : goal.decreases-ends
decreases-ends l = 2 * size-Part l.self.now

abbrev pub decreases-ends_all : goal.decreases-ends_all
decreases-ends_all l = 2 * size-Part l.self.now + 1

abbrev pub decreases-ends_some : goal.decreases-ends_some
decreases-ends_some l = 2 * size-Part l.self.now + 1

-- what is left leads to the same end, and to the same marks behind it
abbrev pub invariant-ends_all-loop-at : goal.invariant-ends_all-loop-at
invariant-ends_all-loop-at l =
    (through (ends l.here (shape_of l.self)) (leaves (shape_of l.self)) (l.count - l.at) l.reached l.rest
    ≡ through (ends l.here (shape_of l.self)) (leaves (shape_of l.self)) l.count l.start l.marks)
    × (drop ((l.count - l.at) * leaves (shape_of l.self)) l.rest ≡ drop (l.count * leaves (shape_of l.self)) l.marks)

abbrev pub invariant-ends_some-loop-at : goal.invariant-ends_some-loop-at
invariant-ends_some-loop-at l =
    ((l.found || through_some (ends l.here (shape_of l.self)) (leaves (shape_of l.self)) (l.count - l.at) l.reached l.rest)
    ≡ through_some (ends l.here (shape_of l.self)) (leaves (shape_of l.self)) l.count l.start l.marks)
    × (drop ((l.count - l.at) * leaves (shape_of l.self)) l.rest ≡ drop (l.count * leaves (shape_of l.self)) l.marks)
