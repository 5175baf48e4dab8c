use Rattle.std.proofs.Common.{◌≡◌, ◌+◌, ◌-◌, ◌*◌, ◌≤◌, ◌||◌, ◌++◌, drop, length}
use Rattle.regular_expr.specs.declared.part.Part.{size-Part}
use Rattle.regular_expr.specs.Marks.{ends, moved, through, through_some, all_moved}
use Rattle.regular_expr.specs.Shape.{shape_of, leaves}
use Rattle.regular_expr.proofs.part.Part.+stepping.Given as goal

abbrev pub decreases-step : goal.decreases-step
decreases-step l = 2 * size-Part l.self.now

abbrev pub decreases-step_all : goal.decreases-step_all
decreases-step_all l = 2 * size-Part l.self.now + 1

abbrev pub decreases-step_some : goal.decreases-step_some
decreases-step_some l = 2 * size-Part l.self.now + 1

-- what is left leads to the same end, to the same marks behind it, and to the same marks behind the next byte, for which there is room
abbrev pub invariant-step_all-loop-at : goal.invariant-step_all-loop-at
invariant-step_all-loop-at l =
    (through (ends l.here (shape_of l.self)) (leaves (shape_of l.self)) (l.count - l.at) l.reached l.rest
    ≡ through (ends l.here (shape_of l.self)) (leaves (shape_of l.self)) l.count l.start l.marks)
    × (drop ((l.count - l.at) * leaves (shape_of l.self)) l.rest ≡ drop (l.count * leaves (shape_of l.self)) l.marks)
    × (length l.next.items + (l.count - l.at) * leaves (shape_of l.self) ≤ 512)
    × (length l.next.items + (l.count - l.at) * leaves (shape_of l.self) ≡ length l.fn.next.items + l.count * leaves (shape_of l.self))
    × (l.next.items ++ all_moved (ends l.here (shape_of l.self)) (moved l.here (shape_of l.self)) (leaves (shape_of l.self))
    (l.count - l.at) l.reached l.rest
    ≡ l.fn.next.items ++ all_moved (ends l.here (shape_of l.self)) (moved l.here (shape_of l.self)) (leaves (shape_of l.self))
    l.count l.start l.marks)

abbrev pub invariant-step_some-loop-at : goal.invariant-step_some-loop-at
invariant-step_some-loop-at l =
    ((l.found || through_some (ends l.here (shape_of l.self)) (leaves (shape_of l.self)) (l.count - l.at) l.reached l.rest)
    ≡ through_some (ends l.here (shape_of l.self)) (leaves (shape_of l.self)) l.count l.start l.marks)
    × (drop ((l.count - l.at) * leaves (shape_of l.self)) l.rest ≡ drop (l.count * leaves (shape_of l.self)) l.marks)
    × (length l.next.items + (l.count - l.at) * leaves (shape_of l.self) ≤ 512)
    × (length l.next.items + (l.count - l.at) * leaves (shape_of l.self) ≡ length l.fn.next.items + l.count * leaves (shape_of l.self))
    × (l.next.items ++ all_moved (ends l.here (shape_of l.self)) (moved l.here (shape_of l.self)) (leaves (shape_of l.self))
    (l.count - l.at) l.reached l.rest
    ≡ l.fn.next.items ++ all_moved (ends l.here (shape_of l.self)) (moved l.here (shape_of l.self)) (leaves (shape_of l.self))
    l.count l.start l.marks)
