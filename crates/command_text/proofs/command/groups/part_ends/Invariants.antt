use Rattle.std.proofs.Common.{◌≡◌, ◌≤◌, length, take}
use Rattle.command_text.specs.Groups.{part_ends, with_outer}
use Rattle.command_text.proofs.command.groups.part_ends.Given as goal

abbrev pub invariant-ends : goal.invariant-ends
invariant-ends l = (l.end ≤ length l.words)
    × (with_outer l.tags (part_ends l.left l.before (take l.end l.words)) ≡ part_ends l.fn.most l.fn.before l.fn.words)

abbrev pub decreases-ends : goal.decreases-ends
decreases-ends l = l.left
