use Rattle.std.proofs.Common.{◌≡◌, ◌+◌, ◌≤◌, length, take}
use Rattle.std.specs.List.{flat_map}
use Rattle.state_codec.specs.SpellingOps.{op_bytes}
use Rattle.machine_core.specs.Size.{max_request_bytes}
use Rattle.machine_core.proofs.work.size_with.Given as goal

-- with the ops so far
abbrev pub invariant-loop-op : goal.invariant-loop-op
invariant-loop-op l =
    (l.all ≡ l.size + length (flat_map (op_bytes l.profile) (take l.op-index l.ops))) × (l.all ≤ max_request_bytes)
