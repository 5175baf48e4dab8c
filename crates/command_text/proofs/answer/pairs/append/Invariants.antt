use Rattle.std.proofs.Common.{◌≡◌, ◌≤◌, ◌++◌, take}
use Rattle.std.specs.List.{flat_map}
use Rattle.std.specs.Vec.{vec_capacity}
use Rattle.command_text.proofs.answer.pairs.append.Given as goal

abbrev pub invariant-loop-part : goal.invariant-loop-part
invariant-loop-part l = record {
  items : l.out.items ≡ l.initial.out.items ++ flat_map (λ part. part.now) (take l.part-index l.parts);
  room : vec_capacity l.initial.out ≤ vec_capacity l.out;
}
