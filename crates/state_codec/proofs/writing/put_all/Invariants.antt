use Rattle.std.proofs.Common.{◌≡◌, ◌++◌, take, vec_capacity}
use Rattle.std.specs.List.{AllByRecursion, flat_map}
use Rattle.state_codec.specs.Ops.{IsOp}
use Rattle.state_codec.specs.SpellingOps.{op_bytes}
use Rattle.state_codec.proofs.writing.put_all.Given as goal

abbrev pub invariant-loop-op : goal.invariant-loop-op
invariant-loop-op l = record {
  items : l.out.items ≡ l.fn.out.items ++ flat_map (op_bytes l.profile) (take l.op-index l.ops);
  capacity : vec_capacity l.out ≡ vec_capacity l.fn.out;
  form : AllByRecursion IsOp (take l.op-index l.ops);
}
