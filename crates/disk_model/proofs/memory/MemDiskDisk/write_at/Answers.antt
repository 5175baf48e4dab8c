use Rattle.std.proofs.Common.{◌+◌, ◌<◌, ◌^◌, length, arith, subst}
use Rattle.std.specs.Prelude.{All}
use Rattle.disk_model.specs.Calls.{overwritten}
use Rattle.disk_model.specs.Memory.{IsHonest}
use Rattle.disk_model.proofs.Replay.{kept-write, history_of-push, honest-kept}
use Rattle.disk_model.proofs.memory.MemDiskDisk.write_at.Goals as goal

pub invariant_of-self-in-Ok : goal.invariant_of-self-in-Ok
invariant_of-self-in-Ok c =
    let kept = c.in-Ok.ensures.recorded.0 in
    let bytes : All (λ b. b < 256) (overwritten c.self.inside.bytes.items c.args.at kept.items) =
    rw (c.in-Ok.ensures.recorded.1, ← c.in-Ok.ensures.written) c.in-Ok.ensures.bytes in
    let fits : c.args.at + length kept.items < 2 ^ 63 = rw c.in-Ok.ensures.recorded.1 (omega arith) in
    rw (c.in-Ok.ensures.recorded.2, c.in-Ok.ensures.written, ← c.in-Ok.ensures.recorded.1)
    (kept-write _ _ _ c.args.at kept (omega arith) fits bytes c.self.invariant)

pub returns-in-Ok-clause-honest : goal.returns-in-Ok-clause-honest
returns-in-Ok-clause-honest c =
    (λ _. honest-kept _ _ _ _ (invariant_of-self-in-Ok c), λ _. subst IsHonest c.self.view_is (honest-kept _ _ _ _ c.self.invariant))

pub returns-in-Ok-clause-made : goal.returns-in-Ok-clause-made
returns-in-Ok-clause-made c honest =
    rw (c.in-Ok.ensures.recorded.2, ← c.self.view_is, ← c.in-Ok.ensures.recorded.1) (history_of-push _ _ _ _ c.self.invariant)
