use Rattle.std.proofs.Common.{subst}
use Rattle.disk_model.specs.Memory.{IsHonest}
use Rattle.disk_model.proofs.Replay.{kept-sync, history_of-push, honest-kept}
use Rattle.disk_model.proofs.memory.MemDiskDisk.sync.Goals as goal

pub invariant_of-self-2 : goal.invariant_of-self-2
invariant_of-self-2 c =
    rw (c.push_reserved.ensures.items, c.reserve.ensures.items) (kept-sync _ _ _ c.self.invariant)

pub returns-clause-honest : goal.returns-clause-honest
returns-clause-honest c =
    (λ _. honest-kept _ _ _ _ (invariant_of-self-2 c), λ _. subst IsHonest c.self.view_is (honest-kept _ _ _ _ c.self.invariant))

pub returns-clause-made : goal.returns-clause-made
returns-clause-made c honest = rw (c.push_reserved.ensures.items, c.reserve.ensures.items, ← c.self.view_is)
    (history_of-push _ _ _ _ c.self.invariant)
