use Rattle.std.proofs.Common.{sym}
use Rattle.idle_masks.specs.Watched.{newcomer}
use Rattle.idle_masks.proofs.Rising.{with_waiting_at, rising_with_waiting}
use Rattle.idle_masks.proofs.watch.set_waiting.Goals as goal

pub returns-in-Ok-clause-ok : goal.returns-in-Ok-clause-ok
returns-in-Ok-clause-ok c = sym (with_waiting_at _ c.requires _ _ c.in-Ok.ensures.found (newcomer 0) c.args.mask)

pub returns-in-Ok-clause-rising : goal.returns-in-Ok-clause-rising
returns-in-Ok-clause-rising c = rw (← with_waiting_at _ c.requires _ _ c.in-Ok.ensures.found (newcomer 0) c.args.mask)
    (rising_with_waiting _ _ _ c.requires)
