-- How a request ends, and the room for it.
use Rattle.std.proofs.Common.{◌≡◌, ℕ, List, length, sym, ap, subst, arith}
use Rattle.idle_masks.specs.Watched.{left}
use Rattle.idle_masks.specs.declared.watch.Watched.{Watched}
use Rattle.machine_core.specs.declared.work.Work.{Work}
use Rattle.std.specs.Prelude.{not, ◌==◌}
use Rattle.daemon_core.specs.Handled.{Does}
use Rattle.daemon_core.specs.Parts.{state_of}
use Rattle.daemon_core.specs.Request.{ran_of}
use Rattle.daemon_core.specs.Room.{IsReadyToTell, KeepsRoom}
use Rattle.daemon_core.specs.Session.{of_ran}
use Rattle.daemon_core.specs.declared.handled.Handled.{Handled}
use Rattle.daemon_core.specs.declared.outcome.Ending.{Ending}
use Rattle.daemon_core.specs.declared.parts.CoreParts.{CoreParts}
use Rattle.daemon_core.specs.declared.request.RequestEnd.{RequestEnd}
use Rattle.daemon_core.proofs.ClientLaws.{filtered_shorter}
use Rattle.daemon_core.proofs.RoomLaws.{fewer_fit, still_fits}

pub ready_left : (before after : CoreParts) (c : ℕ) → IsReadyToTell before → after.watch ≡ left before.watch c →
    KeepsRoom before.room after.room → IsReadyToTell after
ready_left before after c has gone kept =
    let shorter = ap (λ (ws : List Watched). length ws) gone in
    fewer_fit (length before.watch) (length after.watch) after.room
    (still_fits (length before.watch) before.room after.room has kept)
    (omega (arith, shorter, filtered_shorter (λ w. not (w.client == c)) before.watch))

-- a request that ended so
pub ends_so : (c : ℕ) (before after : CoreParts) (work : Work) (end : RequestEnd) (handled : Handled) (ending : Ending) →
    end.ending ≡ ending → Does (of_ran c (state_of before) (ran_of before.machine before.talks work end) ending) after handled →
    Does (of_ran c (state_of before) (ran_of before.machine before.talks work end) end.ending) after handled
ends_so c before after work end handled ending is does =
    subst (λ e. Does (of_ran c (state_of before) (ran_of before.machine before.talks work end) e) after handled) (sym is) does
