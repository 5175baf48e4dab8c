-- The memory for what an event gives out beside its answer, which a core keeps from event to event.
use Rattle.std.specs.Prelude.{ℕ, ◌<◌, ◌≤◌, length, vec_len, vec_capacity}
use Rattle.daemon_core.specs.declared.parts.CoreParts.{CoreParts}
use Rattle.daemon_core.specs.declared.room.Room.{Room}

-- enough to tell so many clients, behind an answer
pub record IsRoomFor (clients : ℕ) (room : Room) : Type 0 where
  pub texts : clients ≤ vec_len room.texts
  pub outputs : 0 < clients → clients < vec_capacity room.outputs
  pub reports : clients ≤ room.reports_for

-- enough to tell all clients that are connected
abbrev pub IsReadyToTell : CoreParts → Type 0
IsReadyToTell p = IsRoomFor (length p.watch) p.room

-- nothing of it was given away
pub record KeepsRoom (before after : Room) : Type 0 where
  pub texts : vec_len before.texts ≤ vec_len after.texts
  pub outputs : vec_capacity before.outputs ≤ vec_capacity after.outputs
  pub reports : before.reports_for ≤ after.reports_for

-- enough for the numbers of all clients that are connected, each of which may be closed
abbrev pub CanCloseAll : CoreParts → Type 0
CanCloseAll p = length p.watch ≤ vec_capacity p.room.closes
