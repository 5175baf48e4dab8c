-- Events while the journal's disk is full.
use Rattle.std.specs.Prelude.{Bool, false}
use Rattle.daemon_core.specs.declared.event.Event.{Event}
use Rattle.daemon_core.specs.declared.event.Event.TheVariants as events

-- the event tells that room is there again
abbrev pub brings_room : Event → Bool
brings_room (events.Room is_there) = is_there
brings_room event = false
