-- What the fields of a `Machine` stand for.
use Rattle.std.specs.Prelude.{◌≡◌}
use Rattle.std.specs.Option.{ForSome}
use Rattle.machine_core.specs.State.{MachineState, shown_of}
use Rattle.machine_core.specs.declared.machine.Machine.TheInside.{Inside}

abbrev pub held : Inside → MachineState
held i = record {
  saved = i.saved;
  player = i.player;
  job = i.job;
  waiting = i.waiting.items;
  withheld = i.withheld;
  clock = i.clock;
  has_room = i.has_room;
}

-- what is kept of the current song and the next one is right
abbrev pub IsRight : Inside → Type 0
IsRight i = ForSome i.kept (λ kept. kept ≡ shown_of (held i))
