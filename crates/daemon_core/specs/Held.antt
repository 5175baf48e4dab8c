-- What the field of a `Core` stands for.
use Rattle.daemon_core.specs.Parts.{state_of}
use Rattle.daemon_core.specs.State.{State}
use Rattle.daemon_core.specs.declared.daemon.Core.TheInside.{Inside}

abbrev pub held : Inside → State
held i = state_of i.parts
