-- The commands of what the daemon is set up with, none of which changes anything.
use Rattle.command_text.specs.AnswerSetup.{setup_lines}
use Rattle.command_text.specs.declared.command.setup.SetupCommand.{SetupCommand}
use Rattle.machine_core.specs.Meaning.{Meant, says}
use Rattle.machine_core.specs.State.{MachineState}

abbrev pub setup_meaning : SetupCommand → MachineState → Meant
setup_meaning command m = says (setup_lines command) m
