-- Every command is lawful, since each form of a meaning is.
use Rattle.command_text.specs.declared.command.Command.{Command}
use Rattle.command_text.specs.declared.tag_mask.TagMask.{TagMask}
use Rattle.machine_core.specs.Command.{meaning}
use Rattle.machine_core.specs.State.{MachineState}
use Rattle.machine_core.proofs.CommandForms.{OfForms, command_so, turned}
use Rattle.machine_core.proofs.FormLaws.{IsLawful, Lawful, begins_lawful, edited_lawful, says_lawful, waits_lawful}
use Rattle.machine_core.proofs.ListMoves.{together_lawful}
use Rattle.machine_core.proofs.Replacing.{replaced_lawful}
use Rattle.machine_core.proofs.Shuffling.{shuffled_lawful, stopped_lawful}
use Rattle.machine_core.proofs.StepsLawful.{moves_lawful, puts_lawful}

forms_lawful : OfForms IsLawful
forms_lawful = record {
  says = says_lawful;
  edits = edited_lawful;
  replaces = replaced_lawful;
  together = together_lawful;
  shuffles = shuffled_lawful;
  stops = stopped_lawful;
  begins = begins_lawful;
  waits = waits_lawful;
  moves = λ step m knows. moves_lawful step m;
  turns = λ turn m. puts_lawful (turned turn m) m;
}

pub command_lawful : (mask : TagMask) (command : Command) (m : MachineState) → Lawful m (meaning mask command m)
command_lawful mask command m = command_so IsLawful forms_lawful mask command m
