-- The commands of a client's session: waiting for changes, and the lines that begin and end a command list.
use Rattle.std.specs.Prelude.{ℕ, ◌+◌, List, [], ◌∷◌, Result, Ok}
use Rattle.idle_masks.specs.declared.subsystem.Subsystems.{Subsystems}
use Rattle.idle_masks.specs.Subsystems.{every, none, union, mask_named}
use Rattle.command_text.specs.declared.command.session.SessionCommand.{SessionCommand}
use Rattle.command_text.specs.declared.command.session.SessionCommand.TheVariants as commands
use Rattle.command_text.specs.declared.refusal.CommandRefusal.{CommandRefusal}
use Rattle.command_text.specs.declared.topic.SessionName.{SessionName}
use Rattle.command_text.specs.declared.topic.SessionName.TheVariants as names
use Rattle.command_text.specs.Counts.{◌>>=◌, Word, no_argument, argument}

-- what the names from this place on ask for, beside a set
unfoldable pub mask_with : Subsystems → ℕ → List Word → Result Subsystems CommandRefusal
mask_with set place [] = Ok set
mask_with set place (word ∷ words) = do
  named ← argument place (mask_named word)
  mask_with (union set named) (place + 1) words

-- no name asks for all
unfoldable pub idle_of : List Word → Result SessionCommand CommandRefusal
idle_of [] = Ok (commands.Idle every)
idle_of (word ∷ words) = mask_with none 1 (word ∷ words) >>= λ mask. Ok (commands.Idle mask)

unfoldable pub session_of : SessionName → List Word → Result SessionCommand CommandRefusal
session_of names.CommandListBegin words = no_argument commands.BeginList words
session_of names.CommandListEnd words = no_argument commands.EndList words
session_of names.CommandListOkBegin words = no_argument commands.BeginOkList words
session_of names.Idle words = idle_of words
session_of names.NoIdle words = no_argument commands.NoIdle words
