-- The meaning of every command, by topic: its first refusal, or the lines that it answers, the ops that it makes, and the
-- machine after it.
use Rattle.std.specs.Prelude.{[]}
use Rattle.command_text.specs.declared.command.Command.{Command}
use Rattle.command_text.specs.declared.command.Command.TheVariants as commands
use Rattle.command_text.specs.declared.tag_mask.TagMask.{TagMask}
use Rattle.machine_core.specs.Database.{database_meaning}
use Rattle.machine_core.specs.Finding.{finding_meaning}
use Rattle.machine_core.specs.Lists.{lists_meaning}
use Rattle.machine_core.specs.Meaning.{Meant, says}
use Rattle.machine_core.specs.Playing.{playing_meaning}
use Rattle.machine_core.specs.Queue.{queue_meaning}
use Rattle.machine_core.specs.Settings.{settings_meaning}
use Rattle.machine_core.specs.Setup.{setup_meaning}
use Rattle.machine_core.specs.State.{MachineState}
use Rattle.machine_core.specs.Stickers.{stickers_meaning}

-- To a client that sees these tags. The commands of messages, of pictures and of a session speak of the client, or of where a request begins
-- and ends, and mean nothing to the machine.
unfoldable pub meaning : TagMask → Command → MachineState → Meant
meaning mask (commands.Settings command) m = settings_meaning command m
meaning mask (commands.Database command) m = database_meaning mask command m
meaning mask (commands.Queue command) m = queue_meaning mask command m
meaning mask (commands.Finding command) m = finding_meaning mask command m
meaning mask (commands.Lists command) m = lists_meaning mask command m
meaning mask (commands.Stickers command) m = stickers_meaning command m
meaning mask (commands.Playing command) m = playing_meaning mask command m
meaning mask (commands.Messages command) m = says [] m
meaning mask (commands.Pictures command) m = says [] m
meaning mask (commands.Session command) m = says [] m
meaning mask (commands.Setup command) m = setup_meaning command m
