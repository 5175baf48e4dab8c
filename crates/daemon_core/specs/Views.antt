-- How a client is told: the tags that it sees, and how many bytes of a picture an answer to it may have.
use Rattle.std.specs.Prelude.{◌==◌, ◌&&◌, Bool}
use Rattle.command_text.specs.Masks.{after_change, all_in_mask, is_all}
use Rattle.command_text.specs.declared.command.Command.{Command}
use Rattle.command_text.specs.declared.command.Command.TheVariants as commands
use Rattle.command_text.specs.declared.command.database.DatabaseCommand.{DatabaseCommand}
use Rattle.command_text.specs.declared.command.database.DatabaseCommand.TheVariants as database
use Rattle.command_text.specs.declared.command.setup.SetupCommand.{SetupCommand}
use Rattle.command_text.specs.declared.command.setup.SetupCommand.TheVariants as setup
use Rattle.daemon_core.specs.declared.view.View.{View}

-- a client that has said nothing of it sees all tags, and has the limit that MPD has
abbrev pub fresh_view : View
fresh_view = record { tags = all_in_mask; limit = 8192 }

abbrev pub is_fresh : View → Bool
is_fresh view = is_all view.tags && view.limit == 8192

abbrev pub same_view : View → View → Bool
same_view view other = view.tags.bits == other.tags.bits && view.limit == other.limit

abbrev pub database_view : DatabaseCommand → View → View
database_view (database.ChangeMask change) view = record view { tags = after_change change view.tags }
database_view other view = view

abbrev pub setup_view : SetupCommand → View → View
setup_view (setup.BinaryLimit limit) view = record view { limit = limit }
setup_view other view = view

-- how the client is told behind a command
unfoldable pub view_behind : Command → View → View
view_behind (commands.Database command) view = database_view command view
view_behind (commands.Setup command) view = setup_view command view
view_behind command view = view
