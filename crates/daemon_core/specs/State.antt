-- The daemon's state: a machine, of which commands speak, the clients that are connected, and what they send one another.
use Rattle.std.specs.Prelude.{List, []}
use Rattle.client_messages.specs.declared.listener.Listener.{Listener}
use Rattle.idle_masks.specs.declared.watch.Watched.{Watched}
use Rattle.machine_core.specs.State.{MachineState, started, told_time}
use Rattle.machine_core.specs.declared.clock.ClockTime.{ClockTime}
use Rattle.state_codec.specs.SavedState.{SavedState}
use Rattle.daemon_core.specs.declared.picture.ClientPicture.{ClientPicture}
use Rattle.daemon_core.specs.declared.views.ClientView.{ClientView}

-- The connected clients, by rising number: for each what is pending and, if it waits, for what; and of those that don't see all tags which
-- they see; and of those that have subscribed to a channel since they came which channels they have and what they haven't read.
pub record State : Type 0 where
  pub machine : MachineState
  pub clients : List Watched
  pub views : List ClientView
  pub messages : List Listener
  pub pictures : List ClientPicture

-- the state of a daemon that has just begun with what was kept
abbrev pub start : SavedState → State
start saved = record { machine = started saved; clients = []; views = []; messages = []; pictures = [] }

abbrev pub with_machine : State → MachineState → State
with_machine s machine = record s { machine = machine }

-- a clock tells the time
abbrev pub clocked : ClockTime → State → State
clocked time s = with_machine s (told_time time s.machine)

abbrev pub with_views : State → List ClientView → State
with_views s views = record s { views = views }

abbrev pub with_clients : State → List Watched → State
with_clients s clients = record s { clients = clients }

abbrev pub with_messages : State → List Listener → State
with_messages s messages = record s { messages = messages }

abbrev pub with_pictures : State → List ClientPicture → State
with_pictures s pictures = record s { pictures = pictures }
