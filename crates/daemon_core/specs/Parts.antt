-- What the parts of a core stand for.
use Rattle.daemon_core.specs.State.{State}
use Rattle.daemon_core.specs.declared.parts.CoreParts.{CoreParts}

abbrev pub state_of : CoreParts → State
state_of p = record {
  machine = p.machine;
  clients = p.watch;
  views = p.views.list.items;
  messages = p.talks.messages;
  pictures = p.pictures.list.items;
}
