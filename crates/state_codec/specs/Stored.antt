-- What the parts of a `Saved` stand for.
use Rattle.state_codec.specs.declared.saved.parts.SavedParts.{SavedParts}
use Rattle.state_codec.specs.SavedState.{SavedState}

abbrev pub state_of : SavedParts → SavedState
state_of parts =
    record {
      profile = parts.profile;
      key = parts.key;
      order = parts.order;
      volume = parts.volume;
      options = parts.options;
      songs = parts.songs;
      queue = parts.queue;
      lists = parts.lists;
      stickers = parts.stickers;
      place = parts.place;
      changed = parts.changed;
    }
