-- An entry as it is looked at.
use Rattle.play_queue.specs.declared.entry.Entry.{Entry}
use Rattle.play_queue.specs.declared.entry.EntryRef.{EntryRef}

-- the entry that is shown
abbrev pub shown : EntryRef → Entry
shown entry = record { id = entry.id; uri = entry.uri.now; priority = entry.priority; stamp = entry.stamp }
