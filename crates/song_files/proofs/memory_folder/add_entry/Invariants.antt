use Rattle.std.proofs.Common.{◌≡◌, false, take}
use Rattle.std.specs.List.{list_any}
use Rattle.song_files.specs.Listing.{is_entry}
use Rattle.song_files.proofs.memory_folder.add_entry.Given as goal

-- none of those that were passed has the name
abbrev pub invariant-loop-entry : goal.invariant-loop-entry
invariant-loop-entry l = list_any (is_entry l.name l.is_folder) (take l.entry-index l.entry-items) ≡ false
