use Rattle.std.proofs.Common.{◌≡◌, ℕ, List, false, take}
use Rattle.std.specs.HashSet.{contains_text}
use Rattle.std.specs.List.{list_any}
use Rattle.song_files.specs.Listing.{is_entry}
use Rattle.song_files.proofs.known_files.KnownFiles.of.Given as goal

-- the names so far are those of the files so far
abbrev pub invariant-loop-entry : goal.invariant-loop-entry
invariant-loop-entry l = (name : List ℕ) → contains_text l.names name ≡ list_any (is_entry name false) (take l.entry-index l.entries)
