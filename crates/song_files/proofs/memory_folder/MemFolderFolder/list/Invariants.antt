use Rattle.std.proofs.Common.{take}
use Rattle.song_files.specs.Listing.{AreStamped, IsListing}
use Rattle.song_files.proofs.memory_folder.MemFolderFolder.list.Given as goal

-- the entries so far are the listing of the files so far, with the stamps of the files
abbrev pub invariant-loop-file : goal.invariant-loop-file
invariant-loop-file l = record {
  listing : IsListing (take l.file-index l.file-items) l.path l.entries.items;
  stamps : AreStamped l.file-items l.path l.entries.items;
}
