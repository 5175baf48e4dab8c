use Rattle.std.proofs.Common.{◌≡◌, drop}
use Rattle.song_files.specs.Folder.{file_at}
use Rattle.song_files.proofs.memory_folder.MemFolder.file_at.Given as goal

-- the files that are left decide
abbrev pub invariant-loop-file : goal.invariant-loop-file
invariant-loop-file l = file_at (drop l.file-index l.file-items) l.path ≡ file_at l.file-items l.path
