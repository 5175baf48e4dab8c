-- The numbers of the refusals, and when each comes.
use Rattle.std.specs.Prelude.{ℕ}
use Rattle.song_files.specs.declared.folder.FolderFault.{FolderFault}
use Rattle.song_files.specs.declared.folder.FolderFault.TheVariants as folders
use Rattle.covers.specs.declared.refusal.CoverError.{CoverError}
use Rattle.covers.specs.declared.refusal.CoverError.TheVariants.{NoMemory, ReadFault}

abbrev pub number_of : CoverError → ℕ
number_of NoMemory = 7
number_of ReadFault = 15

-- Memory was wanting, or the source failed: no verdict on the file.
abbrev pub Fails : Type 0 → CoverError → Type 0
Fails fault NoMemory = Unit {0}
Fails fault ReadFault = fault

-- what a fault of a folder is
abbrev pub of_folder : FolderFault → CoverError
of_folder folders.Source = ReadFault
of_folder folders.NoMemory = NoMemory
