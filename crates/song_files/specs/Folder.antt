-- The files that a folder holds, by their paths.
use Rattle.std.specs.Prelude.{ℕ, List, length, Option, option_map}
use Rattle.std.specs.List.{find}
use Rattle.std.specs.Str.{bytes_eq}
use Rattle.song_files.specs.declared.folder.FileStamp.{FileStamp}

-- a path with slashes between its parts, the bytes there, and what the folder tells of them without opening the file
pub record File : Type 0 where
  pub path : List ℕ
  pub bytes : List ℕ
  pub stamp : FileStamp

abbrev pub file_of : List ℕ → List ℕ → FileStamp → File
file_of path bytes stamp = record { path = path; bytes = bytes; stamp = stamp }

-- what is told of bytes that were last changed so many seconds after the beginning of 1970
abbrev pub stamp_of : ℕ → List ℕ → FileStamp
stamp_of modified bytes = record { modified = modified; length = length bytes }

-- the first file at a path
abbrev pub file_at : List File → List ℕ → Option File
file_at files path = find (λ (file : File). bytes_eq file.path path) files

-- its bytes
abbrev pub bytes_at : List File → List ℕ → Option (List ℕ)
bytes_at files path = option_map (λ (file : File). file.bytes) (file_at files path)

-- what is told of it
abbrev pub stamp_at : List File → List ℕ → Option FileStamp
stamp_at files path = option_map (λ (file : File). file.stamp) (file_at files path)
