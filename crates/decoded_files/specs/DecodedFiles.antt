-- The files of a folder with a decoder in front of it.
use Rattle.std.specs.Prelude.{ℕ, List, map, Bool, Option, None, Some, unwrap_or, if◌then◌else◌}
use Rattle.std.specs.List.{list_any}
use Rattle.song_db.specs.Endings.{has_ending, decoded_endings}
use Rattle.song_files.specs.Folder.{File}

-- a decoder is asked for the files with its endings
unfoldable pub is_asked : List ℕ → Bool
is_asked path = list_any (has_ending path) decoded_endings

-- what the decoder tells of the file at a path, if there is a decoder
abbrev pub told_by : {D : Type 0} → (D → List ℕ → Option (List ℕ)) → Option D → List ℕ → Option (List ℕ)
told_by told None path = None
told_by told (Some decoder) path = told decoder path

-- the WAVE file that is told of a file for which a decoder is asked, if it is a song; else the file's own bytes
abbrev pub decoded_bytes : (List ℕ → Option (List ℕ)) → File → List ℕ
decoded_bytes told file = if is_asked file.path then unwrap_or (told file.path) file.bytes else file.bytes

-- the same paths and stamps
abbrev pub decoded : (List ℕ → Option (List ℕ)) → List File → List File
decoded told files = map (λ (file : File). record file { bytes = decoded_bytes told file }) files
