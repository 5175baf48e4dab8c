-- Entries to which a name was added, unless it is there.
use Rattle.std.specs.Prelude.{◌≡◌, ℕ, ◌≤◌, Bool, true, false, ◌&&◌, ◌||◌, List, Option, None, count_by}
use Rattle.std.specs.List.{All, list_any}
use Rattle.std.specs.Str.{bytes_eq}
use Rattle.std.specs.String.{string_bytes}
use Rattle.song_files.specs.Folder.{File}
use Rattle.song_files.specs.Listing.{is_name, is_entry, same_kind, path_in, AreStamped, IsStampAt}
use Rattle.song_files.specs.declared.folder.FileStamp.{FileStamp}
use Rattle.song_files.specs.declared.folder.FolderEntry.{FolderEntry}

pub record IsAdded (old new : List FolderEntry) (name : List ℕ) (is_folder : Bool) : Type 0 where
  pub names : All (λ (entry : FolderEntry). is_name (string_bytes entry.name) ≡ true) old
      → All (λ (entry : FolderEntry). is_name (string_bytes entry.name) ≡ true) new
  pub each : (n : List ℕ) → is_name n ≡ true → (k : Bool)
      → list_any (is_entry n k) new ≡ (list_any (is_entry n k) old || (bytes_eq name n && same_kind is_folder k))
  pub once : ((n : List ℕ) (k : Bool) → count_by (is_entry n k) old ≤ 1) → (n : List ℕ) (k : Bool) → count_by (is_entry n k) new ≤ 1

-- what is told under a name: of a file, and nothing of a folder
abbrev pub told_of : Bool → Option FileStamp → Option FileStamp
told_of true told = None
told_of false told = told

-- entries have no other stamps than the files still, where that is told of the file of this name
abbrev pub IsStamped : List FolderEntry → List FolderEntry → List ℕ → Bool → Option FileStamp → Type 0
IsStamped old new name is_folder told = (files : List File) (folder : List ℕ)
    → IsStampAt files (path_in folder name) (told_of is_folder told) → AreStamped files folder old → AreStamped files folder new
