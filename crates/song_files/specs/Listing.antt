-- What an honest folder lists.
use Rattle.std.specs.Prelude.{◌≡◌, ◌≢◌, ℕ, ◌≤◌, Bool, true, false, not, ◌&&◌, ◌==◌, List, [], ◌∷◌, ◌++◌, Option, Some, None, is_some}
use Rattle.std.specs.Prelude.{count_by, if◌then◌else◌}
use Rattle.std.specs.List.{All, list_any, before_first}
use Rattle.std.specs.Str.{bytes_eq}
use Rattle.std.specs.String.{string_bytes}
use Rattle.std.specs.declared.vec.Vec.{Vec}
use Rattle.song_files.specs.Folder.{File, bytes_at, stamp_at}
use Rattle.song_files.specs.declared.folder.FileStamp.{FileStamp}
use Rattle.song_files.specs.declared.folder.FolderEntry.{FolderEntry}

-- what a path has behind a folder and a slash
abbrev pub behind_folder : List ℕ → List ℕ → Option (List ℕ)
behind_folder [] [] = None
behind_folder [] (p ∷ path) = if p == 47 then Some path else None
behind_folder (f ∷ folder) [] = None
behind_folder (f ∷ folder) (p ∷ path) = if f == p then behind_folder folder path else None

-- the same, where every path stands behind the root
abbrev pub behind : List ℕ → List ℕ → Option (List ℕ)
behind [] path = Some path
behind (f ∷ folder) path = behind_folder (f ∷ folder) path

abbrev pub has_slash : List ℕ → Bool
has_slash path = list_any (λ b. b == 47) path

-- a name isn't empty and has no slash
abbrev pub is_name : List ℕ → Bool
is_name name = not (bytes_eq name []) && not (has_slash name)

-- the first part of what stands behind a folder; where more follows, a folder has that name
abbrev pub first_part : List ℕ → List ℕ
first_part rest = before_first (λ b. b == 47) rest

abbrev pub same_kind : Bool → Bool → Bool
same_kind true kind = kind
same_kind false kind = not kind

-- an entry has that name, as a folder or as a file
abbrev pub is_entry : List ℕ → Bool → FolderEntry → Bool
is_entry name is_folder entry = bytes_eq (string_bytes entry.name) name && same_kind entry.is_folder is_folder

-- what is behind the folder begins with that name, as a folder's or as a file's
abbrev pub begins_with : List ℕ → Bool → Option (List ℕ) → Bool
begins_with name is_folder None = false
begins_with name is_folder (Some rest) = bytes_eq (first_part rest) name && same_kind (has_slash rest) is_folder

-- a file stands behind a folder, its path beginning so
abbrev pub has_first : List File → List ℕ → List ℕ → Bool → Bool
has_first files folder name is_folder = list_any (λ (file : File). begins_with name is_folder (behind folder file.path)) files

-- the entries have names; a name stands there, as a folder's or a file's, exactly where a file behind the folder begins
-- so, and it stands there once
pub record IsListing (files : List File) (folder : List ℕ) (entries : List FolderEntry) : Type 0 where
  pub names : All (λ (entry : FolderEntry). is_name (string_bytes entry.name) ≡ true) entries
  pub each : (name : List ℕ) → is_name name ≡ true → (is_folder : Bool)
      → list_any (is_entry name is_folder) entries ≡ has_first files folder name is_folder
  pub once : (name : List ℕ) (is_folder : Bool) → count_by (is_entry name is_folder) entries ≤ 1

-- no listing is an empty one: nothing stands behind
abbrev pub entries_of : {A : Type 0} → Option (Vec FolderEntry A) → List FolderEntry
entries_of None = []
entries_of (Some entries) = entries.items

-- the path of what stands in a folder under a name
abbrev pub path_in : List ℕ → List ℕ → List ℕ
path_in [] name = name
path_in (f ∷ folder) name = (f ∷ folder) ++ 47 ∷ name

-- a stamp that was told of the file at a path is what is told of it
abbrev pub IsStampAt : List File → List ℕ → Option FileStamp → Type 0
IsStampAt files path told = (stamp : FileStamp) → told ≡ Some stamp → stamp_at files path ≡ Some stamp

-- the entries have no other stamps
abbrev pub AreStamped : List File → List ℕ → List FolderEntry → Type 0
AreStamped files folder entries =
    All (λ (entry : FolderEntry). IsStampAt files (path_in folder (string_bytes entry.name)) entry.stamp) entries

-- files are apart where none stands at the path of a folder
abbrev pub is_over : List ℕ → File → Bool
is_over folder file = is_some (behind folder file.path)

abbrev pub AreApart : List File → Type 0
AreApart files = (folder : List ℕ) → list_any (is_over folder) files ≡ true → bytes_at files folder ≡ None

-- a folder that is listed is no file
abbrev pub IsNoFile : {A : Type 0} → List File → List ℕ → Option (Vec FolderEntry A) → Type 0
IsNoFile files path None = Unit {0}
IsNoFile files path (Some entries) = path ≢ [] → bytes_at files path ≡ None
