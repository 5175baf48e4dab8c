-- What a scan has still to read.
use Rattle.std.specs.Prelude.{ℕ, Bool, true, false, List, [], ◌∷◌, ◌++◌, Option, Some, None, Result, Ok, Err, map, count_by}
use Rattle.std.specs.List.{All}
use Rattle.std.specs.Str.{bytes_eq}
use Rattle.std.specs.String.{string_bytes}
use Rattle.std.specs.declared.vec.Vec.{Vec}
use Rattle.song_files.specs.Folder.{File}
use Rattle.song_files.specs.Listing.{IsStampAt}
use Rattle.song_files.specs.declared.folder.FolderEntry.{FolderEntry}
use Rattle.song_db.specs.declared.rules.LibraryRules.{LibraryRules}
use Rattle.song_db.specs.Place.{is_below}

-- something still to be read: all that there is, the file at a path, or what stands below a folder
pub data Pending : Type 0 where
  everything : Pending
  file_at : List ℕ → Pending
  below : List ℕ → Pending

abbrev pub covers : List ℕ → Pending → Bool
covers uri everything = true
covers uri (file_at path) = bytes_eq uri path
covers uri (below folder) = is_below folder uri

-- how often a path is still to be read
abbrev pub times_pending : List Pending → List ℕ → ℕ
times_pending pending uri = count_by (covers uri) pending

-- a job's own folder or song, or all below the root
abbrev pub own_pending : Option (List ℕ) → List Pending
own_pending None = everything ∷ []
own_pending (Some uri) = file_at uri ∷ below uri ∷ []

-- an entry of a folder
abbrev pub path_pending : List ℕ → Bool → Pending
path_pending path true = below path
path_pending path false = file_at path

abbrev pub entry_pending : List ℕ → FolderEntry → Pending
entry_pending prefix entry = path_pending (prefix ++ string_bytes entry.name) entry.is_folder

abbrev pub entries_pending : List ℕ → List FolderEntry → List Pending
entries_pending prefix entries = map (entry_pending prefix) entries

-- what is left of a listing: what the paths of its entries begin with, and the entries
pub record Listed : Type 0 where
  pub prefix : List ℕ
  pub entries : List FolderEntry

-- the stamps that entries have are those of the files
abbrev pub AreEntriesTold : List File → List ℕ → List FolderEntry → Type 0
AreEntriesTold files prefix entries =
    All (λ (entry : FolderEntry). IsStampAt files (prefix ++ string_bytes entry.name) entry.stamp) entries

abbrev pub AreTold : List File → List Listed → Type 0
AreTold files listed = All (λ (l : Listed). AreEntriesTold files l.prefix l.entries) listed

-- the walk of a scan: its rules, its folder or song, or none for the root, what is still to be read of what it has entered, and what is
-- left of the listings
pub record Walked : Type 0 where
  pub rules : LibraryRules
  pub place : Option (List ℕ)
  pub pending : List Pending
  pub listed : List Listed

-- what a listing adds: its entries, or nothing
abbrev pub listed_pending : {A E : Type 0} → List ℕ → Result (Option (Vec FolderEntry A)) E → List Pending
listed_pending prefix (Ok None) = []
listed_pending prefix (Ok (Some entries)) = entries_pending prefix entries.items
listed_pending prefix (Err fault) = []

-- what the paths of the job's own entries begin with
abbrev pub own_prefix : Option (List ℕ) → List ℕ
own_prefix None = []
own_prefix (Some uri) = uri ++ 47 ∷ []

-- where the job's own folder was not looked at, that is what is to be read
abbrev pub still_pending : Bool → Walked → List Pending
still_pending true walked = walked.pending
still_pending false walked = own_pending walked.place
