-- Which file of a folder is the album's picture.
use Rattle.std.specs.Prelude.{ℕ, Bool, not, ◌&&◌, List, [], ◌∷◌, map, Option, None, codes}
use denote.Ref.{Bor}
use Rattle.std.specs.List.{find}
use Rattle.std.specs.Option.{option_or}
use Rattle.std.specs.Str.{bytes_eq, str_eq_ignore_ascii_case}
use Rattle.std.specs.String.{string_bytes}
use Rattle.song_files.specs.declared.folder.FolderEntry.{FolderEntry}

-- the names that it may have, the first in front: of these MPD looks for the first three
unfoldable pub album_names : List (List ℕ)
album_names =
    codes "cover.png" ∷ codes "cover.jpg" ∷ codes "cover.webp" ∷ codes "cover.jpeg" ∷ codes "cover.gif"
    ∷ codes "folder.png" ∷ codes "folder.jpg" ∷ codes "folder.webp" ∷ codes "folder.jpeg" ∷ codes "folder.gif"
    ∷ codes "front.png" ∷ codes "front.jpg" ∷ codes "front.webp" ∷ codes "front.jpeg" ∷ codes "front.gif" ∷ []

-- texts that are lent
abbrev pub names_of : List (Bor (List ℕ)) → List (List ℕ)
names_of names = map (λ name. name.now) names

-- a file with this name
abbrev pub is_named : List ℕ → FolderEntry → Bool
is_named name entry = not entry.is_folder && bytes_eq (string_bytes entry.name) name

-- one with this name but for the case of its letters
abbrev pub is_named_like : List ℕ → FolderEntry → Bool
is_named_like name entry = not entry.is_folder && str_eq_ignore_ascii_case (string_bytes entry.name) name

-- the first entry that passes the test for the first of the names for which there is one
abbrev pub first_named : (List ℕ → FolderEntry → Bool) → List FolderEntry → List (List ℕ) → Option FolderEntry
first_named test entries [] = None
first_named test entries (name ∷ names) = option_or (find (test name) entries) (first_named test entries names)

-- names as they stand come before those in other letters, so MPD's picture is the one where it has one
abbrev pub album_picture : List FolderEntry → Option FolderEntry
album_picture entries = option_or (first_named is_named entries album_names) (first_named is_named_like entries album_names)
