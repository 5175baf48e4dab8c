-- The names of a listing's files, one entry after the other.
use Rattle.std.proofs.Common.{◌≡◌, ℕ, ◌+◌, ◌<◌, Bool, true, false, ◌&&◌, ◌||◌, cond, List, length, take, get_or, refl, ap, ◌∙◌, sym}
use Rattle.std.specs.List.{list_any}
use Rattle.std.specs.Str.{bytes_eq}
use Rattle.std.specs.String.{string_bytes}
use Rattle.std.proofs.lemmas.List.Folds.{list_any_more}
use Rattle.song_files.specs.Listing.{is_entry, same_kind}
use Rattle.song_files.specs.declared.folder.FolderEntry.{FolderEntry}

one_joins : (same known kind : Bool) → kind ≡ false → cond same true known ≡ (known || (same && same_kind kind false))
one_joins true true false file = refl
one_joins true false false file = refl
one_joins false true false file = refl
one_joins false false false file = refl
one_joins same known true file = absurd (cc)

none_joins : (same known kind : Bool) → kind ≡ true → known ≡ (known || (same && same_kind kind false))
none_joins true true true folder = refl
none_joins true false true folder = refl
none_joins false true true folder = refl
none_joins false false true folder = refl
none_joins same known false folder = absurd (cc)

-- the next entry is a file, and its name joins those that are known
pub file_joins : (name : List ℕ) (entries : List FolderEntry) (at : ℕ) (entry : FolderEntry) (old new : Bool) → at < length entries
    → entry ≡ get_or entries at entry → entry.is_folder ≡ false → new ≡ cond (bytes_eq (string_bytes entry.name) name) true old
    → old ≡ list_any (is_entry name false) (take at entries) → new ≡ list_any (is_entry name false) (take (at + 1) entries)
file_joins name entries at entry old new within is file joined known =
    joined ∙ one_joins (bytes_eq (string_bytes entry.name) name) old entry.is_folder file
    ∙ ap (λ b. b || is_entry name false entry) known
    ∙ ap (λ e. list_any (is_entry name false) (take at entries) || is_entry name false e) is
    ∙ sym (list_any_more (is_entry name false) entries at entry within)

-- the next entry is a folder
pub folder_passes : (name : List ℕ) (entries : List FolderEntry) (at : ℕ) (entry : FolderEntry) (old : Bool) → at < length entries
    → entry ≡ get_or entries at entry → entry.is_folder ≡ true
    → old ≡ list_any (is_entry name false) (take at entries) → old ≡ list_any (is_entry name false) (take (at + 1) entries)
folder_passes name entries at entry old within is folder known =
    none_joins (bytes_eq (string_bytes entry.name) name) old entry.is_folder folder
    ∙ ap (λ b. b || is_entry name false entry) known
    ∙ ap (λ e. list_any (is_entry name false) (take at entries) || is_entry name false e) is
    ∙ sym (list_any_more (is_entry name false) entries at entry within)
