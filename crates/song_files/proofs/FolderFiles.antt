-- The files of a folder, one after the other.
use Rattle.std.proofs.Common.{◌≡◌, ℕ, ◌+◌, ◌<◌, true, false, cond, List, ◌∷◌, length, drop, get_or, Some, refl, sym, ap, ◌∙◌}
use Rattle.std.specs.Str.{bytes_eq}
use Rattle.std.proofs.lemmas.List.{drop_more}
use Rattle.song_files.specs.Folder.{File, file_at}

at_place : (files : List File) (i : ℕ) (file : File) (path : List ℕ) → i < length files → file ≡ get_or files i file
    → file_at (drop i files) path ≡ cond (bytes_eq file.path path) (Some file) (file_at (drop (i + 1) files) path)
at_place files i file path within is =
    ap (λ l. file_at l path) (drop_more files i file within ∙ ap (λ (f : File). f ∷ drop (i + 1) files) (sym is))

-- a file at the path
pub found : (files : List File) (i : ℕ) (file : File) (path own : List ℕ) → i < length files → file ≡ get_or files i file
    → own ≡ file.path → true ≡ bytes_eq own path → file_at (drop i files) path ≡ file_at files path → file_at files path ≡ Some file
found files i file path own within is own_is same left =
    let test : bytes_eq file.path path ≡ true = ap (λ p. bytes_eq p path) (sym own_is) ∙ sym same in
    sym left ∙ at_place files i file path within is ∙ rw test refl

-- a file at another path
pub passed : (files : List File) (i : ℕ) (file : File) (path own : List ℕ) → i < length files → file ≡ get_or files i file
    → own ≡ file.path → false ≡ bytes_eq own path → file_at (drop i files) path ≡ file_at files path
    → file_at (drop (i + 1) files) path ≡ file_at files path
passed files i file path own within is own_is other left =
    let test : bytes_eq file.path path ≡ false = ap (λ p. bytes_eq p path) (sym own_is) ∙ sym other in
    rw test at (sym (at_place files i file path within is)) ∙ left
