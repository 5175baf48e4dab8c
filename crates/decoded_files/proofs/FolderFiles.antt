-- The files of a folder with a decoder in front of it.
use Rattle.std.proofs.Common.{◌≡◌, ℕ, List, [], ◌∷◌, ap, ◌∙◌, sym, refl, Some, None, Bool, true, false, cond, IfOk, Ok, Err, subst}
use Rattle.std.specs.Prelude.{Option, Result, option_map, unwrap_or, ◌||◌, if◌then◌else◌, is_none, MatchOption}
use Rattle.song_files.specs.declared.folder.FileStamp.{FileStamp}
use Rattle.std.specs.List.{find}
use Rattle.std.specs.Str.{bytes_eq}
use Rattle.std.proofs.lemmas.List.Elements.{All-weaker}
use Rattle.std.specs.Cmp.Lexicographic.{bytes_decides}
use Rattle.std.specs.String.{string_bytes}
use Rattle.std.specs.declared.vec.Vec.{Vec}
use Rattle.song_files.specs.Folder.{File, bytes_at, stamp_at, file_at}
use Rattle.song_files.specs.Listing.{AreStamped, IsListing, IsNoFile, IsStampAt, has_first, begins_with, behind, entries_of, path_in}
use Rattle.song_files.specs.declared.folder.FolderEntry.{FolderEntry}
use Rattle.decoded_files.specs.DecodedFiles.{decoded, decoded_bytes, is_asked}

abbrev Told : Type 0
Told = List ℕ → Option (List ℕ)

abbrev decoded_file : Told → File → File
decoded_file told file = record file { bytes = decoded_bytes told file }

-- the bytes of a file at a path
abbrev bytes_for : Told → List ℕ → List ℕ → List ℕ
bytes_for told path bytes = if is_asked path then unwrap_or (told path) bytes else bytes

first_at : (told : Told) (file : File) (path : List ℕ) (b : Bool) (rest rest' : Option File) → bytes_eq file.path path ≡ b
    → option_map (λ (f : File). f.bytes) rest' ≡ option_map (bytes_for told path) (option_map (λ (f : File). f.bytes) rest)
    → option_map (λ (f : File). f.bytes) (cond b (Some (decoded_file told file)) rest')
    ≡ option_map (bytes_for told path) (option_map (λ (f : File). f.bytes) (cond b (Some file) rest))
first_at told file path true rest rest' same more =
    ap (λ p. Some (bytes_for told p file.bytes)) ((bytes_decides file.path path).0 same)
first_at told file path false rest rest' same more = more

pub bytes_at-decoded : (told : Told) (files : List File) (path : List ℕ)
    → bytes_at (decoded told files) path ≡ option_map (bytes_for told path) (bytes_at files path)
bytes_at-decoded told [] path = refl
bytes_at-decoded told (file ∷ files) path = first_at told file path (bytes_eq file.path path) (find (λ (f : File). bytes_eq f.path path) files)
    (find (λ (f : File). bytes_eq f.path path) (decoded told files)) refl (bytes_at-decoded told files path)

pub has_first-decoded : (told : Told) (files : List File) (folder name : List ℕ) (is_folder : Bool)
    → has_first (decoded told files) folder name is_folder ≡ has_first files folder name is_folder
has_first-decoded told [] folder name is_folder = refl
has_first-decoded told (file ∷ files) folder name is_folder =
    ap (λ b. begins_with name is_folder (behind folder file.path) || b) (has_first-decoded told files folder name is_folder)

IsListing-decoded : (told : Told) (files : List File) (folder : List ℕ) (entries : List FolderEntry)
    → IsListing files folder entries → IsListing (decoded told files) folder entries
IsListing-decoded told files folder entries listing = record {
  names = listing.names;
  each = λ name named is_folder. listing.each name named is_folder ∙ sym (has_first-decoded told files folder name is_folder);
  once = listing.once;
}

pub listed_too : {E A : Type 0} (r : Result (Option (Vec FolderEntry A)) E) (told : Told) (files : List File) (folder : List ℕ)
    → IfOk r (λ listing. IsListing files folder (entries_of listing))
    → IfOk r (λ listing. IsListing (decoded told files) folder (entries_of listing))
listed_too (Ok listing) told files folder h = IsListing-decoded told files folder (entries_of listing) h
listed_too (Err e) told files folder h = tt

pub no_file_too : {E A : Type 0} (r : Result (Option (Vec FolderEntry A)) E) (told : Told) (files : List File) (folder : List ℕ)
    → IfOk r (IsNoFile files folder) → IfOk r (IsNoFile (decoded told files) folder)
no_file_too (Ok None) told files folder h = tt
no_file_too (Ok (Some entries)) told files folder h = λ some. bytes_at-decoded told files folder
    ∙ ap (option_map (bytes_for told folder)) (h some)
no_file_too (Err e) told files folder h = tt

-- a file's stamp is that of the file below it
pub stamp_at-decoded : (told : Told) (files : List File) (path : List ℕ) → stamp_at (decoded told files) path ≡ stamp_at files path
stamp_at-decoded told [] path = refl
stamp_at-decoded told (file ∷ files) path = elim (bytes_eq file.path path) as (λ b. option_map (λ (f : File). f.stamp) (cond b
    (Some (decoded_file told file)) (find (λ (f : File). bytes_eq f.path path) (decoded told files))) ≡ option_map (λ (f : File).
    f.stamp) (cond b (Some file) (find (λ (f : File). bytes_eq f.path path) files))) [
      | true ↦ refl
      | false ↦ stamp_at-decoded told files path
    ]

-- what the folder below has no stamp of, isn't there
pub none_there : (told : Told) (files : List File) (path : List ℕ) (stamp : Option FileStamp) → stamp ≡ stamp_at files path
    → is_none stamp ≡ true → bytes_at (decoded told files) path ≡ None
none_there told files path stamp is none =
    bytes_at-decoded told files path ∙ ap (option_map (bytes_for told path)) (no_file (file_at files path) (ap is_none (sym is) ∙ none))
  where
    no_file : (file : Option File) → is_none (option_map (λ (f : File). f.stamp) file) ≡ true → option_map (λ (f : File). f.bytes) file ≡ None
    no_file None given = refl
    no_file (Some f) given = absurd (cc)

-- what is there, and is told by a decoder
pub told_there : (told : Told) (files : List File) (path wave : List ℕ) (stamp : Option FileStamp) → stamp ≡ stamp_at files path
    → is_none stamp ≡ false → is_asked path ≡ true → told path ≡ Some wave → bytes_at (decoded told files) path ≡ Some wave
told_there told files path wave stamp is some asked tells =
    bytes_at-decoded told files path ∙ a_file (file_at files path) (ap is_none (sym is) ∙ some)
  where
    a_file : (file : Option File) → is_none (option_map (λ (f : File). f.stamp) file) ≡ false
        → option_map (bytes_for told path) (option_map (λ (f : File). f.bytes) file) ≡ Some wave
    a_file None given = absurd (cc)
    a_file (Some f) given = ap Some (rw (asked, tells) refl)

-- what is opened below, where no decoder tells it
pub plain_too : {E X : Type 0} (r : Result (Option X) E) (told : Told) (files files' : List File) (path : List ℕ) (bytes : X → List ℕ)
    (honest : X → Type 0) → files' ≡ files → ((b : List ℕ) → bytes_for told path b ≡ b)
    → IfOk r (λ file. MatchOption file (bytes_at files' path ≡ None) (λ f. (bytes_at files' path ≡ Some (bytes f)) × honest f))
    → IfOk r (λ file. MatchOption file (bytes_at (decoded told files) path ≡ None)
    (λ f. (bytes_at (decoded told files) path ≡ Some (bytes f)) × honest f))
plain_too (Ok None) told files files' path bytes honest same own h =
    bytes_at-decoded told files path ∙ ap (λ l. option_map (bytes_for told path) (bytes_at l path)) (sym same)
    ∙ ap (option_map (bytes_for told path)) h
plain_too (Ok (Some f)) told files files' path bytes honest same own h = (
  bytes_at-decoded told files path ∙ ap (λ l. option_map (bytes_for told path) (bytes_at l path)) (sym same)
      ∙ ap (option_map (bytes_for told path)) h.0 ∙ ap Some (own (bytes f)),
  h.1,
)
plain_too (Err e) told files files' path bytes honest same own h = tt

-- no decoder is asked
pub not_asked : (told : Told) (path b : List ℕ) → is_asked path ≡ false → bytes_for told path b ≡ b
not_asked told path b other = rw other refl

-- the decoder tells nothing
pub not_told : (told : Told) (path b : List ℕ) → told path ≡ None → bytes_for told path b ≡ b
not_told told path b none = by (is_asked path)
  where
    by : (asked : Bool) → cond asked (unwrap_or (told path) b) b ≡ b
    by true = ap (λ w. unwrap_or w b) none
    by false = refl

-- the folder has a decoder
pub decoder_is : {E X : Type 0} (r : Result (Option X) E) (told told' : Told) (files : List File) (path : List ℕ) (bytes : X → List ℕ)
    (honest : X → Type 0) → told' ≡ told
    → IfOk r (λ file. MatchOption file (bytes_at (decoded told files) path ≡ None)
    (λ f. (bytes_at (decoded told files) path ≡ Some (bytes f)) × honest f))
    → IfOk r (λ file. MatchOption file (bytes_at (decoded told' files) path ≡ None)
    (λ f. (bytes_at (decoded told' files) path ≡ Some (bytes f)) × honest f))
decoder_is {X} r told told' files path bytes honest same h =
    subst (λ (t : Told). IfOk r (λ (file : Option X). MatchOption file (bytes_at (decoded t files) path ≡ None)
    (λ f. (bytes_at (decoded t files) path ≡ Some (bytes f)) × honest f))) (sym same) h

-- what a listing tells of the files is what is told of those below it
pub stamped_too : {E A : Type 0} (r : Result (Option (Vec FolderEntry A)) E) (told : Told) (files : List File) (folder : List ℕ)
    → IfOk r (λ listing. AreStamped files folder (entries_of listing))
    → IfOk r (λ listing. AreStamped (decoded told files) folder (entries_of listing))
stamped_too (Ok listing) told files folder h =
    All-weaker (λ (entry : FolderEntry). IsStampAt files (path_in folder (string_bytes entry.name)) entry.stamp)
    (λ (entry : FolderEntry). IsStampAt (decoded told files) (path_in folder (string_bytes entry.name)) entry.stamp)
    (λ entry told_there stamp is. stamp_at-decoded told files (path_in folder (string_bytes entry.name)) ∙ told_there stamp is)
    (entries_of listing) h
stamped_too (Err e) told files folder h = tt
