-- The files of a folder as what they stand for.
use Rattle.std.proofs.Common.{◌≡◌, ℕ, List, [], ◌∷◌, ap, ◌∙◌, sym, refl, Some, None, Bool, true, false, cond, IfOk, Ok, Err, subst}
use Rattle.std.specs.Prelude.{Option, Result, option_map, ◌||◌}
use Rattle.std.specs.List.{find}
use Rattle.std.proofs.lemmas.List.Elements.{All-head, All-tail, All-weaker}
use Rattle.std.specs.Str.{bytes_eq}
use Rattle.std.specs.String.{string_bytes}
use Rattle.std.specs.declared.vec.Vec.{Vec}
use Rattle.song_files.specs.Folder.{File, bytes_at, stamp_at}
use Rattle.song_files.specs.Listing.{AreStamped, IsListing, IsNoFile, IsStampAt, has_first, begins_with, behind, entries_of, path_in}
use Rattle.song_files.specs.declared.folder.FolderEntry.{FolderEntry}
use Rattle.as_wave.specs.Forms.{as_wave, waves_of, IsPlain, ArePlain}
use Rattle.as_wave.specs.declared.forms.Forms.{Forms}

abbrev wave_file : Forms → File → File
wave_file forms file = record file { bytes = as_wave forms file.bytes }

pub bytes_at-waves_of : (forms : Forms) (files : List File) (path : List ℕ)
    → bytes_at (waves_of forms files) path ≡ option_map (as_wave forms) (bytes_at files path)
bytes_at-waves_of forms [] path = refl
bytes_at-waves_of forms (file ∷ files) path = elim (bytes_eq file.path path) as (λ b. option_map (λ (f : File). f.bytes) (cond b
    (Some (wave_file forms file)) (find (λ (f : File). bytes_eq f.path path) (waves_of forms files))) ≡ option_map (as_wave forms)
    (option_map (λ (f : File). f.bytes) (cond b (Some file) (find (λ (f : File). bytes_eq f.path path) files)))) [
      | true ↦ refl
      | false ↦ bytes_at-waves_of forms files path
    ]

pub has_first-waves_of : (forms : Forms) (files : List File) (folder name : List ℕ) (is_folder : Bool)
    → has_first (waves_of forms files) folder name is_folder ≡ has_first files folder name is_folder
has_first-waves_of forms [] folder name is_folder = refl
has_first-waves_of forms (file ∷ files) folder name is_folder =
    ap (λ b. begins_with name is_folder (behind folder file.path) || b) (has_first-waves_of forms files folder name is_folder)

IsListing-waves_of : (forms : Forms) (files : List File) (folder : List ℕ) (entries : List FolderEntry)
    → IsListing files folder entries → IsListing (waves_of forms files) folder entries
IsListing-waves_of forms files folder entries listing = record {
  names = listing.names;
  each = λ name named is_folder. listing.each name named is_folder ∙ sym (has_first-waves_of forms files folder name is_folder);
  once = listing.once;
}

pub listed_too : {E A : Type 0} (r : Result (Option (Vec FolderEntry A)) E) (forms : Forms) (files : List File) (folder : List ℕ)
    → IfOk r (λ listing. IsListing files folder (entries_of listing))
    → IfOk r (λ listing. IsListing (waves_of forms files) folder (entries_of listing))
listed_too (Ok listing) forms files folder h = IsListing-waves_of forms files folder (entries_of listing) h
listed_too (Err e) forms files folder h = tt

pub no_file_too : {E A : Type 0} (r : Result (Option (Vec FolderEntry A)) E) (forms : Forms) (files : List File) (folder : List ℕ)
    → IfOk r (IsNoFile files folder) → IfOk r (IsNoFile (waves_of forms files) folder)
no_file_too (Ok None) forms files folder h = tt
no_file_too (Ok (Some entries)) forms files folder h = λ some. bytes_at-waves_of forms files folder
    ∙ ap (option_map (as_wave forms)) (h some)
no_file_too (Err e) forms files folder h = tt

pub none_opened : (forms : Forms) (files : List File) (path : List ℕ) → bytes_at files path ≡ None → bytes_at (waves_of forms files) path ≡ None
none_opened forms files path none = bytes_at-waves_of forms files path ∙ ap (option_map (as_wave forms)) none

pub some_opened : (forms : Forms) (files : List File) (path bytes now : List ℕ) → bytes_at files path ≡ Some bytes
    → now ≡ as_wave forms bytes → bytes_at (waves_of forms files) path ≡ Some now
some_opened forms files path bytes now found same = bytes_at-waves_of forms files path ∙ ap (option_map (as_wave forms)) found
    ∙ ap Some (sym same)

-- a file's stamp is that of the file below it
pub stamp_at-waves_of : (forms : Forms) (files : List File) (path : List ℕ) → stamp_at (waves_of forms files) path ≡ stamp_at files path
stamp_at-waves_of forms [] path = refl
stamp_at-waves_of forms (file ∷ files) path = elim (bytes_eq file.path path) as (λ b. option_map (λ (f : File). f.stamp) (cond b
    (Some (wave_file forms file)) (find (λ (f : File). bytes_eq f.path path) (waves_of forms files))) ≡ option_map (λ (f : File).
    f.stamp) (cond b (Some file) (find (λ (f : File). bytes_eq f.path path) files))) [
      | true ↦ refl
      | false ↦ stamp_at-waves_of forms files path
    ]

plain_chosen : (forms : Forms) (file : File) (b : Bool) (rest : Option File) (bytes : List ℕ) → IsPlain forms file.bytes
    → (option_map (λ (f : File). f.bytes) rest ≡ Some bytes → IsPlain forms bytes)
    → option_map (λ (f : File). f.bytes) (cond b (Some file) rest) ≡ Some bytes → IsPlain forms bytes
plain_chosen forms file true rest bytes here more found = let e : file.bytes ≡ bytes = cc in subst (λ (bs : List ℕ). IsPlain forms bs) e here
plain_chosen forms file false rest bytes here more found = more found

-- a file of those that are plain
pub plain_at : (forms : Forms) (files : List File) (path bytes : List ℕ) → ArePlain forms files → bytes_at files path ≡ Some bytes
    → IsPlain forms bytes
plain_at forms [] path bytes each found = absurd (cc)
plain_at forms (file ∷ files) path bytes each found =
    plain_chosen forms file (bytes_eq file.path path) (find (λ (f : File). bytes_eq f.path path) files) bytes
    (All-head (λ (f : File). IsPlain forms f.bytes) file files each)
    (plain_at forms files path bytes (All-tail (λ (f : File). IsPlain forms f.bytes) file files each)) found

-- what a listing tells of the files is what is told of those below it
pub stamped_too : {E A : Type 0} (r : Result (Option (Vec FolderEntry A)) E) (forms : Forms) (files : List File) (folder : List ℕ)
    → IfOk r (λ listing. AreStamped files folder (entries_of listing))
    → IfOk r (λ listing. AreStamped (waves_of forms files) folder (entries_of listing))
stamped_too (Ok listing) forms files folder h =
    All-weaker (λ (entry : FolderEntry). IsStampAt files (path_in folder (string_bytes entry.name)) entry.stamp)
    (λ (entry : FolderEntry). IsStampAt (waves_of forms files) (path_in folder (string_bytes entry.name)) entry.stamp)
    (λ entry told_there stamp is. stamp_at-waves_of forms files (path_in folder (string_bytes entry.name)) ∙ told_there stamp is)
    (entries_of listing) h
stamped_too (Err e) forms files folder h = tt
