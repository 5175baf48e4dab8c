-- The picture that is chosen for a question among those that are open.
use Rattle.std.proofs.Common.{◌≡◌, ℕ, Bool, true, List, Some, refl, sym, subst}
use Rattle.std.specs.declared.option.Option.{Option}
use Rattle.std.specs.List.{find, remove}
use Rattle.std.specs.Str.{bytes_eq}
use Rattle.std.specs.String.{string_bytes}
use Rattle.std.proofs.lemmas.Bool.{and_parts, false≢true}
use Rattle.std.proofs.lemmas.Slice.Eq.{bytes_eq-Decides}
use Rattle.song_files.specs.Folder.{File}
use Rattle.covers.specs.Asked.{AskedPicture, same_kind}
use Rattle.covers.specs.declared.kind.PictureKind.{PictureKind}
use Rattle.covers.specs.declared.kind.PictureKind.TheVariants.{Album, Inside}
use Rattle.picture_reader.specs.Kept.{is_asked, AreOpen, AreSteady, IsChosen, IsKept, IsKeptAs}
use Rattle.picture_reader.specs.declared.kept.KeptPicture.{KeptPicture}
use Rattle.picture_reader.proofs.KeptLists.{one_of_all, all_removed}

kind_is : (kind other : PictureKind) → same_kind kind other ≡ true → kind ≡ other
kind_is Album Album same = refl
kind_is Album Inside same = absurd (false≢true same)
kind_is Inside Album same = absurd (false≢true same)
kind_is Inside Inside same = refl

-- one that is open and is asked for
pub chosen_open : {S : Type 0} (bytes : S → List ℕ) (honest : S → Type 0) (files : List File) (ask : AskedPicture)
    (pictures : List (KeptPicture S)) (test : KeptPicture S → Bool) (kept : KeptPicture S) → find test pictures ≡ Some kept
    → is_asked ask kept ≡ true → AreOpen bytes honest files pictures → IsKeptAs bytes honest files ask kept
chosen_open bytes honest files ask pictures test kept found asked all =
    let parts = and_parts (same_kind kept.kind ask.kind) (bytes_eq (string_bytes kept.uri) ask.uri) asked in
    record {
      kind = kind_is kept.kind ask.kind parts.0;
      uri = (bytes_eq-Decides (string_bytes kept.uri) ask.uri).0 parts.1;
      is = one_of_all (IsKept bytes honest files) test pictures kept found all;
    }

pub chosen_steady : {S : Type 0} (steady : S → Type 0) (pictures : List (KeptPicture S)) (test : KeptPicture S → Bool)
    (kept : KeptPicture S) → find test pictures ≡ Some kept → AreSteady steady pictures → steady kept.picture.source
chosen_steady steady pictures test kept found all = one_of_all (λ k. steady k.picture.source) test pictures kept found all

-- those that are left
pub left_open : {S : Type 0} (bytes : S → List ℕ) (honest : S → Type 0) (files : List File) (pictures left : List (KeptPicture S)) (i : ℕ)
    → left ≡ remove pictures i → AreOpen bytes honest files pictures → AreOpen bytes honest files left
left_open bytes honest files pictures left i is all =
    subst (AreOpen bytes honest files) (sym is) (all_removed (IsKept bytes honest files) pictures i all)

pub left_steady : {S : Type 0} (steady : S → Type 0) (pictures left : List (KeptPicture S)) (i : ℕ) → left ≡ remove pictures i
    → AreSteady steady pictures → AreSteady steady left
left_steady steady pictures left i is all =
    subst (AreSteady steady) (sym is) (all_removed (λ k. steady k.picture.source) pictures i all)

-- the one that was chosen is kept as what it is
pub chosen_is : {S : Type 0} (bytes : S → List ℕ) (honest : S → Type 0) (files : List File) (ask : AskedPicture)
    (chosen : Option (KeptPicture S)) (kept : KeptPicture S) → chosen ≡ Some kept → IsChosen bytes honest files ask chosen
    → IsKept bytes honest files kept
chosen_is bytes honest files ask chosen kept is found =
    let it : IsKeptAs bytes honest files ask kept = subst (IsChosen bytes honest files ask) is found in
    it.is
