-- The first entry that passes for one of the names, one name after the other.
use Rattle.std.proofs.Common.{◌≡◌, ℕ, ◌+◌, ◌<◌, ◌≤◌, Bool, true, false, List, length, drop, get_or, Some, None, refl, sym, ap, ◌∙◌}
use Rattle.std.specs.Prelude.{Option, is_some, option_copied}
use Rattle.std.specs.List.{find}
use Rattle.std.specs.Option.{option_or}
use Rattle.std.proofs.lemmas.List.{at_drop_more, at_drop_all}
use denote.Ref.{Bor}
use Rattle.song_files.specs.declared.folder.FolderEntry.{FolderEntry}
use Rattle.covers.specs.AlbumNames.{first_named, names_of}

-- what these names give
abbrev pub given : (List ℕ → FolderEntry → Bool) → List FolderEntry → List (Bor (List ℕ)) → Option FolderEntry
given test entries names = first_named test entries (names_of names)

or_some : {X : Type 0} (found : Option (Bor X)) (rest : Option X) → is_some found ≡ true
    → option_or (option_copied found) rest ≡ option_copied found
or_some None rest some = absurd (cc)
or_some (Some x) rest some = refl

or_none : {X : Type 0} (found : Option (Bor X)) (rest : Option X) → is_some found ≡ false → option_or (option_copied found) rest ≡ rest
or_none None rest none = refl
or_none (Some x) rest none = absurd (cc)

pub name_found : (test : List ℕ → FolderEntry → Bool) (entries : List FolderEntry) (names : List (Bor (List ℕ))) (i : ℕ)
    (d : Bor (List ℕ)) (found : Option (Bor FolderEntry)) (all : Option FolderEntry) → i < length names
    → (let n = get_or names i d in option_copied found ≡ find (test n.now) entries) → is_some found ≡ true
    → given test entries (drop i names) ≡ all → option_copied found ≡ all
name_found test entries names i d found all within is some left =
    let rest = given test entries (drop (i + 1) names) in
    sym (or_some found rest some) ∙ ap (λ o. option_or o rest) is ∙ sym (at_drop_more (given test entries) names i d within) ∙ left

pub name_passed : (test : List ℕ → FolderEntry → Bool) (entries : List FolderEntry) (names : List (Bor (List ℕ))) (i : ℕ)
    (d : Bor (List ℕ)) (found : Option (Bor FolderEntry)) (all : Option FolderEntry) → i < length names
    → (let n = get_or names i d in option_copied found ≡ find (test n.now) entries) → is_some found ≡ false
    → given test entries (drop i names) ≡ all → given test entries (drop (i + 1) names) ≡ all
name_passed test entries names i d found all within is none left =
    let rest = given test entries (drop (i + 1) names) in
    sym (or_none found rest none) ∙ ap (λ o. option_or o rest) is ∙ sym (at_drop_more (given test entries) names i d within) ∙ left

pub names_begin : (test : List ℕ → FolderEntry → Bool) (entries : List FolderEntry) (names : List (Bor (List ℕ)))
    (table : List (List ℕ)) → names_of names ≡ table → given test entries names ≡ first_named test entries table
names_begin test entries names table same = ap (first_named test entries) same

pub names_end : (test : List ℕ → FolderEntry → Bool) (entries : List FolderEntry) (names : List (Bor (List ℕ))) (i : ℕ)
    (all : Option FolderEntry) → length names ≤ i → given test entries (drop i names) ≡ all → None ≡ all
names_end test entries names i all past left = sym (at_drop_all (given test entries) names i past) ∙ left
