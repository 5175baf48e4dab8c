-- A binary search among the names.
use Rattle.std.proofs.Common.{◌≡◌, ℕ, ◌+◌, ◌<◌, ◌≤◌, true, ◌⊎◌, inl, inr, List, [], ◌∷◌, map}
use Rattle.std.proofs.Common.{length, get_or, Contains, Option, Some, None, Err, Bool, false, cond, find}
use Rattle.std.proofs.Common.{refl, sym, ap, ◌∙◌, arith}
use Rattle.std.specs.declared.cmp.Ordering.TheVariants.{Less, Equal, Greater}
use Rattle.std.specs.Cmp.Lexicographic.{slice_cmp, nat_list_cmp_total}
use Rattle.std.specs.List.Sorted.{IsBinarySearchResult, IsSorted, IsSortedBy}
use Rattle.std.specs.Ordering.{nat_cmp, is_eq, is_lt}
use Rattle.std.specs.Str.{bytes_eq}
use Rattle.std.proofs.lemmas.Bool.{cases_lt}
use Rattle.std.proofs.lemmas.List.{get_or-map, length-map}
use Rattle.std.proofs.lemmas.List.Sorted.{searchable_from_sorted}
use Rattle.std.proofs.lemmas.Map.Text.{is_eq-slice_cmp}
use Rattle.std.proofs.lemmas.Slice.Eq.{bytes_eq-Decides}
use Rattle.command_text.specs.declared.name.CommandName.{CommandName}
use Rattle.command_text.specs.Names.{name_text, all_names, any_named}
use Rattle.command_text.proofs.Naming.{are_rising, is_found, is_listed, only_its_name}

-- the name where the search ends
pub found_at : (word : List ℕ) (name : CommandName) → slice_cmp nat_cmp (name_text name) word ≡ Equal → any_named word ≡ Some name
found_at word name e =
    let equal : bytes_eq (name_text name) word ≡ true = sym (is_eq-slice_cmp (name_text name) word) ∙ ap is_eq e in
    let same : name_text name ≡ word = (bytes_eq-Decides (name_text name) word).0 equal in
    ap any_named (sym same) ∙ is_found name

-- items whose texts rise
by_text : {X : Type 0} (text : X → List ℕ) (l : List X) → IsSorted (slice_cmp nat_cmp) (map text l)
    → IsSortedBy (λ one other. is_lt (slice_cmp nat_cmp (text one) (text other))) l
by_text text l sorted k d low lt =
    let mapped = sorted k (text d) low (rw (length-map l text) lt) in
    rw (← get_or-map text l (k + 1) d (text d) lt, ← get_or-map text l k d (text d) (omega (arith, lt))) mapped

-- no row of the name stands where the search ends between two
none_between : {X : Type 0} (name_of : X → CommandName) (l : List X) (word : List ℕ) (i : ℕ) (name : CommandName)
    → IsSorted (slice_cmp nat_cmp) (map (λ x. name_text (name_of x)) l)
    → IsBinarySearchResult (λ x. slice_cmp nat_cmp (name_text (name_of x)) word) l (Err i) → Contains (map name_of l) name
    → name_text name ≡ word → ⊥
none_between name_of [] word i name sorted split at text = absurd (omega (arith, at.1))
none_between {X = X} name_of (first ∷ rest) word i name sorted split at text =
    let l : List X = first ∷ rest in
    let text_of : X → List ℕ = λ x. name_text (name_of x) in
    let parts = split (searchable_from_sorted nat_list_cmp_total text_of l word (by_text text_of l sorted)) in
    let within : at.0 < length l = omega (arith, at.1, length-map l name_of) in
    let here : text_of (get_or l at.0 first) ≡ word = ap name_text (sym (get_or-map name_of l at.0 first name within) ∙ at.2) ∙ text in
    let same : bytes_eq (text_of (get_or l at.0 first)) word ≡ true = (bytes_eq-Decides (text_of (get_or l at.0 first)) word).1 here in
    elsewhere at.0 (cases_lt at.0 i) (parts.0) (parts.1) within (is_eq-slice_cmp (text_of (get_or l at.0 first)) word ∙ same)
  where
    elsewhere : (k : ℕ) → (k < i) ⊎ (i ≤ k)
        → ((k : ℕ) (d : X) → 0 ≤ k → k < i → slice_cmp nat_cmp (name_text (name_of (get_or (first ∷ rest) k d))) word ≡ Less)
        → ((k : ℕ) (d : X) → i ≤ k → k < length (first ∷ rest)
        → slice_cmp nat_cmp (name_text (name_of (get_or (first ∷ rest) k d))) word ≡ Greater)
        → k < length (first ∷ rest) → is_eq (slice_cmp nat_cmp (name_text (name_of (get_or (first ∷ rest) k first))) word) ≡ true → ⊥
    elsewhere k (inl front) less greater below equal = let no = ap is_eq (less k first (omega arith) front) in cc
    elsewhere k (inr back) less greater below equal = let no = ap is_eq (greater k first back below) in cc

map_twice : {X Y Z : Type 0} (f : X → Y) (g : Y → Z) (l : List X) → map (λ x. g (f x)) l ≡ map g (map f l)
map_twice f g [] = refl
map_twice f g (x ∷ l) = ap (λ t. g (f x) ∷ t) (map_twice f g l)

pub none_found : {X : Type 0} (name_of : X → CommandName) (rows : List X) (word : List ℕ) (i : ℕ) → map name_of rows ≡ all_names
    → IsBinarySearchResult (λ x. slice_cmp nat_cmp (name_text (name_of x)) word) rows (Err i) → any_named word ≡ None
none_found name_of rows word i same split = decided (any_named word) refl
  where
    decided : (found : Option CommandName) → any_named word ≡ found → any_named word ≡ None
    decided None e = e
    decided (Some name) e =
        let sorted : IsSorted (slice_cmp nat_cmp) (map (λ x. name_text (name_of x)) rows) =
        rw (map_twice name_of name_text rows, same) (λ k d low lt. are_rising k d lt) in
        let listed : Contains (map name_of rows) name = rw same (is_listed name) in
        absurd (none_between name_of rows word i name sorted split listed (only_its_name word name e))

-- what is found in a list whose first one passes, or doesn't
pub find_next : {X : Type 0} (test : X → Bool) (x : X) (all rest : List X) → all ≡ x ∷ rest → test x ≡ false
    → find test all ≡ find test rest
find_next test x all rest parts fails = ap (find test) parts ∙ ap (λ b. cond b (Some x) (find test rest)) fails

pub find_here : {X : Type 0} (test : X → Bool) (x : X) (all rest : List X) → all ≡ x ∷ rest → test x ≡ true → find test all ≡ Some x
find_here test x all rest parts passes = ap (find test) parts ∙ ap (λ b. cond b (Some x) (find test rest)) passes
