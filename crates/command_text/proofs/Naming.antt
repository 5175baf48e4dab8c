-- Laws of the names of commands. None lists the commands: where a first case stands beside one of all others, each is checked by itself.
use Rattle.std.proofs.Common.{◌≡◌, zero, suc, not, ◌&&◌, is_lt, map, slice_index_or, ◌+◌, ◌<◌, ◌≤◌, ℕ, List, [], ◌∷◌, length, Bool, true}
use Rattle.std.proofs.Common.{false, cond, if◌then◌else◌, Option, Some, None, refl, sym, subst, ◌∙◌, ap, arith, find, Contains, get_or}
use Rattle.std.proofs.lemmas.List.Elements.{Contains-append_right}
use Rattle.std.proofs.lemmas.List.{get_or-map, length-map}
use Rattle.std.proofs.lemmas.Option.{same_Some, none-some}
use Rattle.std.proofs.lemmas.Slice.Eq.{bytes_eq-Decides}
use Rattle.std.specs.Str.{bytes_eq}
use Rattle.std.specs.Cmp.Lexicographic.{slice_cmp}
use Rattle.std.specs.Ordering.{nat_cmp}
use Rattle.command_text.specs.declared.name.CommandName.{CommandName}
use Rattle.command_text.specs.declared.name.CommandName.TheVariants as names
use Rattle.profile.specs.declared.profile.Profile.{Profile}
use Rattle.command_text.specs.Names.{name_text, all_names, any_named, is_known, known, named, place_of}

pub is_found : (name : CommandName) → any_named (name_text name) ≡ Some name
unfolding any_named
is_found names.Add = refl
is_found other = refl

-- what is found in a list stands there, and passes
found_at : (test : CommandName → Bool) (names : List CommandName) (x name : CommandName) (b : Bool) → test x ≡ b
    → cond b (Some x) (find test names) ≡ Some name
    → (find test names ≡ Some name → Contains names name × (test name ≡ true)) → Contains (x ∷ names) name × (test name ≡ true)
found_at test names x name true h e later =
    (subst (Contains (x ∷ names)) (same_Some x name e) (0, omega arith, refl), ap test (sym (same_Some x name e)) ∙ h)
found_at test names x name false h e later =
    let rest : Contains names name × (test name ≡ true) = later e in (Contains-append_right (x ∷ []) names name rest.0, rest.1)

found_in : (test : CommandName → Bool) (names : List CommandName) (name : CommandName) → find test names ≡ Some name
    → Contains names name × (test name ≡ true)
found_in test [] name e = absurd (none-some name e)
found_in test (x ∷ names) name e = found_at test names x name (test x) refl e (found_in test names name)

pub is_listed : (name : CommandName) → Contains all_names name
unfolding any_named
is_listed name = (found_in (λ n. bytes_eq (name_text name) (name_text n)) all_names name (is_found name)).0

pub only_its_name : (word : List ℕ) (name : CommandName) → any_named word ≡ Some name → name_text name ≡ word
unfolding any_named
only_its_name word name e =
    sym ((bytes_eq-Decides word (name_text name)).0 (found_in (λ n. bytes_eq word (name_text n)) all_names name e).1)

-- a name that the profile knows
known_is : (profile : Profile) (found : Option CommandName) (name : CommandName) → found ≡ Some name → is_known profile name ≡ true
    → known profile found ≡ Some name
known_is profile found name e h = rw e (rw h refl)

pub is_found_known : (profile : Profile) (name : CommandName) → is_known profile name ≡ true → named profile (name_text name) ≡ Some name
is_found_known profile name h = known_is profile (any_named (name_text name)) name (is_found name) h

known_only : (profile : Profile) (found : Option CommandName) (name : CommandName) → known profile found ≡ Some name
    → (found ≡ Some name) × (is_known profile name ≡ true)
known_only profile None name e = absurd (none-some name e)
known_only profile (Some other) name e = by_cases (is_known profile other) refl e where
  by_cases : (b : Bool) → is_known profile other ≡ b → (if b then Some other else None) ≡ Some name
      → (Some other ≡ Some name) × (is_known profile name ≡ true)
  by_cases true h e = (e, ap (is_known profile) (sym (same_Some other name e)) ∙ h)
  by_cases false h e = absurd (none-some name e)

pub only_its_known_name : (profile : Profile) (word : List ℕ) (name : CommandName) → named profile word ≡ Some name
    → (name_text name ≡ word) × (is_known profile name ≡ true)
only_its_known_name profile word name e =
    let found = known_only profile (any_named word) name e in
    (only_its_name word name found.0, found.1)

pub name_fits : (name : CommandName) → length (name_text name) ≤ 21
name_fits names.Add = omega arith
name_fits other = omega arith

-- each text is below the next
abbrev is_rising : List (List ℕ) → Bool
is_rising [] = true
is_rising (x ∷ []) = true
is_rising (x ∷ y ∷ rest) = not (is_lt (slice_cmp nat_cmp y x)) && is_rising (y ∷ rest)

both : (a b : Bool) → (not a && b) ≡ true → (a ≡ false) × (b ≡ true)
both true b e = cc
both false b e = (refl, e)

rising_at : (l : List (List ℕ)) (k : ℕ) (d : List ℕ) → is_rising l ≡ true → k + 1 < length l
    → is_lt (slice_cmp nat_cmp (slice_index_or l (k + 1) d) (slice_index_or l k d)) ≡ false
rising_at [] k d e lt = absurd (omega arith)
rising_at (x ∷ []) k d e lt = absurd (omega arith)
rising_at (x ∷ y ∷ rest) zero d e lt = (both _ _ e).0
rising_at (x ∷ y ∷ rest) (suc k) d e lt =
    let next : k + 1 + 1 ≡ suc k + 1 = omega arith in
    ap (λ (n : ℕ). is_lt (slice_cmp nat_cmp (slice_index_or (x ∷ y ∷ rest) n d) (slice_index_or (y ∷ rest) k d))) (sym next)
    ∙ rising_next x (y ∷ rest) k d (rising_at (y ∷ rest) k d (both _ _ e).1 (omega arith))
  where
    rising_next : (x : List ℕ) (l : List (List ℕ)) (k : ℕ) (d : List ℕ)
        → is_lt (slice_cmp nat_cmp (slice_index_or l (k + 1) d) (slice_index_or l k d)) ≡ false
        → is_lt (slice_cmp nat_cmp (slice_index_or (x ∷ l) (k + 1 + 1) d) (slice_index_or l k d)) ≡ false
    rising_next x l k d h =
        let next : suc (k + 1) ≡ k + 1 + 1 = omega arith in
        ap (λ (n : ℕ). is_lt (slice_cmp nat_cmp (slice_index_or (x ∷ l) n d) (slice_index_or l k d))) (sym next) ∙ h

names_rise : is_rising (map name_text all_names) ≡ true
names_rise = refl

pub are_rising : (k : ℕ) (d : List ℕ) → k + 1 < length (map name_text all_names)
    → is_lt (slice_cmp nat_cmp (slice_index_or (map name_text all_names) (k + 1) d) (slice_index_or (map name_text all_names) k d)) ≡ false
are_rising k d lt = rising_at (map name_text all_names) k d names_rise lt

-- where a name stands in the table
pub stands_at : (name : CommandName) → get_or all_names (place_of name) name ≡ name
stands_at names.Add = refl
stands_at other = refl

pub stands_within : (name : CommandName) → place_of name < length all_names
stands_within names.Add = omega arith
stands_within other = omega arith

pub itself : (names : List CommandName) → map (λ name. name) names ≡ names
itself [] = refl
itself (name ∷ names) = ap (λ rest. name ∷ rest) (itself names)

-- a part of the row at a place, and of the row of a name
pub part_at : {X Y : Type 0} (rows : List X) (part : X → Y) (of : CommandName → Y) (place : ℕ) (d : X) (e : CommandName)
    → map part rows ≡ map of all_names → place < length all_names → part (get_or rows place d) ≡ of (get_or all_names place e)
part_at rows part of place d e same below =
    let within : place < length rows = omega (arith, below, length-map rows part, ap length same, length-map all_names of) in
    sym (get_or-map part rows place d (part d) within) ∙ ap (λ l. get_or l place (part d)) same
    ∙ get_or-map of all_names place e (part d) below

pub part_of : {X Y : Type 0} (rows : List X) (part : X → Y) (of : CommandName → Y) (name : CommandName) (d : X)
    → map part rows ≡ map of all_names → part (get_or rows (place_of name) d) ≡ of name
part_of rows part of name d same =
    part_at rows part of (place_of name) d name same (stands_within name) ∙ ap of (stands_at name)
