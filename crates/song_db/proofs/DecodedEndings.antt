-- The endings of decoded files, one after the other.
use Rattle.std.proofs.Common.{◌≡◌, ℕ, ◌+◌, ◌-◌, ◌<◌, ◌≤◌, Bool, true, false, ◌||◌, List, [], ◌∷◌, length, drop, map, get_or, refl, sym, ap, ◌∙◌, arith}
use denote.Ref.{Bor}
use Rattle.std.specs.Char.{to_ascii_lowercase}
use Rattle.std.specs.List.{list_any}
use Rattle.std.specs.Str.{bytes_eq}
use Rattle.std.proofs.lemmas.List.{at_drop_all, drop_more}
use Rattle.song_db.specs.Endings.{decoded_endings, has_ending}

-- the last bytes of a path are the ending, in any case of either
abbrev pub ends_as : List ℕ → List ℕ → Bool
ends_as path ending = bytes_eq (map to_ascii_lowercase (drop (length path - length ending) path)) (map to_ascii_lowercase ending)

abbrev pub ends_lent : List ℕ → Bor (List ℕ) → Bool
ends_lent path ending = ends_as path ending.now

any_shown : (path : List ℕ) (endings : List (Bor (List ℕ))) → list_any (ends_lent path) endings ≡ list_any (ends_as path) (map (λ e. e.now) endings)
any_shown path [] = refl
any_shown path (e ∷ es) = ap (λ b. ends_as path e.now || b) (any_shown path es)

in_small_letters : (path : List ℕ) → list_any (ends_as path) decoded_endings ≡ list_any (has_ending path) decoded_endings
in_small_letters path = refl

-- the endings that are left decide
pub begins : (path : List ℕ) (endings : List (Bor (List ℕ))) → map (λ e. e.now) endings ≡ decoded_endings
    → list_any (ends_lent path) (drop 0 endings) ≡ list_any (has_ending path) decoded_endings
begins path [] is = any_shown path [] ∙ ap (list_any (ends_as path)) is ∙ in_small_letters path
begins path (e ∷ es) is = any_shown path (e ∷ es) ∙ ap (list_any (ends_as path)) is ∙ in_small_letters path

next_of : (path : List ℕ) (endings : List (Bor (List ℕ))) (i : ℕ) (d : Bor (List ℕ)) → i < length endings
    → list_any (ends_lent path) (drop i endings) ≡ (ends_lent path (get_or endings i d) || list_any (ends_lent path) (drop (i + 1) endings))
next_of path endings i d within = ap (list_any (ends_lent path)) (drop_more endings i d within)

pub found : (path : List ℕ) (endings : List (Bor (List ℕ))) (i : ℕ) (d : Bor (List ℕ)) (ending : List ℕ) (all : Bool) → i < length endings
    → ending ≡ (get_or endings i d).now → ends_as path ending ≡ true → list_any (ends_lent path) (drop i endings) ≡ all → true ≡ all
found path endings i d ending all within is own left =
    let ends : ends_lent path (get_or endings i d) ≡ true = ap (ends_as path) (sym is) ∙ own in
    rw ends at (sym (next_of path endings i d within)) ∙ left

pub passed : (path : List ℕ) (endings : List (Bor (List ℕ))) (i : ℕ) (d : Bor (List ℕ)) (ending : List ℕ) (all : Bool) → i < length endings
    → ending ≡ (get_or endings i d).now → ends_as path ending ≡ false → list_any (ends_lent path) (drop i endings) ≡ all
    → list_any (ends_lent path) (drop (i + 1) endings) ≡ all
passed path endings i d ending all within is own left =
    let ends : ends_lent path (get_or endings i d) ≡ false = ap (ends_as path) (sym is) ∙ own in
    rw ends at (sym (next_of path endings i d within)) ∙ left

pub none : (path : List ℕ) (endings : List (Bor (List ℕ))) (i : ℕ) (all : Bool) → length endings ≤ i
    → list_any (ends_lent path) (drop i endings) ≡ all → false ≡ all
none path endings i all past left = sym (at_drop_all (list_any (ends_lent path)) endings i past) ∙ left
