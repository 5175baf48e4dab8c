-- The rows in a job's place: the song of that very URI, and then those below it.
use Rattle.std.proofs.Common.{◌≡◌, ℕ, Bool, true, false, ◌&&◌, List, [], ◌∷◌, ◌++◌, map, Some, None}
use Rattle.std.proofs.Common.{nat_eq, nat_lt, filter, refl, sym, ap, ◌∙◌, arith}
use Rattle.std.specs.Prelude.{Option, option_to_list}
use Rattle.std.specs.List.Sorted.{IsStrictlySortedBy}
use Rattle.std.specs.declared.cmp.Ordering.TheVariants.{Less, Equal}
use Rattle.std.specs.Cmp.Lexicographic.{nat_list_eq_equiv, nat_list_cmp_total}
use Rattle.std.specs.Str.{bytes_eq}
use Rattle.std.proofs.lemmas.Cmp.{tied_itself}
use Rattle.std.proofs.lemmas.Bool.Decides.{nat_tests}
use Rattle.std.proofs.lemmas.List.{map-append}
use Rattle.std.proofs.lemmas.List.Kept.{IsStrictlySortedBy-filter}
use Rattle.std.proofs.lemmas.Map.Keys.{sorted_head, sorted_tail}
use Rattle.std.proofs.lemmas.Slice.Eq.{bytes_eq-Decides}
use Rattle.song_db.specs.declared.known_song.KnownSong.{KnownSong}
use Rattle.song_db.specs.declared.rules.LibraryRules.{LibraryRules}
use Rattle.song_db.specs.Known.{known_in, known_song}
use Rattle.song_db.specs.Music.{uris_of}
use Rattle.song_db.specs.Order.{AreKnown}
use Rattle.song_db.specs.Place.{is_below}
use Rattle.song_db.specs.Replaced.{by_text, IsRising}
use Rattle.song_db.specs.Row.{Row, row_uri, row_at}
use Rattle.song_db.specs.Scan.{is_in}
use Rattle.song_db.proofs.Batches.{AreBehind, behind_trans}
use Rattle.song_db.proofs.Below.{begins_below, below-bytes}
use Rattle.song_db.proofs.Folders.{filter_all}
use Rattle.song_db.proofs.Rising.{texts}
use Rattle.song_db.proofs.Turns.{none_behind}

-- what stands below a folder stands behind it
begins_behind : (folder path : List ℕ) → begins_below folder path ≡ true → texts folder path ≡ Less
begins_behind [] [] h = absurd (cc)
begins_behind [] (y ∷ ys) h = refl
begins_behind (x ∷ xs) [] h = absurd (cc)
begins_behind (x ∷ xs) (y ∷ ys) h = by_cases (nat_eq x y) refl h (begins_behind xs ys)
  where
    by_cases : (b : Bool) → nat_eq x y ≡ b → (b && begins_below xs ys) ≡ true → (begins_below xs ys ≡ true → texts xs ys ≡ Less)
        → texts (x ∷ xs) (y ∷ ys) ≡ Less
    by_cases true same rest more =
        let equal : x ≡ y = grind (arith, nat_tests) in
        let low : nat_lt x y ≡ false = grind (arith, nat_tests) in
        rw (low, same) (more rest)
    by_cases false other rest more = absurd (cc)

pub below_behind : (folder path : List ℕ) → is_below folder path ≡ true → texts folder path ≡ Less
below_behind folder path below = begins_behind folder path (sym (below-bytes folder path) ∙ below)

equal_less : (a b : List ℕ) → a ≡ b → texts a b ≡ Less → ⊥
equal_less a b same less =
    let tied : texts a b ≡ Equal = ap (texts a) (sym same) ∙ tied_itself nat_list_cmp_total a in
    cc

pub own_first : (uri : List ℕ) (rows : List Row) → IsRising row_uri rows
    → filter (λ row. is_in (Some uri) row.uri) rows ≡ option_to_list (row_at rows uri) ++ filter (λ row. is_below uri row.uri) rows
own_first uri [] rising = refl
own_first uri (x ∷ xs) rising = by_cases (bytes_eq uri x.uri) refl (is_below uri x.uri) refl (own_first uri xs (sorted_tail
    (by_text row_uri) x xs rising))
  where
    behind : AreBehind row_uri x.uri xs
    behind = sorted_head (by_text row_uri) x xs rising

    swapped : (b : Bool) → bytes_eq uri x.uri ≡ b → bytes_eq x.uri uri ≡ b
    swapped b h = nat_list_eq_equiv.symm x.uri uri ∙ h

    by_cases : (e : Bool) → bytes_eq uri x.uri ≡ e → (b : Bool) → is_below uri x.uri ≡ b
        → filter (λ row. is_in (Some uri) row.uri) xs ≡ option_to_list (row_at xs uri) ++ filter (λ row. is_below uri row.uri) xs
        → filter (λ row. is_in (Some uri) row.uri) (x ∷ xs) ≡ option_to_list (row_at (x ∷ xs) uri) ++ filter (λ row. is_below uri
        row.uri) (x ∷ xs)
    by_cases true h true k rest =
        let same : uri ≡ x.uri = (bytes_eq-Decides uri x.uri).0 h in
        let less : texts uri x.uri ≡ Less = below_behind uri x.uri k in
        absurd (equal_less uri x.uri same less)
    by_cases true h false k rest =
        let same : uri ≡ x.uri = (bytes_eq-Decides uri x.uri).0 h in
        let none : row_at xs uri ≡ None = none_behind uri xs (rw same behind) in
        rw (swapped true h, h, k) (ap (λ l. x ∷ l) (rest ∙ rw none refl))
    by_cases false h true k rest =
        let none : row_at xs uri ≡ None = none_behind uri xs (behind_trans row_uri uri x.uri xs (below_behind uri x.uri k) behind) in
        rw (swapped false h, h, k, none) (ap (λ l. x ∷ l) (rest ∙ rw none refl))
    by_cases false h false k rest = rw (swapped false h, h, k) rest

behind_map : (key : List ℕ) (rows : List Row) → AreBehind row_uri key rows → AreBehind (λ uri. uri) key (map row_uri rows)
behind_map key [] behind = tt
behind_map key (x ∷ xs) behind = (behind.0, behind_map key xs behind.1)

rising_map : (rows : List Row) → IsRising row_uri rows → IsRising (λ uri. uri) (map row_uri rows)
unfolding IsStrictlySortedBy
rising_map [] rising = tt
rising_map (x ∷ xs) rising = (behind_map x.uri xs rising.0, rising_map xs rising.1)

same_uris : (rules : LibraryRules) (rows : List Row) → uris_of (map (known_song rules) rows) ≡ map row_uri rows
same_uris rules [] = refl
same_uris rules (x ∷ xs) = ap (λ l. x.uri ∷ l) (same_uris rules xs)

pub known_rise : (rules : LibraryRules) (rows : List Row) (place : Option (List ℕ)) → IsRising row_uri rows
    → AreKnown (uris_of (known_in rules rows place))
known_rise rules rows place rising = rw (same_uris rules (filter (λ row. is_in place row.uri) rows))
    (rising_map (filter (λ row. is_in place row.uri) rows) (IsStrictlySortedBy-filter (by_text row_uri)
    (λ row. is_in place row.uri) rows rising))

pub all_known : (rules : LibraryRules) (rows : List Row) (old new : List KnownSong) → old ≡ []
    → new ≡ old ++ map (known_song rules) rows → new ≡ known_in rules rows None
all_known rules rows old new none more = more ∙ rw none (ap (map (known_song rules)) (sym (filter_all rows)))

pub own_known : (rules : LibraryRules) (rows : List Row) (uri : List ℕ) (old own new : List KnownSong) → IsRising row_uri rows → old ≡ []
    → own ≡ old ++ map (known_song rules) (option_to_list (row_at rows uri))
    → new ≡ own ++ map (known_song rules) (filter (λ row. is_below uri row.uri) rows) → new ≡ known_in rules rows (Some uri)
own_known rules rows uri old own new rising none first more =
    more ∙ rw (first, none) (sym (ap (map (known_song rules)) (own_first uri rows rising)
    ∙ map-append (known_song rules) (option_to_list (row_at rows uri)) (filter (λ row. is_below uri row.uri) rows)))
